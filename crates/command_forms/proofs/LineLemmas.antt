-- The line of pairs is read as the object that they spell.
use Rattle.std.proofs.Common.{◌≡◌, ℕ, ◌≤◌, Bool, true, false, List, [], ◌∷◌, Option, Some, None, Result, Ok, Err, String, Global, IfOk, if◌then◌else◌, string_bytes, bytes_eq, codes, refl, sym, ap, ◌∙◌, subst, arith}
use Rattle.std.specs.Option.{option_map_or}
use Rattle.std.proofs.lemmas.Str.{IsUtf8-string_bytes}
use Rattle.serde_json.specs.Data.{Data, boolean, number, string, unsigned, Members, no_members, member, depth, members_depth}
use Rattle.serde_json.specs.Read.{read, max_depth}
use Rattle.serde_json.specs.Written.{compact_text, has_float, members_have_float}
use Rattle.docket_wire.specs.Reading.{command_in, command_of}
use Rattle.docket_wire.proofs.MemberLemmas.{AllMembers, AllMembers-put, ValueOnly}
use Rattle.docket_wire.proofs.ReadingLemmas.{command_in_json}
use Rattle.command_forms.specs.declared.shape.Shape.{Shape}
use Rattle.command_forms.specs.declared.shape.Shape.TheVariants.{Number, Flag, Text}
use Rattle.command_forms.specs.Shapes.{shape_named}
use Rattle.command_forms.specs.Values.{number_of, data_as, data_of}
use Rattle.command_forms.specs.Forms.{with_pair, with_pairs, object_of, line_of, command_of_pairs}

-- neither an array nor an object nor a float
abbrev IsPlain : Data → Type 0
IsPlain d = (depth d ≤ 0) × (has_float d ≡ false)

number_plain : (o : Option ℕ) (text : List ℕ) → IsPlain (option_map_or (λ n. number (unsigned n)) o (string text))
number_plain None text = (omega arith, refl)
number_plain (Some n) text = (omega arith, refl)

flag_plain : (a b : Bool) (text : List ℕ) → IsPlain (if a then boolean true else if b then boolean false else string text)
flag_plain true b text = (omega arith, refl)
flag_plain false true text = (omega arith, refl)
flag_plain false false text = (omega arith, refl)

shape_plain : (shape : Shape) (text : List ℕ) → IsPlain (data_as shape text)
shape_plain Number text = number_plain (number_of text) text
shape_plain Flag text = flag_plain (bytes_eq text (codes "true")) (bytes_eq text (codes "false")) text
shape_plain Text text = (omega arith, refl)

value_plain : (name text : List ℕ) → IsPlain (data_of name text)
value_plain name [] = (omega arith, refl)
value_plain name (byte ∷ text) = shape_plain (shape_named name) (byte ∷ text)

members_shallow : (ms : Members) → AllMembers (ValueOnly IsPlain) ms → members_depth ms ≤ 0
members_shallow no_members h = omega arith
members_shallow (member k d ms) h = omega (arith, h.0.0, members_shallow ms h.1)

members_no_float : (ms : Members) → AllMembers (ValueOnly IsPlain) ms → members_have_float ms ≡ false
members_no_float no_members h = refl
members_no_float (member k d ms) h = rw h.0.1 (members_no_float ms h.1)

pairs_plain : (pairs : List (List ℕ × List ℕ)) (ms : Members) → AllMembers (ValueOnly IsPlain) ms → AllMembers (ValueOnly IsPlain) (with_pairs pairs ms)
pairs_plain [] ms h = h
pairs_plain (pair ∷ pairs) ms h =
    pairs_plain pairs (with_pair pair ms) (AllMembers-put (ValueOnly IsPlain) pair.0 (data_of pair.0 pair.1) ms (λ _ _ _ q _. q) (value_plain pair.0 pair.1) h)

members_plain : (pairs : List (List ℕ × List ℕ)) → AllMembers (ValueOnly IsPlain) (with_pairs pairs no_members)
members_plain pairs = pairs_plain pairs no_members tt

object_shallow : (pairs : List (List ℕ × List ℕ)) → depth (object_of pairs) ≤ max_depth
object_shallow pairs = omega (arith, members_shallow (with_pairs pairs no_members) (members_plain pairs))

object_no_float : (pairs : List (List ℕ × List ℕ)) → has_float (object_of pairs) ≡ false
object_no_float pairs = members_no_float (with_pairs pairs no_members) (members_plain pairs)

pub line_is_compact : {E : Type 0} (line : Result (String Global) E) (d : Data) (pairs : List (List ℕ × List ℕ)) → IfOk line (λ s. has_float d ≡ false → string_bytes s ≡ compact_text d)
    → d ≡ object_of pairs → IfOk line (λ s. string_bytes s ≡ line_of pairs)
line_is_compact (Err e) d pairs text is = tt
line_is_compact (Ok s) d pairs text is = text (ap has_float is ∙ object_no_float pairs) ∙ ap compact_text is

pub line_is_read : {E : Type 0} (line : Result (String Global) E) (d : Data) (pairs : List (List ℕ × List ℕ)) → IfOk line (λ s. depth d ≤ max_depth → read (string_bytes s) ≡ Some d)
    → d ≡ object_of pairs → IfOk line (λ s. command_in (string_bytes s) ≡ command_of_pairs pairs)
line_is_read (Err e) d pairs reads is = tt
line_is_read (Ok s) d pairs reads is =
    let shallow : depth d ≤ max_depth = subst (λ o. depth o ≤ max_depth) (sym is) (object_shallow pairs) in
    command_in_json (string_bytes s) d (IsUtf8-string_bytes s) (reads shallow) ∙ ap command_of is
