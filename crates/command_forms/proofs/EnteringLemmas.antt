-- A form with the pairs of a command is read as that command.
use Rattle.std.proofs.Common.{◌≡◌, ℕ, ◌<◌, ◌≤◌, ◌^◌, true, false, List, [], ◌∷◌, length, drop, get_or, map, Option, Some, None, Ok, codes, refl, ap, sym, ◌∙◌, arith, rules}
use Rattle.std.specs.Char.{is_ascii_digit}
use Rattle.std.specs.Fmt.{decimal}
use Rattle.std.specs.List.{list_all}
use Rattle.std.specs.Str.Parse.{digits_value}
use Rattle.std.proofs.lemmas.Bool.Decides.{nat_tests}
use Rattle.std.proofs.lemmas.Str.Parse.{IsNumeralModel, numerals_by_value}
use Rattle.std.proofs.lemmas.Fmt.{digits_decimal, digits_value-decimal, decimal_nonempty, length-decimal-le}
use Rattle.serde_json.specs.Data.{Data, null, boolean, number, string, array, object, unsigned, negative, float, Members, no_members, put}
use Rattle.docket_command.specs.declared.field.Field.{Field}
use Rattle.docket_command.specs.declared.field.Field.TheVariants as field
use Rattle.docket_command.specs.declared.command.Command.{Command}
use Rattle.docket_command.specs.Fields.{field_name}
use Rattle.docket_command.specs.FieldTypes.{FieldType, ValueOf}
use Rattle.docket_command.specs.FieldTypes as of
use Rattle.docket_command.specs.Names.{name_of}
use Rattle.docket_command.specs.Schema.{FieldSpec, must, may, field_of, type_of, ValueIn, Values, values_of}
use Rattle.docket_wire.specs.Reading.{command_of, is_known}
use Rattle.docket_wire.specs.Tables.{all_fields}
use Rattle.docket_wire.specs.Valid.{IsLawful, IsLawfulIn, AreLawful, IsAction, IsCommand}
use Rattle.docket_wire.specs.Writing.{put_all, written_as, written_in, members_of, action_members, canonical, command_data, command_members}
use Rattle.docket_wire.proofs.CanonicalLemmas.{reads_back}
use Rattle.docket_wire.proofs.CompactLemmas.{Reads, read-compact_text, Reads-string, Reads-put_all}
use Rattle.docket_wire.proofs.MemberLemmas.{EachValue, IfThere}
use Rattle.docket_wire.proofs.ReadingLemmas.{command_in_json}
use Rattle.docket_wire.proofs.TypeLemmas.{type_reads, field_utf8, command_word_utf8}
use Rattle.command_forms.specs.declared.shape.Shape.{Shape}
use Rattle.command_forms.specs.declared.shape.Shape.TheVariants.{Number, Flag, Text}
use Rattle.command_forms.specs.Shapes.{shape_named, shape_of}
use Rattle.command_forms.specs.Values.{number_of, are_digits, data_as, data_of}
use Rattle.command_forms.specs.Forms.{with_pairs, pairs_in, command_of_pairs, command_in_form}
use Rattle.command_forms.specs.Entering.{entered_text, entered_pairs, IsEnterable, AreEnterable, CanBeEntered, pairs_of}
use Rattle.command_forms.proofs.ShapeLemmas.{one_shape}

-- ---- one value

own : IsNumeralModel (λ ds. list_all is_ascii_digit ds ≡ true) (digits_value 10)
own = numerals_by_value _ (search rules)

pub number-decimal : (n : ℕ) → n < 2 ^ 32 → number_of (decimal n) ≡ Some n
number-decimal n low =
    let fits : n < 2 ^ 64 = omega arith in
    let some : 0 < length (decimal n) = decimal_nonempty n fits in
    let short : length (decimal n) ≤ 10 = length-decimal-le 10 n (omega arith) (omega arith) fits in
    let digits : list_all is_ascii_digit (decimal n) ≡ true = digits_decimal own n fits in
    let is : are_digits (decimal n) ≡ true = grind (arith, nat_tests) in
    rw is (ap Some (digits_value-decimal own n fits))

of_shape : (name text : List ℕ) (shape : Shape) → shape_named name ≡ shape → 0 < length text → data_of name text ≡ data_as shape text
of_shape name [] shape is some = absurd (omega (arith, some))
of_shape name (byte ∷ text) shape is some = ap (λ s. data_as s (byte ∷ text)) is

-- the name is of a field that has such values, and the value can be entered
abbrev pub IsEntered : Field → Data → Type 0
IsEntered f null = ⊥
IsEntered f (boolean b) = shape_named (field_name f) ≡ Flag
IsEntered f (number (unsigned n)) = (shape_named (field_name f) ≡ Number) × (n < 2 ^ 32)
IsEntered f (number (negative z)) = ⊥
IsEntered f (number (float x)) = ⊥
IsEntered f (string text) = (shape_named (field_name f) ≡ Text) × IsEnterable (string text)
IsEntered f (array items) = ⊥
IsEntered f (object ms) = ⊥

value_back : (f : Field) (d : Data) → IsEntered f d → data_of (field_name f) (entered_text d) ≡ d
value_back f null is = absurd is
value_back f (boolean true) is = of_shape (field_name f) (codes "true") Flag is (omega arith)
value_back f (boolean false) is = of_shape (field_name f) (codes "false") Flag is (omega arith)
value_back f (number (unsigned n)) is =
    of_shape (field_name f) (decimal n) Number is.0 (decimal_nonempty n (omega (arith, is.1))) ∙ rw (number-decimal n is.1) refl
value_back f (number (negative z)) is = absurd is
value_back f (number (float x)) is = absurd is
value_back f (string []) is = absurd is.1
value_back f (string (byte ∷ text)) is = of_shape (field_name f) (byte ∷ text) Text is.0 (omega arith)
value_back f (array items) is = absurd is
value_back f (object ms) is = absurd is

-- ---- the members

abbrev pub AreEntered : List (Field × Option Data) → Type 0
AreEntered [] = Unit {0}
AreEntered ((f, None) ∷ es) = AreEntered es
AreEntered ((f, Some d) ∷ es) = IsEntered f d × AreEntered es

type_entered : (t : FieldType) (x : ValueOf t) (f : Field) → shape_named (field_name f) ≡ shape_of t → IsLawful t x → IsEnterable (written_as t x) → IsEntered f (written_as t x)
type_entered of.Number x f shape lawful is = (shape, lawful)
type_entered of.Flag x f shape lawful is = shape
type_entered of.Rows x f shape lawful is = absurd is
type_entered of.Day x f shape lawful is = (shape, is)
type_entered _ x f shape lawful is = (shape, is)

members_entered : (ss : List FieldSpec) (x : Values ss) → map (λ s. shape_named (field_name (field_of s))) ss ≡ map (λ s. shape_of (type_of s)) ss → AreLawful ss x
    → AreEnterable (members_of ss x) → AreEntered (members_of ss x)
members_entered [] x shapes lawful are = tt
members_entered (must f t ∷ ss) x shapes lawful are =
    (type_entered t x.0 f (ap (λ l. get_or l 0 Text) shapes) lawful.0 are.0, members_entered ss x.1 (ap (λ l. drop 1 l) shapes) lawful.1 are.1)
members_entered (may f t ∷ ss) (None, rest) shapes lawful are = members_entered ss rest (ap (λ l. drop 1 l) shapes) lawful.1 are
members_entered (may f t ∷ ss) (Some x, rest) shapes lawful are =
    (type_entered t x f (ap (λ l. get_or l 0 Text) shapes) lawful.0 are.0, members_entered ss rest (ap (λ l. drop 1 l) shapes) lawful.1 are.1)

-- ---- the pairs

all_put : (es : List (Field × Option Data)) (members : Members) → AreEntered es → with_pairs (entered_pairs es) members ≡ put_all es members
all_put [] ms are = refl
all_put ((f, None) ∷ es) ms are = all_put es ms are
all_put ((f, Some d) ∷ es) ms are = ap (λ v. with_pairs (entered_pairs es) (put (field_name f) v ms)) (value_back f d are.0) ∙ all_put es (put (field_name f) d ms) are.1

-- ---- the whole

do_is_text : shape_named (field_name field.Do) ≡ Text
unfolding is_known
do_is_text = refl

pub command_entered : (c : Command) → IsCommand c → CanBeEntered c → AreEntered (command_members c)
unfolding action_members IsAction
command_entered c lawful are =
    ((do_is_text, are.0), members_entered (all_fields (name_of c.action)) (c.key, values_of c.action) (one_shape (name_of c.action)) (lawful.0, lawful.1) are.1)

-- as docket_wire shows it of the canonical text
field_reads : (s : FieldSpec) (x : ValueIn s) → IsLawfulIn s x → IfThere (Reads 2) (written_in s x)
field_reads (must f t) x h = type_reads t x h
field_reads (may f t) None h = tt
field_reads (may f t) (Some x) h = type_reads t x h

fields_read : (ss : List FieldSpec) (x : Values ss) → AreLawful ss x → EachValue (Reads 2) (members_of ss x)
fields_read [] x h = tt
fields_read (s ∷ ss) x h = (field_reads s x.0 h.0, fields_read ss x.1 h.1)

command_reads : (c : Command) → IsCommand c → Reads 3 (command_data c)
unfolding command_data action_members IsAction
command_reads c h =
    Reads-put_all 2 (command_members c) field_utf8 (Reads-string 2 _ (command_word_utf8 (name_of c.action)), fields_read (all_fields (name_of c.action)) (c.key, values_of c.action) (h.0, h.1))

data_back : (c : Command) → IsCommand c → command_of (command_data c) ≡ Ok c
data_back c h =
    let r = command_reads c h in
    sym (command_in_json (canonical c) (command_data c) r.utf8 (read-compact_text 3 (command_data c) (omega arith) r)) ∙ reads_back c h

pub object_entered : (c : Command) → IsCommand c → CanBeEntered c → with_pairs (pairs_of c) no_members ≡ put_all (command_members c) no_members
object_entered c lawful are = all_put (command_members c) no_members (command_entered c lawful are)

pairs_entered : (c : Command) → IsCommand c → CanBeEntered c → command_of_pairs (pairs_of c) ≡ Ok c
unfolding command_data
pairs_entered c lawful are = ap (λ members. command_of (object members)) (object_entered c lawful are) ∙ data_back c lawful

pub entered : (c : Command) (form : List ℕ) → IsCommand c → CanBeEntered c → pairs_in form ≡ pairs_of c → command_in_form form ≡ Ok c
entered c form lawful are is = ap command_of_pairs is ∙ pairs_entered c lawful are
