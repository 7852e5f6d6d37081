-- The canonical text of a command spells it.
use Rattle.std.proofs.Common.{◌≡◌, ℕ, Bool, true, false, ◌&&◌, List, [], ◌∷◌, Option, Some, None, Result, Ok, Ordering, Less, Equal, Greater, refl, ap, sym, ◌∙◌, arith}
use Rattle.std.specs.Prelude.{map, codes}
use Rattle.std.specs.Ordering.{ordering_reverse}
use Rattle.std.specs.List.{list_all}
use Rattle.std.proofs.lemmas.Bool.{and_parts}
use Rattle.std.proofs.lemmas.Cmp.{nat_list_cmp_total}
use Rattle.serde_json.specs.Data.{Data, string, object, Members, no_members}
use Rattle.serde_json.specs.Find.{get_member}
use Rattle.docket_command.specs.declared.field.Field.{Field}
use Rattle.docket_command.specs.declared.field.Field.TheVariants as field
use Rattle.docket_command.specs.declared.command_name.CommandName.{CommandName}
use Rattle.docket_command.specs.declared.command_name.CommandName.TheVariants as name
use Rattle.docket_command.specs.declared.command.Command.{Command}
use Rattle.docket_command.specs.Fields.{field_name}
use Rattle.docket_command.specs.Names.{command_word, name_of}
use Rattle.docket_command.proofs.WordLemmas.{command_name_back}
use Rattle.docket_wire.specs.declared.fault.WireFault.{WireFault}
use Rattle.docket_command.specs.Schema.{FieldSpec, must, may, field_of, ValueIn, Values, values_of}
use Rattle.docket_wire.specs.Tables.{all_fields, known_fields}
use Rattle.docket_wire.specs.Reading.{command_in, is_known}
use Rattle.docket_wire.specs.Spells.{SaysField, SaysFields, IsCommandObject}
use Rattle.docket_wire.specs.Valid.{IsLawfulIn, AreLawful, IsAction, IsCommand}
use Rattle.docket_wire.specs.Writing.{put_all, written_as, written_in, members_of, action_members, canonical, command_data, command_members}
use Rattle.docket_wire.proofs.CompactLemmas.{Reads, read-compact_text, Reads-string, Reads-put_all}
use Rattle.docket_wire.proofs.MemberLemmas.{name_cmp, looked_up, found_at, get_member-put_all, all_known-put_all, EachValue, IfThere}
use Rattle.docket_wire.proofs.ReadingLemmas.{command_in_json}
use Rattle.docket_wire.proofs.SpellsLemmas.{object_from}
use Rattle.docket_wire.proofs.TypeLemmas.{type_there, type_back, type_reads, field_utf8, command_word_utf8}

-- ---- names that differ

abbrev is_other : Ordering → Bool
is_other Less = true
is_other Equal = false
is_other Greater = true

abbrev is_apart : Field → Field → Bool
is_apart f g = is_other (name_cmp (field_name f) (field_name g)) && is_other (name_cmp (field_name g) (field_name f))

abbrev are_apart : List Field → Bool
are_apart [] = true
are_apart (f ∷ fs) = list_all (is_apart f) fs && are_apart fs

kind_apart : (kind : CommandName) → are_apart (field.Do ∷ map field_of (all_fields kind)) ≡ true
kind_apart name.DeclareDay = refl
kind_apart _ = refl

found_apart : (o : Ordering) (v g : Option Data) → is_other o ≡ true → found_at o v g ≡ g
found_apart Less v g h = refl
found_apart Equal v g h = absurd cc
found_apart Greater v g h = refl

found_here : (v : Option Data) → found_at Equal v None ≡ v
found_here None = refl
found_here (Some d) = refl

same_name : (k : List ℕ) → name_cmp k k ≡ Equal
same_name k = turns (name_cmp k k) (nat_list_cmp_total.antisymm k k)
  where
    turns : (o : Ordering) → o ≡ ordering_reverse o → o ≡ Equal
    turns Less e = absurd cc
    turns Equal e = refl
    turns Greater e = absurd cc

-- ---- what is found of members that were put

looked_apart : (f : Field) (ss : List FieldSpec) (x : Values ss) (found : Option Data) → list_all (is_apart f) (map field_of ss) ≡ true → looked_up (field_name f) (members_of ss x) found ≡ found
looked_apart f [] x found h = refl
looked_apart f (s ∷ ss) x found h =
    let p = and_parts (is_apart f (field_of s)) _ h in
    let q = and_parts (is_other (name_cmp (field_name f) (field_name (field_of s)))) _ p.0 in
    looked_apart f ss x.1 (found_at (name_cmp (field_name f) (field_name (field_of s))) (written_in s x.0) found) p.1 ∙ found_apart (name_cmp (field_name f) (field_name (field_of s))) (written_in s x.0) found q.0

-- none of the fields was put before
abbrev AreAbsent : List FieldSpec → (List ℕ → Option Data) → Type 0
AreAbsent [] found = Unit {0}
AreAbsent (s ∷ ss) found = (found (field_name (field_of s)) ≡ None) × AreAbsent ss found

abbrev and_then : Field → Option Data → (List ℕ → Option Data) → List ℕ → Option Data
and_then f v found k = found_at (name_cmp k (field_name f)) v (found k)

absent_after : (f : Field) (v : Option Data) (ss : List FieldSpec) (found : List ℕ → Option Data) → list_all (is_apart f) (map field_of ss) ≡ true → AreAbsent ss found → AreAbsent ss (and_then f v found)
absent_after f v [] found h a = tt
absent_after f v (s ∷ ss) found h a =
    let p = and_parts (is_apart f (field_of s)) _ h in
    let q = and_parts (is_other (name_cmp (field_name f) (field_name (field_of s)))) _ p.0 in
    (found_apart (name_cmp (field_name (field_of s)) (field_name f)) v (found (field_name (field_of s))) q.1 ∙ a.0, absent_after f v ss found p.1 a.1)

nothing_there : (ss : List FieldSpec) → AreAbsent ss (λ k. None)
nothing_there [] = tt
nothing_there (s ∷ ss) = (refl, nothing_there ss)

-- ---- each field has its value

says_field : (s : FieldSpec) (x : ValueIn s) (ms : Members) → get_member (field_name (field_of s)) ms ≡ written_in s x → IsLawfulIn s x → SaysField (object ms) s x
says_field (must f t) x ms e h = (written_as t x, rw e (type_there t x), type_back t x h)
says_field (may f t) None ms e h = rw e refl
says_field (may f t) (Some x) ms e h = (written_as t x, rw e (type_there t x), type_back t x h)

says_fields : (ss : List FieldSpec) (x : Values ss) (ms : Members) (found : List ℕ → Option Data) → ((k : List ℕ) → get_member k ms ≡ looked_up k (members_of ss x) (found k))
    → AreAbsent ss found → are_apart (map field_of ss) ≡ true → AreLawful ss x → SaysFields (object ms) ss x
says_fields [] x ms found finds absent apart h = tt
says_fields (s ∷ ss) x ms found finds absent apart h =
    let p = and_parts (list_all (is_apart (field_of s)) (map field_of ss)) _ apart in
    let here : get_member (field_name (field_of s)) ms ≡ written_in s x.0 =
    finds (field_name (field_of s))
    ∙ looked_apart (field_of s) ss x.1 (and_then (field_of s) (written_in s x.0) found (field_name (field_of s))) p.0
    ∙ rw (same_name (field_name (field_of s)), absent.0) (found_here (written_in s x.0)) in
    (says_field s x.0 ms here h.0, says_fields ss x.1 ms (and_then (field_of s) (written_in s x.0) found) finds (absent_after (field_of s) (written_in s x.0) ss found p.0 absent.1) p.1 h.1)

-- ---- no other members

kind_known : (kind : CommandName) → list_all (λ f. is_known (known_fields kind) (field_name f)) (field.Do ∷ map field_of (all_fields kind)) ≡ true
unfolding is_known
kind_known name.DeclareDay = refl
kind_known _ = refl

members_known : (test : Field → Bool) (ss : List FieldSpec) (x : Values ss) → list_all test (map field_of ss) ≡ true → list_all (λ e. test e.0) (members_of ss x) ≡ true
members_known test [] x h = refl
members_known test (s ∷ ss) x h = let p = and_parts (test (field_of s)) _ h in rw p.0 (members_known test ss x.1 p.1)

names_known : (c : Command) → list_all (λ e. is_known (known_fields (name_of c.action)) (field_name e.0)) (command_members c) ≡ true
unfolding action_members
names_known c =
    let kind = name_of c.action in
    let p = and_parts (is_known (known_fields kind) (field_name field.Do)) _ (kind_known kind) in
    rw p.0 (members_known (λ f. is_known (known_fields kind) (field_name f)) (all_fields kind) (c.key, values_of c.action) p.1)

-- ---- the whole

data_says : (c : Command) → IsCommand c → IsCommandObject (command_data c) c
unfolding command_data action_members IsAction
data_says c h =
    let kind = name_of c.action in
    let ms : Members = put_all (command_members c) no_members in
    let values : Values (all_fields kind) = (c.key, values_of c.action) in
    let word : Option Data = Some (string (command_word kind)) in
    let p = and_parts (list_all (is_apart field.Do) (map field_of (all_fields kind))) _ (kind_apart kind) in
    let finds : (k : List ℕ) → get_member k ms ≡ looked_up k (members_of (all_fields kind) values) (and_then field.Do word (λ k. None) k) = λ k. get_member-put_all k (command_members c) no_members in
    let named : get_member (codes "do") ms ≡ word = finds (codes "do") ∙ looked_apart field.Do (all_fields kind) values word p.0 in
    let says = says_fields (all_fields kind) values ms (and_then field.Do word (λ k. None)) finds (absent_after field.Do word (all_fields kind) (λ k. None) p.0 (nothing_there (all_fields kind))) p.1 (h.0, h.1) in
    record {
      members = ms;
      is_object = refl;
      is_named = rw named (command_name_back kind);
      has_key = says.0;
      has_fields = says.1;
      has_no_other = all_known-put_all (known_fields kind) (command_members c) no_members (names_known c) refl;
    }

-- ---- the text

field_reads : (s : FieldSpec) (x : ValueIn s) → IsLawfulIn s x → IfThere (Reads 2) (written_in s x)
field_reads (must f t) x h = type_reads t x h
field_reads (may f t) None h = tt
field_reads (may f t) (Some x) h = type_reads t x h

fields_read : (ss : List FieldSpec) (x : Values ss) → AreLawful ss x → EachValue (Reads 2) (members_of ss x)
fields_read [] x h = tt
fields_read (s ∷ ss) x h = (field_reads s x.0 h.0, fields_read ss x.1 h.1)

command_reads : (c : Command) → IsCommand c → Reads 3 (command_data c)
unfolding command_data action_members IsAction
command_reads c h =
    Reads-put_all 2 (command_members c) field_utf8 (Reads-string 2 _ (command_word_utf8 (name_of c.action)), fields_read (all_fields (name_of c.action)) (c.key, values_of c.action) (h.0, h.1))

pub reads_back : (c : Command) → IsCommand c → command_in (canonical c) ≡ Ok c
reads_back c h =
    let r = command_reads c h in
    command_in_json (canonical c) (command_data c) r.utf8 (read-compact_text 3 (command_data c) (omega arith) r) ∙ object_from (command_data c) c (data_says c h)

pub unique : (c d : Command) → IsCommand c → IsCommand d → canonical c ≡ canonical d → c ≡ d
unique c d h k e = let both : spelled c ≡ spelled d = sym (reads_back c h) ∙ ap command_in e ∙ reads_back d k in cc
  where
    spelled : Command → Result Command WireFault
    spelled c = Ok c
