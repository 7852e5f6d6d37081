-- The compact text of a value with no float reads back as the value.
use Rattle.std.proofs.Common.{◌≡◌, ℕ, suc, ◌<◌, ◌≤◌, ◌^◌, Bool, true, false, List, [], ◌∷◌, Option, Some, None, option_map, option_and_then, Less, IsUtf8, decimal, refl, ap, sym, ◌∙◌, arith, append-nil}
use Rattle.std.specs.Prelude.{map}
use Rattle.std.specs.List.{AllByRecursion}
use Rattle.std.proofs.lemmas.Str.{IsUtf8-append, IsUtf8-nil, IsUtf8-from_ascii}
use Rattle.std.proofs.lemmas.Fmt.{IsAscii-decimal}
use Rattle.json.specs.Lex.{tokens}
use Rattle.json.specs.Print.{quoted}
use Rattle.json.specs.Json as json
use Rattle.json.specs.Tree as tree
use Rattle.json.proofs.Printed.Trees.{value-json_tokens, ArePrintable-json_tokens}
use Rattle.json.proofs.Printed.Tokens.{tokens-print}
use Rattle.json.proofs.Printed.Decimals.{IsNumber-decimal}
use Rattle.json.proofs.Printed.Utf8.{IsUtf8-quoted, IsUtf8-boolean, IsUtf8-are_ascii}
use Rattle.serde_json.specs.Data.{unsigned, Data, boolean, number, string, array, object, Items, no_items, item, Members, no_members, member, put}
use Rattle.serde_json.specs.Read.{read, max_depth, of_json, of_items, of_members}
use Rattle.serde_json.specs.View.{items_of}
use Rattle.serde_json.specs.Written.{outline, items_outline, members_outline, compact_text, items_text, members_text, comma_if}
use Rattle.serde_json.proofs.Numbers.{number_of-decimal}
use Rattle.serde_json.proofs.Texts.{print-outline}
use Rattle.docket_wire.proofs.MemberLemmas.{name_cmp, AllMembers, AllMembers-put, IfThere, EachValue, IsSorted, IsSorted-put_all, less_turned}
use Rattle.docket_command.specs.declared.field.Field.{Field}
use Rattle.docket_command.specs.Fields.{field_name}
use Rattle.docket_wire.specs.Writing.{put_some, put_all}

-- a value whose text reads back, and that nests at most n deep
pub record Reads (n : ℕ) (d : Data) : Type 0 where
  pub back : of_json (outline d) ≡ Some d
  pub numbers : tree.HasNumbers (outline d)
  pub shallow : tree.depth (outline d) ≤ n
  pub utf8 : IsUtf8 (compact_text d)

pub read-compact_text : (n : ℕ) (d : Data) → n ≤ max_depth → Reads n d → read (compact_text d) ≡ Some d
read-compact_text n d small r =
    let printed : tokens (compact_text d) ≡ tree.json_tokens (outline d) =
    ap tokens (sym (print-outline d)) ∙ tokens-print (tree.json_tokens (outline d)) (ArePrintable-json_tokens (outline d) r.numbers) in
    ap (λ ts. option_and_then of_json (option_and_then (λ p. json.if_last p.0 p.1) (json.value max_depth ts))) (printed ∙ sym (append-nil _))
    ∙ ap (λ o. option_and_then of_json (option_and_then (λ p. json.if_last p.0 p.1) o)) (value-json_tokens (outline d) max_depth [] (omega (arith, r.shallow)))
    ∙ r.back

-- ---- values of one level

pub Reads-string : (n : ℕ) (s : List ℕ) → IsUtf8 s → Reads n (string s)
Reads-string n s u = record { back = refl; numbers = tt; shallow = omega arith; utf8 = IsUtf8-quoted s u }

pub Reads-boolean : (n : ℕ) (b : Bool) → Reads n (boolean b)
Reads-boolean n b = record { back = refl; numbers = tt; shallow = omega arith; utf8 = IsUtf8-boolean b }

pub Reads-number : (n x : ℕ) → x < 2 ^ 64 → Reads n (number (unsigned x))
Reads-number n x h = record {
  back = ap (option_map number) (number_of-decimal x h);
  numbers = IsNumber-decimal x h;
  shallow = omega arith;
  utf8 = IsUtf8-from_ascii (decimal x) (IsAscii-decimal x h);
}

-- ---- arrays

abbrev pub AllItems : (Data → Type 0) → Items → Type 0
AllItems P no_items = Unit {0}
AllItems P (item d ds) = P d × AllItems P ds

comma_utf8 : (later : Bool) → IsUtf8 (comma_if later)
comma_utf8 true = IsUtf8-are_ascii (44 ∷ []) refl
comma_utf8 false = IsUtf8-nil

items_back : (n : ℕ) (ds : Items) → AllItems (Reads n) ds → of_items (items_outline ds) ≡ Some ds
items_back n no_items h = refl
items_back n (item d ds) h = rw (h.0.back, items_back n ds h.1)

items_numbers : (n : ℕ) (ds : Items) → AllItems (Reads n) ds → tree.ItemsHaveNumbers (items_outline ds)
items_numbers n no_items h = tt
items_numbers n (item d ds) h = (h.0.numbers, items_numbers n ds h.1)

items_shallow : (n : ℕ) (ds : Items) → AllItems (Reads n) ds → tree.items_depth (items_outline ds) ≤ n
items_shallow n no_items h = omega arith
items_shallow n (item d ds) h = omega (arith, h.0.shallow, items_shallow n ds h.1)

items_utf8 : (n : ℕ) (later : Bool) (ds : Items) → AllItems (Reads n) ds → IsUtf8 (items_text later ds)
items_utf8 n later no_items h = IsUtf8-are_ascii (93 ∷ []) refl
items_utf8 n later (item d ds) h = IsUtf8-append (comma_if later) _ (comma_utf8 later) (IsUtf8-append (compact_text d) _ h.0.utf8 (items_utf8 n true ds h.1))

pub Reads-array : (n : ℕ) (ds : Items) → AllItems (Reads n) ds → Reads (suc n) (array ds)
Reads-array n ds h = record {
  back = ap (option_map array) (items_back n ds h);
  numbers = items_numbers n ds h;
  shallow = omega (arith, items_shallow n ds h);
  utf8 = IsUtf8-append (91 ∷ []) _ (IsUtf8-are_ascii (91 ∷ []) refl) (items_utf8 n false ds h);
}

pub AllItems-of : {A : Type 0} (P : Data → Type 0) (f : A → Data) (Q : A → Type 0) (xs : List A) → ((x : A) → Q x → P (f x)) → AllByRecursion Q xs → AllItems P (items_of (map f xs))
AllItems-of P f Q [] give h = tt
AllItems-of P f Q (x ∷ xs) give h = (give x h.0, AllItems-of P f Q xs give h.1)

-- ---- objects

abbrev pub joined : Members → Members → Members
joined no_members ms = ms
joined (member k d ds) ms = member k d (joined ds ms)

joined-one : (ds : Members) (k : List ℕ) (d : Data) (ms : Members) → joined (joined ds (member k d no_members)) ms ≡ joined ds (member k d ms)
joined-one no_members k d ms = refl
joined-one (member l e ds) k d ms = ap (member l e) (joined-one ds k d ms)

-- every name of ds is below k
abbrev Above : Members → List ℕ → Data → Type 0
Above ds k d = AllMembers (λ l _. name_cmp l k ≡ Less) ds

put_last : (k : List ℕ) (d : Data) (ds : Members) → Above ds k d → put k d ds ≡ joined ds (member k d no_members)
put_last k d no_members h = refl
put_last k d (member l e ds) h = rw (less_turned l k h.0) (ap (member l e) (put_last k d ds h.1))

Above-joined : (ds : Members) (k l : List ℕ) (d e : Data) → Above ds l e → name_cmp k l ≡ Less → Above (joined ds (member k d no_members)) l e
Above-joined no_members k l d e h less = (less, tt)
Above-joined (member m f ds) k l d e h less = (h.0, Above-joined ds k l d e h.1 less)

all_above : (ds : Members) (k : List ℕ) (d : Data) (ms : Members) → AllMembers (Above ds) ms → AllMembers (λ l _. name_cmp k l ≡ Less) ms → AllMembers (Above (joined ds (member k d no_members))) ms
all_above ds k d no_members a b = tt
all_above ds k d (member l e ms) a b = (Above-joined ds k l d e a.0 b.0, all_above ds k d ms a.1 b.1)

none_above : (ms : Members) → AllMembers (Above no_members) ms
none_above no_members = tt
none_above (member k d ms) = (tt, none_above ms)

-- a member with a name and a value that can be written and read
abbrev pub MemberReads : ℕ → List ℕ → Data → Type 0
MemberReads n k d = IsUtf8 k × Reads n d

members_back : (n : ℕ) (ds ms : Members) → IsSorted ms → AllMembers (Above ds) ms → AllMembers (MemberReads n) ms → of_members (members_outline ms) ds ≡ Some (joined ds ms)
members_back n ds no_members sorted above h = ap Some (joined-nothing ds)
  where
    joined-nothing : (ds : Members) → ds ≡ joined ds no_members
    joined-nothing no_members = refl
    joined-nothing (member k d ds) = ap (member k d) (joined-nothing ds)
members_back n ds (member k d ms) sorted above h =
    rw h.0.1.back
    (ap (of_members (members_outline ms)) (put_last k d ds above.0)
    ∙ members_back n (joined ds (member k d no_members)) ms sorted.1 (all_above ds k d ms above.1 sorted.0) h.1
    ∙ ap Some (joined-one ds k d ms))

members_numbers : (n : ℕ) (ms : Members) → AllMembers (MemberReads n) ms → tree.MembersHaveNumbers (members_outline ms)
members_numbers n no_members h = tt
members_numbers n (member k d ms) h = (h.0.1.numbers, members_numbers n ms h.1)

members_shallow : (n : ℕ) (ms : Members) → AllMembers (MemberReads n) ms → tree.members_depth (members_outline ms) ≤ n
members_shallow n no_members h = omega arith
members_shallow n (member k d ms) h = omega (arith, h.0.1.shallow, members_shallow n ms h.1)

members_utf8 : (n : ℕ) (later : Bool) (ms : Members) → AllMembers (MemberReads n) ms → IsUtf8 (members_text later ms)
members_utf8 n later no_members h = IsUtf8-are_ascii (125 ∷ []) refl
members_utf8 n later (member k d ms) h =
    IsUtf8-append (comma_if later) _ (comma_utf8 later)
    (IsUtf8-append (quoted k) _ (IsUtf8-quoted k h.0.0)
    (IsUtf8-append (58 ∷ []) _ (IsUtf8-are_ascii (58 ∷ []) refl)
    (IsUtf8-append (compact_text d) _ h.0.1.utf8 (members_utf8 n true ms h.1))))

pub Reads-object : (n : ℕ) (ms : Members) → IsSorted ms → AllMembers (MemberReads n) ms → Reads (suc n) (object ms)
Reads-object n ms sorted h = record {
  back = ap (option_map object) (members_back n no_members ms sorted (none_above ms) h);
  numbers = members_numbers n ms h;
  shallow = omega (arith, members_shallow n ms h);
  utf8 = IsUtf8-append (123 ∷ []) _ (IsUtf8-are_ascii (123 ∷ []) refl) (members_utf8 n false ms h);
}

-- ---- objects that are built by puts

reads_put_some : (n : ℕ) (f : Field) (o : Option Data) (ms : Members) → IsUtf8 (field_name f) → IfThere (Reads n) o → AllMembers (MemberReads n) ms → AllMembers (MemberReads n) (put_some f o ms)
reads_put_some n f None ms u r h = h
reads_put_some n f (Some d) ms u r h = AllMembers-put (MemberReads n) (field_name f) d ms (λ l e _ new old. (old.0, new.1)) (u, r) h

reads_put_all : (n : ℕ) (es : List (Field × Option Data)) (ms : Members) → ((f : Field) → IsUtf8 (field_name f)) → EachValue (Reads n) es → AllMembers (MemberReads n) ms → AllMembers (MemberReads n) (put_all es ms)
reads_put_all n [] ms names each h = h
reads_put_all n (e ∷ es) ms names each h = reads_put_all n es (put_some e.0 e.1 ms) names each.1 (reads_put_some n e.0 e.1 ms (names e.0) each.0 h)

pub Reads-put_all : (n : ℕ) (es : List (Field × Option Data)) → ((f : Field) → IsUtf8 (field_name f)) → EachValue (Reads n) es → Reads (suc n) (object (put_all es no_members))
Reads-put_all n es names each = Reads-object n (put_all es no_members) (IsSorted-put_all es) (reads_put_all n es no_members names each tt)
