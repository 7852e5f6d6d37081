-- The row that an INSERT stores passes the rules of its columns, and is not too big.
use Rattle.std.proofs.Common.{◌≡◌, ◌∙◌, ◌≤◌, ◌<◌, ◌+◌, ◌*◌, ◌^◌, ◌++◌, ◌||◌, ℕ, ℤ, suc, zero, Bool, true, false, not, cond, List, [], ◌∷◌, map, drop, length, Option, Some, None, refl, sym, ap, subst, arith}
use Rattle.std.specs.Prelude.{fold, negsuc, pos, sum_by}
use Rattle.std.specs.Float.{NotNan}
use Rattle.std.specs.Int.{bit_at}
use Rattle.std.specs.List.{AllByRecursion}
use Rattle.std.proofs.lemmas.Bool.Decides.{nat_tests}
use Rattle.std.proofs.lemmas.Bool.{false≢true, and_from, or_right}
use Rattle.std.proofs.lemmas.List.Elements.{All-from_recursion}
use Rattle.std.proofs.lemmas.Nat.Bits.{bit_at-zero}
use lib.Ieee.{is_nan}
use Rattle.sqlite.specs.declared.types.Value.{Value}
use Rattle.sqlite.specs.declared.types.Value.TheVariants as value
use Rattle.sqlite.specs.declared.types.Value.TheVariants.{Null, Int}
use Rattle.sqlite.specs.Kind.{Kind}
use Rattle.sqlite.specs.Kind.TheVariants.{Integer, Text}
use Rattle.sqlite.specs.Order.{Row, column, number, bytes}
use Rattle.sqlite.specs.Edit.{with_rowid}
use Rattle.sqlite.specs.Rowids.TheVariants.{Chosen}
use Rattle.sqlite_rules.specs.Edit.{next_rowid}
use Rattle.sqlite_schema.specs.Names.{is_key}
use Rattle.sqlite_schema.specs.Rules.{suits, are_typed, are_present}
use Rattle.sqlite_sql.specs.Ops.{is_null}
use Rattle.sqlite_trees.specs.View.{IsStorable}
use Rattle.docket_tables.specs.Additions.{IsStorableValue}
use Rattle.docket_tables.specs.Layouts.{are_of}
use Rattle.docket_tables.specs.Schema.{column_of, columns_by, kinds_by}
use Rattle.docket_tables.specs.Tables.{Field}
use Rattle.docket_tables.proofs.CellLemmas.{cast_null}
use Rattle.docket_tables.proofs.LayoutLemmas.{kinds, no_value, written_by, written_hidden, written_rowid}
use Rattle.docket_tables.proofs.CauseLemmas.{so_many}

-- what is stored of the values: the rowid goes before them, chosen above the others, or is the first of them
abbrev pub stored_by : Bool → List Row → Row → Row
stored_by false rows given = Int (next_rowid rows) ∷ given
stored_by true rows [] = Int (next_rowid rows) ∷ []
stored_by true rows (v ∷ row) = v ∷ Null ∷ row

pub stored_is : (is_rowid : Bool) (fields : List Field) (rows : List Row) (given : Row) → are_of (kinds_by is_rowid fields) given ≡ true
    → with_rowid Chosen rows (written_by is_rowid fields given) ≡ stored_by is_rowid rows given
stored_is false fields rows given fits = ap (with_rowid Chosen rows) (written_hidden fields given fits)
stored_is true [] rows [] fits = ap (λ v. with_rowid Chosen rows (v ∷ [])) cast_null
stored_is true [] rows (v ∷ row) fits = absurd (false≢true fits)
stored_is true (field ∷ more) rows [] fits = absurd (false≢true fits)
stored_is true (field ∷ more) rows (Int n ∷ row) fits =
    ap (with_rowid Chosen rows) (written_rowid field more n row fits) ∙ ap (λ v. Int n ∷ v ∷ row) cast_null
stored_is true (field ∷ more) rows (_ ∷ row) fits = absurd (false≢true fits)

-- each column has a value of its kind

first_typed : (field : Field) (v : Value) (more : List Kind) (row : Row) → are_of (field.kind ∷ more) (v ∷ row) ≡ true → (suits (column_of field) v ≡ true) × (is_null v ≡ false) × (are_of more row ≡ true)
first_typed field v more row = at field.kind v
  where
    at : (kind : Kind) (v : Value) → are_of (kind ∷ more) (v ∷ row) ≡ true → (suits (record (column_of field) { kind = kind }) v ≡ true) × (is_null v ≡ false) × (are_of more row ≡ true)
    at Integer (Int n) fits = (refl, refl, fits)
    at Text (value.Text t) fits = (refl, refl, fits)
    at _ _ fits = absurd (false≢true fits)

-- no column from that one on stands at the rowid
abbrev IsOff : Option ℕ → ℕ → Type 0
IsOff key at = (n : ℕ) → is_key key (at + n) ≡ false

next_off : (key : Option ℕ) (at : ℕ) → IsOff key at → IsOff key (at + 1)
next_off key at off n = let same : at + 1 + n ≡ at + (1 + n) = omega arith in subst (λ m. is_key key m ≡ false) (sym same) (off (1 + n))

here_off : (key : Option ℕ) (at : ℕ) → IsOff key at → is_key key at ≡ false
here_off key at off = let same : at + 0 ≡ at = omega arith in subst (λ m. is_key key m ≡ false) same (off 0)

typed_from : (key : Option ℕ) (at : ℕ) (fields : List Field) (row : Row) → IsOff key at → are_of (kinds fields) row ≡ true → are_typed key at (map column_of fields) row ≡ true
typed_from key at [] [] off fits = refl
typed_from key at [] (v ∷ row) off fits = absurd (false≢true fits)
typed_from key at (field ∷ more) [] off fits = absurd (no_value field.kind (kinds more) fits)
typed_from key at (field ∷ more) (v ∷ row) off fits =
    let first = first_typed field v (kinds more) row fits in
    and_from _ _ (ap (λ b. cond b (is_null v) (suits (column_of field) v)) (here_off key at off) ∙ first.0) (typed_from key (at + 1) more row (next_off key at off) first.2)

present_from : (key : Option ℕ) (at : ℕ) (fields : List Field) (given row : Row) → ((i : ℕ) → column row (at + 1 + i) ≡ column given i) → are_of (kinds fields) given ≡ true
    → are_present key at (map column_of fields) row ≡ true
present_from key at [] [] row stands fits = refl
present_from key at [] (v ∷ given) row stands fits = absurd (false≢true fits)
present_from key at (field ∷ more) [] row stands fits = absurd (no_value field.kind (kinds more) fits)
present_from key at (field ∷ more) (v ∷ given) row stands fits =
    let first = first_typed field v (kinds more) given fits in
    let place : at + 1 ≡ at + 1 + 0 = omega arith in
    let here : column row (at + 1) ≡ v = ap (column row) place ∙ stands 0 in
    and_from _ _ (or_right (is_key key at || false) _ (ap (λ w. not (is_null w)) here ∙ ap not first.1))
    (present_from key (at + 1) more given row (λ i. let same : at + 1 + 1 + i ≡ at + 1 + (suc i) = omega arith in ap (column row) same ∙ stands (suc i)) first.2)

past_first : IsOff (Some 0) 1
past_first n = grind (arith, nat_tests)

abbrev key_by : Bool → Option ℕ
key_by is_rowid = cond is_rowid (Some 0) None

pub stored_typed : (is_rowid : Bool) (fields : List Field) (rows : List Row) (given : Row) → are_of (kinds_by is_rowid fields) given ≡ true
    → are_typed (key_by is_rowid) 0 (columns_by is_rowid fields) (drop 1 (stored_by is_rowid rows given)) ≡ true
stored_typed false fields rows given fits = typed_from None 0 fields given (λ n. refl) fits
stored_typed true [] rows [] fits = refl
stored_typed true [] rows (v ∷ row) fits = absurd (false≢true fits)
stored_typed true (field ∷ more) rows [] fits = absurd (false≢true fits)
stored_typed true (field ∷ more) rows (Int n ∷ row) fits = typed_from (Some 0) 1 more row past_first fits
stored_typed true (field ∷ more) rows (_ ∷ row) fits = absurd (false≢true fits)

pub stored_present : (is_rowid : Bool) (fields : List Field) (rows : List Row) (given : Row) → are_of (kinds_by is_rowid fields) given ≡ true
    → are_present (key_by is_rowid) 0 (columns_by is_rowid fields) (stored_by is_rowid rows given) ≡ true
stored_present false fields rows given fits = present_from None 0 fields given (Int (next_rowid rows) ∷ given) (λ i. let same : 0 + 1 + i ≡ suc i = omega arith in ap (column (Int (next_rowid rows) ∷ given)) same) fits
stored_present true [] rows [] fits = refl
stored_present true [] rows (v ∷ row) fits = absurd (false≢true fits)
stored_present true (field ∷ more) rows [] fits = absurd (false≢true fits)
stored_present true (field ∷ more) rows (Int n ∷ row) fits = present_from (Some 0) 1 more row (Int n ∷ Null ∷ row) (λ i. let same : 1 + 1 + i ≡ suc (suc i) = omega arith in ap (column (Int n ∷ Null ∷ row)) same) fits
stored_present true (field ∷ more) rows (_ ∷ row) fits = absurd (false≢true fits)

pub stored_long : (is_rowid : Bool) (fields : List Field) (rows : List Row) (given : Row) → are_of (kinds_by is_rowid fields) given ≡ true → length (stored_by is_rowid rows given) ≡ length (kinds_by is_rowid fields) + 1
stored_long false fields rows given fits = let long = so_many (kinds fields) given fits in omega (arith, long)
stored_long true [] rows [] fits = refl
stored_long true [] rows (v ∷ row) fits = absurd (false≢true fits)
stored_long true (field ∷ more) rows [] fits = absurd (false≢true fits)
stored_long true (field ∷ more) rows (Int n ∷ row) fits = let long = so_many (kinds more) row fits in omega (arith, long)
stored_long true (field ∷ more) rows (_ ∷ row) fits = absurd (false≢true fits)

-- what is stored is small enough, and so is its entry in an index

-- a number or a text that can be stored
abbrev pub IsLight : Value → Type 0
IsLight v = NotNan (number v) × (length (bytes v) ≤ 10 ^ 7)

number_light : (n : ℤ) → IsLight (Int n)
unfolding is_nan
number_light (pos n) = (tt, omega arith)
number_light (negsuc n) = (tt, omega arith)

light : (kind : Kind) (v : Value) (more : List Kind) (row : Row) → are_of (kind ∷ more) (v ∷ row) ≡ true → IsStorableValue v → IsLight v
unfolding is_nan
light Integer (Int n) more row fits storable = number_light n
light Text (value.Text t) more row fits storable = (tt, storable)
light _ _ more row fits storable = absurd (false≢true fits)

all_light : (kinds : List Kind) (row : Row) → are_of kinds row ≡ true → AllByRecursion IsStorableValue row → AllByRecursion IsLight row
all_light [] [] fits storable = tt
all_light [] (v ∷ row) fits storable = absurd (false≢true fits)
all_light (kind ∷ more) [] fits storable = absurd (no_value kind more fits)
all_light (kind ∷ more) (v ∷ row) fits storable = (light kind v more row fits storable.0, all_light more row (more_fit kind v fits) storable.1)
  where
    more_fit : (kind : Kind) (v : Value) → are_of (kind ∷ more) (v ∷ row) ≡ true → are_of more row ≡ true
    more_fit Integer (Int n) fits = fits
    more_fit Text (value.Text t) fits = fits
    more_fit _ _ fits = absurd (false≢true fits)

null_light : IsLight Null
unfolding is_nan
null_light = (tt, omega arith)

pub stored_light : (is_rowid : Bool) (fields : List Field) (rows : List Row) (given : Row) → are_of (kinds_by is_rowid fields) given ≡ true → AllByRecursion IsStorableValue given → AllByRecursion IsLight (stored_by is_rowid rows given)
stored_light false fields rows given fits storable = (number_light (next_rowid rows), all_light (kinds fields) given fits storable)
stored_light true [] rows [] fits storable = (number_light (next_rowid rows), tt)
stored_light true [] rows (v ∷ row) fits storable = absurd (false≢true fits)
stored_light true (field ∷ more) rows [] fits storable = absurd (false≢true fits)
stored_light true (field ∷ more) rows (Int n ∷ row) fits storable = (number_light n, (null_light, all_light (kinds more) row fits storable.1))
stored_light true (field ∷ more) rows (_ ∷ row) fits storable = absurd (false≢true fits)

pub light_at : (row : Row) (at : ℕ) → AllByRecursion IsLight row → IsLight (column row at)
light_at [] at all = null_light
light_at (v ∷ row) zero all = all.0
light_at (v ∷ row) (suc at) all = light_at row at all.1

pub light_entry : (columns : List ℕ) (row : Row) (id : Value) → AllByRecursion IsLight row → IsLight id → AllByRecursion IsLight (map (column row) columns ++ id ∷ [])
light_entry [] row id all first = (first, tt)
light_entry (c ∷ columns) row id all first = (light_at row c all, light_entry columns row id all first)

light_numbers : (row : Row) → AllByRecursion IsLight row → AllByRecursion (λ v. NotNan (number v)) row
light_numbers [] all = tt
light_numbers (v ∷ row) all = (all.0.0, light_numbers row all.1)

abbrev size : Value → ℕ
size v = 18 + length (bytes v)

light_sum_from : (n : ℕ) (row : Row) → AllByRecursion IsLight row → fold (λ a v. a + size v) n row ≤ n + length row * (18 + 10 ^ 7)
light_sum_from n [] all = omega arith
light_sum_from n (v ∷ row) all =
    let more : length (v ∷ row) ≡ 1 + length row = omega arith in
    omega (arith, all.0.1, light_sum_from (n + size v) row all.1, more)

light_sum : (row : Row) → AllByRecursion IsLight row → sum_by size row ≤ length row * (18 + 10 ^ 7)
light_sum row all = omega (arith, light_sum_from 0 row all)

-- a row of numbers and texts, none too long, is stored
pub light_stored : (reals : ℕ) (row : Row) → reals ≡ 0 → 0 < length row → length row ≤ 12 → AllByRecursion IsLight row → IsStorable reals row
light_stored reals row none some few all = record {
  typed = λ c set. absurd (omega (arith, subst (λ r. bit_at r c ≡ 1) none set, bit_at-zero c));
  columns = (some, omega (arith, few));
  numbers = All-from_recursion (λ v. NotNan (number v)) row (light_numbers row all);
  short = omega (arith, few, light_sum row all);
}
