-- The order of the key of a table, in SQL and of its records.
use Rattle.std.proofs.Common.{◌≡◌, ◌∙◌, ℕ, pos, List, map, IsSorted, refl, ap₂, subst, arith}
use Rattle.std.proofs.lemmas.Bool.Decides.{nat_tests}
use Rattle.std.proofs.lemmas.Int.{ints}
use Rattle.std.specs.Ordering.{nat_cmp, int_cmp, on, ordering_then}
use Rattle.std.specs.declared.cmp.Ordering.{Ordering}
use Rattle.std.specs.declared.cmp.Ordering.TheVariants.{Less, Equal, Greater}
use Rattle.sqlite.specs.Order.{Row}
use Rattle.sqlite.specs.Query.{key_cmp}
use Rattle.sqlite.specs.declared.types.Value.TheVariants.{Int}
use Rattle.sqlite_exec.proofs.PartitionLemmas.{IsSorted-from_map}
use Rattle.sqlite_trees.proofs.ListLemmas.{pull_back}
use Rattle.sqlite_value.specs.Order.{value_cmp}
use Rattle.sqlite_value.proofs.OrderLemmas.{value_cmp-Int, value_cmp-Text, then-Equal}
use Rattle.docket_columns.specs.Cells.{calendar_cells, short_day_cells, case_cells, party_cells, entry_cells, deadline_cells, act_cells, receipt_cells, end_cells, local_rule_cells}
use Rattle.docket_sound.specs.Orders.{AreInOrder, calendar_order, short_day_order, case_order, party_order, entry_order, deadline_order, act_order, receipt_order, end_order, local_rule_order}
use Rattle.docket_tables.specs.declared.table.Table.{Table}
use Rattle.docket_tables.specs.declared.table.Table.TheVariants as table
use Rattle.docket_scan.proofs.DocketReads.{AreSorted}
use Rattle.docket_scan.proofs.DocketStatements.{key_shown, upwards}

-- the order of the key is this order of the records
abbrev pub IsOrderOf : {R : Type 0} → Table → (R → Row) → (R → R → Ordering) → Type 0
IsOrderOf {R} t cells order = (a b : R) → key_cmp 0 (upwards t) (key_shown t (cells a)) (key_shown t (cells b)) ≡ order a b

-- rows of SQL that are those of records, in the order of the key, are those of the records in their order
pub typed : {R : Type 0} (t : Table) (cells : R → Row) (order : R → R → Ordering) → IsOrderOf t cells order → (all : List R) (rows : List Row) → AreSorted t (map cells all) rows
    → (found : List R) × (rows ≡ map cells found) × AreInOrder order all found
typed {R} t cells order agrees all rows is =
    let back = pull_back cells (map cells all) rows is.same all refl in
    let cmp = on (key_shown t) (key_cmp 0 (upwards t)) in
    let alike : (λ (a b : R). cmp (cells a) (cells b)) ≡ order = λ i a b. agrees a b i in
    let sorted = IsSorted-from_map cmp cells back.0 (subst (IsSorted cmp) back.2 is.sorted) in
    (back.0, back.2, record { same = back.1; sorted = subst (λ (by : R → R → Ordering). IsSorted by back.0) alike sorted })

number_order : (m n : ℕ) → int_cmp (pos m) (pos n) ≡ nat_cmp m n
number_order m n = grind (arith, ints, nat_tests)

values : (m n : ℕ) → value_cmp (Int (pos m)) (Int (pos n)) ≡ nat_cmp m n
values m n = value_cmp-Int (pos m) (pos n) ∙ number_order m n

last_values : (m n : ℕ) → ordering_then (value_cmp (Int (pos m)) (Int (pos n))) Equal ≡ nat_cmp m n
last_values m n = then-Equal _ ∙ values m n

two_values : (a b m n : ℕ) → ordering_then (value_cmp (Int (pos a)) (Int (pos b))) (ordering_then (value_cmp (Int (pos m)) (Int (pos n))) Equal) ≡ ordering_then (nat_cmp a b) (nat_cmp m n)
two_values a b m n = ap₂ ordering_then (values a b) (last_values m n)

then_after : (o p q : Ordering) → ordering_then o (ordering_then p q) ≡ ordering_then (ordering_then o p) q
then_after Less p q = refl
then_after Equal p q = refl
then_after Greater p q = refl

pub calendar_by_key : IsOrderOf table.Calendar calendar_cells calendar_order
calendar_by_key a b = last_values a.number b.number

pub short_days_by_key : IsOrderOf table.ShortDays short_day_cells short_day_order
short_days_by_key a b = last_values a.number b.number

pub local_rules_by_key : IsOrderOf table.LocalRules local_rule_cells local_rule_order
local_rules_by_key a b = last_values a.number b.number

pub cases_by_key : IsOrderOf table.Cases case_cells case_order
cases_by_key a b = last_values a.number b.number

pub parties_by_key : IsOrderOf table.Parties party_cells party_order
parties_by_key a b = two_values a.case b.case a.number b.number

pub entries_by_key : IsOrderOf table.Entries entry_cells entry_order
entries_by_key a b = two_values a.case b.case a.number b.number

pub deadlines_by_key : IsOrderOf table.Deadlines deadline_cells deadline_order
deadlines_by_key a b = two_values a.case b.case a.number b.number

pub acts_by_key : IsOrderOf table.Acts act_cells act_order
acts_by_key a b =
    ap₂ ordering_then (values a.case b.case) (two_values a.deadline b.deadline a.number b.number)
    ∙ then_after (nat_cmp a.case b.case) (nat_cmp a.deadline b.deadline) (nat_cmp a.number b.number)

pub receipts_by_key : IsOrderOf table.Receipts receipt_cells receipt_order
receipts_by_key a b = then-Equal _ ∙ value_cmp-Text a.command.key b.command.key

pub ends_by_key : IsOrderOf table.Due end_cells end_order
ends_by_key a b = two_values a.case b.case a.deadline b.deadline
