-- The case of a number, and what stands under a key.
use Rattle.std.proofs.Common.{◌≡◌, ◌∙◌, ◌==◌, ◌+◌, ◌≤◌, ◌⊎◌, inl, inr, ℕ, zero, suc, pos, Bool, true, ◌&&◌, ap₂, List, [], ◌∷◌, map, filter, length, slice_get, Some, None, Option, Result, Ok, refl, sym, ap, subst, arith}
use Rattle.std.specs.List.{AllByRecursion}
use Rattle.std.specs.Option.{option_map}
use Rattle.std.specs.Str.{bytes_eq}
use Rattle.sqlite.specs.declared.types.Value.TheVariants.{Int, Text}
use Rattle.sqlite.specs.Collation.TheVariants.{Binary}
use Rattle.sqlite.specs.Order.{Row}
use Rattle.sqlite_schema.specs.Rules.{equal}
use Rattle.sqlite_trees.proofs.ListLemmas.{all-filter}
use Rattle.court_rules.specs.declared.local_rule.LocalRule.{LocalRule}
use Rattle.docket_command.specs.declared.command.Command.{Command}
use Rattle.docket_decisions.specs.Outcomes.{under_key, kept_by}
use Rattle.docket_history.specs.Records.{case_at, case_labelled}
use Rattle.docket_history.specs.Histories.{deadlines_of_case, local_rule_in}
use Rattle.docket_history.specs.declared.row.CaseRow.{CaseRow}
use Rattle.docket_history.specs.declared.row.DeadlineRow.{DeadlineRow}
use Rattle.docket_history.specs.declared.row.LocalRuleRow.{LocalRuleRow}
use Rattle.docket_history.specs.declared.row.Receipt.{Receipt}
use Rattle.docket_history.specs.declared.view.Kept.{Kept}
use Rattle.docket_history.specs.declared.view.Kept.TheVariants.{Fresh}
use Rattle.docket_columns.specs.Cells.{case_cells, deadline_cells, local_rule_cells, receipt_cells}
use Rattle.docket_columns.specs.Fits.{IsCaseRow, IsDeadlineRow, IsLocalRuleRow, IsReceipt}
use Rattle.docket_orderly.specs.Orderly.{RunsFrom, cases_labelled, local_rules_named, receipts_under}
use Rattle.docket_tables.specs.Queries.{IsAnswer}
use Rattle.docket_tables.specs.Readings.{IsReadAs, row_at}
use Rattle.docket_tables.specs.declared.fault.ReadFault.{ReadFault}
use Rattle.docket_tables.specs.declared.query.Query.TheVariants as ask
use Rattle.docket_tables.proofs.AnswerLemmas.{the_one, equal_number}
use Rattle.docket_tables.proofs.CaseActs.{passing_both}
use Rattle.docket_tables.proofs.CellLemmas.{equal_text}
use Rattle.docket_tables.proofs.HoldsLemmas.{and_yes}
use Rattle.docket_tables.proofs.ReadLemmas.{read_ok, first_kept, numbered_at, none_below}

-- an element of that number, or none, where the numbers run from 1
numbered_split : {X : Type 0} (number : X → ℕ) (k : ℕ) (xs : List X) → RunsFrom 1 (map number xs)
    → ((row_at xs k ≡ None) × (filter (λ x. number x == k) xs ≡ [])) ⊎ ((x : X) × (row_at xs k ≡ Some x) × (filter (λ y. number y == k) xs ≡ x ∷ []))
numbered_split number zero xs runs = inl (refl, none_below number 1 0 xs (omega arith) runs)
numbered_split {X} number (suc i) xs runs =
    let same : 1 + i ≡ suc i = omega arith in
    subst (λ k. ((slice_get xs i ≡ None) × (filter (λ x. number x == k) xs ≡ [])) ⊎ ((x : X) × (slice_get xs i ≡ Some x) × (filter (λ y. number y == k) xs ≡ x ∷ []))) same
    (numbered_at number 1 i xs runs)

case_there : (cases : List CaseRow) (k : ℕ) → case_at cases k ≡ row_at cases k
case_there cases zero = refl
case_there cases (suc n) = refl

pub case_read : (k : ℕ) (result : Result (Option CaseRow) ReadFault) (found : List Row) (cases : List CaseRow) → AllByRecursion IsCaseRow cases → RunsFrom 1 (map (λ row. row.number) cases)
    → IsAnswer ask.CaseNumbered (Int (pos k) ∷ []) (map case_cells cases) found
    → (found ≡ [] → IsReadAs (λ c. c ≡ None) result) → ((row : CaseRow) → IsCaseRow row → found ≡ case_cells row ∷ [] → IsReadAs (λ c. c ≡ Some row) result)
    → IsReadAs (λ c. c ≡ case_at cases k) result
case_read k result found cases each runs answer none one =
    elim (numbered_split (λ (row : CaseRow). row.number) k cases runs) [
      | inl absent ↦ subst (λ o. IsReadAs (λ c. c ≡ o) result) (sym (case_there cases k ∙ absent.0)) (none (is (omega (arith, ap length absent.1)) ∙ ap (map case_cells) absent.1))
      | inr it ↦ subst (λ o. IsReadAs (λ c. c ≡ o) result) (sym (case_there cases k ∙ it.1)) (one it.0 (subst (AllByRecursion IsCaseRow) it.2 (all-filter _ _ cases each)).0 (is (omega (arith, ap length it.2)) ∙ ap (map case_cells) it.2))
    ]
  where
    is : length (filter (λ row. row.number == k) cases) ≤ 1 → found ≡ map case_cells (filter (λ row. row.number == k) cases)
    is few = the_one ask.CaseNumbered (Int (pos k) ∷ []) case_cells (λ row. row.number == k) (λ row. and_yes _ ∙ equal_number row.number k) cases found refl few answer

-- two numbers are those that were given
pub equal_numbers : (m k i n : ℕ) → (equal Binary (Int (pos m)) (Int (pos k)) && (equal Binary (Int (pos i)) (Int (pos n)) && true)) ≡ (m == k && i == n)
equal_numbers m k i n = ap₂ (λ a b. a && b) (equal_number m k) (and_yes _ ∙ equal_number i n)

pub deadline_read : (k n : ℕ) (result : Result (Option DeadlineRow) ReadFault) (found : List Row) (rows : List DeadlineRow) → AllByRecursion IsDeadlineRow rows → RunsFrom 1 (map (λ row. row.number) (deadlines_of_case k rows))
    → IsAnswer ask.Deadline (Int (pos k) ∷ Int (pos n) ∷ []) (map deadline_cells rows) found
    → (found ≡ [] → IsReadAs (λ d. d ≡ None) result) → ((row : DeadlineRow) → IsDeadlineRow row → found ≡ deadline_cells row ∷ [] → IsReadAs (λ d. d ≡ Some row) result)
    → IsReadAs (λ d. d ≡ row_at (deadlines_of_case k rows) n) result
deadline_read k n result found rows each runs answer none one =
    elim (numbered_split (λ (row : DeadlineRow). row.number) n (deadlines_of_case k rows) runs) [
      | inl absent ↦ subst (λ o. IsReadAs (λ d. d ≡ o) result) (sym absent.0) (none (is (omega (arith, ap length (both ∙ absent.1))) ∙ ap (map deadline_cells) (both ∙ absent.1)))
      | inr it ↦ subst (λ o. IsReadAs (λ d. d ≡ o) result) (sym it.1)
          (one it.0 (subst (AllByRecursion IsDeadlineRow) (both ∙ it.2) (all-filter IsDeadlineRow passes rows each)).0 (is (omega (arith, ap length (both ∙ it.2))) ∙ ap (map deadline_cells) (both ∙ it.2)))
    ]
  where
    passes : DeadlineRow → Bool
    passes row = row.case == k && row.number == n

    both : filter passes rows ≡ filter (λ (row : DeadlineRow). row.number == n) (deadlines_of_case k rows)
    both = sym (passing_both (λ (row : DeadlineRow). row.case == k) (λ row. row.number == n) rows)

    is : length (filter passes rows) ≤ 1 → found ≡ map deadline_cells (filter passes rows)
    is few = the_one ask.Deadline (Int (pos k) ∷ Int (pos n) ∷ []) deadline_cells passes (λ row. equal_numbers row.case k row.number n) rows found refl few answer

alone : {X : Type 0} (x : X) (rest : List X) → length (x ∷ rest) ≤ 1 → x ∷ rest ≡ x ∷ []
alone x [] few = refl
alone x (y ∷ rest) few = absurd (omega (arith, few))

pub kept_read : (c : Command) (result : Result Kept ReadFault) (found : List Row) (receipts : List Receipt) → AllByRecursion IsReceipt receipts → length (receipts_under c.key receipts) ≤ 1
    → IsAnswer ask.Receipt (Text c.key ∷ []) (map receipt_cells receipts) found
    → (found ≡ [] → result ≡ Ok Fresh) → ((r : Receipt) → IsReceipt r → found ≡ receipt_cells r ∷ [] → result ≡ Ok (kept_by (Some r) c))
    → IsReadAs (λ k. k ≡ under_key receipts c) result
kept_read c result found receipts each few answer none one =
    elim (first_kept (λ r. bytes_eq r.command.key c.key) receipts) [
      | inl absent ↦ read_ok (λ k. k ≡ under_key receipts c) result Fresh (none (is ∙ ap (map receipt_cells) absent.1)) (sym (ap (λ o. kept_by o c) absent.0))
      | inr it ↦ read_ok (λ k. k ≡ under_key receipts c) result (kept_by (Some it.0) c)
          (one it.0 (subst (AllByRecursion IsReceipt) it.3 (all-filter _ _ receipts each)).0 (is ∙ ap (map receipt_cells) (it.3 ∙ alone it.0 it.1 (omega (arith, few, ap length it.3)))))
          (sym (ap (λ o. kept_by o c) it.2))
    ]
  where
    is : found ≡ map receipt_cells (receipts_under c.key receipts)
    is = the_one ask.Receipt (Text c.key ∷ []) receipt_cells (λ r. bytes_eq r.command.key c.key) (λ r. and_yes _ ∙ equal_text r.command.key c.key) receipts found refl few answer

pub case_labelled_read : (label : List ℕ) (result : Result (Option CaseRow) ReadFault) (found : List Row) (rows : List CaseRow) → AllByRecursion IsCaseRow rows → length (cases_labelled label rows) ≤ 1
    → IsAnswer ask.CaseLabelled (Text label ∷ []) (map case_cells rows) found
    → (found ≡ [] → IsReadAs (λ c. c ≡ None) result) → ((row : CaseRow) → IsCaseRow row → found ≡ case_cells row ∷ [] → IsReadAs (λ c. c ≡ Some row) result)
    → IsReadAs (λ c. c ≡ case_labelled rows label) result
case_labelled_read label result found rows each few answer none one =
    elim (first_kept (λ (row : CaseRow). bytes_eq row.label label) rows) [
      | inl absent ↦ subst (λ o. IsReadAs (λ c. c ≡ o) result) (sym absent.0) (none (is ∙ ap (map case_cells) absent.1))
      | inr it ↦ subst (λ o. IsReadAs (λ c. c ≡ o) result) (sym it.2)
          (one it.0 (subst (AllByRecursion IsCaseRow) it.3 (all-filter _ _ rows each)).0 (is ∙ ap (map case_cells) (it.3 ∙ alone it.0 it.1 (omega (arith, few, ap length it.3)))))
    ]
  where
    is : found ≡ map case_cells (cases_labelled label rows)
    is = the_one ask.CaseLabelled (Text label ∷ []) case_cells (λ row. bytes_eq row.label label) (λ row. and_yes _ ∙ equal_text row.label label) rows found refl few answer

pub local_rule_read : (name : List ℕ) (result : Result (Option LocalRule) ReadFault) (found : List Row) (rows : List LocalRuleRow) → AllByRecursion IsLocalRuleRow rows → length (local_rules_named name rows) ≤ 1
    → IsAnswer ask.LocalRuleNamed (Text name ∷ []) (map local_rule_cells rows) found
    → (found ≡ [] → IsReadAs (λ r. r ≡ None) result) → ((row : LocalRuleRow) → IsLocalRuleRow row → found ≡ local_rule_cells row ∷ [] → IsReadAs (λ r. r ≡ Some row.rule) result)
    → IsReadAs (λ r. r ≡ local_rule_in rows name) result
local_rule_read name result found rows each few answer none one =
    elim (first_kept (λ (row : LocalRuleRow). bytes_eq row.rule.name name) rows) [
      | inl absent ↦ subst (λ o. IsReadAs (λ r. r ≡ o) result) (sym (ap rule_of absent.0)) (none (is ∙ ap (map local_rule_cells) absent.1))
      | inr it ↦ subst (λ o. IsReadAs (λ r. r ≡ o) result) (sym (ap rule_of it.2))
          (one it.0 (subst (AllByRecursion IsLocalRuleRow) it.3 (all-filter _ _ rows each)).0 (is ∙ ap (map local_rule_cells) (it.3 ∙ alone it.0 it.1 (omega (arith, few, ap length it.3)))))
    ]
  where
    rule_of : Option LocalRuleRow → Option LocalRule
    rule_of found = option_map (λ (row : LocalRuleRow). row.rule) found

    is : found ≡ map local_rule_cells (local_rules_named name rows)
    is = the_one ask.LocalRuleNamed (Text name ∷ []) local_rule_cells (λ row. bytes_eq row.rule.name name) (λ row. and_yes _ ∙ equal_text row.rule.name name) rows found refl few answer
