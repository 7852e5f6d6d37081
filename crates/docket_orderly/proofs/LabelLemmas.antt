-- The labels of cases are apart: no case has the label of a new one.
use Rattle.std.proofs.Common.{◌≡◌, ℕ, ◌+◌, ◌≤◌, ◌||◌, Bool, true, false, cond, List, [], ◌∷◌, ◌++◌, length, refl, sym, subst, arith, append-nil}
use Rattle.std.specs.Prelude.{bytes_eq}
use Rattle.std.specs.List.{list_any}
use Rattle.std.proofs.lemmas.Slice.Eq.{bytes_eq-Decides}
use Rattle.std.proofs.lemmas.List.Elements.{filter-append}
use Rattle.court_days.specs.Court.{CourtSettings}
use Rattle.docket_command.specs.declared.command.Action.{Action}
use Rattle.docket_command.specs.declared.command.Action.TheVariants as action
use Rattle.docket_history.specs.Histories.{History, case_rows, new_case}
use Rattle.docket_decisions.specs.Outcomes.{IsHistory, shown, shown_fresh}
use Rattle.docket_decisions.specs.Refusals.{exists_already}
use Rattle.docket_history.specs.declared.row.CaseRow.{CaseRow}
use Rattle.docket_decisions.proofs.Leading.{is_accepted}
use Rattle.docket_decisions.proofs.Passed.{is_free}
use Rattle.docket_orderly.specs.Orderly.{cases_labelled}

none_if : (b more : Bool) (row : CaseRow) (rest : List CaseRow) → (b || more) ≡ false → (more ≡ false → rest ≡ []) → cond b (row ∷ rest) rest ≡ []
none_if true more row rest e none = absurd (cc)
none_if false more row rest e none = none e

none_labelled : (label : List ℕ) (rows : List CaseRow) → list_any (λ row. bytes_eq row.label label) rows ≡ false → cases_labelled label rows ≡ []
none_labelled label [] e = refl
none_labelled label (row ∷ rows) e =
    none_if (bytes_eq row.label label) (list_any (λ row. bytes_eq row.label label) rows) row (cases_labelled label rows) e (none_labelled label rows)

one_if : (rows : List CaseRow) (new : CaseRow) (label : List ℕ) → cases_labelled new.label rows ≡ [] → length (cases_labelled label rows) ≤ 1
    → length (cases_labelled label (rows ++ new ∷ [])) ≤ 1
one_if rows new label none few =
    subst (λ (all : List CaseRow). length all ≤ 1) (sym (filter-append (λ (row : CaseRow). bytes_eq row.label label) rows (new ∷ []))) (at (bytes_eq new.label label) refl)
  where
    at : (b : Bool) → bytes_eq new.label label ≡ b → length (cases_labelled label rows ++ cond b (new ∷ []) []) ≤ 1
    at true e =
        let gone : cases_labelled label rows ≡ [] = subst (λ k. cases_labelled k rows ≡ []) ((bytes_eq-Decides new.label label).0 e) none in
        subst (λ (all : List CaseRow). length (all ++ new ∷ []) ≤ 1) (sym gone) (omega arith)
    at false e = subst (λ (all : List CaseRow). length all ≤ 1) (sym (append-nil (cases_labelled label rows))) few

one_more : (h : History) (a : Action) (label : List ℕ) → exists_already (shown_fresh h a) a ≡ false → length (cases_labelled label (case_rows h)) ≤ 1
    → length (cases_labelled label (case_rows h ++ new_case (length (case_rows h)) a)) ≤ 1
one_more h (action.OpenCase a) label new few =
    one_if (case_rows h) (record { number = length (case_rows h) + 1; label = a.label; caption = a.caption; filed = a.filed }) label (none_labelled a.label (case_rows h) new) few
one_more h _ label new few = subst (λ (all : List CaseRow). length (cases_labelled label all) ≤ 1) (sym (append-nil (case_rows h))) few

pub one_case : (court : CourtSettings) (h : History) → IsHistory court h → (label : List ℕ) → length (cases_labelled label (case_rows h)) ≤ 1
one_case court [] is label = omega arith
one_case court (c ∷ h) is label =
    let free = is_free court (shown court h c) c (is_accepted court (shown court h c) c is.0.0 is.0.1).free in
    one_more h c.action label free.new (one_case court h is.1 label)
