use Rattle.std.proofs.Common.{◌≡◌, ◌≤◌, ℕ, Ok, false, length, option_copied}
use Rattle.sqlite.specs.Held.{state}
use Rattle.sqlite.specs.State.{HasCleanDisk}
use Rattle.docket_history.specs.Histories.{History, case_rows}
use Rattle.docket_applying.specs.Applying.{Stands}
use Rattle.docket_store.specs.Asking.{OnlyAnswers}
use Rattle.docket_questions.proofs.NewestLemmas.{so_far}
use Rattle.docket_questions.proofs.newest.newest_cases.Given as goal

-- the wanted ones of the cases before this one were found
abbrev pub invariant-cases : goal.invariant-cases
invariant-cases g l = record {
  only : l.fn.docket.closed ≡ false → OnlyAnswers g.S.Store {X = ℕ} l.fn.docket l.docket (Ok 0);
  told : (h : History) → Stands g.S.Store l.fn.docket h
      → Stands g.S.Store l.docket h
      × (HasCleanDisk (state g.S.Store l.docket.conn)
      → l.last ≤ length (case_rows h) → (l.found.items ≡ so_far h (option_copied l.words) l.last l.newer) × (length l.found.items ≤ l.most));
}
