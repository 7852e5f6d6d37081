use Rattle.std.proofs.Common.{◌≡◌, ◌++◌, ◌≤◌, ℕ, Ok, false, length, string_bytes, take}
use Rattle.sqlite.specs.Held.{state}
use Rattle.sqlite.specs.State.{HasCleanDisk}
use Rattle.docket_history.specs.Histories.{History}
use Rattle.docket_applying.specs.Applying.{Stands}
use Rattle.docket_store.specs.Asking.{OnlyAnswers}
use Rattle.docket_questions.specs.Dues.{dues_told}
use Rattle.docket_questions.specs.Kept.{HaveCases, KeepsCase}
use Rattle.docket_questions.proofs.due_entries.push_dues.Given as goal

-- the deadlines before this one were added, and the case that is kept is one of the docket
abbrev pub invariant-dues : goal.invariant-dues
invariant-dues g l = record {
  within : l.place ≤ length l.dues;
  only : l.fn.docket.closed ≡ false → OnlyAnswers g.S.Store {X = ℕ} l.fn.docket l.docket (Ok 0);
  told : (h : History) → Stands g.S.Store l.fn.docket h → (HasCleanDisk (state g.S.Store l.fn.docket.conn) → HaveCases h l.dues)
      → Stands g.S.Store l.docket h
      × (HasCleanDisk (state g.S.Store l.docket.conn)
      → KeepsCase h l.kept × (string_bytes l.text ≡ string_bytes l.fn.text ++ dues_told l.form l.fn.docket.court h (take l.place l.dues)));
}
