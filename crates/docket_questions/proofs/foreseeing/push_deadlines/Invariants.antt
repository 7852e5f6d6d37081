use Rattle.std.proofs.Common.{◌≡◌, ◌++◌, ◌∷◌, ℕ, Ok, false, string_bytes, take}
use Rattle.std.specs.List.{flat_map}
use Rattle.sqlite.specs.Held.{state}
use Rattle.sqlite.specs.State.{HasCleanDisk}
use Rattle.docket_command.specs.declared.command.Command.{Command}
use Rattle.docket_history.specs.Histories.{History}
use Rattle.docket_applying.specs.Applying.{Stands}
use Rattle.docket_applying.specs.Writing.{IfClean}
use Rattle.docket_store.specs.Asking.{OnlyAnswers}
use Rattle.docket_questions.specs.Foreseeing.{deadline_told}
use Rattle.docket_questions.specs.Prospects.{FollowsBy}
use Rattle.docket_questions.proofs.foreseeing.push_deadlines.Given as goal

-- the deadlines of the acts before this one were added
abbrev pub invariant-rows : goal.invariant-rows
invariant-rows g l = record {
  only : l.fn.docket.closed ≡ false → OnlyAnswers g.S.Store {X = ℕ} l.fn.docket l.docket (Ok 0);
  told : (h : History) (c : Command) → Stands g.S.Store l.fn.docket h
      → IfClean g.S.Store l.fn.docket.conn (FollowsBy l.fn.docket.court h c l.calendar l.changes l.rows)
      → Stands g.S.Store l.docket h
      × (HasCleanDisk (state g.S.Store l.docket.conn) → string_bytes l.text ≡ string_bytes l.fn.text ++ flat_map (deadline_told l.fn.docket.court (c ∷ h)) (take l.row-index l.rows));
}
