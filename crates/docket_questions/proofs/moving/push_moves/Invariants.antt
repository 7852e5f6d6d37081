use Rattle.std.proofs.Common.{◌≡◌, ◌++◌, ℕ, Ok, false, string_bytes, take}
use Rattle.std.specs.List.{flat_map}
use Rattle.sqlite.specs.Held.{state}
use Rattle.sqlite.specs.State.{HasCleanDisk}
use Rattle.docket_history.specs.Histories.{History}
use Rattle.docket_applying.specs.Applying.{Stands}
use Rattle.docket_store.specs.Asking.{OnlyAnswers}
use Rattle.docket_questions.specs.Moves.{move_of}
use Rattle.docket_questions.proofs.moving.push_moves.Given as goal

-- the lines before this one were added
abbrev pub invariant-rows : goal.invariant-rows
invariant-rows g l = record {
  only : l.fn.docket.closed ≡ false → OnlyAnswers g.S.Store {X = ℕ} l.fn.docket l.docket (Ok 0);
  told : (h : History) → Stands g.S.Store l.fn.docket h
      → Stands g.S.Store l.docket h
      × (HasCleanDisk (state g.S.Store l.docket.conn) → string_bytes l.text ≡ string_bytes l.fn.text ++ flat_map (move_of l.fn.docket.court h l.other) (take l.row-index l.rows));
}
