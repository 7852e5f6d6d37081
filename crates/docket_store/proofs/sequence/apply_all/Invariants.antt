use Rattle.std.proofs.Common.{◌≡◌, ◌≤◌, take}
use Rattle.sqlite.specs.Held.{state}
use Rattle.sqlite.specs.View.{doubt}
use Rattle.docket_history.specs.Histories.{History}
use Rattle.docket_applying.specs.Applying.{Stands}
use Rattle.docket_store.specs.Sequence.{AnswersAll}
use Rattle.docket_store.proofs.sequence.apply_all.Given as goal

abbrev pub invariant-commands : goal.invariant-commands
invariant-commands g l = record {
  court : l.docket.court ≡ l.fn.docket.court;
  clean : doubt (state g.S.Store l.fn.docket.conn).is_clean ≤ doubt (state g.S.Store l.docket.conn).is_clean;
  answers : (h : History) → Stands g.S.Store l.fn.docket h → AnswersAll g.S.Store l.docket h (take l.command-index l.commands) l.replies.items;
}
