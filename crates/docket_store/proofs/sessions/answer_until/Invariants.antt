use Rattle.std.proofs.Common.{◌≡◌, ◌≤◌, false, length, take, vec_len, vec_capacity}
use Rattle.sqlite.specs.Held.{state}
use Rattle.sqlite.specs.State.{HasCleanDisk}
use Rattle.sqlite.specs.View.{doubt}
use Rattle.docket_history.specs.Histories.{History}
use Rattle.line_io.specs.Steps.{Reaches}
use Rattle.docket_tables.specs.Causes.{IsLater}
use Rattle.docket_applying.specs.AnyRows.{WritesAtMostOne}
use Rattle.docket_applying.specs.Applying.{Stands}
use Rattle.docket_store.specs.Sequence.{AnswersAll}
use Rattle.docket_store.proofs.sessions.answer_until.Given as goal

abbrev pub invariant-commands : goal.invariant-commands
invariant-commands g l = record {
  court : l.docket.court ≡ l.fn.docket.court;
  clean : doubt (state g.S.Store l.fn.docket.conn).is_clean ≤ doubt (state g.S.Store l.docket.conn).is_clean;
  len : vec_len l.replies ≡ l.command-index;
  count : length l.replies.items ≡ l.command-index;
  room : length l.commands ≤ vec_capacity l.replies;
  stays_open : l.fn.docket.closed ≡ false → l.docket.closed ≡ false;
  later : (h : History) → Stands g.S.Store l.fn.docket h → HasCleanDisk (state g.S.Store l.docket.conn) → IsLater (state g.S.Store l.fn.docket.conn) (state g.S.Store l.docket.conn);
  steps : Reaches (WritesAtMostOne g.S.Store) l.fn.docket l.docket;
  answers : (h : History) → Stands g.S.Store l.fn.docket h → AnswersAll g.S.Store l.docket h (take l.command-index l.commands) l.replies.items;
}
