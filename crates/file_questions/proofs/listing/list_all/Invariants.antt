use Rattle.std.proofs.Common.{◌≤◌, Ok, option_copied, take}
use Rattle.sqlite.specs.Held.{state}
use Rattle.sqlite.specs.View.{doubt}
use Rattle.docket_history.specs.Histories.{History, case_rows}
use Rattle.docket_tables.specs.Layouts.{Rows}
use Rattle.docket_tables.specs.Stands.{HoldsRows}
use Rattle.docket_applying.specs.Applying.{Stands}
use Rattle.file_questions.specs.CaseLists.{Lists}
use Rattle.file_questions.proofs.CaseLemmas.{with_party}
use Rattle.file_questions.proofs.listing.list_all.Given as goal

-- the cases before this one are listed
abbrev pub invariant-cases : goal.invariant-cases
invariant-cases g l = record {
  few : l.lines ≤ l.before;
  clean : doubt (state g.S.Store l.fn.docket.conn).is_clean ≤ doubt (state g.S.Store l.docket.conn).is_clean;
  stays : (rows : Rows) → HoldsRows g.S.Store l.fn.docket.conn rows → HoldsRows g.S.Store l.docket.conn rows;
  told : (h : History) → Stands g.S.Store l.fn.docket h
      → Lists g.S.Store l.docket h (with_party h (option_copied l.part) (take l.before (case_rows h))) (g.W.Write.contents l.fn.writer) (g.W.Write.contents l.writer) (Ok l.lines);
}
