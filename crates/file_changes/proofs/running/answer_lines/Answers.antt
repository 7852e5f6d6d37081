use Rattle.std.proofs.Common.{◌≡◌, ◌∙◌, IfSome, sym, ap, subst}
use Rattle.sqlite.specs.Held.{Held, state}
use Rattle.sqlite.specs.State.{HasCleanDisk}
use Rattle.docket_applying.specs.Dockets.{Docket as Stored}
use Rattle.docket_applying.specs.CourtDockets.{StandsAs}
use Rattle.file_dockets.specs.Keeping.{HoldsBetween}
use Rattle.file_changes.specs.Runs.{Answers}
use Rattle.file_changes.proofs.RunLemmas.{answers_of}
use Rattle.file_changes.proofs.running.answer_lines.Goals as goal

pub returns-clause-answers : goal.returns-clause-answers
returns-clause-answers g c told stands =
    let run = c.command_run-end in
    let known = g.R.Read.remaining c.args.reader.now in
    let before = g.W.Write.contents c.args.writer.now in
    let after = g.W.Write.contents run.new.writer in
    let same : c.close.result ≡ run.new.clerk.conn = c.close.ensures.conn ∙ ap (λ (d : Stored g.row.S.Denot). d.conn) c.into_docket.ensures in
    let here : StandsAs g.S.Store c.new-clerk.result told = subst (λ (d : Stored g.row.S.Denot). StandsAs g.S.Store d told) (sym c.new-clerk.ensures) stands in
    let P : Held g.row.S.Denot → Type 0 = λ conn. HasCleanDisk (state g.S.Store conn) → IfSome known (λ input. Answers (HoldsBetween g.S.Store conn) told input before after run.result) in
    subst P (sym same) (answers_of g.S.Store run.new.clerk c.new-clerk.result known before after run.result run.ensures.whole run.ensures.front run.ensures.left told here)
