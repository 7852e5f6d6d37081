use Rattle.std.proofs.Common.{IfOk, subst}
use Rattle.clap.specs.Simple.{App}
use Rattle.docket_jobs.specs.CommandLine.{HasLine}
use Rattle.docket_jobs.proofs.EntryLemmas.{entry_whole}
use Rattle.docket_jobs.proofs.entry_line.entry_command.Goals as goal

pub returns : goal.returns
returns c =
    let P : App → Type 0 = λ line. IfOk c.with_fields.result (HasLine line) in
    subst P (entry_whole c.args.kind c.entered_of.result.now c.entered_of.ensures) (c.with_fields.ensures _ c.in_ok-bare_entry.ensures)
