use Rattle.docket_jobs.proofs.entry_line.bare_entry.Goals as goal

pub returns : goal.returns
returns c = c.with_arguments.ensures _ c.in_ok-named_entry.ensures
