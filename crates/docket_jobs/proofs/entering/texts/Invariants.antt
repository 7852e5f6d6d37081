use Rattle.std.proofs.Common.{◌≡◌, ◌++◌, drop, map}
use Rattle.clap.specs.Matches.{found_of}
use Rattle.clap.specs.Walk.{rows_of}
use Rattle.command_forms.specs.Entered.{spec_of}
use Rattle.command_forms.specs.Given.{texts_given}
use Rattle.docket_jobs.specs.Jobs.{texts_found}
use Rattle.docket_jobs.proofs.entering.texts.Given as goal

-- the texts so far, before those of the fields that are left
abbrev pub invariant-loop-field : goal.invariant-loop-field
invariant-loop-field l =
    texts_given l.given.items ++ texts_found (map spec_of (drop l.field-index l.fields)) (rows_of (found_of l.found))
    ≡ texts_found (map spec_of l.fields) (rows_of (found_of l.found))
