use Rattle.clap.specs.Matches.{found_of}
use Rattle.clap.specs.Walk.{rows_of}
use Rattle.docket_jobs.proofs.EntryLemmas.{texts_added}
use Rattle.docket_jobs.proofs.entering.texts.Goals as goal

pub loop-field-preserved : goal.loop-field-preserved
loop-field-preserved c =
    texts_added c.args.fields.now c.loop-field.field-index _ (rows_of (found_of c.args.found.now)) _ _ _ _ c.loop-field-test.true c.field_of.ensures c.loop-field.invariant c.in_ok-push_text.ensures
