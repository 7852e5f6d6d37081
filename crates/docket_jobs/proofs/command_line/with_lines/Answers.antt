use Rattle.std.proofs.Common.{◌∙◌}
use Rattle.docket_jobs.specs.CommandLine.{line_of, with_line}
use Rattle.docket_jobs.proofs.LineLemmas.{line_added, one_added, still_local}
use Rattle.docket_jobs.proofs.command_line.with_lines.Goals as goal

pub loop-verb-preserved : goal.loop-verb-preserved
loop-verb-preserved c = record {
  line =
      one_added with_line line_of c.args.verbs.now c.loop-verb.verb-index _ _ _ _ c.loop-verb-test.true c.loop-verb.invariant.line
      (line_added _ _ _ _ c.in_ok-more.ensures c.in_ok-program.ensures);
  local = still_local _ _ _ c.in_ok-program.ensures.globals c.in_ok-more.ensures.1 ∙ c.loop-verb.invariant.local;
}
