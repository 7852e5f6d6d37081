use Rattle.std.proofs.Common.{◌∙◌}
use Rattle.clap.specs.Simple.{with_rule}
use Rattle.docket_jobs.specs.Arguments.{rule_read}
use Rattle.docket_jobs.proofs.LineLemmas.{argument_added, one_added, still_local}
use Rattle.docket_jobs.proofs.argument.with_arguments.Goals as goal

pub loop-argument-preserved : goal.loop-argument-preserved
loop-argument-preserved c = record {
  line =
      one_added with_rule rule_read c.args.arguments.now c.loop-argument.argument-index _ _ _ _ c.loop-argument-test.true c.loop-argument.invariant.line
      (argument_added _ _ _ _ c.arg_of.ensures.rule c.arg_of.ensures.local c.in_ok-command.ensures);
  local = still_local _ _ _ c.in_ok-command.ensures.globals c.arg_of.ensures.local ∙ c.loop-argument.invariant.local;
}
