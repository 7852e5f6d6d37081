use Rattle.std.proofs.Common.{◌≡◌, ◌++◌, List, drop, Result}
use Rattle.docket_command.specs.declared.refusal.Reply.{Reply}
use Rattle.docket_decisions.specs.Outcomes.{run, answers}
use Rattle.docket_decisions.specs.declared.decision.DecideFault.{DecideFault}
use Rattle.docket_plain.specs.Dockets.{AreReplies}
use Rattle.docket_plain.proofs.plain.apply_all.Given as goal

-- with replies to the commands that are left, the replies are whole, and the history of those is that of all
abbrev pub invariant-loop-command : goal.invariant-loop-command
invariant-loop-command l = record {
  told : (rest : List (Result Reply DecideFault)) → AreReplies rest (answers l.docket.court l.docket.history (drop l.command-index l.commands))
      → AreReplies (l.replies.items ++ rest) (answers l.fn.docket.court l.fn.docket.history l.commands);
  court : l.docket.court ≡ l.fn.docket.court;
  gone : run l.docket.court l.docket.history (drop l.command-index l.commands) ≡ run l.fn.docket.court l.fn.docket.history l.commands;
}
