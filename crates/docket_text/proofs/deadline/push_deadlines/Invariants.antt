use Rattle.std.proofs.Common.{◌≡◌, ◌++◌, drop, string_bytes}
use Rattle.std.specs.List.{flat_map}
use Rattle.docket_text.specs.CaseTexts.{deadline_line}
use Rattle.docket_text.proofs.deadline.push_deadlines.Given as goal

abbrev pub invariant-loop-deadline : goal.invariant-loop-deadline
invariant-loop-deadline l = string_bytes l.text ++ flat_map (deadline_line l.court) (drop l.deadline-index l.deadlines) ≡ string_bytes l.initial.text ++ flat_map (deadline_line l.court) l.deadlines
