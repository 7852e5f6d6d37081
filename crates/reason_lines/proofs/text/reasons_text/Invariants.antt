use Rattle.std.proofs.Common.{◌≡◌, ◌++◌, drop, option_copied, string_bytes}
use Rattle.std.specs.List.{flat_map}
use Rattle.reason_lines.specs.Lines.{step_line, reasons_text}
use Rattle.reason_lines.proofs.text.reasons_text.Given as goal

abbrev pub invariant-loop-step : goal.invariant-loop-step
invariant-loop-step l =
    string_bytes l.text ++ flat_map (step_line l.court l.calendar (option_copied l.rule)) (drop l.step-index l.steps)
    ≡ reasons_text l.court l.calendar (option_copied l.rule) l.steps
