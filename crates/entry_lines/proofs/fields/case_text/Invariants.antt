use Rattle.std.proofs.Common.{◌≡◌, drop}
use Rattle.command_forms.specs.Given.{texts_given}
use Rattle.entry_lines.specs.Names.{case_text}
use Rattle.entry_lines.proofs.fields.case_text.Given as goal

-- none before this one is that of the case
abbrev pub invariant-loop-it : goal.invariant-loop-it
invariant-loop-it l = case_text (texts_given (drop l.it-index l.given)) ≡ case_text (texts_given l.given)
