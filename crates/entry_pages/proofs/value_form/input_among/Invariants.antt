use Rattle.std.proofs.Common.{◌≡◌, drop, map}
use Rattle.command_forms.specs.Entered.{spec_of}
use Rattle.entry_pages.specs.ValueForms.{type_among}
use Rattle.entry_pages.proofs.value_form.input_among.Given as goal

abbrev pub invariant-loop-entered : goal.invariant-loop-entered
invariant-loop-entered l = type_among l.field (map spec_of (drop l.entered-index l.fields)) ≡ type_among l.field (map spec_of l.fields)
