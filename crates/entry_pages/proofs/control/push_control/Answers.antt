use Rattle.std.proofs.Common.{arith}
use Rattle.command_forms.specs.Entered.{type_of_input}
use Rattle.entry_pages.specs.Controls.{state_of}
use Rattle.entry_pages.proofs.FieldLemmas.{chosen}
use Rattle.entry_pages.proofs.control.push_control.Goals as goal

pub returns-else-choices-eq0 : goal.returns-else-choices-eq0
returns-else-choices-eq0 c =
    rw (chosen (type_of_input c.args.input) c.choices_of-choices.result.now c.args.state.name.now c.args.value.now (state_of c.args.state) c.choices_of-choices.ensures (omega (arith, c.if-choices-eq0.false))) c.push_select.ensures
