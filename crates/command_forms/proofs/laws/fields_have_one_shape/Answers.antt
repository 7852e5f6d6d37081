use Rattle.command_forms.proofs.ShapeLemmas.{one_shape}
use Rattle.command_forms.proofs.laws.fields_have_one_shape.Goals as goal

pub returns : goal.returns
returns c = one_shape
