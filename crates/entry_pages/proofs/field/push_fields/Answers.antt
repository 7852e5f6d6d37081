use Rattle.std.proofs.Common.{sym}
use Rattle.command_forms.specs.Forms.{texts_of}
use Rattle.entry_pages.specs.Saying.{saying_of}
use Rattle.entry_pages.proofs.FieldLemmas.{all_fields}
use Rattle.entry_pages.proofs.field.push_fields.Goals as goal

pub returns : goal.returns
returns c = rw (sym (all_fields c.args.kind (texts_of c.args.pairs.now) (saying_of c.args.said) c.entered_of.result.now c.entered_of.ensures)) c.push_each.ensures
