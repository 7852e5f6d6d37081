use Rattle.command_forms.specs.Entered.{type_of_input}
use Rattle.command_forms.specs.Forms.{texts_of}
use Rattle.entry_pages.specs.Saying.{saying_of}
use Rattle.entry_pages.proofs.FieldLemmas.{field_pushed}
use Rattle.entry_pages.proofs.field.push_with.Goals as goal

pub returns : goal.returns
returns c =
    field_pushed c.args.kind (texts_of c.args.pairs.now) (saying_of c.args.said) c.args.field (type_of_input c.args.input) c.args.needed _ _ _ _ _ _ _ _ _ _ _
    c.name-name.ensures c.label_of.ensures c.text_in.ensures c.hint_of-hint.ensures c.is_marked.ensures c.is_told.ensures
    c.in_ok-push_label.ensures c.in_ok-push_control.ensures c.in_ok-push_hint.ensures c.in_ok-push_str.ensures.bytes
