use Rattle.std.proofs.Common.{◌∙◌, ap, sym}
use Rattle.command_forms.specs.Forms.{command_of_pairs, texts_of}
use Rattle.docket_http.proofs.commands.read_form.Goals as goal

pub returns-clause-read : goal.returns-clause-read
returns-clause-read c =
    sym (c.in_ok-read.ensures.read _ c.entered_command.ensures)
    ∙ ap (λ ps. command_of_pairs (texts_of ps)) c.deref.ensures.value
    ∙ ap command_of_pairs c.in_ok-pairs.ensures
