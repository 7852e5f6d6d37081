use Rattle.std.proofs.Common.{sym}
use Rattle.command_forms.specs.Entered.{type_of_input}
use Rattle.entry_pages.specs.CommandList.{choice_line, words_told}
use Rattle.entry_pages.proofs.FieldLemmas.{texts_at, mapped}
use Rattle.entry_pages.proofs.command_list.push_choices.Goals as goal

pub returns : goal.returns
returns c = rw (sym (mapped choice_line texts_at c.words_told.result.now (words_told (type_of_input c.args.input)) c.words_told.ensures)) c.push_each_choice.ensures
