use Rattle.std.proofs.Common.{sym}
use Rattle.docket_command.specs.Schema.{fields_of}
use Rattle.command_forms.specs.Entered.{spec_of}
use Rattle.entry_pages.specs.CommandList.{field_lines}
use Rattle.entry_pages.proofs.FieldLemmas.{mapped}
use Rattle.entry_pages.proofs.command_list.push_fields.Goals as goal

pub returns : goal.returns
returns c = rw (sym (mapped (field_lines c.args.kind) spec_of c.entered_of.result.now (fields_of c.args.kind) c.entered_of.ensures)) c.push_each_field.ensures
