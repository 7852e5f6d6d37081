use Rattle.std.proofs.Common.{sym}
use Rattle.docket_command.specs.Schema.{fields_of}
use Rattle.command_forms.specs.Entered.{spec_of}
use Rattle.entry_pages.specs.Examples.{example_option}
use Rattle.entry_pages.proofs.FieldLemmas.{mapped}
use Rattle.entry_pages.proofs.example.push_example_options.Goals as goal

pub returns : goal.returns
returns c = rw (sym (mapped (example_option c.args.kind) spec_of c.entered_of.result.now (fields_of c.args.kind) c.entered_of.ensures)) c.push_options_of.ensures
