-- The command line of `docketctl enter KIND`: --db, --key, --show, and an option for each field of the one table.
use Rattle.std.specs.Prelude.{List, [], ◌∷◌, map, codes}
use Rattle.clap.specs.Walk.{Rule, Text}
use Rattle.clap.specs.Simple.{App, new_app}
use Rattle.docket_command.specs.declared.command_name.CommandName.{CommandName}
use Rattle.docket_command.specs.Fields.{field_name}
use Rattle.docket_command.specs.FieldTypes.{FieldType}
use Rattle.docket_command.specs.FieldTypes as of
use Rattle.docket_command.specs.Names.{command_word}
use Rattle.docket_command.specs.Schema.{FieldSpec, must, may, fields_of}
use Rattle.docket_jobs.specs.CommandLine.{file_rule, flag_rule, option_rule, required, with_rules}

-- a field of yes or no is a flag, which may be left out; any other that must be there is an option that has to be
abbrev pub needed_rule : FieldType → Text → Rule
needed_rule of.Flag name = flag_rule name
needed_rule _ name = required (option_rule name)

-- the option of a field, which has its name
abbrev pub field_rule : FieldSpec → Rule
field_rule (must f t) = needed_rule t (field_name f)
field_rule (may f t) = option_rule (field_name f)

-- its options but for those of fields
abbrev pub entry_rules : List Rule
entry_rules = required file_rule ∷ option_rule (codes "key") ∷ flag_rule (codes "show") ∷ []

-- it goes by the name of the kind
abbrev pub bare_entry_line : CommandName → App
bare_entry_line kind = with_rules (new_app (command_word kind)) entry_rules

unfoldable pub entry_line : CommandName → App
entry_line kind = with_rules (bare_entry_line kind) (map field_rule (fields_of kind))
