-- What `docketctl commands` prints: the kinds of commands, or the fields of one.
use Rattle.std.specs.Prelude.{ℕ, ◌-◌, List, [], ◌∷◌, ◌++◌, Bool, true, false, Option, Some, None, length, replicate, bytes_eq, if◌then◌else◌, codes}
use Rattle.std.specs.List.{flat_map}
use Rattle.docket_command.specs.declared.command_name.CommandName.{CommandName}
use Rattle.docket_command.specs.declared.command_name.CommandName.TheVariants.{ImportCalendar}
use Rattle.docket_command.specs.declared.field.Field.{Field}
use Rattle.docket_command.specs.Fields.{field_name}
use Rattle.docket_command.specs.FieldTypes.{FieldType}
use Rattle.docket_command.specs.FieldTypes as of
use Rattle.docket_command.specs.Names.{command_word}
use Rattle.docket_command.specs.Schema.{FieldSpec, must, may, fields_of}
use Rattle.html_sheets.specs.Titles.{title_of}
use Rattle.entry_pages.specs.Controls.{choices_of}
use Rattle.entry_pages.specs.Examples.{example_line, example_options}
use Rattle.entry_pages.specs.Kinds.{groups}
use Rattle.entry_pages.specs.Labels.{label_of}
use Rattle.entry_pages.specs.Limits.{limit_of}
use Rattle.entry_pages.specs.ValueForms.{value_name}

-- blanks up to a column, behind a text that has fewer bytes
abbrev pub blanks : ℕ → List ℕ
blanks count = replicate count 0x20

-- ---- all kinds

abbrev pub kind_line : CommandName → List ℕ
kind_line kind = codes "  " ++ (command_word kind ++ (blanks (19 - length (command_word kind)) ++ (title_of kind ++ codes "\n")))

abbrev pub group_lines : List ℕ × List CommandName → List ℕ
group_lines group = codes "\n" ++ (group.0 ++ (codes "\n" ++ flat_map kind_line group.1))

abbrev pub list_head : List ℕ
list_head = codes "Kinds of commands: docketctl commands KIND shows the fields of one, docketctl enter KIND enters it.\n"

abbrev pub import_head : List ℕ
import_head = codes "\nA table of days, which docketctl import takes\n"

-- in groups, and last the table of days
unfoldable pub kind_list : List ℕ
kind_list = list_head ++ (flat_map group_lines groups ++ (import_head ++ kind_line ImportCalendar))

-- ---- one kind

-- the option of a field of that name, and what stands for its value
abbrev pub option_column : List ℕ → List ℕ → List ℕ
option_column name value = codes "  --" ++ (name ++ (value ++ blanks (22 - length name - length value)))

abbrev pub needed_words : Bool → List ℕ
needed_words true = []
needed_words false = codes " (may be left out)"

-- what the value may be, where it is said
abbrev pub limit_line : List ℕ → List ℕ
limit_line [] = []
limit_line (byte ∷ limit) = codes "      " ++ ((byte ∷ limit) ++ codes "\n")

-- a word that is a value, and what it means where that is another word
abbrev pub choice_line : List ℕ × List ℕ → List ℕ
choice_line choice =
    if bytes_eq choice.0 choice.1 then codes "      " ++ (choice.0 ++ codes "\n")
    else codes "      " ++ (choice.0 ++ (codes ": " ++ (choice.1 ++ codes "\n")))

-- the words that are told: a flag has none
abbrev pub words_told : FieldType → List (List ℕ × List ℕ)
words_told of.Flag = []
words_told t = choices_of t

abbrev pub choice_lines : FieldType → List ℕ
choice_lines t = flat_map choice_line (words_told t)

-- a field: its option, what it is called, and whether it may be left out; then what its value may be
abbrev pub lines_with : CommandName → Field → FieldType → Bool → List ℕ
lines_with kind f t needed =
    option_column (field_name f) (value_name t)
    ++ (label_of kind f ++ (needed_words needed ++ (codes "\n" ++ (limit_line (limit_of kind f) ++ choice_lines t))))

abbrev pub field_lines : CommandName → FieldSpec → List ℕ
field_lines kind (must f t) = lines_with kind f t true
field_lines kind (may f t) = lines_with kind f t false

abbrev pub kind_head : CommandName → List ℕ
kind_head kind = command_word kind ++ (codes ": " ++ (title_of kind ++ codes "\n\n"))

abbrev pub legend : List ℕ
legend = codes "\nDAY is as 2026-06-02, from 2000 to 2099. MOMENT is as 2025-11-01T17:00-05:00, with the court's\noffset on that day, and HH:MM as 17:00. An option without a value is true where given, else false.\n"

-- the example by `docketctl enter`, then as that line for `docketctl run`
abbrev pub example_told : CommandName → List ℕ → List ℕ
example_told kind line =
    codes "\nAn example, and the same as a line for docketctl run:\n  docketctl enter "
    ++ (command_word kind ++ (codes " --db court.db \\\n   " ++ (example_options kind ++ (codes "\n  " ++ (line ++ codes "\n")))))

-- each field of the kind, in the order of the one table
unfoldable pub kind_told : CommandName → List ℕ
kind_told kind = kind_head kind ++ (flat_map (field_lines kind) (fields_of kind) ++ (legend ++ example_told kind (example_line kind)))

-- a table of days is a file
abbrev pub import_told : List ℕ
import_told =
    codes "import_calendar: Enter a table of days\n\ndocketctl import enters a table of comma-separated values, whose first line is kind,day,name.\nA kind is federal, state or closed, and a day as 2027-04-19.\n\nAn example, and the same as a line for docketctl run:\n  docketctl import --db court.db --key holidays-2027 < holidays.csv\n  {\"do\":\"import_calendar\",\"key\":\"holidays-2027\",\"rows\":[{\"day\":\"2027-04-19\",\"kind\":\"state\",\"name\":\"Patriots' Day\"}]}\n"

abbrev pub kind_text : CommandName → List ℕ
kind_text ImportCalendar = import_told
kind_text kind = kind_told kind

abbrev pub commands_text : Option CommandName → List ℕ
commands_text None = kind_list
commands_text (Some kind) = kind_text kind
