-- An example of each kind of command: a value for each of its fields, or none for one that is left out.
use Rattle.std.specs.Prelude.{ℕ, List, [], ◌∷◌, ◌++◌, Option, Some, None, Result, Ok, Err, bytes_eq, if◌then◌else◌, codes}
use Rattle.std.specs.List.{flat_map}
use Rattle.docket_command.specs.declared.command.Command.{Command}
use Rattle.docket_command.specs.declared.command_name.CommandName.{CommandName}
use Rattle.docket_command.specs.declared.command_name.CommandName.TheVariants as kind
use Rattle.docket_command.specs.declared.field.Field.{Field}
use Rattle.docket_command.specs.declared.field.Field.TheVariants as field
use Rattle.docket_command.specs.Fields.{field_name}
use Rattle.docket_command.specs.FieldTypes.{FieldType}
use Rattle.docket_command.specs.FieldTypes as of
use Rattle.docket_command.specs.Names.{command_word, name_of}
use Rattle.docket_command.specs.Schema.{FieldSpec, field_of, type_of, fields_of}
use Rattle.docket_wire.specs.declared.fault.WireFault.{WireFault}
use Rattle.command_forms.specs.Forms.{line_of}

-- ---- fields that mean something else from kind to kind

abbrev pub kind_example : CommandName → List ℕ
kind_example kind.DeclareDay = codes "state"
kind_example kind.ServePleading = codes "counterclaim"
kind_example _ = codes "b"

abbrev pub name_example : CommandName → List ℕ
name_example kind.AddParty = codes "Doe"
name_example kind.LocalRule = codes "LR7.1"
name_example kind.DeclareDay = codes "Founders' Day"
name_example _ = codes "Storm"

abbrev pub start_example : CommandName → List ℕ
start_example kind.CloseSpan = codes "2026-06-02T09:00-04:00"
start_example _ = codes "2026-06-02"

abbrev pub at_example : CommandName → List ℕ
at_example kind.OrderPeriod = []
at_example _ = codes "2026-06-02T17:00-04:00"

abbrev pub party_example : CommandName → List ℕ
party_example kind.Dispose = []
party_example _ = codes "2"

abbrev pub method_example : CommandName → List ℕ
method_example kind.OrderPeriod = []
method_example kind.LocalPeriod = []
method_example _ = codes "C"

-- ---- all fields

abbrev pub example_of : CommandName → Field → List ℕ
example_of k field.Day = codes "2026-06-02"
example_of k field.Kind = kind_example k
example_of k field.Close = codes "12:00"
example_of k field.Name = name_example k
example_of k field.Start = start_example k
example_of k field.End = codes "2026-06-02T12:00-04:00"
example_of k field.Row = codes "1"
example_of k field.Label = codes "1:26-cv-00001"
example_of k field.Caption = codes "Roe v. Doe"
example_of k field.Filed = codes "2026-06-02"
example_of k field.Case = codes "1"
example_of k field.Role = codes "defendant"
example_of k field.Text = codes "Complaint"
example_of k field.Party = party_example k
example_of k field.Basis = codes "private"
example_of k field.Served = codes "2026-06-02"
example_of k field.Sent = codes "2026-06-02"
example_of k field.Allowed = codes "30"
example_of k field.Returned = codes "2026-06-30"
example_of k field.Abroad = codes "false"
example_of k field.Method = method_example k
example_of k field.Deadline = codes "1"
example_of k field.Outcome = codes "denied"
example_of k field.Notice = codes "2026-06-02"
example_of k field.Opponent = codes "1"
example_of k field.Hearing = codes "2026-06-30"
example_of k field.Unit = codes "days"
example_of k field.At = at_example k
example_of k field.Count = codes "10"
example_of k field.Direction = codes "forward"
example_of k field.Entered = codes "2026-06-02"
example_of k field.Neglect = codes "false"
example_of k field.Days = codes "14"
example_of k field.Way = codes "electronic"
example_of k field.Three = codes "true"
example_of k field.Extendable = codes "true"
example_of k field.Rule = codes "LR7.1"
example_of k _ = []

-- ---- as a line for `docketctl run`

abbrev pub given_pair : List ℕ → List ℕ → List (List ℕ × List ℕ)
given_pair name [] = []
given_pair name (byte ∷ text) = (name, byte ∷ text) ∷ []

abbrev pub example_pair : CommandName → FieldSpec → List (List ℕ × List ℕ)
example_pair k s = given_pair (field_name (field_of s)) (example_of k (field_of s))

abbrev pub example_pairs : CommandName → List (List ℕ × List ℕ)
example_pairs k = (codes "do", command_word k) ∷ (codes "key", codes "k1") ∷ flat_map (example_pair k) (fields_of k)

unfoldable pub example_line : CommandName → List ℕ
example_line k = line_of (example_pairs k)

-- the kind of the command that was read, if one was
abbrev pub kind_read : Result Command WireFault → Option CommandName
kind_read (Ok c) = Some (name_of c.action)
kind_read (Err e) = None

-- ---- as options

-- a flag, which has no value
abbrev pub flag_option : List ℕ → List ℕ → List ℕ
flag_option name text = if bytes_eq text (codes "true") then codes " --" ++ name else []

-- an option and its value
abbrev pub plain_option : List ℕ → List ℕ → List ℕ
plain_option name [] = []
plain_option name (byte ∷ text) = codes " --" ++ (name ++ (codes " " ++ (byte ∷ text)))

-- an option and a text, which a shell reads as one word
abbrev pub text_option : List ℕ → List ℕ → List ℕ
text_option name [] = []
text_option name (byte ∷ text) = codes " --" ++ (name ++ (codes " \"" ++ ((byte ∷ text) ++ codes "\"")))

abbrev pub option_with : FieldType → List ℕ → List ℕ → List ℕ
option_with of.Flag name text = flag_option name text
option_with of.Text name text = text_option name text
option_with t name text = plain_option name text

abbrev pub example_option : CommandName → FieldSpec → List ℕ
example_option k s = option_with (type_of s) (field_name (field_of s)) (example_of k (field_of s))

abbrev pub example_options : CommandName → List ℕ
example_options k = flat_map (example_option k) (fields_of k)
