-- What a person is told of a command that was entered in words, on standard error.
use Rattle.std.specs.Prelude.{ℕ, Bool, ◌||◌, List, [], ◌++◌, drop, length, eqb, codes, decimal, bytes_eq, if◌then◌else◌, string_bytes}
use Rattle.std.specs.List.{starts_with}
use Rattle.docket_command.specs.Fields.{field_name}
use Rattle.docket_command.specs.declared.command_name.CommandName.{CommandName}
use Rattle.docket_questions.specs.declared.prospect.Foreseen.{Foreseen}
use Rattle.docket_questions.specs.declared.prospect.Foreseen.TheVariants.{Refused, Known, Accepted}
use Rattle.entry_pages.specs.Sentences.{fault_line, refusal_line}
use Rattle.entry_lines.specs.declared.entry.Prepared.{Prepared}
use Rattle.entry_lines.specs.declared.entry.Prepared.TheVariants as prepared
use Rattle.entry_lines.specs.declared.entry.Unnamed.{Unnamed}
use Rattle.entry_lines.specs.declared.entry.Unnamed.TheVariants.{NoCase, NoParty, SeveralParties}
use Rattle.entry_lines.specs.declared.entry.Would.{Would}
use Rattle.entry_lines.specs.declared.entry.Would.TheVariants.{Faulty, Does}

-- of a name that fits two parties, in an option
abbrev pub several_line : List ℕ → ℕ → ℕ → List ℕ
several_line option n m =
    codes "docketctl: parties " ++ (decimal n ++ (codes " and " ++ (decimal m ++ (codes " both have that name (--" ++ (option ++ codes "); give the number\n")))))

-- of a name that names nothing
abbrev pub unnamed_line : Unnamed → List ℕ
unnamed_line NoCase = codes "docketctl: no case has that number or docket number (--case); docketctl cases lists them\n"
unnamed_line (NoParty f) =
    codes "docketctl: no party of the case has that number or name (--" ++ (field_name f ++ codes "); docketctl case lists them\n")
unnamed_line (SeveralParties f n m) = several_line (field_name f) n m

-- a text without a line with which it begins
abbrev pub without : List ℕ → List ℕ → List ℕ
without line text = if starts_with eqb text line then drop (length line) text else text

-- a text tells of no deadline
abbrev pub tells_of_none : List ℕ → Bool
tells_of_none text = bytes_eq text (codes "No deadline would be made or moved.\n") || bytes_eq text (codes "No deadline would move.\n")

-- nothing, where a text tells of no deadline
abbrev pub unless_none : List ℕ → List ℕ
unless_none text = if tells_of_none text then [] else text

-- of an accepted command: what it did, without the line that the court's calendar would change; nothing where no deadline is made or moved
abbrev pub done_text : List ℕ → List ℕ
done_text text = unless_none (without (codes "The court's calendar would change.\n") text)

abbrev pub foreseen_said : CommandName → Foreseen → List ℕ
foreseen_said kind (Refused refusal) = refusal_line kind refusal ++ codes "\n"
foreseen_said kind (Known reply) = codes "entered before under this key\n"
foreseen_said kind (Accepted text) = done_text (string_bytes text)

abbrev pub would_said : CommandName → Would → List ℕ
would_said kind (Faulty fault) = fault_line kind fault ++ codes "\n"
would_said kind (Does foreseen) = foreseen_said kind foreseen

abbrev pub said_of : CommandName → Prepared → List ℕ
said_of kind (prepared.Unnamed why) = unnamed_line why
said_of kind (prepared.Line line would) = would_said kind would
