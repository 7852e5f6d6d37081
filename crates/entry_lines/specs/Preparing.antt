-- What becomes of a command that a person enters in words, by the history of a docket.
use Rattle.std.specs.Prelude.{◌≡◌, ℕ, List, Result, Ok, Err, string_bytes}
use Rattle.command_forms.specs.Given.{texts_given}
use Rattle.court_days.specs.Court.{CourtSettings}
use Rattle.docket_command.specs.declared.command.Command.{Command}
use Rattle.docket_history.specs.Histories.{History}
use Rattle.docket_questions.specs.Foreseeing.{IsForeseen}
use Rattle.docket_wire.specs.Reading.{command_in}
use Rattle.docket_wire.specs.declared.fault.WireFault.{WireFault}
use Rattle.entry_lines.specs.Lines.{fields_named, line_entered}
use Rattle.entry_lines.specs.declared.entry.Entry.{Entry}
use Rattle.entry_lines.specs.declared.entry.Prepared.{Prepared}
use Rattle.entry_lines.specs.declared.entry.Prepared.TheVariants as prepared
use Rattle.entry_lines.specs.declared.entry.Would.{Would}
use Rattle.entry_lines.specs.declared.entry.Would.TheVariants.{Faulty, Does}

module _ (court : CourtSettings) (h : History) where
  -- what a line would do that is read so: it is no command for this fault, or this is foreseen of its command
  abbrev pub WouldDo : Result Command WireFault → Would → Type 0
  WouldDo read (Faulty fault) = read ≡ Err fault
  WouldDo read (Does foreseen) = (c : Command) × (read ≡ Ok c) × IsForeseen court h c foreseen

  -- the line of these fields, and what it would do
  abbrev pub IsLine : Entry → List (List ℕ × List ℕ) → Prepared → Type 0
  IsLine entry fields (prepared.Unnamed why) = ⊥
  IsLine entry fields (prepared.Line line would) =
      (string_bytes line ≡ line_entered court entry fields) × WouldDo (command_in (string_bytes line)) would

  -- the first name that fits none or several; or the line, where each name fits one
  abbrev pub IsPrepared : Entry → Prepared → Type 0
  IsPrepared entry (prepared.Unnamed why) = fields_named h (texts_given entry.given.now) ≡ Err why
  IsPrepared entry (prepared.Line line would) = (fields : List (List ℕ × List ℕ))
      × (fields_named h (texts_given entry.given.now) ≡ Ok fields) × IsLine entry fields (prepared.Line line would)
