-- What a page says of a command that was sent and not entered.
use Rattle.std.specs.Prelude.{ℕ, List, [], ◌++◌, Bool, bytes_eq, codes}
use Rattle.docket_command.specs.declared.field.Field.{Field}
use Rattle.docket_command.specs.declared.field.Field.TheVariants as field
use Rattle.docket_command.specs.declared.refusal.Refusal.{Refusal}
use Rattle.docket_command.specs.declared.refusal.Refusal.TheVariants as refusal
use Rattle.docket_command.specs.Fields.{field_name}
use Rattle.html_sheets.specs.Elements.{lines_told}
use Rattle.docket_wire.specs.declared.fault.WireFault.{WireFault}
use Rattle.docket_wire.specs.declared.fault.WireFault.TheVariants as fault
use Rattle.entry_pages.specs.declared.said.Said.{Said}
use Rattle.entry_pages.specs.declared.said.Said.TheVariants as variant

-- what is said of a form: nothing where it was not sent before, that its command was refused, that it is no command, or what its command
-- would do
pub data Saying : Type 0 where
  nothing : Saying
  refused : Refusal → Saying
  faulty : WireFault → Saying
  foreseen : List ℕ → Saying

abbrev pub saying_of : Said → Saying
saying_of variant.Nothing = nothing
saying_of (variant.Refused r) = refused r
saying_of (variant.Faulty f) = faulty f
saying_of (variant.Foreseen text) = foreseen text.now

-- ---- sentences

abbrev pub refusal_words : Refusal → List ℕ
refusal_words refusal.BadKey = codes "the key of the form may not be used. Enter it again."
refusal_words refusal.KeyReused = codes "this form was sent before with other content. Look at the docket, then enter it again if it is still wanted."
refusal_words (refusal.BadValue f) = codes "the marked field may not have this value."
refusal_words refusal.NoSuchCase = codes "there is no such case."
refusal_words refusal.NoSuchParty = codes "the case has no such party."
refusal_words refusal.NoSuchDeadline = codes "the case has no such deadline."
refusal_words refusal.NoSuchCalendarRow = codes "no such row of the court's calendar is in force."
refusal_words refusal.NoSuchLocalRule = codes "no local rule has that name."
refusal_words refusal.Exists = codes "it is entered already."
refusal_words refusal.NotOpen = codes "the time of this deadline does not run, or it is done or vacated."
refusal_words refusal.NotAwaiting = codes "no motion suspends this deadline, or it awaits no statement. Enter the motion or the order first."
refusal_words refusal.NotResponsive = codes "a motion under Rule 12 does not alter this deadline. Give the number of the deadline of the answer."
refusal_words refusal.WrongMotion = codes "no motion under Rule 12(e) suspended this deadline."
refusal_words refusal.AfterDeadline = codes "the motion was served after the last day. Extend the deadline first, if the court did."
refusal_words refusal.AlreadyServed = codes "the party has a deadline to answer already. Vacate that one, if the service was none."
refusal_words refusal.ShortWaiver = codes "the request allowed too few days, under 30, or under 60 outside the United States."
refusal_words refusal.LateWaiver = codes "the waiver came back after the time that was allowed. Serve the summons."
refusal_words refusal.MayNotExtend = codes "the rule forbids an extension, Rule 6(b)(2)."
refusal_words refusal.Expired = codes "the time had expired, and no excusable neglect is stated, Rule 6(b)(1)(B)."
refusal_words refusal.NotLater = codes "the new day is not after the last day."
refusal_words refusal.Full = codes "the docket has no room for it."

abbrev pub fault_words : WireFault → List ℕ
fault_words fault.NotJson = codes "the form could not be read. Open it again."
fault_words fault.NotAnObject = codes "the form could not be read. Open it again."
fault_words fault.UnknownCommand = codes "the form does not say what to enter. Choose it here."
fault_words (fault.MissingField f) = codes "the marked field is empty."
fault_words (fault.WrongField f) = codes "the marked field is not written as it has to be."
fault_words fault.UnknownField = codes "the form has a field too many. Open it again."
fault_words fault.NoMemory = codes "there was not enough memory. Enter it again."

-- what the title of the page begins with, and the sentence of a refusal or a fault
abbrev pub said_head : Saying → List ℕ
said_head nothing = []
said_head (refused r) = codes "Refused: "
said_head (faulty f) = codes "Not entered: "
said_head (foreseen text) = codes "Preview: "

-- the sentence, which a screen reader reads at once
abbrev pub alert_told : List ℕ → List ℕ → List ℕ
alert_told head words =
    codes "<p id=\"said\" class=\"said\" role=\"alert\">" ++ (head ++ (words ++ codes " Nothing was entered.</p>\n"))

-- what the command would do, line by line
abbrev pub foreseen_told : List ℕ → List ℕ
foreseen_told text =
    codes "<section role=\"status\">\n<h2>What this would do</h2>\n"
    ++ (lines_told text ++ codes "\n<p>Nothing was entered by showing this. The button Enter enters it.</p>\n</section>\n")

abbrev pub said_told : Saying → List ℕ
said_told nothing = []
said_told (refused r) = alert_told (codes "Refused: ") (refusal_words r)
said_told (faulty f) = alert_told (codes "Not entered: ") (fault_words f)
said_told (foreseen text) = foreseen_told text

-- ---- the field that it is about, by its name; empty where there is none

abbrev pub refused_field : Refusal → List ℕ
refused_field (refusal.BadValue f) = field_name f
refused_field refusal.NoSuchCase = field_name field.Case
refused_field refusal.NoSuchParty = field_name field.Party
refused_field refusal.NoSuchDeadline = field_name field.Deadline
refused_field refusal.NoSuchCalendarRow = field_name field.Row
refused_field refusal.NoSuchLocalRule = field_name field.Rule
refused_field _ = []

abbrev pub faulty_field : WireFault → List ℕ
faulty_field (fault.MissingField f) = field_name f
faulty_field (fault.WrongField f) = field_name f
faulty_field _ = []

abbrev pub marked_field : Saying → List ℕ
marked_field nothing = []
marked_field (refused r) = refused_field r
marked_field (faulty f) = faulty_field f
marked_field (foreseen text) = []

abbrev pub is_marked : Saying → Field → Bool
is_marked said f = bytes_eq (field_name f) (marked_field said)
