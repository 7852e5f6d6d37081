-- What a terminal says of a command that was not entered: a line, which says what is wrong and what to do.
use Rattle.std.specs.Prelude.{ℕ, List, [], ◌∷◌, ◌++◌, codes}
use Rattle.docket_command.specs.declared.command_name.CommandName.{CommandName}
use Rattle.docket_command.specs.declared.command_name.CommandName.TheVariants as kind
use Rattle.docket_command.specs.declared.field.Field.{Field}
use Rattle.docket_command.specs.declared.refusal.Refusal.{Refusal}
use Rattle.docket_command.specs.declared.refusal.Refusal.TheVariants as refusal
use Rattle.docket_command.specs.Fields.{field_name}
use Rattle.docket_command.specs.Names.{command_word}
use Rattle.docket_wire.specs.declared.fault.WireFault.{WireFault}
use Rattle.docket_wire.specs.declared.fault.WireFault.TheVariants as fault
use Rattle.entry_pages.specs.Limits.{range_of, limit_of}
use Rattle.entry_pages.specs.ValueForms.{type_in, value_form}

-- ---- refusals

abbrev pub no_party_words : CommandName → List ℕ
no_party_words kind.NoticeHearing = codes "the case has no such party (--party, --opponent); docketctl case lists them"
no_party_words _ = codes "the case has no such party (--party); docketctl case lists them"

abbrev pub exists_words : CommandName → List ℕ
exists_words kind.OpenCase = codes "a case has that docket number already (--label); docketctl cases --label shows it"
exists_words kind.LocalRule = codes "a local rule has that name already (--name); docketctl rules --db lists them"
exists_words _ = codes "the court's calendar has it already; docketctl holidays --db lists its rows"

-- a refusal for another reason than the value of a field
abbrev pub reason_words : CommandName → Refusal → List ℕ
reason_words k refusal.BadKey = codes "--key takes 1 to 64 visible characters of ASCII, and no blanks"
reason_words k refusal.KeyReused = codes "another command was entered under this key; give another --key"
reason_words k (refusal.BadValue f) = []
reason_words k refusal.NoSuchCase = codes "there is no such case (--case); docketctl cases lists them"
reason_words k refusal.NoSuchParty = no_party_words k
reason_words k refusal.NoSuchDeadline = codes "the case has no such deadline (--deadline); docketctl case lists them"
reason_words k refusal.NoSuchCalendarRow = codes "no such row of the court's calendar is in force (--row); docketctl holidays --db lists them"
reason_words k refusal.NoSuchLocalRule = codes "no local rule has that name (--rule); docketctl rules --db lists them"
reason_words k refusal.Exists = exists_words k
reason_words k refusal.NotOpen = codes "the time of this deadline does not run, or it is done or vacated (--deadline); docketctl case shows it"
reason_words k refusal.NotAwaiting = codes "no motion suspends this deadline, or it awaits no statement (--deadline); enter the motion or the order first"
reason_words k refusal.NotResponsive = codes "a motion under Rule 12 does not alter this deadline (--deadline); give that of the answer"
reason_words k refusal.WrongMotion = codes "no motion under Rule 12(e) suspended this deadline (--outcome); enter the motion first"
reason_words k refusal.AfterDeadline = codes "the motion was served after the last day (--served); extend the deadline first, if the court did"
reason_words k refusal.AlreadyServed = codes "the party has a deadline to answer already (--party); vacate that one, if the service was none"
reason_words k refusal.ShortWaiver = codes "the request allowed too few days (--allowed); it has to allow at least 30, or 60 with --abroad"
reason_words k refusal.LateWaiver = codes "the waiver came back after the time that was allowed (--returned); serve the summons"
reason_words k refusal.MayNotExtend = codes "Rule 6(b)(2) forbids an extension of this deadline (--deadline); the last day stays"
reason_words k refusal.Expired = codes "the time had expired, Rule 6(b)(1)(B) (--at); give --neglect where the neglect was excusable"
reason_words k refusal.NotLater = codes "the new day is not after the last day (--days, --until); give a later one"
reason_words k refusal.Full = codes "the docket or the case has no room for another"

-- of a value that may not be: the range of its type, then the limit of its field
abbrev pub bad_words : List ℕ → List ℕ → List ℕ
bad_words [] [] = codes "may not have this value"
bad_words [] (byte ∷ limit) = byte ∷ limit
bad_words (byte ∷ range) [] = byte ∷ range
bad_words (byte ∷ range) (first ∷ limit) = (byte ∷ range) ++ (codes ", and " ++ (first ∷ limit))

abbrev pub bad_value_line : CommandName → Field → List ℕ
bad_value_line k f = codes "docketctl: refused: --" ++ (field_name f ++ (codes " " ++ bad_words (range_of (type_in k f)) (limit_of k f)))

abbrev pub refusal_line : CommandName → Refusal → List ℕ
refusal_line k (refusal.BadValue f) = bad_value_line k f
refusal_line k r = codes "docketctl: refused: " ++ reason_words k r

-- ---- faults

-- a field that is missing or empty
abbrev pub missing_line : CommandName → Field → List ℕ
missing_line k f = codes "docketctl: --" ++ (field_name f ++ (codes " must not be empty; it takes " ++ value_form (type_in k f)))

-- a field that is of another form
abbrev pub wrong_line : CommandName → Field → List ℕ
wrong_line k f = codes "docketctl: --" ++ (field_name f ++ (codes " takes " ++ value_form (type_in k f)))

abbrev pub unknown_line : CommandName → List ℕ
unknown_line k = codes "docketctl: " ++ (command_word k ++ (codes " has no such option; docketctl commands " ++ (command_word k ++ codes " lists them")))

abbrev pub fault_line : CommandName → WireFault → List ℕ
fault_line k fault.NotJson = codes "docketctl: the command is too long for a line; shorten its texts"
fault_line k fault.NotAnObject = codes "docketctl: the command is too long for a line; shorten its texts"
fault_line k fault.UnknownCommand = codes "docketctl: there is no such kind of command; docketctl commands lists them"
fault_line k (fault.MissingField f) = missing_line k f
fault_line k (fault.WrongField f) = wrong_line k f
fault_line k fault.UnknownField = unknown_line k
fault_line k fault.NoMemory = codes "docketctl: memory ran out; enter it again"
