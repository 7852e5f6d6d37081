-- The job that a command line asks for: that of its subcommand, with the values that clap finds in the words.
use Rattle.std.specs.Prelude.{ℕ, ◌==◌, ◌&&◌, ◌||◌, not, nat_eq, Bool, true, false, List, [], ◌∷◌, length, drop, codes, nat_le, nat_lt, slice_get, Option, Some, None, is_some, option_copied, option_map, option_and_then, unwrap_or, get_or, if◌then◌else◌, ⊤}
use Rattle.std.specs.Char.{is_ascii_digit}
use Rattle.std.specs.Int.{IsInRange}
use Rattle.std.specs.List.{list_all, starts_with}
use Rattle.std.specs.Option.{option_map_or}
use Rattle.std.specs.Str.{bytes_eq}
use Rattle.std.specs.Str.Parse.{digits_value}
use Rattle.clap.specs.Walk.{Row, Text, first_of}
use Rattle.clap.specs.Simple.{matches_of, subcommand_of}
use Rattle.clap.specs.Faults.{fault_of}
use Rattle.clap.specs.Kinds.{Kinds, or_else}
use Rattle.clap.specs.declared.error.kind.ErrorKind.TheVariants.{ValueValidation}
use Rattle.civil_time.specs.DayText.{day_of_text}
use Rattle.civil_time.specs.Reading.{time_of_day_at}
use Rattle.civil_time.specs.Zone.{ZoneRules}
use Rattle.civil_time.specs.ZoneText.{zone_at}
use Rattle.court_days.specs.Court.{CourtSettings}
use Rattle.patient_stream.specs.declared.place.Place.{Place}
use Rattle.patient_stream.specs.declared.place.Place.TheVariants as place
use Rattle.docket_command.specs.declared.command_name.CommandName.{CommandName}
use Rattle.docket_command.specs.declared.command_name.CommandName.TheVariants.{ImportCalendar}
use Rattle.docket_command.specs.declared.field.Field.{Field}
use Rattle.docket_command.specs.Fields.{field_name}
use Rattle.docket_command.specs.Names.{command_named}
use Rattle.docket_command.specs.Schema.{FieldSpec, field_of, fields_of}
use Rattle.command_forms.specs.Given.{texts_given}
use Rattle.due_exports.specs.declared.form.Form.{Form}
use Rattle.due_exports.specs.declared.form.Form.TheVariants as form
use Rattle.html_sheets.specs.declared.due.Due.{Due}
use Rattle.html_sheets.specs.declared.due.Due.TheVariants.{Today, Week, Overdue}
use Rattle.docket_jobs.specs.CommandLine.{docketctl}
use Rattle.docket_jobs.specs.EntryLine.{entry_line}
use Rattle.docket_jobs.specs.Verbs.{verb_named}
use Rattle.docket_jobs.specs.declared.job.Job.{Job}
use Rattle.docket_jobs.specs.declared.job.Job.TheVariants as job
use Rattle.docket_jobs.specs.declared.verb.Verb.{Verb}
use Rattle.docket_jobs.specs.declared.verb.Verb.TheVariants as verb

-- where connections are taken, with the text of a path
pub data Where : Type 0 where
  at_port : ℕ → Where
  at_socket : Text → Where

abbrev pub where_asked : Place → Where
where_asked (place.Port port) = at_port port
where_asked (place.Socket path) = at_socket path.now

-- what is asked for, with the texts of files and keys, and the courts
pub data Asked : Type 0 where
  to_count : Asked
  to_create : Text → CourtSettings → Asked
  to_run : Text → Asked
  to_run_in_memory : CourtSettings → Asked
  to_enter : Text → Option Text → Bool → CommandName → List (Field × Text) → Asked
  to_tell_commands : Option CommandName → Asked
  to_import : Text → Text → Asked
  to_tell_case : Text → ℕ → Asked
  to_tell_cases : Text → Option Text → Option Text → Asked
  to_find : Text → Text → Asked
  to_tell_calendar : Text → ℕ → ℕ → Bool → Asked
  to_tell_due : Text → Due → Bool → Asked
  to_export : Text → ℕ → ℕ → Form → Asked
  to_tell_sheet : Text → ℕ → Asked
  to_explain : Text → ℕ → ℕ → Asked
  to_explain_lines : Asked
  to_check : Text → Asked
  to_back_up : Text → Text → Asked
  to_migrate : Text → Asked
  to_serve : Text → Where → Option ℕ → Bool → Bool → Option Text → Asked
  to_tell_rules : Option Text → Asked
  to_tell_holidays : ℕ → Asked
  to_tell_court_calendar : Text → ℕ → ℕ → Asked

abbrev pub asked : Job → Asked
asked job.Count = to_count
asked (job.Create file court) = to_create file.now court
asked (job.Run file) = to_run file.now
asked (job.RunInMemory court) = to_run_in_memory court
asked (job.Enter file key show kind given) = to_enter file.now (option_copied key) show kind (texts_given given.items)
asked (job.Commands kind) = to_tell_commands kind
asked (job.Import file key) = to_import file.now key.now
asked (job.Case file number) = to_tell_case file.now number
asked (job.Cases file label party) = to_tell_cases file.now (option_copied label) (option_copied party)
asked (job.Find file words) = to_find file.now words.now
asked (job.Calendar file from to long) = to_tell_calendar file.now from to long
asked (job.CalendarOf file due long) = to_tell_due file.now due long
asked (job.Export file from to form) = to_export file.now from to form
asked (job.Sheet file number) = to_tell_sheet file.now number
asked (job.Explain file case deadline) = to_explain file.now case deadline
asked job.ExplainLines = to_explain_lines
asked (job.Check file) = to_check file.now
asked (job.Backup file to) = to_back_up file.now to.now
asked (job.Migrate file) = to_migrate file.now
asked (job.Serve file place count pages guard origin) = to_serve file.now (where_asked place) count pages guard (option_copied origin)
asked (job.Rules file) = to_tell_rules (option_copied file)
asked (job.Holidays year) = to_tell_holidays year
asked (job.CourtCalendar file from to) = to_tell_court_calendar file.now from to

-- 1 to 10 digits, the first of them not 0
abbrev pub is_number : Text → Bool
is_number text = nat_le 1 (length text) && nat_le (length text) 10 && not (get_or text 0 0 == 48) && list_all is_ascii_digit text

-- a number from 1 to 4294967295
abbrev pub number_of : Text → Option ℕ
number_of text = if is_number text && nat_lt (digits_value 10 text) 4_294_967_296 then Some (digits_value 10 text) else None

abbrev pub year_if : ℕ → Option ℕ
year_if n = if nat_le 2000 n && nat_le n 2099 then Some n else None

-- a year from 2000 to 2099
abbrev pub year_of : Text → Option ℕ
year_of text = option_and_then year_if (number_of text)

abbrev pub port_if : ℕ → Option ℕ
port_if n = if nat_lt n 65_536 then Some n else None

-- a port from 0 to 65535
abbrev pub port_of : Text → Option ℕ
port_of text = if bytes_eq text (codes "0") then Some 0 else option_and_then port_if (number_of text)

abbrev pub count_if : ℕ → Option ℕ
count_if n = if nat_le n 1_000_000 then Some n else None

-- a number of connections from 1 to 1,000,000
abbrev pub count_of : Text → Option ℕ
count_of text = option_and_then count_if (number_of text)

-- the value of an option or a place; clap asks for one, or has a default
abbrev pub value_of : Text → List Row → Text
value_of name found = unwrap_or (first_of name found) []

-- whether a flag is given: clap has the text `true` for one that is, and `false` for one that is not
abbrev pub flag_of : Text → List Row → Bool
flag_of name found = bytes_eq (value_of name found) (codes "true")

-- a court that has that zone and closes at that minute of the day
abbrev pub court_if : Text → Option ZoneRules → Option ℕ → Option CourtSettings
court_if zone (Some rules) (Some minute) = Some (record { zone_text = zone; close_minute = minute })
court_if zone _ _ = None

-- the court whose zone and closing time the texts spell
abbrev pub court_named : Text → Text → Option CourtSettings
court_named zone close = court_if zone (zone_at zone) (time_of_day_at close)

abbrev pub court_asked : List Row → Option CourtSettings
court_asked found = court_named (value_of (codes "zone") found) (value_of (codes "close") found)

abbrev pub create_asked : List Row → Option Asked
create_asked found = option_map (to_create (value_of (codes "db") found)) (court_asked found)

-- beside a file the zone and the closing time are not looked at
abbrev pub run_if : Option Text → Option CourtSettings → Option Asked
run_if (Some file) court = Some (to_run file)
run_if None court = option_map to_run_in_memory court

abbrev pub run_asked : List Row → Option Asked
run_asked found = run_if (first_of (codes "db") found) (court_asked found)

-- all kinds of commands, or the one that a word names
abbrev pub commands_if : Option Text → Option Asked
commands_if None = Some (to_tell_commands None)
commands_if (Some word) = option_map (λ kind. to_tell_commands (Some kind)) (command_named word)

abbrev pub commands_asked : List Row → Option Asked
commands_asked found = commands_if (first_of (codes "kind") found)

abbrev pub case_asked : List Row → Option Asked
case_asked found = option_map (to_tell_case (value_of (codes "db") found)) (number_of (value_of (codes "number") found))

-- those of a label, where one is given, and with a party of a name that holds a text; or, without these, those that words find
abbrev pub cases_if : Text → Option Text → Option Text → Option Text → Option Asked
cases_if file None label party = Some (to_tell_cases file label party)
cases_if file (Some words) None None = Some (to_find file words)
cases_if file (Some words) _ _ = None

abbrev pub cases_asked : List Row → Option Asked
cases_asked found = cases_if (value_of (codes "db") found) (first_of (codes "find") found) (first_of (codes "label") found) (first_of (codes "party") found)

-- what is asked of the days from one to another, which is not before it
abbrev pub days_if : (ℕ → ℕ → Asked) → Option ℕ → Option ℕ → Option Asked
days_if ask (Some from) (Some to) = if nat_le from to then Some (ask from to) else None
days_if ask _ _ = None

abbrev pub days_asked : (ℕ → ℕ → Asked) → Text → Text → Option Asked
days_asked ask from to = days_if ask (day_of_text from) (day_of_text to)

-- none of the flags `--today`, `--week` and `--overdue`, or one of them
abbrev pub due_of : Bool → Bool → Bool → Option (Option Due)
due_of false false false = Some None
due_of true false false = Some (Some Today)
due_of false true false = Some (Some Week)
due_of false false true = Some (Some Overdue)
due_of _ _ _ = None

-- two days go without a flag for others, and such a flag without them; in long lines where these are asked for
abbrev pub calendar_if : Text → Bool → Option (Option Due) → Option Text → Option Text → Option Asked
calendar_if file long (Some None) (Some from) (Some to) = days_asked (λ from to. to_tell_calendar file from to long) from to
calendar_if file long (Some (Some due)) None None = Some (to_tell_due file due long)
calendar_if file long _ _ _ = None

abbrev pub calendar_asked : List Row → Option Asked
calendar_asked found =
    calendar_if (value_of (codes "db") found) (flag_of (codes "long") found) (due_of (flag_of (codes "today") found) (flag_of (codes "week") found) (flag_of (codes "overdue") found))
    (first_of (codes "from") found) (first_of (codes "to") found)

-- the format that a word names
abbrev pub form_of : Text → Option Form
form_of name =
    if bytes_eq name (codes "ics") then Some form.Calendar
    else (if bytes_eq name (codes "html") then Some form.Html
    else (if bytes_eq name (codes "csv") then Some form.Csv
    else (if bytes_eq name (codes "json") then Some form.Json
    else None)))

-- the docket sheet of a case, which is a page
abbrev pub sheet_if : Text → Text → Form → Option Asked
sheet_if file case form.Html = option_map (to_tell_sheet file) (number_of case)
sheet_if file case _ = None

-- a case goes without days, and without a case go both
abbrev pub export_if : Text → Option Text → Option Text → Option Text → Form → Option Asked
export_if file (Some case) None None form = sheet_if file case form
export_if file None (Some from) (Some to) form = days_asked (λ from to. to_export file from to form) from to
export_if file _ _ _ form = None

abbrev pub export_asked : List Row → Option Asked
export_asked found =
    option_and_then
    (export_if (value_of (codes "db") found) (first_of (codes "case") found) (first_of (codes "from") found) (first_of (codes "to") found))
    (form_of (value_of (codes "as") found))

abbrev pub explain_numbers : Text → Option ℕ → Option ℕ → Option Asked
explain_numbers file (Some case) (Some deadline) = Some (to_explain file case deadline)
explain_numbers file _ _ = None

-- a deadline of a case goes with a file; with neither, lines are explained
abbrev pub explain_if : Option Text → Option Text → Option Text → Option Asked
explain_if (Some file) (Some case) (Some deadline) = explain_numbers file (number_of case) (number_of deadline)
explain_if None None None = Some to_explain_lines
explain_if _ _ _ = None

abbrev pub explain_asked : List Row → Option Asked
explain_asked found = explain_if (first_of (codes "db") found) (first_of (codes "case") found) (first_of (codes "deadline") found)

-- an origin begins with the scheme of HTTP
abbrev pub is_origin : Text → Bool
is_origin text = starts_with nat_eq text (codes "http://") || starts_with nat_eq text (codes "https://")

-- another origin goes with the guard, which pages have
abbrev pub origin_if : Bool → Option Text → Option (Option Text)
origin_if guarded None = Some None
origin_if guarded (Some origin) = if guarded && is_origin origin then Some (Some origin) else None

-- so many connections, or all that come: one of the two is asked for
abbrev pub limit_of : Option Text → Bool → Option (Option ℕ)
limit_of (Some text) false = option_map Some (count_of text)
limit_of None true = Some None
limit_of _ _ = None

-- the socket of a file, whose path is not empty
abbrev pub socket_if : Text → Option Where
socket_if path = if length path == 0 then None else Some (at_socket path)

-- a port, or the socket of a file: one of the two is asked for
abbrev pub place_if : Option Text → Option Text → Option Where
place_if (Some port) None = option_map at_port (port_of port)
place_if None (Some path) = socket_if path
place_if _ _ = None

abbrev pub serve_if : Text → Option Where → Option (Option ℕ) → Bool → Bool → Option (Option Text) → Option Asked
serve_if file (Some place) (Some count) pages guard (Some origin) = Some (to_serve file place count pages guard origin)
serve_if file _ _ pages guard origin = None

-- connections at a place, with pages or with the guard alone where they are asked for, and at another origin where one is given
abbrev pub serve_asked : List Row → Option Asked
serve_asked found =
    serve_if (value_of (codes "db") found) (place_if (first_of (codes "port") found) (first_of (codes "socket") found)) (limit_of (first_of (codes "count") found) (flag_of (codes "endless") found))
    (flag_of (codes "pages") found) (flag_of (codes "guard") found)
    (origin_if (flag_of (codes "pages") found || flag_of (codes "guard") found) (first_of (codes "origin") found))

-- the statutory holidays of a year; with a file, its court calendar from a day to another
abbrev pub holidays_if : Option Text → Text → Option Text → Option Asked
holidays_if None year None = option_map to_tell_holidays (year_of year)
holidays_if (Some file) from (Some to) = days_asked (to_tell_court_calendar file) from to
holidays_if _ _ _ = None

abbrev pub holidays_asked : List Row → Option Asked
holidays_asked found = holidays_if (first_of (codes "db") found) (value_of (codes "year") found) (first_of (codes "to") found)

-- what a subcommand asks for with what was found for it; `enter` nothing without a kind
abbrev pub asked_for : Verb → List Row → Option Asked
asked_for verb.Count found = Some to_count
asked_for verb.Create found = create_asked found
asked_for verb.Run found = run_asked found
asked_for verb.Enter found = None
asked_for verb.Commands found = commands_asked found
asked_for verb.Import found = Some (to_import (value_of (codes "db") found) (value_of (codes "key") found))
asked_for verb.Case found = case_asked found
asked_for verb.Cases found = cases_asked found
asked_for verb.Calendar found = calendar_asked found
asked_for verb.Export found = export_asked found
asked_for verb.Explain found = explain_asked found
asked_for verb.Check found = Some (to_check (value_of (codes "db") found))
asked_for verb.Backup found = Some (to_back_up (value_of (codes "db") found) (value_of (codes "to") found))
asked_for verb.Migrate found = Some (to_migrate (value_of (codes "db") found))
asked_for verb.Serve found = serve_asked found
asked_for verb.Rules found = Some (to_tell_rules (first_of (codes "db") found))
asked_for verb.Holidays found = holidays_asked found

-- what the word of a subcommand asks for
abbrev pub asked_by : Text → List Row → Option Asked
asked_by name found = option_map_or (λ verb. asked_for verb found) (verb_named name) (Some to_count)

-- with no subcommand docketctl counts
abbrev pub asked_in : Option (Text × List Row) → Option Asked
asked_in None = Some to_count
asked_in (Some met) = asked_by met.0 met.1

abbrev pub line_asked : List Text → Option Asked
line_asked words = asked_in (subcommand_of docketctl words)

-- ---- `docketctl enter KIND ..`

-- the text of a field, where one was found, before those of the fields behind it
abbrev pub text_before : Field → Option Text → List (Field × Text) → List (Field × Text)
text_before f None texts = texts
text_before f (Some text) texts = (f, text) ∷ texts

-- the texts found for fields, in their order; of a flag there is one always, `true` or `false`
abbrev pub texts_found : List FieldSpec → List Row → List (Field × Text)
texts_found [] found = []
texts_found (s ∷ ss) found = text_before (field_of s) (first_of (field_name (field_of s)) found) (texts_found ss found)

abbrev pub entry_asked : CommandName → List Row → Asked
entry_asked kind found =
    to_enter (value_of (codes "db") found) (first_of (codes "key") found) (flag_of (codes "show") found) kind (texts_found (fields_of kind) found)

abbrev pub is_table : CommandName → Bool
is_table ImportCalendar = true
is_table _ = false

abbrev pub kind_if : CommandName → Option CommandName
kind_if kind = if is_table kind then None else Some kind

-- the kind of what is entered, which a word names; a table of days is entered by `import` alone
abbrev pub kind_entered : Text → Option CommandName
kind_entered word = option_and_then kind_if (command_named word)

-- the word at a place, and an empty one where there is none
abbrev pub word_at : ℕ → List Text → Text
word_at place words = unwrap_or (slice_get words place) []

-- a word is behind `enter`, and no option
abbrev pub is_entry : List Text → Bool
is_entry words = bytes_eq (word_at 1 words) (codes "enter") && not (get_or (word_at 2 words) 0 45 == 45)

-- the words from the kind on are read by the line of that kind
abbrev pub asked_behind : Text → List Text → Option Asked
asked_behind word words = option_map (λ kind. entry_asked kind (matches_of (entry_line kind) words)) (kind_entered word)

abbrev pub faults_behind : Text → List Text → Kinds
faults_behind word words = option_map_or (λ kind. fault_of (entry_line kind) words) (kind_entered word) []

-- ---- all command lines

-- what the words ask for, if they are a command line and their values lie in their limits
abbrev pub asked_of : List Text → Option Asked
asked_of words = if is_entry words then asked_behind (word_at 2 words) (drop 2 words) else line_asked words

-- the kinds of error that clap reports for the words
abbrev pub faults_of : List Text → Kinds
faults_of words = if is_entry words then faults_behind (word_at 2 words) (drop 2 words) else fault_of docketctl words

-- those, or else that of a bad value where nothing is asked for
abbrev pub or_bad_value : Kinds → Option Asked → Kinds
or_bad_value kinds found = or_else kinds (if is_some found then [] else ValueValidation ∷ [])

-- the kind of error that is reported for the words, none where they ask for a job
abbrev pub line_faults : List Text → Kinds
line_faults words = or_bad_value (faults_of words) (asked_of words)

-- a year is one from 2000 to 2099
abbrev pub IsLimited : Job → Type 0
IsLimited (job.Holidays year) = IsInRange 2000 2099 year
IsLimited _ = ⊤
