-- What each job does, by what the files of its docket held, by what its input was, and by what went out on its writer.
use Rattle.std.specs.Prelude.{◌≡◌, ◌≢◌, ◌⊎◌, ℕ, ℤ, Bool, true, false, if◌then◌else◌, List, [], Option, Some, None, Result, Ok, Err, IfSome, MatchOption, codes, option_copied}
use Rattle.std.specs.Cow.{cow_str_bytes}
use Rattle.std.specs.Io.KnownBytes.{Appends}
use Rattle.sqlite_disk.specs.declared.Disk.{Ghosts}
use Rattle.sqlite_wal.specs.Recovery.{Image}
use Rattle.sqlite.specs.Files.{IsCleanLeft}
use Rattle.sqlite.specs.Held.{Held, state}
use Rattle.sqlite.specs.State.{HasCleanDisk}
use Rattle.sqlite.specs.Store.{Ghosts as Store}
use Rattle.sqlite.specs.declared.file.Leftover.{Leftover}
use Rattle.court_days.specs.Court.{CourtSettings}
use Rattle.count_lines.specs.Count.{bad_answers as bad_days, count_text}
use Rattle.docket_calendar.specs.Calendar.{text_of_calendar}
use Rattle.docket_command.specs.declared.command.Command.{Command}
use Rattle.docket_command.specs.declared.command.Action.TheVariants.{ImportCalendar}
use Rattle.docket_command.specs.declared.new_day.NewDay.{NewDay}
use Rattle.docket_command.specs.declared.refusal.Reply.{Reply}
use Rattle.docket_history.specs.Histories.{local_rule_rows, standing_rows}
use Rattle.docket_jobs.specs.declared.job.Job.{Job}
use Rattle.docket_jobs.specs.declared.job.Job.TheVariants as job
use Rattle.docket_columns.specs.declared.version.Version.{Version}
use Rattle.docket_columns.specs.declared.version.Version.TheVariants.{First}
use Rattle.docket_scan.specs.Dockets.{MayHold, holdings_in}
use Rattle.docket_applying.specs.Applying.{IsDocket, docket_rows}
use Rattle.docket_store.specs.Migrating.{HoldFirst}
use Rattle.docket_store.specs.Reopening.{HoldDocket, HoldRows}
use Rattle.docket_applying.specs.declared.fault.Fault.{Fault}
use Rattle.docket_store.specs.declared.migrating.MigrateFault.{MigrateFault}
use Rattle.docket_tables.specs.Layouts.{Rows}
use Rattle.docket_tables.specs.Stands.{IsImageIn}
use Rattle.docket_questions.specs.Dues.{text_of_dues}
use Rattle.docket_questions.specs.Searches.{text_of_found}
use Rattle.docket_questions.specs.Texts.{page_of_sheet, text_of_case, text_of_reasons}
use Rattle.docket_questions.specs.declared.dues.DueDays.TheVariants.{Between, By}
use Rattle.docket_questions.specs.declared.dues.DueForm.{DueForm}
use Rattle.docket_questions.specs.declared.dues.DueForm.TheVariants.{Calendar, Long, Export}
use Rattle.docket_text.specs.CourtCalendar.{court_calendar_text}
use Rattle.docket_text.specs.HolidayTexts.{holiday_text}
use Rattle.docket_text.specs.RuleTexts.{rules_text}
use Rattle.day_tables.specs.CalendarCsv.{IsTable}
use Rattle.line_io.specs.Output.{AppendsFront, HasFront}
use Rattle.docket_applying.specs.CourtDockets.{CourtDocket as Docket}
use Rattle.command_lines.specs.Lines.{bad_answers, docket_after, run_text}
use Rattle.command_lines.specs.declared.fault.RunFault.{RunFault}
use Rattle.file_questions.specs.CaseLists.{cases_told}
use Rattle.file_changes.specs.Commands.{AppliesTo}
use Rattle.file_changes.specs.Entering.{line_prepared}
use Rattle.file_dockets.specs.Keeping.{Keeps, rows_told}
use Rattle.docket_store.specs.Left.{Leaves, LeavesRows}
use Rattle.file_changes.specs.Migrates.{MigratesTo}
use Rattle.file_changes.specs.Runs.{LeavesPrefix}
use Rattle.entry_lines.specs.Preparing.{IsPrepared}
use Rattle.entry_lines.specs.declared.entry.Entry.{Entry}
use Rattle.entry_lines.specs.declared.entry.Prepared.{Prepared}
use Rattle.entry_pages.specs.CommandList.{commands_text}
use Rattle.explain_lines.specs.Explain.{explain_text}
use Rattle.job_runs.specs.Checks.{check_text}
use Rattle.job_runs.specs.Entering.{IsEntry, ShowsEntry, entry_status}
use Rattle.job_ends.specs.Ends.{TellsNothing}
use Rattle.job_runs.specs.Tells.{HasListed, HasTold, SaysMissing, TellsIfAny, TellsText, last_line, no_such_case, no_such_deadline}
use Rattle.job_runs.specs.Imports.{TellsApplied, TellsFault}
use Rattle.job_runs.specs.Serving.{EndsServing, service_of}
use Rattle.job_ends.specs.declared.end.JobEnd.{JobEnd}
use Rattle.job_ends.specs.declared.status.Status.{Status}
use Rattle.job_ends.specs.declared.status.Status.TheVariants.{Done, SomeBad, BadLine, Failed}

-- the command that enters days in the calendar under a key
abbrev pub import_command : List ℕ → List NewDay → Command
import_command key days = record { key = key; action = ImportCalendar (record { rows = days }) }

-- the answers to all lines went out, this text, and the status says whether so many of them are `bad` or `full`; or a prefix of them did
abbrev pub AnswersAll : List ℕ → ℕ → Option (List ℕ) → Option (List ℕ) → Status → Type 0
AnswersAll text bad before after Done = Appends before after text × (bad ≡ 0)
AnswersAll text bad before after SomeBad = Appends before after text × (bad ≢ 0)
AnswersAll text bad before after BadLine = ⊥
AnswersAll text bad before after Failed = HasFront before after text

-- lines of days are answered, or explained: as many of them are bad
abbrev pub Counts : List ℕ → Option (List ℕ) → Option (List ℕ) → Status → Type 0
Counts input = AnswersAll (count_text input) (bad_days input)

abbrev pub Explains : List ℕ → Option (List ℕ) → Option (List ℕ) → Status → Type 0
Explains input = AnswersAll (explain_text input) (bad_days input)

-- the docket of a court, without any record
abbrev pub new_docket : CourtSettings → Docket
new_docket court = record { court = court; history = [] }

-- memory returns what was stored in it
abbrev pub IsHonest : {S : Type 0} → Store S → Type 0
IsHonest {S} g = (held : Held S) → HasCleanDisk (state g held)

-- the files held no docket, of either version
abbrev pub HoldNone : Image → Type 0
HoldNone files = (v : Version) (rows : Rows) → HoldRows v files rows → ⊥

-- this holds of the docket that the files held
abbrev pub OfDocket : Image → (Docket → Type 0) → Type 0
OfDocket files P = (docket : Docket) → IsDocket docket.court docket.history → HoldDocket files docket.court docket.history → P docket

-- whatever is left, `Left` says that it has the rows or the next ones
module _ (Left : Rows → Rows → Type 0) where
  -- The answers to all lines went out, the docket after them is left, and the status says whether an answer is a refusal or a fault. Where
  -- the job failed, what went out and what is left are as of a prefix of the lines, and behind that a last line or a prefix of it.
  abbrev pub Runs : Docket → List ℕ → Option (List ℕ) → Option (List ℕ) → Status → Type 0
  Runs docket input before after Done = Appends before after (run_text docket input) × (bad_answers docket input ≡ 0) × Keeps Left (docket_after docket input)
  Runs docket input before after SomeBad = Appends before after (run_text docket input) × (bad_answers docket input ≢ 0) × Keeps Left (docket_after docket input)
  Runs docket input before after BadLine = ⊥
  Runs docket input before after Failed =
      (mid : Option (List ℕ)) × LeavesPrefix Left docket input before mid × (fault : RunFault) × AppendsFront mid after (last_line fault)

  -- a run over the line of an entry that was prepared ended so
  abbrev pub RunsOver : Docket → Prepared → Option (List ℕ) → Option (List ℕ) → Status → Type 0
  RunsOver docket prepared before after status = (ran : Status) × Runs docket (line_prepared prepared) before after ran × (status ≡ entry_status prepared ran)

  -- an entry is prepared by the docket, and its line answered; or the job failed before that, and the docket is left as it was
  abbrev pub Enters : Docket → Entry → Option (List ℕ) → Option (List ℕ) → Status → Type 0
  Enters docket entry before after status =
      ((prepared : Prepared) × IsPrepared docket.court docket.history entry prepared × RunsOver docket prepared before after status)
      ⊎ ((status ≡ Failed) × Runs docket [] before after Failed)

  -- a command had this answer, which is printed
  abbrev pub Applies : Docket → Command → List ℕ → Status → Type 0
  Applies docket c text status = (answer : Result Reply Fault) × AppliesTo Left docket c answer × TellsApplied answer text status

-- The same for a docket in memory, of which nothing is left.
abbrev pub RunsInMemory : Docket → List ℕ → Option (List ℕ) → Option (List ℕ) → Status → Type 0
RunsInMemory docket input before after Done = Appends before after (run_text docket input) × (bad_answers docket input ≡ 0)
RunsInMemory docket input before after SomeBad = Appends before after (run_text docket input) × (bad_answers docket input ≢ 0)
RunsInMemory docket input before after BadLine = ⊥
RunsInMemory docket input before after Failed =
    (mid : Option (List ℕ)) × HasFront before mid (run_text docket input) × (fault : RunFault) × AppendsFront mid after (last_line fault)

-- the lines in which a calendar has its deadlines
abbrev pub lines_of : Bool → DueForm
lines_of long = if long then Long else Calendar

-- what a job prints on the standard error where nothing was found that it was asked for
abbrev pub IfMissing : Job → Status → Option (List ℕ) → Option (List ℕ) → Type 0
IfMissing (job.Case file number) = SaysMissing no_such_case
IfMissing (job.Cases file label party) = SaysMissing no_such_case
IfMissing (job.Find file words) = SaysMissing no_such_case
IfMissing (job.Explain file case deadline) = SaysMissing no_such_deadline
IfMissing (job.Sheet file number) = SaysMissing no_such_case
IfMissing _ = λ status before after. Unit {0}

module _ {D : Type 0} {g : Ghosts D} where
  -- Where a job opened no files it failed; where it did, this holds, unless the disk was not honest.
  abbrev pub FailsOr : JobEnd D g → (Leftover D g → Type 0) → Type 0
  FailsOr end P = MatchOption end.left (TellsNothing (cow_str_bytes end.text) end.status) (λ left. IsCleanLeft left → P left)

  -- this holds where the job opened no files
  abbrev pub IfUnopened : JobEnd D g → Type 0 → Type 0
  IfUnopened end P = MatchOption end.left P (λ _. Unit {0})

  -- the answer to a question is printed, and the docket is left as it was
  abbrev pub TellsOf : Docket → (List ℕ → Status → Type 0) → JobEnd D g → Type 0
  TellsOf docket P end = FailsOr end (λ left. P (cow_str_bytes end.text) end.status × LeavesRows left (rows_told docket) (rows_told docket))

  -- a docket without any record is made where none was, of either version; or the job failed, and one that was there is left
  abbrev pub Makes : Image → CourtSettings → Leftover D g → List ℕ → Status → Type 0
  Makes files court left text Done = (text ≡ codes "created\n") × IsDocket court [] × LeavesRows left (docket_rows court []) (docket_rows court []) × HoldNone files
  Makes files court left text Failed = (text ≡ []) × ((v : Version) (rows : Rows) → HoldRows v files rows → Leaves left (IsImageIn v rows))
  Makes files court left text _ = ⊥

  -- a docket is taken from the first version of the tables to the second; or the job failed, and what is left is as of the fault
  abbrev pub Migrates : Docket → Leftover D g → List ℕ → Status → Type 0
  Migrates docket left text Done = (text ≡ codes "migrated\n") × MigratesTo left docket (Ok tt)
  Migrates docket left text Failed = (text ≡ []) × ((fault : MigrateFault) × MigratesTo left docket (Err fault))
  Migrates docket left text _ = ⊥

  -- Where no files were opened nothing is entered, and nothing is left to print; where some were, nothing went out before they are closed.
  abbrev pub AnswersLast : Option (List ℕ) → Option (List ℕ) → Option (List ℕ) → JobEnd D g → Type 0
  AnswersLast input before after end = MatchOption end.left (TellsFault input before after end.status × (cow_str_bytes end.text ≡ [])) (λ left. after ≡ before)

  -- the table of the input is entered by one command
  abbrev pub Imports : Docket → List ℕ → List ℕ → Leftover D g → List ℕ → Status → Type 0
  Imports docket key input left text status = (days : List NewDay) × IsTable input days × Applies (LeavesRows left) docket (import_command key days) text status

  -- what an entry would do is printed, and nothing is entered; or it is entered, and its reply goes out before the files are closed
  abbrev pub DoesEntry : Bool → Image → Entry → Option (List ℕ) → Option (List ℕ) → JobEnd D g → Type 0
  DoesEntry true files entry before after end = OfDocket files (λ docket. TellsOf docket (ShowsEntry docket entry) end) × (after ≡ before)
  DoesEntry false files entry before after end =
      IfUnopened end (after ≡ before)
      × OfDocket files (λ docket. FailsOr end (λ left. Enters (LeavesRows left) docket entry before after end.status))
      × (cow_str_bytes end.text ≡ [])

  -- long lines are printed; others go out before the files are closed
  abbrev pub DoesCalendar : Bool → Image → ℕ → ℕ → Option (List ℕ) → Option (List ℕ) → JobEnd D g → Type 0
  DoesCalendar true files from to before after end =
      OfDocket files (λ docket. TellsOf docket (TellsText (text_of_dues docket.court docket.history Long (Between from to))) end) × (after ≡ before)
  DoesCalendar false files from to before after end =
      IfUnopened end (after ≡ before) × OfDocket files (λ docket. TellsOf docket (HasTold (text_of_calendar docket.court docket.history from to) before after) end)

  -- what a job does: the files of its docket held this, its input and its output were these, and it ended so
  abbrev pub Does : Job → Image → Option (List ℕ) → Option (List ℕ) → Option (List ℕ) → JobEnd D g → Type 0
  Does job.Count files input before after end = IfSome input (λ bytes. Counts bytes before after end.status) × (cow_str_bytes end.text ≡ []) × (end.left ≡ None)
  Does (job.Holidays year) files input before after end = TellsText (holiday_text year) (cow_str_bytes end.text) end.status × (end.left ≡ None) × (after ≡ before)
  Does (job.CourtCalendar file from to) files input before after end =
      OfDocket files (λ docket. TellsOf docket (TellsText (court_calendar_text docket.court (standing_rows docket.history) from to)) end) × (after ≡ before)
  Does (job.RunInMemory court) files input before after end =
      IfSome input (λ bytes. RunsInMemory (new_docket court) bytes before after end.status) × (cow_str_bytes end.text ≡ []) × (end.left ≡ None)
  Does (job.Run file) files input before after end =
      IfUnopened end (after ≡ before) × OfDocket files (λ docket. IfSome input (λ bytes. FailsOr end (λ left. Runs (LeavesRows left) docket bytes before after end.status)))
  Does (job.Create file court) files input before after end = FailsOr end (λ left. Makes files court left (cow_str_bytes end.text) end.status) × (after ≡ before)
  Does (job.Rules None) files input before after end = TellsText (rules_text []) (cow_str_bytes end.text) end.status × (end.left ≡ None) × (after ≡ before)
  Does (job.Rules (Some file)) files input before after end =
      OfDocket files (λ docket. TellsOf docket (TellsText (rules_text (local_rule_rows docket.history))) end) × (after ≡ before)
  Does (job.Import file key) files input before after end =
      AnswersLast input before after end
      × OfDocket files (λ docket. IfSome input (λ bytes. IfSome end.left (λ left. IsCleanLeft left → Imports docket key.now bytes left (cow_str_bytes end.text) end.status)))
  Does (job.Enter file key show kind given) files input before after end =
      (entry : Entry) × IsEntry kind key given.items entry × DoesEntry show files entry before after end
  Does (job.Commands kind) files input before after end = TellsText (commands_text kind) (cow_str_bytes end.text) end.status × (end.left ≡ None) × (after ≡ before)
  Does (job.Case file number) files input before after end =
      OfDocket files (λ docket. TellsOf docket (TellsIfAny (text_of_case docket.court docket.history number)) end) × (after ≡ before)
  Does (job.Cases file label party) files input before after end =
      IfUnopened end (after ≡ before) × OfDocket files (λ docket. TellsOf docket (HasListed (cases_told docket.history (option_copied label) (option_copied party)) before after) end)
  Does (job.Find file words) files input before after end =
      OfDocket files (λ docket. TellsOf docket (TellsIfAny (text_of_found docket.history words.now)) end) × (after ≡ before)
  Does (job.Calendar file from to long) files input before after end = DoesCalendar long files from to before after end
  -- by what the clock shows: that says which day is today
  Does (job.CalendarOf file due long) files input before after end =
      ((clock : ℤ) × OfDocket files (λ docket. TellsOf docket (TellsText (text_of_dues docket.court docket.history (lines_of long) (By due clock))) end)) × (after ≡ before)
  Does (job.Explain file case deadline) files input before after end =
      OfDocket files (λ docket. TellsOf docket (TellsIfAny (text_of_reasons docket.court docket.history case deadline)) end) × (after ≡ before)
  -- the stamp is what the clock shows
  Does (job.Export file from to form) files input before after end =
      ((stamp : ℤ) × OfDocket files (λ docket. TellsOf docket (TellsText (text_of_dues docket.court docket.history (Export form stamp) (Between from to))) end)) × (after ≡ before)
  Does (job.Sheet file number) files input before after end =
      OfDocket files (λ docket. TellsOf docket (TellsIfAny (page_of_sheet docket.court docket.history number)) end) × (after ≡ before)
  Does job.ExplainLines files input before after end = IfSome input (λ bytes. Explains bytes before after end.status) × (cow_str_bytes end.text ≡ []) × (end.left ≡ None)
  Does (job.Check file) files input before after end = OfDocket files (λ docket. TellsOf docket (TellsText (check_text docket.court (holdings_in docket.court docket.history))) end) × (after ≡ before)
  -- no clause covers the bytes of another file: tests check that they are copied
  Does (job.Backup file to) files input before after end = OfDocket files (λ docket. TellsOf docket (TellsText (codes "copied\n")) end) × (after ≡ before)
  Does (job.Migrate file) files input before after end =
      ((docket : Docket) → IsDocket docket.court docket.history → MayHold First docket.history → HoldFirst files docket.court docket.history
      → FailsOr end (λ left. Migrates docket left (cow_str_bytes end.text) end.status)) × (after ≡ before)
  -- what a connection sends and gets is not known, so no clause says what went out to it
  Does (job.Serve file place count pages guard origin) files input before after end =
      OfDocket files (λ docket. FailsOr end (λ left. EndsServing docket (service_of place count pages guard origin) left end.status))
      × IfUnopened end (after ≡ before)
      × (cow_str_bytes end.text ≡ [])
