-- What is kept of the tables that were checked, for those behind them.
use Rattle.std.specs.Prelude.{◌≡◌, ◌⊎◌, ℕ, List, [], length, map}
use Rattle.std.specs.List.{AllByRecursion}
use Rattle.sqlite.specs.Held.{Held, state}
use Rattle.sqlite.specs.State.{State, HasCleanDisk, IsUnchanged}
use Rattle.sqlite.specs.Store.{Ghosts}
use Rattle.court_days.specs.Court.{CourtSettings, zone_of}
use Rattle.docket_history.specs.CalendarItems.{calendar_of}
use Rattle.docket_history.specs.Histories.{items_of}
use Rattle.docket_history.specs.declared.row.CalendarRow.{CalendarRow}
use Rattle.docket_history.specs.declared.row.ShortDayRow.{ShortDayRow}
use Rattle.docket_columns.specs.declared.version.Version.{Version}
use Rattle.docket_columns.specs.declared.version.Version.TheVariants.{Second}
use Rattle.docket_sound.specs.Counted.{HasNumbered, cases_of}
use Rattle.docket_sound.specs.Deadlines.{deadline_key, parties_of}
use Rattle.docket_sound.specs.Dues.{dues_of}
use Rattle.docket_sound.specs.Parties.{party_key}
use Rattle.docket_sound.specs.ShortDays.{GoesBy, HasTakenShortDays}
use Rattle.docket_sound.specs.declared.known_texts.KnownTexts.{KnownTexts}
use Rattle.docket_sound.specs.declared.short_day.ShortDayCheck.{ShortDayCheck}
use Rattle.docket_scan.specs.Holdings.{holdings_of}
use Rattle.docket_scan.specs.Judging.{FailsAt, Holds, Rows, before}
use Rattle.docket_scan.specs.Names.{AreKnown, AreNamesFor}
use Rattle.docket_scan.specs.Records.{count_in}
use Rattle.docket_scan.specs.declared.fault.AdoptFault.{AdoptFault}
use Rattle.docket_scan.specs.declared.holdings.Holdings.{Holdings}
use Rattle.docket_scan.specs.declared.reading.ActsRead.{ActsRead}
use Rattle.docket_scan.specs.declared.reading.EndsRead.{EndsRead}
use Rattle.docket_scan.specs.declared.reading.LastRead.{LastRead}
use Rattle.docket_scan.specs.declared.reading.TablesRead.{TablesRead}
use Rattle.docket_tables.specs.declared.table.Table.{Table}
use Rattle.docket_tables.specs.declared.table.Table.TheVariants as table

module _ {S : Type 0} (g : Ghosts S) where
  -- nothing was done on a connection since, or nothing was changed
  abbrev pub IsStill : Held S → Held S → Type 0
  IsStill first now = (now ≡ first) ⊎ IsUnchanged (state g first) (state g now)

  -- nothing was done or changed, and these are the local names that stand in the table of local rules
  pub record AreNamed (v : Version) (first now : Held S) (read : KnownTexts) : Type 0 where
    pub still : IsStill first now
    pub names : List (List ℕ)
    pub named : AreNamesFor v (state g now) names
    pub known : AreKnown read names

  -- the local names were read
  abbrev pub NamesBefore : Version → Held S → Held S → KnownTexts → Type 0
  NamesBefore v first now read = HasCleanDisk (state g now) → AreNamed v first now read

-- the check of short days uses the court and these rows of the calendar, and no short day was read yet
pub record IsReady (court : CourtSettings) (next : ℕ) (calendar : List CalendarRow) (short_days : List ShortDayRow) (check : ShortDayCheck) : Type 0 where
  pub unread : short_days ≡ []
  pub none : HasTakenShortDays check []
  pub goes : GoesBy check court.close_minute next (map (λ row. row.number) calendar)

-- this is kept of the rows of the tables before that of deadlines: the court that was given, the calendar of the rows, the local
-- names, and how many rows each table and each case has; of local rules none was read yet
pub record Says (settings : CourtSettings) (next : ℕ) (r : Rows) (read : TablesRead) : Type 0 where
  pub court : read.court ≡ settings
  pub calendar : read.calendar ≡ calendar_of (items_of r.calendar)
  pub short_days : IsReady settings next r.calendar r.short_days read.short_days
  pub unread : r.local_rules ≡ []
  pub names : AreKnown read.names r.names
  pub cases : read.cases ≡ length r.cases
  pub parties : parties_of read.parties ≡ count_in (map party_key r.parties)
  pub held : read.held ≡ holdings_of settings r

-- behind the deadlines: how many of them each case has
pub record SaysActs (settings : CourtSettings) (next : ℕ) (r : Rows) (read : ActsRead) : Type 0 where
  pub court : read.court ≡ settings
  pub calendar : read.calendar ≡ calendar_of (items_of r.calendar)
  pub short_days : IsReady settings next r.calendar r.short_days read.short_days
  pub unread : r.local_rules ≡ []
  pub cases : cases_of read.deadlines ≡ length r.cases
  pub deadlines : HasNumbered read.deadlines (map deadline_key r.deadlines)
  pub held : read.held ≡ holdings_of settings r

-- behind the acts: the ends of the running deadlines, by the rows of acts and the days and spans of the table of the calendar
pub record SaysEnds (court : CourtSettings) (next : ℕ) (r : Rows) (read : EndsRead) : Type 0 where
  pub short_days : IsReady court next r.calendar r.short_days read.short_days
  pub unread : r.local_rules ≡ []
  pub ends : read.ends.items ≡ dues_of (zone_of court) (calendar_of (items_of r.calendar)) r.acts
  pub held : read.held ≡ holdings_of court r

-- behind the ends
pub record SaysLast (court : CourtSettings) (next : ℕ) (r : Rows) (read : LastRead) : Type 0 where
  pub short_days : IsReady court next r.calendar r.short_days read.short_days
  pub unread : r.local_rules ≡ []
  pub held : read.held ≡ holdings_of court r

-- since a first state nothing was changed, and the tables of the version before one hold these rows, which are sound, and of which
-- this is so
pub record AreRead (v : Version) (t : Table) (first : State) (court : CourtSettings) (next : ℕ) (s : State) (Said : Rows → Type 0) : Type 0 where
  pub same : IsUnchanged first s
  pub rows : Rows
  pub named : AreNamesFor v first rows.names
  pub sound : AllByRecursion (Holds v first court next rows) (before t)
  pub said : Said rows

-- the tables before one, up to that of deadlines, were checked and are sound
abbrev pub ReadBefore : Version → Table → State → CourtSettings → ℕ → State → TablesRead → Type 0
ReadBefore v t first court next s read = HasCleanDisk s → AreRead v t first court next s (λ r. Says court next r read)

-- those before the acts were checked and are sound
abbrev pub ActsBefore : Version → State → CourtSettings → ℕ → State → ActsRead → Type 0
ActsBefore v first court next s read = HasCleanDisk s → AreRead v table.Acts first court next s (λ r. SaysActs court next r read)

-- those before one that stands behind the acts were checked and are sound
abbrev pub EndsBefore : Version → Table → State → CourtSettings → ℕ → State → EndsRead → Type 0
EndsBefore v t first court next s read = HasCleanDisk s → AreRead v t first court next s (λ r. SaysEnds court next r read)

-- those before the short days were checked and are sound
abbrev pub LastBefore : Version → State → CourtSettings → ℕ → State → LastRead → Type 0
LastBefore v first court next s read = HasCleanDisk s → AreRead v table.ShortDays first court next s (λ r. SaysLast court next r read)

-- those before the local rules were checked and are sound: how much they hold
abbrev pub HeldBefore : State → CourtSettings → ℕ → State → Holdings → Type 0
HeldBefore first court next s held = HasCleanDisk s → AreRead Second table.LocalRules first court next s (λ r. held ≡ holdings_of court r)

-- the first unsound table of the version is reported
abbrev pub FailsOver : Version → State → CourtSettings → ℕ → State → AdoptFault → Type 0
FailsOver v first court next s fault = HasCleanDisk s → FailsAt v court next first s fault
