-- A docket in a database, as contracts see it.
use Rattle.std.specs.Prelude.{Bool, false, List, Option, None, refl}
use Rattle.std.specs.Coded.{Coded, code_by, coded×, coded_bool, coded_option}
use Rattle.sqlite.specs.Held.{Held, held_code}
use Rattle.sqlite.specs.contracts.error.Error as error
use Rattle.sqlite.specs.declared.error.Error.{Error}
use Rattle.court_days.specs.Court.{CourtSettings}
use Rattle.court_days.specs.contracts.court.Court as court
use Rattle.docket_history.specs.contracts.standing.StandingCalendar as standing
use Rattle.docket_history.specs.declared.item.CalendarItem.{CalendarItem}

-- its connection and its court; whether the database failed under it, and by which error; and the calendar, where it is kept beside the
-- connection
pub record Docket (S : Type 0) : Type 0 where
  pub conn : Held S
  pub court : CourtSettings
  pub closed : Bool
  pub closed_by : Option Error
  pub calendar : Option (List CalendarItem)

abbrev pub docket_code : {S : Type 0} → Coded S → Coded (Docket S)
docket_code {S} store =
    code_by (Held S × (CourtSettings × (Bool × (Option Error × Option (List CalendarItem)))))
    (coded× (held_code store) (coded× court.the_row.coded (coded× coded_bool (coded× (coded_option error.the_row.coded) (coded_option standing.the_row.coded)))))
    (λ d. (d.conn, (d.court, (d.closed, (d.closed_by, d.calendar)))))
    (λ p. record { conn = p.0; court = p.1.0; closed = p.1.1.0; closed_by = p.1.1.1.0; calendar = p.1.1.1.1 })
    (λ _. refl)

-- a docket that is not closed
abbrev pub serving : {S : Type 0} → Held S → CourtSettings → Option (List CalendarItem) → Docket S
serving conn court calendar = record { conn = conn; court = court; closed = false; closed_by = None; calendar = calendar }
