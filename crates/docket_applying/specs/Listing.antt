-- What the writing of a calendar leaves of a docket and of the writer.
use Rattle.std.specs.Prelude.{◌≡◌, ◌⊎◌, ℕ, List, [], ◌++◌, length, Option, Result, Ok, Err}
use Rattle.std.specs.Io.KnownBytes.{Appends}
use Rattle.sqlite.specs.Store.{Ghosts}
use Rattle.sqlite.specs.State.{HasCleanDisk}
use Rattle.sqlite.specs.Held.{state}
use Rattle.docket_history.specs.Histories.{History}
use Rattle.docket_calendar.specs.Calendar.{calendar_rows, text_of_calendar}
use Rattle.docket_calendar.specs.Sending.{HasBegun}
use Rattle.docket_applying.specs.Applying.{Stands, Asks}
use Rattle.docket_applying.specs.Dockets.{Docket}
use Rattle.docket_applying.specs.declared.fault.Fault.TheVariants.{StoreFailed}
use Rattle.docket_applying.specs.declared.listing.CalendarEnd.{CalendarEnd}
use Rattle.docket_applying.specs.declared.listing.CalendarEnd.TheVariants as calendar_end
use Rattle.docket_applying.specs.declared.listing.ListingEnd.{ListingEnd}
use Rattle.docket_applying.specs.declared.listing.ListingEnd.TheVariants as listing_end
use Rattle.line_io.specs.Output.{HasFront}

-- the database failed
abbrev pub HasBroken : Result ℕ ListingEnd → Type 0
HasBroken result = (result ≡ Err (listing_end.NotBegun StoreFailed)) ⊎ (result ≡ Err (listing_end.Broken StoreFailed))

module _ {S : Type 0} (g : Ghosts S) (d : Docket S) (h : History) (from to : ℕ) where
  -- some bytes, then the calendar of the range: all went out, with this many lines; or nothing did, or a front, which is not empty
  -- unless the writer failed. The docket is as after any question
  abbrev pub Lists : List ℕ → Option (List ℕ) → Option (List ℕ) → Result ℕ ListingEnd → Type 0
  Lists front before after (Ok lines) =
      Stands g d h
      × (HasCleanDisk (state g d.conn) → Appends before after (front ++ text_of_calendar d.court h from to) × (lines ≡ length (calendar_rows d.court h from to)))
  Lists front before after (Err (listing_end.NotBegun fault)) =
      Asks g d h (λ (lines : ℕ). ⊥) (Err fault) × (HasCleanDisk (state g d.conn) → Appends before after [])
  Lists front before after (Err (listing_end.Broken fault)) =
      Asks g d h (λ (lines : ℕ). ⊥) (Err fault) × (HasCleanDisk (state g d.conn) → HasBegun before after (front ++ text_of_calendar d.court h from to))
  Lists front before after (Err listing_end.WriteFailed) =
      Stands g d h × (HasCleanDisk (state g d.conn) → HasFront before after (front ++ text_of_calendar d.court h from to))

  -- the calendar alone
  abbrev pub ListsCalendar : Option (List ℕ) → Option (List ℕ) → Result ℕ CalendarEnd → Type 0
  ListsCalendar before after (Ok lines) =
      Stands g d h
      × (HasCleanDisk (state g d.conn) → Appends before after (text_of_calendar d.court h from to) × (lines ≡ length (calendar_rows d.court h from to)))
  ListsCalendar before after (Err (calendar_end.Store fault)) =
      Asks g d h (λ (lines : ℕ). ⊥) (Err fault) × (HasCleanDisk (state g d.conn) → HasFront before after (text_of_calendar d.court h from to))
  ListsCalendar before after (Err calendar_end.WriteFailed) =
      Stands g d h × (HasCleanDisk (state g d.conn) → HasFront before after (text_of_calendar d.court h from to))
