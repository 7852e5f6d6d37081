-- How much of a calendar's text goes out.
use Rattle.std.specs.Prelude.{◌≡◌, ◌≤◌, ◌⊎◌, ℕ, ◌+◌, ◌==◌, if◌then◌else◌, List, [], ◌++◌, length, take, slice_get, Bool, true, false, Option, Some, None, Result, Ok, Err}
use Rattle.std.specs.List.{flat_map}
use Rattle.std.specs.Io.KnownBytes.{Appends}
use Rattle.sqlite.specs.Order.{Row}
use Rattle.sqlite.specs.Store.{Ghosts}
use Rattle.sqlite.specs.State.{IsUnchanged, IsRolledBack}
use Rattle.sqlite.specs.Held.{Held, state}
use Rattle.court_days.specs.Court.{CourtSettings}
use Rattle.docket_history.specs.declared.record.DueRow.{DueRow}
use Rattle.docket_tables.specs.declared.fault.ReadFault.{ReadFault}
use Rattle.docket_tables.specs.declared.fault.ReadFault.TheVariants.{Store, NoMemory, Damaged}
use Rattle.docket_text.specs.CalendarTexts.{calendar_line, calendar_text, end_line}
use Rattle.line_io.specs.Output.{HasFront}
use Rattle.docket_calendar.specs.Asked.{Gave, RemainsAt}
use Rattle.docket_calendar.specs.declared.stop.Stop.{Stop}
use Rattle.docket_calendar.specs.declared.stop.Stop.TheVariants.{NotBegun, Broken, WriteFailed}

-- the line of a deadline; where there is none, the last line
abbrev pub line_text : CourtSettings → ℕ → Option DueRow → List ℕ
line_text court lines (Some due) = calendar_line court due
line_text court lines None = end_line lines

-- the deadline of line n; none where there are n
abbrev pub IsAt : List DueRow → ℕ → Option DueRow → Type 0
IsAt listed n (Some due) = slice_get listed n ≡ Some due
IsAt listed n None = length listed ≡ n

-- what goes out with line n: before the first, the bytes in front of the text
abbrev pub opening : List ℕ → ℕ → List ℕ
opening front n = if n == 0 then front else []

-- what went out before line n
abbrev pub sent : CourtSettings → List ℕ → List DueRow → ℕ → List ℕ
sent court front listed n = if n == 0 then [] else front ++ flat_map (calendar_line court) (take n listed)

-- a front of the text went out, and it is not empty
pub record HasBegun (before after : Option (List ℕ)) (text : List ℕ) : Type 0 where
  pub front : HasFront before after text
  pub begun : 1 ≤ length front.out

module _ {S : Type 0} (g : Ghosts S) where
  -- what a fault of the question leaves of the connection: it is as it was, unless the store failed
  abbrev pub LeavesAt : Held S → Held S → ReadFault → Type 0
  LeavesAt old new (Store e) = IsUnchanged (state g old) (state g new) ⊎ IsRolledBack (state g old) (state g new)
  LeavesAt old new NoMemory = IsUnchanged (state g old) (state g new)
  LeavesAt old new Damaged = ⊥

  -- line n goes out, or the last line; `true` where a line may follow
  abbrev pub SendsNext : List ℕ → Row → CourtSettings → List DueRow → ℕ → List ℕ → Option (List ℕ) → Option (List ℕ) → Held S → Held S → Result Bool Stop → Type 0
  SendsNext sql params court listed n front before after old new (Ok true) =
      IsUnchanged (state g old) (state g new) × ((due : DueRow) × (slice_get listed n ≡ Some due) × Appends before after (front ++ calendar_line court due)) × Gave g sql params court listed (n + 1) new
  SendsNext sql params court listed n front before after old new (Ok false) =
      IsUnchanged (state g old) (state g new) × (length listed ≡ n) × Appends before after (front ++ end_line n)
  SendsNext sql params court listed n front before after old new (Err (NotBegun fault)) = (n ≡ 0) × Appends before after [] × LeavesAt old new fault
  SendsNext sql params court listed n front before after old new (Err (Broken fault)) = (1 ≤ n) × Appends before after [] × LeavesAt old new fault
  SendsNext sql params court listed n front before after old new (Err WriteFailed) =
      IsUnchanged (state g old) (state g new) × ((due : Option DueRow) × IsAt listed n due × HasFront before after (front ++ line_text court n due))

  -- the text went out whole behind the front, with so many lines; or nothing did, or a front of it all
  abbrev pub SendsAll : CourtSettings → List DueRow → List ℕ → Option (List ℕ) → Option (List ℕ) → Held S → Held S → Result ℕ Stop → Type 0
  SendsAll court listed front before after old new (Ok lines) =
      IsUnchanged (state g old) (state g new) × Appends before after (front ++ calendar_text court listed) × (lines ≡ length listed)
  SendsAll court listed front before after old new (Err (NotBegun fault)) = Appends before after [] × LeavesAt old new fault
  SendsAll court listed front before after old new (Err (Broken fault)) = HasBegun before after (front ++ calendar_text court listed) × LeavesAt old new fault
  SendsAll court listed front before after old new (Err WriteFailed) = HasFront before after (front ++ calendar_text court listed) × IsUnchanged (state g old) (state g new)

  -- what the writing of any question's rows leaves of the connection if it stops
  abbrev pub RemainsStopped : Held S → Held S → Stop → Type 0
  RemainsStopped old new (NotBegun fault) = RemainsAt g old new fault
  RemainsStopped old new (Broken fault) = RemainsAt g old new fault
  RemainsStopped old new WriteFailed = IsUnchanged (state g old) (state g new)

  -- and wherever it ends
  abbrev pub Remains : {X : Type 0} → Held S → Held S → Result X Stop → Type 0
  Remains old new (Ok x) = IsUnchanged (state g old) (state g new)
  Remains old new (Err stop) = RemainsStopped old new stop
