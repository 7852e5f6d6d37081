-- Rows of short days that come one after another: as rows of a calendar, beside those of the other table.
use Rattle.std.proofs.Common.{◌≡◌, ◌∙◌, ◌≢◌, ℕ, ◌+◌, ◌≤◌, nat_lt, not, true, false, IsTrue, List, [], ◌∷◌, ◌++◌, map, length, Err, refl, sym, ap, subst, arith}
use Rattle.std.proofs.lemmas.Bool.{and_parts, false≢true, not-true}
use Rattle.std.proofs.lemmas.Bool.Decides.{nat_tests}
use Rattle.std.proofs.lemmas.List.{length-append, length-map, map-append}
use Rattle.std.specs.List.{AllByRecursion}
use Rattle.sqlite_trees.proofs.ListLemmas.{map-map, all-map, all_from_map, all-append}
use Rattle.court_days.specs.Calendar.{Entered, rows_of, no_days}
use Rattle.court_days.specs.Court.{CourtSettings}
use Rattle.court_days.specs.declared.calendar.CalendarFault.{CalendarFault}
use Rattle.court_days.specs.declared.calendar.CalendarFault.TheVariants as fault
use Rattle.docket_history.specs.CalendarItems.{with_item}
use Rattle.docket_history.specs.ShortDays.{calendar_row}
use Rattle.docket_history.specs.declared.item.CalendarItem.TheVariants.{Short}
use Rattle.docket_history.specs.declared.row.CalendarRow.{CalendarRow}
use Rattle.docket_history.specs.declared.row.ShortDayRow.{ShortDayRow}
use Rattle.docket_decisions.proofs.ListLemmas.{all_later}
use Rattle.docket_sound.specs.Calendars.{is_sound_row, IsGiven, AreSoundCalendarRows, stands, Enters, last_of, HasEntered}
use Rattle.docket_sound.specs.Numbers.{Rises}
use Rattle.docket_sound.specs.ShortDays.{numbers_of, is_among, AreSoundShortDays, has_place, may_be_next, HasTakenShortDays}
use Rattle.docket_sound.specs.declared.short_day.ShortDayCheck.{ShortDayCheck}
use Rattle.docket_sound.proofs.CalendarLemmas.{row_fails, row_twice, row_faulty, row_taken, none_entered}

-- some court whose office closes then
abbrev pub closing : ℕ → CourtSettings
closing close = record { zone_text = []; close_minute = close }

pub numbers_alike : (rows : List ShortDayRow) → map (λ (r : CalendarRow). r.number) (map calendar_row rows) ≡ numbers_of rows
numbers_alike rows = map-map (λ (r : CalendarRow). r.number) calendar_row rows

module _ (close next_row : ℕ) (calendar : List ℕ) (rows : List ShortDayRow) where
  pub as_calendar : AreSoundShortDays close next_row calendar rows → AreSoundCalendarRows (closing close) next_row (map calendar_row rows)
  as_calendar sound = record {
    rising = subst Rises (sym (numbers_alike rows)) sound.rising;
    given = all-map (λ (r : CalendarRow). IsGiven next_row r.number) calendar_row rows sound.given;
    apart = sound.apart;
    few = omega (arith, sound.few, length-map rows calendar_row);
    within = all-map (λ (r : CalendarRow). IsTrue (is_sound_row (closing close) r)) calendar_row rows sound.within;
  }

  pub from_calendar : AreSoundCalendarRows (closing close) next_row (map calendar_row rows) → AllByRecursion (λ row. is_among calendar row.number ≡ false) rows
      → length calendar + length rows ≤ 4000 → AreSoundShortDays close next_row calendar rows
  from_calendar sound others few = record {
    rising = subst Rises (numbers_alike rows) sound.rising;
    given = all_from_map (λ (r : CalendarRow). IsGiven next_row r.number) calendar_row rows sound.given;
    others = others;
    apart = sound.apart;
    few = few;
    within = all_from_map (λ (r : CalendarRow). IsTrue (is_sound_row (closing close) r)) calendar_row rows sound.within;
  }

module _ (check : ShortDayCheck) (rows : List ShortDayRow) (row : ShortDayRow) (has : HasTakenShortDays check rows) where
  abbrev court : CourtSettings
  court = closing check.close

  entered : HasEntered court check.next_row check.last check.days (map calendar_row rows)
  entered = record {
    highest = has.last ∙ sym (ap (last_of 0) (numbers_alike rows));
    calendar = has.days;
    standing = has.standing;
    counted = has.counted ∙ sym (length-map rows calendar_row);
    sound = as_calendar check.close check.next_row check.calendar.items rows has.sound;
  }

  abbrev AreSound : List ShortDayRow → Type 0
  AreSound more = AreSoundShortDays check.close check.next_row check.calendar.items (rows ++ row ∷ more)

  as_more : (more : List ShortDayRow) → AreSound more → AreSoundCalendarRows court check.next_row (map calendar_row rows ++ calendar_row row ∷ map calendar_row more)
  as_more more all =
      subst (AreSoundCalendarRows court check.next_row) (map-append calendar_row rows (row ∷ more))
      (as_calendar check.close check.next_row check.calendar.items (rows ++ row ∷ more) all)

  pub short_fails : (more : List ShortDayRow) → may_be_next check row ≡ false → AreSound more → ⊥
  short_fails more fail all =
      row_fails court check.next_row check.last check.days (map calendar_row rows) (calendar_row row) entered (map calendar_row more) fail (as_more more all)

  pub short_has_no_place : (more : List ShortDayRow) → has_place check row ≡ false → AreSound more → ⊥
  short_has_no_place more fail all =
      let free : is_among check.calendar.items row.number ≡ false = (all_later (λ (r : ShortDayRow). is_among check.calendar.items r.number ≡ false) rows (row ∷ more) all.others).0 in
      let room : nat_lt (length check.calendar.items + rows_of check.days) 4000 ≡ true = grind (arith, nat_tests, has.counted, all.few, length-append rows (row ∷ more)) in
      let passes : has_place check row ≡ true = rw (free, room) refl in
      false≢true (sym fail ∙ passes)

  pub short_twice : (more : List ShortDayRow) → stands check.days (Short row.day row.close) ≡ true → AreSound more → ⊥
  short_twice more stood all =
      row_twice court check.next_row check.last check.days (map calendar_row rows) (calendar_row row) entered (map calendar_row more) stood (as_more more all)

  pub short_faulty : (new : Entered) (why : CalendarFault) (more : List ShortDayRow) → may_be_next check row ≡ true → Enters check.days (Short row.day row.close) new (Err why)
      → why ≢ fault.NoMemory → AreSound more → ⊥
  short_faulty new why more pass enters other all =
      row_faulty court check.next_row check.last check.days (map calendar_row rows) (calendar_row row) entered new why (map calendar_row more) pass enters other (as_more more all)

  pub short_taken : (days : Entered) → stands check.days (Short row.day row.close) ≡ false → days ≡ with_item check.days (Short row.day row.close) → rows_of days ≤ 4000
      → may_be_next check row ≡ true → has_place check row ≡ true → HasTakenShortDays (record check { last = row.number; days = days }) (rows ++ row ∷ [])
  short_taken days none grown room pass place =
      let place_parts = and_parts (not (is_among check.calendar.items row.number)) (nat_lt (length check.calendar.items + rows_of check.days) 4000) place in
      let free : is_among check.calendar.items row.number ≡ false = not-true (is_among check.calendar.items row.number) place_parts.0 in
      let few : length check.calendar.items + length (rows ++ row ∷ []) ≤ 4000 =
      grind (arith, nat_tests, place_parts.1, has.counted, length-append rows (row ∷ [])) in
      let all : HasEntered court check.next_row row.number days (map calendar_row (rows ++ row ∷ [])) =
      subst (HasEntered court check.next_row row.number days) (sym (map-append calendar_row rows (row ∷ [])))
      (row_taken court check.next_row check.last check.days (map calendar_row rows) (calendar_row row) entered days none grown room pass) in
      record {
        risen = has.risen;
        last = all.highest ∙ ap (last_of 0) (numbers_alike (rows ++ row ∷ []));
        days = all.calendar;
        standing = all.standing;
        counted = all.counted ∙ length-map (rows ++ row ∷ []) calendar_row;
        sound = from_calendar check.close check.next_row check.calendar.items (rows ++ row ∷ []) all.sound
            (all-append (λ (r : ShortDayRow). is_among check.calendar.items r.number ≡ false) rows (row ∷ []) has.sound.others (free, tt)) few;
      }

pub none_short : (check : ShortDayCheck) → check.last ≡ 0 → check.days ≡ no_days → length check.calendar.items ≤ 4000 → Rises check.calendar.items → HasTakenShortDays check []
none_short check last empty few risen =
    let none = none_entered (closing check.close) check.next_row check.days empty in
    record {
      risen = risen;
      last = last;
      days = none.calendar;
      standing = none.standing;
      counted = none.counted;
      sound = from_calendar check.close check.next_row check.calendar.items [] none.sound tt (omega (arith, few));
    }
