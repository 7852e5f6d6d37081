-- Where no refusal applies, no refusal's sentence is true; and what follows from it.
use Rattle.std.proofs.Common.{◌≡◌, ◌≢◌, ℕ, ◌+◌, ◌≤◌, ◌<◌, Bool, true, false, ◌||◌, Option, Some, None, List, [], ◌∷◌, length, refl, subst, arith}
use Rattle.std.specs.Prelude.{nat_lt, nat_le, slice_get, is_some, ◌&&◌, if◌then◌else◌, IfSome}
use Rattle.std.specs.Option.{option_and_then, option_map_or}
use Rattle.std.specs.List.{All, list_all}
use Rattle.std.proofs.lemmas.Bool.Decides.{nat_tests}
use Rattle.std.proofs.lemmas.Bool.{and_parts, or_parts}
use Rattle.std.proofs.lemmas.List.Elements.{All-get_or}
use Rattle.std.proofs.lemmas.Option.{get_or_from_slice_get, slice_get_within}
use Rattle.court_days.specs.Court.{CourtSettings, zone_of}
use Rattle.court_rules.specs.Acts.{acts_ok, is_within}
use Rattle.court_rules.specs.Standings.{AreActs}
use Rattle.court_rules.specs.declared.act.Act.{Act}
use Rattle.docket_command.specs.declared.command.Action.{Action}
use Rattle.docket_command.specs.declared.command.Command.{Command}
use Rattle.docket_command.specs.declared.field.Field.{Field}
use Rattle.docket_command.specs.declared.refusal.Refusal.{Refusal}
use Rattle.docket_history.specs.Actions.{CalendarWork, enters, imports, shortens, withdraws, Work, on_calendar, opens, enters_rule, in_case, FoundRule, work, calendar_in, case_in, rows_of_work, entered_by, short_row, made_by, may_enter, deadlines_made, asks_next_row}
use Rattle.docket_history.specs.CalendarItems.{fresh, stands_among}
use Rattle.docket_decisions.specs.Decisions.{IsSoundView}
use Rattle.docket_decisions.specs.Refusals.{on, on_value, first_some, refusals, refusal_of, lacks_case, lacks_deadline, lacks_local_rule, exists_by, exists_already, is_not_open, is_not_awaiting, is_full_by, is_full, is_calendar_full, has_too_many_acts, count_added}
use Rattle.docket_values.specs.Values.{first_bad, bad_values}
use Rattle.docket_history.specs.Views.{count_deadlines, deadline_shown, acts_in}
use Rattle.docket_history.specs.declared.item.CalendarItem.TheVariants.{Short}
use Rattle.docket_history.specs.declared.item.NewRow.{NewRow}
use Rattle.docket_history.specs.declared.row.NewDeadline.{NewDeadline}
use Rattle.docket_history.specs.declared.view.DeadlineView.{DeadlineView}
use Rattle.docket_history.specs.declared.view.View.{View}

abbrev AreNone : List (Option Refusal) → Type 0
AreNone [] = Unit {0}
AreNone (r ∷ rs) = (r ≡ None) × AreNone rs

none_of : (rs : List (Option Refusal)) → first_some rs ≡ None → AreNone rs
none_of [] e = tt
none_of (Some r ∷ rs) e = absurd (cc)
none_of (None ∷ rs) e = (refl, none_of rs e)

off : (b : Bool) (r : Refusal) → on b r ≡ None → b ≡ false
off true r e = absurd (cc)
off false r e = refl

good_values : (f : Option Field) → on_value f ≡ None → f ≡ None
good_values None e = refl
good_values (Some f) e = absurd (cc)

-- what a command that is not refused may rely on
pub record IsFree (court : CourtSettings) (v : View) (c : Command) : Type 0 where
  pub values : first_bad (bad_values court c.action) ≡ None
  pub case : lacks_case v c.action ≡ false
  pub deadline : lacks_deadline v c.action ≡ false
  pub rule : lacks_local_rule v c.action ≡ false
  pub new : exists_already v c.action ≡ false
  pub opened : is_not_open court v c.action ≡ false
  pub awaited : is_not_awaiting court v c.action ≡ false
  pub room : is_full v c.action ≡ false

pub is_free : (court : CourtSettings) (v : View) (c : Command) → refusal_of court v c ≡ None → IsFree court v c
is_free court v c e =
    let all = none_of (refusals court v c) e in
    record {
      values = good_values _ all.1.1.0;
      case = off _ _ all.1.1.1.0;
      deadline = off _ _ all.1.1.1.1.1.0;
      rule = off _ _ all.1.1.1.1.1.1.1.0;
      new = off _ _ all.1.1.1.1.1.1.1.1.0;
      opened = off _ _ all.1.1.1.1.1.1.1.1.1.0;
      awaited = off _ _ all.1.1.1.1.1.1.1.1.1.1.0;
      room = off _ _ all.1.1.1.1.1.1.1.1.1.1.1.1.1.1.1.1.1.1.1.1.0;
    }

pub not_above : (m n : ℕ) → nat_lt m n ≡ false → n ≤ m
not_above m n e = grind (arith, nat_tests)

pub not_at : (m n : ℕ) → nat_le m n ≡ false → n < m
not_at m n e = grind (arith, nat_tests)

-- the numbers of new calendar rows fit
pub rows_fit : (v : View) (a : Action) → is_full v a ≡ false → v.next_row ≤ 4_294_967_296 → v.next_row + count_added v a ≤ 4_294_967_296
rows_fit v a e was = at (work a) e
  where
    at : (w : Work) → is_full_by v a w ≡ false → v.next_row + length (fresh v.calendar (option_map_or rows_of_work (calendar_in w) [])) ≤ 4_294_967_296
    at (on_calendar (enters row)) e = not_above _ _ (or_parts _ _ e).1
    at (on_calendar (imports rows)) e = not_above _ _ (or_parts _ _ e).1
    at (on_calendar (shortens short)) e = not_above _ _ (or_parts _ _ e).1
    at (on_calendar (withdraws number)) e = omega arith
    at (opens case) e = omega arith
    at (enters_rule rule) e = omega arith
    at (in_case work) e = omega arith

-- a row that is new is added
pub one_row : (b : Bool) (new : NewRow) → b ≡ false → length (if b then [] else new ∷ []) ≡ 1
one_row true new e = absurd (cc)
one_row false new e = refl

number_fits : (v : View) (added : ℕ) → is_calendar_full v added ≡ false → v.next_row + added ≤ 4_294_967_296
number_fits v added room = not_above _ _ (or_parts _ _ room).1

-- so does the number of a single one
pub row_fits : (v : View) (w : Work) → is_some (option_and_then entered_by (calendar_in w)) ≡ true → exists_by v w ≡ false → (a : Action) → is_full_by v a w ≡ false → v.next_row < 4_294_967_296
row_fits v (on_calendar (enters row)) is new a room = omega (arith, one_row (stands_among v.calendar row.item) row new, number_fits v (length (fresh v.calendar (row ∷ []))) room)
row_fits v (on_calendar (imports rows)) is new a room = absurd (let no = is in cc)
row_fits v (on_calendar (shortens short)) is new a room = omega (arith, one_row (stands_among v.calendar (Short short.day short.close)) (short_row short) new, number_fits v (length (fresh v.calendar (short_row short ∷ []))) room)
row_fits v (on_calendar (withdraws number)) is new a room = absurd (let no = is in cc)
row_fits v (opens case) is new a room = absurd (let no = is in cc)
row_fits v (enters_rule rule) is new a room = absurd (let no = is in cc)
row_fits v (in_case done) is new a room = absurd (let no = is in cc)

-- where rows may be added, there is room for them
pub calendar_room : (v : View) (a : Action) → is_full v a ≡ false → asks_next_row a ≡ true → is_calendar_full v (count_added v a) ≡ false
calendar_room v a e asked = at (work a) e asked
  where
    by_work : (work : CalendarWork) → (may_enter work && is_calendar_full v (length (fresh v.calendar (rows_of_work work)))) ≡ false → may_enter work ≡ true → is_calendar_full v (length (fresh v.calendar (rows_of_work work))) ≡ false
    by_work (enters row) e asked = e
    by_work (imports rows) e asked = e
    by_work (shortens short) e asked = e
    by_work (withdraws number) e asked = absurd (let no = asked in cc)

    at : (w : Work) → is_full_by v a w ≡ false → option_map_or may_enter (calendar_in w) false ≡ true → is_calendar_full v (length (fresh v.calendar (option_map_or rows_of_work (calendar_in w) []))) ≡ false
    at (on_calendar work) e asked = by_work work e asked
    at (opens case) e asked = absurd (let no = asked in cc)
    at (enters_rule rule) e asked = absurd (let no = asked in cc)
    at (in_case work) e asked = absurd (let no = asked in cc)

-- so do those of new deadlines
pub deadlines_fit : (v : View) (a : Action) → is_full v a ≡ false → deadlines_made v.local a ≢ [] → count_deadlines v.case + length (deadlines_made v.local a) ≤ 1000
deadlines_fit v a e some = at (work a) e some
  where
    by_made : (rest : Bool) (o : Option (FoundRule → List NewDeadline))
        → (if is_some o then has_too_many_acts v a || nat_lt 1000 (count_deadlines v.case + length (option_map_or (λ make. make v.local) o [])) else rest) ≡ false
        → option_map_or (λ make. make v.local) o [] ≢ [] → count_deadlines v.case + length (option_map_or (λ make. make v.local) o []) ≤ 1000
    by_made rest None e some = absurd (some refl)
    by_made rest (Some make) e some = not_above _ _ (or_parts (has_too_many_acts v a) _ e).1

    at : (w : Work) → is_full_by v a w ≡ false → option_map_or (made_by v.local) (case_in w) [] ≢ [] → count_deadlines v.case + length (option_map_or (made_by v.local) (case_in w) []) ≤ 1000
    at (on_calendar work) e some = absurd (some refl)
    at (opens case) e some = absurd (some refl)
    at (enters_rule rule) e some = absurd (some refl)
    at (in_case work) e some = by_made _ work.deadlines e some

-- what holds of all elements holds of one
pub one_of_all : {X : Type 0} (P : X → Type 0) (xs : List X) (i : ℕ) (x : X) → All P xs → slice_get xs i ≡ Some x → P x
one_of_all P xs i x all e = subst P (get_or_from_slice_get xs i x x e) (All-get_or P xs i x (slice_get_within xs i x e) all)

-- lawful acts are at most a hundred
pub few_acts : (acts : List Act) → acts_ok acts ≡ true → length acts ≤ 100
few_acts acts e =
    let lengths = (and_parts (nat_le 1 (length acts) && nat_le (length acts) 100) (list_all is_within acts) (and_parts ((nat_le 1 (length acts) && nat_le (length acts) 100) && list_all is_within acts) _ e).0).0 in
    let most : nat_le (length acts) 100 ≡ true = (and_parts (nat_le 1 (length acts)) _ lengths).1 in
    grind (arith, nat_tests)

-- the acts of a deadline that is shown
module _ (court : CourtSettings) (v : View) (sound : IsSoundView court v) where
  few_in : (o : Option DeadlineView) → IfSome o (λ d. AreActs (zone_of court) d.acts) → length (acts_in o) ≤ 100
  few_in None lawful = omega arith
  few_in (Some d) lawful = few_acts d.acts lawful.0

  pub few_shown : length (acts_in (deadline_shown v)) ≤ 100
  few_shown = few_in (deadline_shown v) sound.acts
