-- What is tested of a view makes it sound, and a sound view passes.
use Rattle.std.proofs.Common.{◌≡◌, ◌≤◌, ℕ, Bool, true, false, ◌||◌, ◌<◌, Option, Some, None, List, [], ◌∷◌, length, refl, ap, arith}
use Rattle.std.specs.Prelude.{nat_lt, nat_le, ◌&&◌, IfSome}
use Rattle.std.specs.List.{All, list_all}
use Rattle.std.proofs.lemmas.Bool.Decides.{nat_tests}
use Rattle.std.proofs.lemmas.Bool.{and_from, and_parts}
use Rattle.std.proofs.lemmas.List.Elements.{All-nil, All-cons, All-head, All-tail}
use Rattle.civil_time.specs.Zone.{ZoneRules}
use Rattle.court_days.specs.Civil.{IsEnteredDay}
use Rattle.court_days.specs.Court.{CourtSettings, zone_of}
use Rattle.court_rules.specs.Acts.{acts_ok, is_within, is_instant, is_entered_day}
use Rattle.court_rules.specs.LocalRules.{is_local_rule}
use Rattle.court_rules.specs.Standings.{AreActs, begins_on_entered_day}
use Rattle.court_rules.specs.declared.act.Act.{Act}
use Rattle.court_rules.specs.declared.act.Act.TheVariants as act
use Rattle.court_rules.specs.declared.act.Start.TheVariants as start
use Rattle.court_rules.specs.declared.local_rule.LocalRule.{LocalRule}
use Rattle.docket_history.specs.CalendarItems.{IsEnteredItem}
use Rattle.docket_decisions.specs.Decisions.{IsSoundView}
use Rattle.docket_decisions.specs.Refusals.{is_over}
use Rattle.docket_history.specs.Times.{standing_shown}
use Rattle.docket_history.specs.Views.{acts_in, deadline_shown}
use Rattle.docket_history.specs.declared.item.CalendarItem.{CalendarItem}
use Rattle.docket_history.specs.declared.item.CalendarItem.TheVariants.{Day, Span, Short}
use Rattle.docket_history.specs.declared.view.DeadlineView.{DeadlineView}
use Rattle.docket_history.specs.declared.view.View.{View}
use Rattle.docket_applying.specs.Sound.{is_entered_item, begins_in_time, are_acts, are_lawful, is_lawful, has_room, is_lawful_rule, IsSoundCase}

-- a test of each element that decides a property
module _ {X : Type 0} (p : X → Bool) (P : X → Type 0) where
  pub all_told : ((x : X) → p x ≡ true → P x) → (xs : List X) → list_all p xs ≡ true → All P xs
  all_told tells [] e = All-nil P
  all_told tells (x ∷ xs) e = All-cons P x xs (tells x (and_parts (p x) (list_all p xs) e).0) (all_told tells xs (and_parts (p x) (list_all p xs) e).1)

  pub all_passed : ((x : X) → P x → p x ≡ true) → (xs : List X) → All P xs → list_all p xs ≡ true
  all_passed passes [] all = refl
  all_passed passes (x ∷ xs) all = and_from (p x) (list_all p xs) (passes x (All-head P x xs all)) (all_passed passes xs (All-tail P x xs all))

day_told : (day : ℕ) → is_entered_day day ≡ true → IsEnteredDay day
day_told day e = grind (arith, nat_tests, (and_parts (nat_le 10_957 day) (nat_le day 47_481) e).0, (and_parts (nat_le 10_957 day) (nat_le day 47_481) e).1)

day_passed : (day : ℕ) → IsEnteredDay day → is_entered_day day ≡ true
day_passed day is = and_from (nat_le 10_957 day) (nat_le day 47_481) (grind (arith, nat_tests, is.0)) (grind (arith, nat_tests, is.1))

item_told : (item : CalendarItem) → is_entered_item item ≡ true → IsEnteredItem item
item_told (Day kind day) e = day_told day e
item_told (Short day close) e = day_told day e
item_told (Span start end) e =
    let rest : (nat_lt start end && nat_le end 4_102_531_200) ≡ true = (and_parts (nat_le 946_598_400 start) (nat_lt start end && nat_le end 4_102_531_200) e).1 in
    let a : nat_le 946_598_400 start ≡ true = (and_parts (nat_le 946_598_400 start) (nat_lt start end && nat_le end 4_102_531_200) e).0 in
    let b : nat_lt start end ≡ true = (and_parts (nat_lt start end) (nat_le end 4_102_531_200) rest).0 in
    let d : nat_le end 4_102_531_200 ≡ true = (and_parts (nat_lt start end) (nat_le end 4_102_531_200) rest).1 in
    (grind (arith, nat_tests), grind (arith, nat_tests), grind (arith, nat_tests))

item_passed : (item : CalendarItem) → IsEnteredItem item → is_entered_item item ≡ true
item_passed (Day kind day) is = day_passed day is
item_passed (Short day close) is = day_passed day is
item_passed (Span start end) is =
    and_from (nat_le 946_598_400 start) (nat_lt start end && nat_le end 4_102_531_200) (grind (arith, nat_tests, is.0))
    (and_from (nat_lt start end) (nat_le end 4_102_531_200) (grind (arith, nat_tests, is.1)) (grind (arith, nat_tests, is.2)))

module _ (zone : ZoneRules) where
  begin_told : (acts : List Act) → list_all (begins_in_time zone) acts ≡ true → list_all (begins_on_entered_day zone) acts ≡ true
  begin_told [] e = refl
  begin_told (a ∷ acts) e =
      and_from (begins_on_entered_day zone a) (list_all (begins_on_entered_day zone) acts) (one a (and_parts (begins_in_time zone a) (list_all (begins_in_time zone) acts) e).0)
      (begin_told acts (and_parts (begins_in_time zone a) (list_all (begins_in_time zone) acts) e).1)
    where
      one : (b : Act) → begins_in_time zone b ≡ true → begins_on_entered_day zone b ≡ true
      one (act.Start (start.Hours hours)) f = (and_parts (is_instant hours.at) _ f).1
      one _ f = refl

  begin_one : (b : Act) → is_within b ≡ true → begins_on_entered_day zone b ≡ true → begins_in_time zone b ≡ true
  begin_one (act.Start (start.Hours hours)) w f = and_from (is_instant hours.at) _ (and_parts (is_instant hours.at) _ w).0 f
  begin_one _ w f = refl

  begin_passed : (acts : List Act) → list_all is_within acts ≡ true → list_all (begins_on_entered_day zone) acts ≡ true → list_all (begins_in_time zone) acts ≡ true
  begin_passed [] w e = refl
  begin_passed (a ∷ acts) w e =
      and_from (begins_in_time zone a) (list_all (begins_in_time zone) acts)
      (begin_one a (and_parts (is_within a) (list_all is_within acts) w).0 (and_parts (begins_on_entered_day zone a) (list_all (begins_on_entered_day zone) acts) e).0)
      (begin_passed acts (and_parts (is_within a) (list_all is_within acts) w).1 (and_parts (begins_on_entered_day zone a) (list_all (begins_on_entered_day zone) acts) e).1)

  all_within : (acts : List Act) → acts_ok acts ≡ true → list_all is_within acts ≡ true
  all_within acts e =
      let counted = nat_le 1 (length acts) && nat_le (length acts) 100 in
      (and_parts counted (list_all is_within acts) (and_parts (counted && list_all is_within acts) _ e).0).1

  pub list_told : (acts : List Act) → are_acts zone acts ≡ true → AreActs zone acts
  list_told acts e = ((and_parts (acts_ok acts) _ e).0, begin_told acts (and_parts (acts_ok acts) _ e).1)

  pub list_passed : (acts : List Act) → AreActs zone acts → are_acts zone acts ≡ true
  list_passed acts is = and_from (acts_ok acts) (list_all (begins_in_time zone) acts) is.0 (begin_passed acts (all_within acts is.0) is.1)

  acts_told : (d : DeadlineView) → are_acts zone d.acts ≡ true → AreActs zone d.acts
  acts_told d e = list_told d.acts e

  acts_passed : (d : DeadlineView) → AreActs zone d.acts → are_acts zone d.acts ≡ true
  acts_passed d is = list_passed d.acts is

  lawful_told : (o : Option DeadlineView) → is_lawful zone o ≡ true → IfSome o (λ d. AreActs zone d.acts)
  lawful_told None e = tt
  lawful_told (Some d) e = acts_told d e

  passed_if : (o : Option DeadlineView) → IfSome o (λ d. AreActs zone d.acts) → is_lawful zone o ≡ true
  passed_if None is = refl
  passed_if (Some d) is = acts_passed d is

either : (a b : Bool) → (a || b) ≡ true → b ≡ false → a ≡ true
either true b e off = refl
either false b e off = absurd (let yes = e in let no = off in cc)

or_true : (a b : Bool) → (a ≡ false → b ≡ true) → (a || b) ≡ true
or_true true b e = refl
or_true false b e = e refl

-- room for one act more, where the time is not over
room_told : (court : CourtSettings) (v : View) → has_room court v ≡ true → is_over (standing_shown court v) ≡ false → length (acts_in (deadline_shown v)) < 100
room_told court v e going =
    let few : nat_lt (length (acts_in (deadline_shown v))) 100 ≡ true = either _ _ e going in
    grind (arith, nat_tests, few)

pub room_passed : (court : CourtSettings) (v : View) → (is_over (standing_shown court v) ≡ false → length (acts_in (deadline_shown v)) < 100) → has_room court v ≡ true
room_passed court v room = at (is_over (standing_shown court v)) refl
  where
    at : (b : Bool) → is_over (standing_shown court v) ≡ b → has_room court v ≡ true
    at true over = or_true (nat_lt (length (acts_in (deadline_shown v))) 100) (is_over (standing_shown court v)) (λ off. over)
    at false going =
        let short = room going in
        let few : nat_lt (length (acts_in (deadline_shown v))) 100 ≡ true = grind (arith, nat_tests, short) in
        ap (λ b. b || is_over (standing_shown court v)) few

rule_told : (o : Option LocalRule) → is_lawful_rule o ≡ true → IfSome o (λ (rule : LocalRule). is_local_rule rule ≡ true)
rule_told None e = tt
rule_told (Some rule) e = e

pub rule_passed : (o : Option LocalRule) → IfSome o (λ (rule : LocalRule). is_local_rule rule ≡ true) → is_lawful_rule o ≡ true
rule_passed None is = refl
rule_passed (Some rule) is = is

pub acts_lawful : (court : CourtSettings) (v : View) → is_lawful (zone_of court) (deadline_shown v) ≡ true → IfSome (deadline_shown v) (λ d. AreActs (zone_of court) d.acts)
acts_lawful court v lawful = lawful_told (zone_of court) (deadline_shown v) lawful

pub sound_told : (court : CourtSettings) (v : View) → All IsEnteredItem v.calendar → length v.calendar ≤ 4000 → v.next_row ≤ 4_294_967_296 → is_lawful (zone_of court) (deadline_shown v) ≡ true
    → has_room court v ≡ true → is_lawful_rule v.local ≡ true → IsSoundView court v
sound_told court v entered few next lawful room rule = record {
  items = entered;
  rows = few;
  next_row = next;
  acts = acts_lawful court v lawful;
  room = room_told court v room;
  local = rule_told v.local rule;
}

pub items_told : (items : List CalendarItem) → list_all is_entered_item items ≡ true → All IsEnteredItem items
items_told items e = all_told is_entered_item IsEnteredItem item_told items e

pub items_passed : (items : List CalendarItem) → All IsEnteredItem items → list_all is_entered_item items ≡ true
items_passed items all = all_passed is_entered_item IsEnteredItem item_passed items all

pub lawful_passed : (court : CourtSettings) (v : View) → IsSoundView court v → is_lawful (zone_of court) (deadline_shown v) ≡ true
lawful_passed court v is = passed_if (zone_of court) (deadline_shown v) is.acts

module _ (court : CourtSettings) (ds : List DeadlineView) where
  pub case_told : length ds ≤ 1000 → are_lawful (zone_of court) ds ≡ true → IsSoundCase court ds
  case_told few lawful = record {
    few = few;
    acts = all_told (λ (d : DeadlineView). are_acts (zone_of court) d.acts) (λ (d : DeadlineView). AreActs (zone_of court) d.acts) (acts_told (zone_of court)) ds lawful;
  }

  pub case_passed : IsSoundCase court ds → are_lawful (zone_of court) ds ≡ true
  case_passed is = all_passed (λ (d : DeadlineView). are_acts (zone_of court) d.acts) (λ (d : DeadlineView). AreActs (zone_of court) d.acts) (acts_passed (zone_of court)) ds is.acts
