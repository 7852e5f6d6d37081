-- The act that a command adds to the deadline that it names, where no refusal applies, may come there.
use Rattle.std.proofs.Common.{◌≡◌, ◌⊎◌, inl, inr, ℕ, ◌+◌, ◌<◌, ◌≤◌, Bool, true, false, not, ◌&&◌, ◌||◌, Option, Some, None, List, [], ◌∷◌, ◌++◌, length, ℤ, pos, refl, sym, ap, ◌∙◌, arith, nat_le}
use Rattle.std.specs.Prelude.{is_some, nat_lt}
use Rattle.std.proofs.lemmas.Bool.Decides.{nat_tests}
use Rattle.std.proofs.lemmas.Bool.{not-false, or_parts}
use Rattle.civil_time.specs.Zone.{ZoneRules}
use Rattle.court_days.specs.Calendar.{Entered}
use Rattle.court_days.specs.Court.{CourtSettings, zone_of}
use Rattle.court_days.specs.declared.filing.Way.{Way}
use Rattle.court_days.specs.declared.filing.Way.TheVariants.{Electronic}
use Rattle.court_rules.proofs.Chains.{standing_through-append}
use Rattle.court_rules.specs.Acts.{is_within}
use Rattle.court_rules.specs.Standings.{begins_on_entered_day, may_come, standing as standing_by_acts, standing_after}
use Rattle.court_rules.specs.declared.act.Act.{Act}
use Rattle.court_rules.specs.declared.act.Act.TheVariants as act
use Rattle.court_rules.specs.declared.act.MotionKind.{MotionKind}
use Rattle.court_rules.specs.declared.act.Standing.{Standing}
use Rattle.court_rules.specs.declared.act.Standing.TheVariants as standing
use Rattle.docket_command.specs.declared.choice.Ruling.{Ruling}
use Rattle.docket_command.specs.declared.choice.Ruling.TheVariants.{Denied, Postponed, Statement}
use Rattle.docket_command.specs.declared.command.Action.{Action}
use Rattle.docket_command.specs.declared.command.Action.TheVariants as action
use Rattle.docket_command.specs.declared.field.Field.{Field}
use Rattle.docket_command.specs.declared.field.Field.TheVariants as field
use Rattle.docket_history.specs.Actions.{deadline_named, deadlines_made, acts_made}
use Rattle.docket_history.specs.DeadlinesMade.{ruled, extension}
use Rattle.docket_decisions.specs.Refusals.{is_running, is_suspended, is_awaiting, is_over, is_not_open, is_not_awaiting, is_full, has_too_many_acts}
use Rattle.docket_history.specs.Times.{standing_shown}
use Rattle.docket_values.specs.Values.{first_bad, bad_values, bad_choice, bad_days, bad_until, is_entered, is_entered_at}
use Rattle.docket_history.specs.Views.{acts_in, count_deadlines, deadline_shown}
use Rattle.docket_history.specs.declared.view.View.{View}
use Rattle.docket_decisions.proofs.ActsKept.{AreSound, more_sound}
use Rattle.docket_decisions.proofs.GoodValues.{all_good, entered_instant}

-- an act that may come where a time stands so: it ends the deadline, or there is room for one more
pub record IsNext (zone : ZoneRules) (s : Standing) (acts : List Act) (new : Act) : Type 0 where
  pub within : is_within new ≡ true
  pub begins : begins_on_entered_day zone new ≡ true
  pub may : may_come s new ≡ true
  pub room : (((t : Standing) → (e : Entered) → is_over (standing_after zone e t new) ≡ true) × (is_over s ≡ false)) ⊎ (length acts < 99)

-- sound acts with it are sound
pub next_sound : (zone : ZoneRules) (entered : Entered) (acts : List Act) (new : Act) → AreSound zone acts → IsNext zone (standing_by_acts zone entered acts) acts new → AreSound zone (acts ++ new ∷ [])
next_sound zone entered acts new sound is = by_room is.room
  where
    by_room : (((t : Standing) → (e : Entered) → is_over (standing_after zone e t new) ≡ true) × (is_over (standing_by_acts zone entered acts) ≡ false)) ⊎ (length acts < 99) → AreSound zone (acts ++ new ∷ [])
    by_room (inl ending) = more_sound zone entered acts new sound is.within is.begins is.may (sound.room entered ending.1)
        (λ e going. absurd (let over : is_over (standing_by_acts zone e (acts ++ new ∷ [])) ≡ true =
        ap is_over (standing_through-append zone e standing.Vacated acts (new ∷ [])) ∙ ending.0 (standing_by_acts zone e acts) e in cc))
    by_room (inr few) = more_sound zone entered acts new sound is.within is.begins is.may (omega (arith, few)) (λ e going. few)

-- by the standing before
motion_may : (s : Standing) (day : ℕ) (kind : MotionKind) → not (is_running s) ≡ false → may_come s (act.Motion day kind) ≡ true
motion_may (standing.Running end) day kind e = refl
motion_may standing.Suspended day kind e = absurd (cc)
motion_may standing.Awaiting day kind e = absurd (cc)
motion_may standing.Done day kind e = absurd (cc)
motion_may standing.Vacated day kind e = absurd (cc)

extension_may : (s : Standing) (n : ℕ) → not (is_running s) ≡ false → (may_come s (act.ExtendBy n) ≡ true) × (may_come s (act.ExtendTo n) ≡ true)
extension_may (standing.Running end) n e = (refl, refl)
extension_may standing.Suspended n e = absurd (cc)
extension_may standing.Awaiting n e = absurd (cc)
extension_may standing.Done n e = absurd (cc)
extension_may standing.Vacated n e = absurd (cc)

ruling_may : (s : Standing) (outcome : Ruling) (notice : ℕ) (due : Option ℕ) → not (is_suspended s) ≡ false → may_come s (ruled outcome notice due) ≡ true
ruling_may standing.Suspended Statement notice due e = refl
ruling_may standing.Suspended Denied notice None e = refl
ruling_may standing.Suspended Denied notice (Some day) e = refl
ruling_may standing.Suspended Postponed notice None e = refl
ruling_may standing.Suspended Postponed notice (Some day) e = refl
ruling_may (standing.Running end) outcome notice due e = absurd (cc)
ruling_may standing.Awaiting outcome notice due e = absurd (cc)
ruling_may standing.Done outcome notice due e = absurd (cc)
ruling_may standing.Vacated outcome notice due e = absurd (cc)

resume_may : (s : Standing) (day : ℕ) (three : Bool) → not (is_awaiting s) ≡ false → may_come s (act.Resume day three) ≡ true
resume_may standing.Awaiting day three e = refl
resume_may (standing.Running end) day three e = absurd (cc)
resume_may standing.Suspended day three e = absurd (cc)
resume_may standing.Done day three e = absurd (cc)
resume_may standing.Vacated day three e = absurd (cc)

end_may : (s : Standing) (at : ℤ) (way : Way) → is_over s ≡ false → (may_come s (act.Done at way) ≡ true) × (may_come s act.Vacated ≡ true)
end_may (standing.Running end) at way e = (refl, refl)
end_may standing.Suspended at way e = (refl, refl)
end_may standing.Awaiting at way e = (refl, refl)
end_may standing.Done at way e = absurd (cc)
end_may standing.Vacated at way e = absurd (cc)

done_within : (t : ℕ) (way : Way) → 946_598_400 ≤ t → t ≤ 4_102_531_200 → is_within (act.Done (pos t) way) ≡ true
done_within t way low high = grind (arith, nat_tests)

ruled_within : (outcome : Ruling) (notice : ℕ) (due : Option ℕ) (f : Field) → is_entered notice ≡ true → (bad_choice due f).0 ≡ false → is_within (ruled outcome notice due) ≡ true
ruled_within Statement notice due f e good = e
ruled_within Denied notice None f e good = e
ruled_within Denied notice (Some day) f e good = not-false (is_entered day) good
ruled_within Postponed notice None f e good = e
ruled_within Postponed notice (Some day) f e good = not-false (is_entered day) good

ruled_begins : (zone : ZoneRules) (outcome : Ruling) (notice : ℕ) (due : Option ℕ) → begins_on_entered_day zone (ruled outcome notice due) ≡ true
ruled_begins zone Statement notice due = refl
ruled_begins zone Denied notice None = refl
ruled_begins zone Denied notice (Some day) = refl
ruled_begins zone Postponed notice None = refl
ruled_begins zone Postponed notice (Some day) = refl

-- there is room where the action is not refused as full
few : (v : View) (a : Action) (made : Bool) → is_some (deadline_named a) ≡ true → (has_too_many_acts v a || made) ≡ false → length (acts_in (deadline_shown v)) < 99
few v a made named e =
    let off = (or_parts (has_too_many_acts v a) made e).0 in
    let short : nat_le 99 (length (acts_in (deadline_shown v))) ≡ false = ap (λ b. b && nat_le 99 (length (acts_in (deadline_shown v)))) (sym named) ∙ off in
    grind (arith, nat_tests, short)

-- an action adds at most one act
abbrev pub IsNextOf : ZoneRules → Standing → List Act → List Act → Type 0
IsNextOf zone s acts [] = Unit {0}
IsNextOf zone s acts (new ∷ []) = IsNext zone s acts new
IsNextOf zone s acts (new ∷ other ∷ more) = ⊥

extension_next : (zone : ZoneRules) (s : Standing) (acts : List Act) (days until : Option ℕ) → bad_days days ≡ false → bad_until days until ≡ false → not (is_running s) ≡ false → length acts < 99 → IsNextOf zone s acts (extension days until)
extension_next zone s acts (Some n) None d u running short = record { within = not-false (nat_le 1 n && nat_le n 3650) d; begins = refl; may = (extension_may s n running).0; room = inr short }
extension_next zone s acts None (Some day) d u running short = record { within = not-false (is_entered day) u; begins = refl; may = (extension_may s day running).1; room = inr short }
extension_next zone s acts (Some n) (Some day) d u running short = tt
extension_next zone s acts None None d u running short = tt

-- where no refusal applies to an action, the act that it adds may come
pub may_follow : (court : CourtSettings) (v : View) (a : Action) → first_bad (bad_values court a) ≡ None → is_not_open court v a ≡ false → is_not_awaiting court v a ≡ false → is_full v a ≡ false
    → IsNextOf (zone_of court) (standing_shown court v) (acts_in (deadline_shown v)) (acts_made a)
may_follow court v (action.RuleMotion a) good opened awaited room =
    let fields = all_good (bad_values court (action.RuleMotion a)) good in
    record {
      within = not-false (is_entered a.served) fields.0;
      begins = refl;
      may = motion_may (standing_shown court v) a.served a.kind opened;
      room = inr (few v (action.RuleMotion a) (nat_lt 1000 (count_deadlines v.case + length (deadlines_made v.local (action.RuleMotion a)))) refl room);
    }
may_follow court v (action.Dispose a) good opened awaited room =
    let fields = all_good (bad_values court (action.Dispose a)) good in
    record {
      within = ruled_within a.outcome a.notice a.due field.Due (not-false (is_entered a.notice) fields.0) fields.1.1.0;
      begins = ruled_begins (zone_of court) a.outcome a.notice a.due;
      may = ruling_may (standing_shown court v) a.outcome a.notice a.due awaited;
      room = inr (few v (action.Dispose a) (nat_lt 1000 (count_deadlines v.case + length (deadlines_made v.local (action.Dispose a)))) refl room);
    }
may_follow court v (action.StatementServed a) good opened awaited room =
    let fields = all_good (bad_values court (action.StatementServed a)) good in
    record {
      within = not-false (is_entered a.served) fields.0;
      begins = refl;
      may = resume_may (standing_shown court v) a.served _ awaited;
      room = inr (few v (action.StatementServed a) (nat_lt 1000 (count_deadlines v.case + length (deadlines_made v.local (action.StatementServed a)))) refl room);
    }
may_follow court v (action.Extend a) good opened awaited room =
    let fields = all_good (bad_values court (action.Extend a)) good in
    extension_next (zone_of court) (standing_shown court v) _ a.days a.until fields.1.0 fields.1.1.0 opened (few v (action.Extend a) (nat_lt 1000 (count_deadlines v.case + length (deadlines_made v.local (action.Extend a)))) refl room)
may_follow court v (action.Satisfy a) good opened awaited room =
    let fields = all_good (bad_values court (action.Satisfy a)) good in
    let near = entered_instant court a.at (not-false (is_entered_at court a.at) fields.0) in
    record {
      within = done_within a.at a.way near.0 near.1;
      begins = refl;
      may = (end_may (standing_shown court v) (pos a.at) a.way opened).0;
      room = inl ((λ t e. refl), opened);
    }
may_follow court v (action.Vacate a) good opened awaited room = record {
  within = refl;
  begins = refl;
  may = (end_may (standing_shown court v) (pos 0) Electronic opened).1;
  room = inl ((λ t e. refl), opened);
}
may_follow court v _ good opened awaited room = tt
