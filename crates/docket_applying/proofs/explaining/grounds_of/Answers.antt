use Rattle.std.proofs.Common.{◌∙◌, List, [], ap, sym, arith}
use Rattle.std.proofs.lemmas.Bool.{both_ways}
use Rattle.std.proofs.lemmas.List.Elements.{All-head}
use Rattle.court_days.specs.Court.{zone_of}
use Rattle.court_rules.specs.Standings.{AreActs}
use Rattle.docket_history.specs.CalendarItems.{calendar_of}
use Rattle.docket_history.specs.declared.item.CalendarItem.{CalendarItem}
use Rattle.docket_history.specs.declared.view.DeadlineView.{DeadlineView}
use Rattle.docket_applying.proofs.AskLemmas.{keeping, sound_deadline}
use Rattle.docket_applying.proofs.IdleLemmas.{idle_err, idle_ok, idle_short, idle_then}
use Rattle.docket_applying.proofs.explaining.grounds_of.Goals as goal

pub returns-then-not-is_sound_deadline-clause-answer : goal.returns-then-not-is_sound_deadline-clause-answer
returns-then-not-is_sound_deadline-clause-answer g c h stands = λ clean.
    let court = c.args.court.now in
    let shown = c.in_ok-deadline.ensures.answer court c.args.kept.now h stands in
    let sound = sound_deadline court h c.args.case c.args.number c.in-Some.deadline stands.docket (sym (shown.1 clean) ∙ c.in-Some.is) in
    both_ways _ c.if-not-is_sound_deadline.true (c.is_sound_deadline.ensures.1 sound)

pub returns-clause-acts : goal.returns-clause-acts
returns-clause-acts g c =
    let sound = c.is_sound_deadline.ensures.0 c.if-not-is_sound_deadline.false in
    All-head (λ (d : DeadlineView). AreActs (zone_of c.args.court.now) d.acts) c.in-Some.deadline [] sound.acts

pub returns-clause-answer : goal.returns-clause-answer
returns-clause-answer g c h stands =
    let court = c.args.court.now in
    let standing : List CalendarItem = c.in_ok-standing.standing in
    let shown = c.in_ok-deadline.ensures.answer court c.args.kept.now h stands in
    let told = c.in_ok-standing.ensures.answer court h shown.0 in (
      keeping g.S.Store c.calendar_taken.new.conn court c.calendar_taken.new.kept standing h told.0 told.1,
      λ clean. (sym (shown.1 (omega (arith, clean, c.calendar_taken.ensures.leaves.writes_nothing.clean))) ∙ c.in-Some.is, c.in_ok-calendar.ensures ∙ ap calendar_of (c.as_slice.ensures.items ∙ told.1 clean)),
    )

pub returns-in_err-deadline-clause-leaves : goal.returns-in_err-deadline-clause-leaves
returns-in_err-deadline-clause-leaves g c = idle_err c.from_residual.result c.from_residual.ensures.1 c.in_err-deadline.ensures.leaves

pub returns-in_err-standing-clause-leaves : goal.returns-in_err-standing-clause-leaves
returns-in_err-standing-clause-leaves g c = idle_err c.from_residual-in_err-standing.result c.from_residual-in_err-standing.ensures.1 (idle_then c.in_ok-deadline.ensures.leaves c.in_err-standing.ensures.leaves)

pub returns-in_err-calendar-clause-leaves : goal.returns-in_err-calendar-clause-leaves
returns-in_err-calendar-clause-leaves g c = idle_short c.from_residual-in_err-calendar.result c.from_residual-in_err-calendar.ensures.1 (idle_then c.in_ok-deadline.ensures.leaves c.in_ok-standing.ensures.leaves)

pub returns-clause-leaves : goal.returns-clause-leaves
returns-clause-leaves g c = idle_ok (idle_then c.in_ok-deadline.ensures.leaves c.in_ok-standing.ensures.leaves)
