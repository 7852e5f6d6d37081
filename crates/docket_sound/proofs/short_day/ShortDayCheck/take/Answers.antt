use Rattle.std.proofs.Common.{◌≡◌, ◌∙◌, true, false, sym}
use Rattle.docket_sound.proofs.ShortDayLemmas.{short_fails, short_has_no_place, short_twice, short_faulty, short_taken}
use Rattle.docket_sound.proofs.short_day.ShortDayCheck.take.Goals as goal

pub returns-then-not-may_be_next-clause-refused : goal.returns-then-not-may_be_next-clause-refused
returns-then-not-may_be_next-clause-refused c rows more has refused all =
    short_fails c.args.self.now rows c.args.row.now has more (sym c.may_be_next.ensures ∙ c.if-not-may_be_next.true) all

pub returns-then-not-has_place-clause-refused : goal.returns-then-not-has_place-clause-refused
returns-then-not-has_place-clause-refused c rows more has refused all =
    short_has_no_place c.args.self.now rows c.args.row.now has more (sym (c.has_place.ensures has.risen) ∙ c.if-not-has_place.true) all

pub returns-in-Ok-clause-taken : goal.returns-in-Ok-clause-taken
returns-in-Ok-clause-taken c rows has taken =
    let new : c.in-Ok.is_new ≡ true = cc in
    let entered = rw (c.in-Ok.is, new) at c.enter.ensures in
    short_taken c.args.self.now rows c.args.row.now has c.enter.new.calendar entered.0 entered.1 entered.2
    (sym c.may_be_next.ensures ∙ c.if-not-may_be_next.false) (sym (c.has_place.ensures has.risen) ∙ c.if-not-has_place.false)

pub returns-in-Ok-clause-refused : goal.returns-in-Ok-clause-refused
returns-in-Ok-clause-refused c rows more has refused all =
    let old : c.in-Ok.is_new ≡ false = cc in
    let stood = rw (c.in-Ok.is, old) at c.enter.ensures in
    short_twice c.args.self.now rows c.args.row.now has more stood all

pub returns-in-Err-clause-refused : goal.returns-in-Err-clause-refused
returns-in-Err-clause-refused c rows more has refused all =
    let enters = rw c.in-Err.is at c.enter.ensures in
    short_faulty c.args.self.now rows c.args.row.now has c.enter.new.calendar _ more (sym c.may_be_next.ensures ∙ c.if-not-may_be_next.false) enters
    (c.told_by.ensures.refused refused) all
