use Rattle.std.proofs.Common.{◌≡◌, ◌<◌, ◌+◌, false, arith, ap, sym, subst}
use Rattle.std.specs.FinMap as map
use Rattle.std.specs.FinSet.{contains, len}
use Rattle.court_days.specs.Calendar.{rows_of}
use Rattle.court_days.specs.Civil.{IsEnteredSpan}
use Rattle.court_days.specs.declared.span_set.Span.{Span}
use Rattle.court_days.proofs.Entries.{keeps_span}
use Rattle.court_days.proofs.calendar.Calendar.add_span.Goals as goal

pub invariant_of-self-2 : goal.invariant_of-self-2
invariant_of-self-2 c =
    let here = subst (λ (s : Span). IsEnteredSpan s.start s.end) (sym c.in-Some.ensures.some.1) c.in-Some.ensures.some.0 in
    let room : len c.self.inside.federal + len c.self.inside.state + len c.self.inside.closed + len c.self.inside.spans + map.len c.self.inside.short < 4000 = omega (arith, ap rows_of c.self.view_is) in
    let other : contains c.self.inside.spans c.in-Some.span ≡ false = grind arith in
    keeps_span _ _ _ _ _ c.in-Some.span c.self.invariant here room _ other c.in_ok-insert.ensures.ok

pub returns-clause-limits : goal.returns-clause-limits
returns-clause-limits c = (c.len-rows.ensures.limits, (invariant_of-self-2 c).limits)

pub returns-clause-room : goal.returns-clause-room
returns-clause-room c = (c.len-rows.ensures.room, (invariant_of-self-2 c).rows)
