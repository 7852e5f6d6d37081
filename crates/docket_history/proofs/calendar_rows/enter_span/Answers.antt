use Rattle.std.proofs.Common.{◌≡◌, ℕ, ◌≤◌, ◌+◌, Bool, true, false, Result, Ok, to_z, of_z, w64, to_z-of_z, sym, ◌∙◌, subst}
use Rattle.court_days.specs.LocalTime.{seconds}
use Rattle.court_days.specs.Calendar.{Entered, HoldsSpan, rows_of, with_span}
use Rattle.court_days.specs.declared.calendar.CalendarFault.{CalendarFault}
use Rattle.docket_history.proofs.CalendarLemmas.{span_held, rows_with_span}
use Rattle.docket_history.proofs.calendar_rows.enter_span.Goals as goal

-- a span that is entered, or was there already
entered : (calendar new : Entered) (start end : ℕ) (added : Result Bool CalendarFault) (fresh : Bool) → added ≡ Ok fresh
    → (added ≡ Ok true → new ≡ with_span calendar start end) → (added ≡ Ok false → new ≡ calendar)
    → (added ≡ Ok false → HoldsSpan calendar start end) → new ≡ with_span calendar start end
entered calendar new start end added true e one kept held = one e
entered calendar new start end added false e one kept held = kept e ∙ sym (span_held calendar start end (held e))

pub returns-in-Ok-clause-entered : goal.returns-in-Ok-clause-entered
returns-in-Ok-clause-entered c =
    let start = to_z-of_z {w = w64} {z = c.args.start} c.ranges.start in
    let end = to_z-of_z {w = w64} {z = c.args.end} c.ranges.end in
    entered c.args.calendar.now c.add_span.new.self (seconds (to_z w64 (of_z w64 c.args.start))) (seconds (to_z w64 (of_z w64 c.args.end))) c.add_span.result c.in-Ok.field-0 c.in-Ok.is c.add_span.ensures.entered c.add_span.ensures.kept (λ e. (c.add_span.ensures.stood.0 e).1)
    ∙ (λ i. with_span c.args.calendar.now (seconds (start i)) (seconds (end i)))

pub returns-in-Ok-clause-rows : goal.returns-in-Ok-clause-rows
returns-in-Ok-clause-rows c =
    subst (λ (k : Entered). rows_of k ≤ rows_of c.args.calendar.now + 1) (sym (returns-in-Ok-clause-entered c)) (rows_with_span c.args.calendar.now (seconds c.args.start) (seconds c.args.end))
