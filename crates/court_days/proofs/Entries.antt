-- What a calendar holds stays within its limits.
use Rattle.std.proofs.Common.{◌≡◌, ℕ, ◌+◌, ◌<◌, Bool, inl, inr, true, false, cond, Some, is_some, refl, sym, ap, ◌∙◌, arith, subst}
use Rattle.std.proofs.lemmas.Bool.{or_cases}
use Rattle.std.proofs.lemmas.Map.Lookups.{exact_unsigned}
use Rattle.std.specs.Ordering.{nat_cmp, eq_by_cmp}
use Rattle.std.specs.FinMap as map
use Rattle.std.specs.Cmp.{nat_cmp_total, Equal-is}
use Rattle.std.specs.FinSet.{FinSet, contains, insert, len, empty, contains-insert, contains-empty, len-insert, len-empty}
use Rattle.std.proofs.lemmas.Bool.{true≢false}
use Rattle.court_days.specs.Civil.{IsEnteredDay, IsEnteredSpan}
use Rattle.court_days.specs.Spans.{span_cmp}
use Rattle.court_days.specs.declared.span_set.Span.{Span}
use Rattle.court_days.proofs.SpanSets.{span_insert_keeps, spans_inserted}
use Rattle.court_days.specs.Calendar.{Entered, Holds, with_day, with_span, with_short, IsShort, no_days, IsWithinLimits}
use Rattle.court_days.specs.declared.calendar.DayKind.{DayKind}
use Rattle.court_days.specs.Kept.{IsKept}
use Rattle.court_days.specs.declared.calendar.DayKind.TheVariants.{Federal, State, Closed}

-- what holds of the members and of a new one holds of the members with it
pub insert_keeps : (P : ℕ → Type 0) (s : FinSet nat_cmp) (day : ℕ) → ((q : ℕ) → contains s q ≡ true → P q) → P day → (q : ℕ) → contains (insert s day) q ≡ true → P q
insert_keeps P s day each here q h =
    elim (or_cases _ _ (sym (contains-insert nat_cmp_total s day q) ∙ h)) [
      | inl tie ↦ subst P (sym (exact_unsigned q day ((Equal-is (nat_cmp q day)).0 tie))) here
      | inr in_s ↦ each q in_s
    ]

pub len_inserted : (s : FinSet nat_cmp) (day : ℕ) → contains s day ≡ false → len (insert s day) ≡ len s + 1
len_inserted s day new = len-insert nat_cmp_total s day ∙ rw new refl

-- the days of a calendar lie within the limits
abbrev pub DaysWithin : FinSet nat_cmp → FinSet nat_cmp → FinSet nat_cmp → FinSet span_cmp → map.FinMap nat_cmp ℕ → Type 0
DaysWithin f s c p t = (kind : DayKind) (day : ℕ) → Holds (record { federal = f; state = s; closed = c; spans = p; short = t }) kind day → IsEnteredDay day

-- a calendar is kept as it should be where one of its sets has one more day
module _ (f s c : FinSet nat_cmp) (p : FinSet span_cmp) (t : map.FinMap nat_cmp ℕ) (day : ℕ) (kept : IsKept (record { federal = f; state = s; closed = c; spans = p; short = t })) (here : IsEnteredDay day) (room : len f + len s + len c + len p + map.len t < 4000) where
  federal_days : (new : FinSet nat_cmp) → new ≡ insert f day → DaysWithin new s c p t
  federal_days new e Federal q h = insert_keeps IsEnteredDay f day (kept.limits.days Federal) here q (rw e at h)
  federal_days new e State q h = kept.limits.days State q h
  federal_days new e Closed q h = kept.limits.days Closed q h

  state_days : (new : FinSet nat_cmp) → new ≡ insert s day → DaysWithin f new c p t
  state_days new e State q h = insert_keeps IsEnteredDay s day (kept.limits.days State) here q (rw e at h)
  state_days new e Federal q h = kept.limits.days Federal q h
  state_days new e Closed q h = kept.limits.days Closed q h

  closed_days : (new : FinSet nat_cmp) → new ≡ insert c day → DaysWithin f s new p t
  closed_days new e Closed q h = insert_keeps IsEnteredDay c day (kept.limits.days Closed) here q (rw e at h)
  closed_days new e Federal q h = kept.limits.days Federal q h
  closed_days new e State q h = kept.limits.days State q h

  pub keeps_federal : (new : FinSet nat_cmp) → contains f day ≡ false → new ≡ insert f day → IsKept (record { federal = new; state = s; closed = c; spans = p; short = t })
  keeps_federal new other e = record { limits = record { days = federal_days new e; spans = kept.limits.spans; short = kept.limits.short }; rows = omega (arith, ap len e ∙ len_inserted f day other) }

  pub keeps_state : (new : FinSet nat_cmp) → contains s day ≡ false → new ≡ insert s day → IsKept (record { federal = f; state = new; closed = c; spans = p; short = t })
  keeps_state new other e = record { limits = record { days = state_days new e; spans = kept.limits.spans; short = kept.limits.short }; rows = omega (arith, ap len e ∙ len_inserted s day other) }

  pub keeps_closed : (new : FinSet nat_cmp) → contains c day ≡ false → new ≡ insert c day → IsKept (record { federal = f; state = s; closed = new; spans = p; short = t })
  keeps_closed new other e = record { limits = record { days = closed_days new e; spans = kept.limits.spans; short = kept.limits.short }; rows = omega (arith, ap len e ∙ len_inserted c day other) }

-- or where it has one more span
pub keeps_span : (f s c : FinSet nat_cmp) (p : FinSet span_cmp) (t : map.FinMap nat_cmp ℕ) (span : Span) → IsKept (record { federal = f; state = s; closed = c; spans = p; short = t }) → IsEnteredSpan span.start span.end → len f + len s + len c + len p + map.len t < 4000
    → (new : FinSet span_cmp) → contains p span ≡ false → new ≡ insert p span → IsKept (record { federal = f; state = s; closed = c; spans = new; short = t })
keeps_span f s c p t span kept here room new other e = record {
  limits = record {
    days = kept.limits.days;
    spans = λ start end h. span_insert_keeps (λ q. IsEnteredSpan q.start q.end) p span (λ q k. kept.limits.spans q.start q.end k) here (record { start = start; end = end }) (rw e at h);
    short = kept.limits.short;
  };
  rows = omega (arith, ap len e ∙ spans_inserted p span other);
}

-- a map with one more day
pub short_inserted : (t : map.FinMap nat_cmp ℕ) (day minute : ℕ) → map.contains_key t day ≡ false → map.len (map.insert t day minute) ≡ map.len t + 1
short_inserted t day minute new = map.len-insert nat_cmp_total t day minute ∙ rw new refl

pub short_insert_keeps : (P : ℕ → Type 0) (t : map.FinMap nat_cmp ℕ) (day minute : ℕ) → ((q : ℕ) → map.contains_key t q ≡ true → P q) → P day → (q : ℕ) → map.contains_key (map.insert t day minute) q ≡ true → P q
short_insert_keeps P t day minute each here q h = by (eq_by_cmp nat_cmp q day) refl (sym (ap is_some (map.get-insert nat_cmp_total t day minute q)) ∙ h)
  where
    by : (b : Bool) → eq_by_cmp nat_cmp q day ≡ b → is_some (cond b (Some minute) (map.get t q)) ≡ true → P q
    by true tie e = subst P (sym (exact_unsigned q day ((Equal-is (nat_cmp q day)).0 tie))) here
    by false other e = each q e

-- or where it has one more short day
pub keeps_short : (f s c : FinSet nat_cmp) (p : FinSet span_cmp) (t : map.FinMap nat_cmp ℕ) (day minute : ℕ) → IsKept (record { federal = f; state = s; closed = c; spans = p; short = t }) → IsEnteredDay day → len f + len s + len c + len p + map.len t < 4000
    → (new : map.FinMap nat_cmp ℕ) → map.contains_key t day ≡ false → new ≡ map.insert t day minute → IsKept (record { federal = f; state = s; closed = c; spans = p; short = new })
keeps_short f s c p t day minute kept here room new other e = record {
  limits = record {
    days = kept.limits.days;
    spans = kept.limits.spans;
    short = λ q h. short_insert_keeps IsEnteredDay t day minute kept.limits.short here q (rw e at h);
  };
  rows = omega (arith, ap map.len e ∙ short_inserted t day minute other);
}

no_member : (kind : DayKind) (day : ℕ) (f s c : FinSet nat_cmp) (p : FinSet span_cmp) (t : map.FinMap nat_cmp ℕ) → f ≡ empty → s ≡ empty → c ≡ empty → Holds (record { federal = f; state = s; closed = c; spans = p; short = t }) kind day → ⊥
no_member Federal day f s c p t a b d h = true≢false (sym h ∙ ap (λ x. contains x day) a ∙ contains-empty nat_cmp day)
no_member State day f s c p t a b d h = true≢false (sym h ∙ ap (λ x. contains x day) b ∙ contains-empty nat_cmp day)
no_member Closed day f s c p t a b d h = true≢false (sym h ∙ ap (λ x. contains x day) d ∙ contains-empty nat_cmp day)

pub keeps_none : (f s c : FinSet nat_cmp) (p : FinSet span_cmp) (t : map.FinMap nat_cmp ℕ) → f ≡ empty → s ≡ empty → c ≡ empty → p ≡ empty → t ≡ map.empty → IsKept (record { federal = f; state = s; closed = c; spans = p; short = t })
keeps_none f s c p t a b d e g = record {
  limits = record {
    days = λ kind day h. absurd (no_member kind day f s c p t a b d h);
    spans = λ start end h. absurd (true≢false (sym h ∙ ap (λ x. contains x (record { start = start; end = end })) e ∙ contains-empty span_cmp (record { start = start; end = end })));
    short = λ day h. absurd (true≢false (sym h ∙ ap (λ x. map.contains_key x day) g ∙ ap is_some (map.get-empty nat_cmp day)));
  };
  rows = omega (arith, ap len a ∙ len-empty nat_cmp, ap len b ∙ len-empty nat_cmp, ap len d ∙ len-empty nat_cmp, ap len e ∙ len-empty span_cmp, ap map.len g ∙ map.len-empty nat_cmp ℕ);
}

-- a day that may be entered keeps the limits
with_day-days : (entered : Entered) (kind : DayKind) (day : ℕ) → IsWithinLimits entered → IsEnteredDay day → (of : DayKind) (q : ℕ) → Holds (with_day entered kind day) of q → IsEnteredDay q
with_day-days entered Federal day limits here Federal q h = insert_keeps IsEnteredDay entered.federal day (limits.days Federal) here q h
with_day-days entered Federal day limits here State q h = limits.days State q h
with_day-days entered Federal day limits here Closed q h = limits.days Closed q h
with_day-days entered State day limits here Federal q h = limits.days Federal q h
with_day-days entered State day limits here State q h = insert_keeps IsEnteredDay entered.state day (limits.days State) here q h
with_day-days entered State day limits here Closed q h = limits.days Closed q h
with_day-days entered Closed day limits here Federal q h = limits.days Federal q h
with_day-days entered Closed day limits here State q h = limits.days State q h
with_day-days entered Closed day limits here Closed q h = insert_keeps IsEnteredDay entered.closed day (limits.days Closed) here q h

with_day-spans : (entered : Entered) (kind : DayKind) (day : ℕ) → (with_day entered kind day).spans ≡ entered.spans
with_day-spans entered Federal day = refl
with_day-spans entered State day = refl
with_day-spans entered Closed day = refl

with_day-short : (entered : Entered) (kind : DayKind) (day : ℕ) → (with_day entered kind day).short ≡ entered.short
with_day-short entered Federal day = refl
with_day-short entered State day = refl
with_day-short entered Closed day = refl

pub with_day-limits : (entered : Entered) (kind : DayKind) (day : ℕ) → IsWithinLimits entered → IsEnteredDay day → IsWithinLimits (with_day entered kind day)
with_day-limits entered kind day limits here = record {
  days = with_day-days entered kind day limits here;
  spans = λ start end h. limits.spans start end (sym (ap (λ x. contains x (record { start = start; end = end })) (with_day-spans entered kind day)) ∙ h);
  short = λ q h. limits.short q (sym (ap (λ x. map.contains_key x q) (with_day-short entered kind day)) ∙ h);
}

-- and so does a span that may be entered
pub with_span-limits : (entered : Entered) (start end : ℕ) → IsWithinLimits entered → IsEnteredSpan start end → IsWithinLimits (with_span entered start end)
with_span-limits entered start end limits here = record {
  days = with_span-days;
  spans = λ a b h. span_insert_keeps (λ q. IsEnteredSpan q.start q.end) entered.spans (record { start = start; end = end }) (λ q k. limits.spans q.start q.end k) here (record { start = a; end = b }) h;
  short = limits.short;
} where
  with_span-days : (kind : DayKind) (day : ℕ) → Holds (with_span entered start end) kind day → IsEnteredDay day
  with_span-days Federal day h = limits.days Federal day h
  with_span-days State day h = limits.days State day h
  with_span-days Closed day h = limits.days Closed day h

-- and so does a short day that may be entered
with_short-short : (entered : Entered) (day minute : ℕ) → IsWithinLimits entered → IsEnteredDay day → (q : ℕ) → IsShort (with_short entered day minute) q → IsEnteredDay q
with_short-short entered day minute limits here q = by (map.contains_key entered.short day)
  where
    by : (b : Bool) → map.contains_key (cond b entered.short (map.insert entered.short day minute)) q ≡ true → IsEnteredDay q
    by true h = limits.short q h
    by false h = short_insert_keeps IsEnteredDay entered.short day minute limits.short here q h

pub with_short-limits : (entered : Entered) (day minute : ℕ) → IsWithinLimits entered → IsEnteredDay day → IsWithinLimits (with_short entered day minute)
with_short-limits entered day minute limits here = record {
  days = with_short-days;
  spans = limits.spans;
  short = with_short-short entered day minute limits here;
} where
  with_short-days : (kind : DayKind) (q : ℕ) → Holds (with_short entered day minute) kind q → IsEnteredDay q
  with_short-days Federal q h = limits.days Federal q h
  with_short-days State q h = limits.days State q h
  with_short-days Closed q h = limits.days Closed q h

pub no_days-limits : IsWithinLimits no_days
no_days-limits = (keeps_none empty empty empty empty map.empty refl refl refl refl refl).limits
