-- Sets of spans of time. A span has the instants from its start up to but not with its end.
use Rattle.std.specs.Prelude.{◌≡◌, ℕ, ◌<◌, Bool, true, ◌&&◌, nat_lt, List, length, refl}
use Rattle.std.specs.List.{list_any}
use Rattle.std.specs.Ordering.{nat_cmp, then_cmp, on}
use Rattle.std.specs.declared.cmp.Ordering.{Ordering}
use Rattle.std.specs.FinSet.{FinSet, contains, items, from_list, len}
use Rattle.std.specs.Coded.{Coded, code_by, coded×, coded_ℕ}
use Rattle.court_days.specs.declared.span_set.Span.{Span}

-- the order by the start, and then by the end
abbrev pub span_cmp : Span → Span → Ordering
span_cmp = then_cmp (on (λ (span : Span). span.start) nat_cmp) (on (λ (span : Span). span.end) nat_cmp)

-- a span as two numbers, so that spans can be compared
abbrev pub span_code : Coded Span
span_code =
    code_by (ℕ × ℕ) (coded× coded_ℕ coded_ℕ)
    (λ span. (span.start, span.end)) (λ p. record { start = p.0; end = p.1 }) (λ _. refl)

-- the spans of the list are all different
abbrev pub IsEachOnce : List Span → Type 0
IsEachOnce spans = len (from_list {R = span_cmp} spans) ≡ length spans

-- a span of the set has an instant from `start` up to but not with `end`
abbrev pub Meets : FinSet span_cmp → ℕ → ℕ → Type 0
Meets spans start end = (span : Span) × (contains spans span ≡ true) × (span.start < end) × (start < span.end)

-- the same as a test
unfoldable pub meets : FinSet span_cmp → ℕ → ℕ → Bool
meets spans start end = list_any (λ span. nat_lt span.start end && nat_lt start span.end) (items spans)
