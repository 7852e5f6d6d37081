-- The local days of an hour.
use Rattle.std.proofs.Common.{◌≡◌, ℕ, ◌+◌, ◌-◌, ◌*◌, ◌/◌, ◌<◌, ◌≤◌, ◌⊎◌, inl, inr, true, false, Bool, cond, not, nat_lt, nat_le, Option, None, Some, refl, sym, ap, ◌∙◌, arith}
use Rattle.std.specs.Option.{ForSome}
use Rattle.std.proofs.lemmas.Bool.{cases_order}
use Rattle.std.proofs.lemmas.Bool.Decides.{nat_tests}
use Rattle.civil_time.specs.Civil.{year_of}
use Rattle.civil_time.specs.LocalTime.{is_between, first_of_month, change_day, is_summer, summer_begins, summer_ends, shown_at, standard_time, local_day, IsInstant}
use Rattle.civil_time.specs.Zone.{ZoneRules, IsZone, IsSummerTime}
use Rattle.civil_time.specs.declared.zone.SummerTime.{SummerTime}
use Rattle.civil_time.proofs.MonthDays.{month_within, month_before, change_day-in, year_bounds, first_mono}
use Rattle.civil_time.proofs.LocalTimeLemmas.{standard_later, standard_bound, local_time-shown}

nat_le-same : (a s t : ℕ) → (a ≤ s → a ≤ t) → (a ≤ t → a ≤ s) → nat_le a s ≡ nat_le a t
nat_le-same a s t f g = grind (arith, nat_tests)

nat_lt-same : (a s t : ℕ) → (a ≤ s → a ≤ t) → (a ≤ t → a ≤ s) → nat_lt s a ≡ nat_lt t a
nat_lt-same a s t f g = grind (arith, nat_tests)

-- two times with no change between them
is_between-same : (b e s t : ℕ) → (b ≤ s → b ≤ t) → (b ≤ t → b ≤ s) → (e ≤ s → e ≤ t) → (e ≤ t → e ≤ s) → is_between b e s ≡ is_between b e t
is_between-same b e s t f g h k =
    rw (nat_le-same b s t f g, nat_lt-same b s t f g, nat_le-same e s t h k, nat_lt-same e s t h k) refl

-- after both changes of a year, and before both
is_between-after : (b e s : ℕ) → b ≤ s → e ≤ s → is_between b e s ≡ not (nat_lt b e)
is_between-after b e s f g = grind (arith, nat_tests)

is_between-before : (b e t : ℕ) → t < b → t < e → is_between b e t ≡ not (nat_lt b e)
is_between-before b e t f g = grind (arith, nat_tests)

nat_lt-both : (a b x y : ℕ) → (x < y → a < b) → (y ≤ x → b ≤ a) → nat_lt a b ≡ nat_lt x y
nat_lt-both a b x y f g = grind (arith, nat_tests)

-- the change that comes first in one year does so in each
order_is : (summer : SummerTime) (is : IsSummerTime summer) (y : ℕ) → 1970 ≤ y → nat_lt (summer_begins summer y) (summer_ends summer y) ≡ nat_lt summer.begins.month summer.ends.month
order_is summer is y h =
    let b = change_day-in summer.begins is.begins y in
    let e = change_day-in summer.ends is.ends y in
    nat_lt-both (summer_begins summer y) (summer_ends summer y) summer.begins.month summer.ends.month
    (λ lt. omega (arith, month_before y summer.begins.month summer.ends.month h (omega (arith, is.begins.month)) lt))
    (λ ge. let apart : ¬ (summer.begins.month ≡ summer.ends.month) = is.apart.0 in
    omega (arith, month_before y summer.ends.month summer.begins.month h (omega (arith, is.ends.month)) (omega arith)))

-- no change of a year lies between two times less than an hour apart that are both near a midnight
pub no_change : (s t day change k : ℕ) → s ≤ t → t < s + 3600 → s / 86_400 < (t + 3600) / 86_400 → change ≡ 86_400 * day + k → 3600 ≤ k → k ≤ 7200 → change ≤ t → change ≤ s
no_change s t day change k a b c d e f g = omega arith

-- the day after, where two such times lie on different days
next_day : (s t : ℕ) → s ≤ t → t < s + 3600 → (t / 86_400 ≡ s / 86_400) ⊎ (t / 86_400 ≡ s / 86_400 + 1)
next_day s t a b =
    elim (cases_order (t / 86_400) (s / 86_400)) [
      | inl e ↦ inl e
      | inr (inl lt) ↦ absurd (omega arith)
      | inr (inr gt) ↦ inr (omega arith)
    ]

in_a_year : (summer : SummerTime) (is : IsSummerTime summer) (y s t : ℕ) → s ≤ t → t < s + 3600 → s / 86_400 < (t + 3600) / 86_400 → is_between (summer_begins summer y) (summer_ends summer y) s ≡ is_between (summer_begins summer y) (summer_ends summer y) t
in_a_year summer is y s t a b c =
    is_between-same (summer_begins summer y) (summer_ends summer y) s t
    (λ le. omega arith) (no_change s t (change_day summer.begins y) _ 7200 a b c refl (omega arith) (omega arith))
    (λ le. omega arith) (no_change s t (change_day summer.ends y) _ 3600 a b c refl (omega arith) (omega arith))

-- over the end of a year
pub over_years : (summer : SummerTime) (is : IsSummerTime summer) (y y' s t : ℕ) → 1970 ≤ y → y < y' → s / 86_400 < first_of_month (y + 1) 1 → first_of_month y' 1 ≤ t / 86_400 → s ≤ t → t < s + 3600 → is_between (summer_begins summer y) (summer_ends summer y) s ≡ is_between (summer_begins summer y') (summer_ends summer y') t
over_years summer is y y' s t low lt a b c d =
    let first = first_mono y y' low lt in
    let mb = month_within y summer.begins.month low is.begins.month.0 is.begins.month.1 in
    let me = month_within y summer.ends.month low is.ends.month.0 is.ends.month.1 in
    let mb' = month_within y' summer.begins.month (omega arith) is.begins.month.0 is.begins.month.1 in
    let me' = month_within y' summer.ends.month (omega arith) is.ends.month.0 is.ends.month.1 in
    let after = is_between-after (summer_begins summer y) (summer_ends summer y) s
    (omega (arith, change_day-in summer.begins is.begins y)) (omega (arith, change_day-in summer.ends is.ends y)) in
    let before = is_between-before (summer_begins summer y') (summer_ends summer y') t
    (omega (arith, change_day-in summer.begins is.begins y')) (omega (arith, change_day-in summer.ends is.ends y')) in
    after ∙ ap not (order_is summer is y low ∙ sym (order_is summer is y' (omega arith))) ∙ sym before

-- two times less than an hour apart are both in summer time or both not, or they lie on one day
pub steady : (summer : Option SummerTime) (is : ForSome summer IsSummerTime) (s t : ℕ) → t < 64_060_588_800 → s ≤ t → t < s + 3600 → (is_summer summer s ≡ is_summer summer t) ⊎ (s / 86_400 ≡ (t + 3600) / 86_400)
steady None is s t high a b = inl refl
steady (Some summer) is_some s t high a b =
    let is : IsSummerTime summer = is_some summer refl in
    let y = year_of (s / 86_400) in
    let y' = year_of (t / 86_400) in
    let of_s = year_bounds (s / 86_400) (omega arith) in
    let of_t = year_bounds (t / 86_400) (omega arith) in
    elim (cases_order (s / 86_400) ((t + 3600) / 86_400)) [
      | inl same ↦ inr same
      | inr (inr gt) ↦ absurd (omega arith)
      | inr (inl near) ↦ inl (elim (cases_order y y') [
        | inl e ↦ in_a_year summer is y s t a b near ∙ ap (λ (z : ℕ). is_between (summer_begins summer z) (summer_ends summer z) t) e
        | inr (inl lt) ↦ over_years summer is y y' s t of_s.0 lt of_s.3 of_t.2 a b
        | inr (inr gt) ↦ absurd (omega (arith, first_mono y' y of_t.0 gt, next_day s t a b))
      ])
    ]

shown_is : (zone : ZoneRules) (s : ℕ) (b : Bool) → is_summer zone.summer s ≡ b → shown_at zone s ≡ s + cond b 3600 0
shown_is zone s b e = rw e refl

extra_bound : (b : Bool) → cond b 3600 0 ≤ 3600
extra_bound true = omega arith
extra_bound false = omega arith

one_day : (s t u v : ℕ) → s ≤ t → u ≤ 3600 → v ≤ 3600 → s / 86_400 ≡ (t + 3600) / 86_400 → (t + v) / 86_400 ≡ (s + u) / 86_400
one_day s t u v a b c e = omega arith

in_hour : (s k v : ℕ) → k ≤ 3599 → ((s + k + v) / 86_400 ≡ (s + v) / 86_400) ⊎ ((s + k + v) / 86_400 ≡ (s + 3599 + v) / 86_400)
in_hour s k v h =
    elim (cases_order ((s + k + v) / 86_400) ((s + v) / 86_400)) [
      | inl e ↦ inl e
      | inr (inl lt) ↦ absurd (omega arith)
      | inr (inr gt) ↦ inr (omega arith)
    ]

day_in_hour : (zone : ZoneRules) (is : IsZone zone) (s k : ℕ) → s + 3599 < 64_060_588_800 → k ≤ 3599 → (shown_at zone (s + k) / 86_400 ≡ shown_at zone s / 86_400) ⊎ (shown_at zone (s + k) / 86_400 ≡ shown_at zone (s + 3599) / 86_400)
day_in_hour zone is s k high h =
    let b = is_summer zone.summer s in
    let m = is_summer zone.summer (s + k) in
    let l = is_summer zone.summer (s + 3599) in
    elim (steady zone.summer is.summer s (s + k) (omega arith) (omega arith) (omega arith)) [
      | inr day ↦ inl (rw (shown_is zone s b refl, shown_is zone (s + k) m refl) (one_day s (s + k) (cond b 3600 0) (cond m 3600 0) (omega arith) (extra_bound b) (extra_bound m) day))
      | inl first ↦ elim (steady zone.summer is.summer (s + k) (s + 3599) high (omega arith) (omega arith)) [
        | inr day ↦ inr (rw (shown_is zone (s + 3599) l refl, shown_is zone (s + k) m refl) (sym (one_day (s + k) (s + 3599) (cond m 3600 0) (cond l 3600 0) (omega arith) (extra_bound m) (extra_bound l) day)))
        | inl last ↦ rw (shown_is zone s m first, shown_is zone (s + k) m refl, shown_is zone (s + 3599) m (sym last)) (in_hour s k (cond m 3600 0) h)
      ]
    ]

-- each instant of an hour has the local day of its first or of its last second
pub hour_days : (zone : ZoneRules) (is : IsZone zone) (end instant : ℕ) → IsInstant (end - 3600) → IsInstant end → end - 3600 ≤ instant → instant < end → (local_day zone instant ≡ local_day zone (end - 3600)) ⊎ (local_day zone instant ≡ local_day zone (end - 1))
hour_days zone is end instant a b c d =
    let start = end - 3600 in
    let k = instant - start in
    let e : instant ≡ start + k = omega arith in
    let f : end - 1 ≡ start + 3599 = omega arith in
    let s = standard_time zone start in
    let high : s + 3599 < 64_060_588_800 = omega (arith, standard_bound zone is start (omega arith)) in
    rw (
      e,
      f,
      local_time-shown zone is (start + k) (omega arith),
      local_time-shown zone is start (omega arith),
      local_time-shown zone is (start + 3599) (omega arith),
      standard_later zone is start k (omega arith),
      standard_later zone is start 3599 (omega arith),
    ) (day_in_hour zone is s k high (omega arith))
