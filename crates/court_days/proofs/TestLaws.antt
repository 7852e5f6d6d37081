-- The tests of specs/ agree with the relations.
use Rattle.std.proofs.Common.{◌≡◌, ℕ, ◌+◌, ◌-◌, ◌≤◌, ◌==◌, ◌⊎◌, inl, inr, Bool, true, false, not, ◌&&◌, ◌||◌, refl, sym, IsTrue, ◌↔◌, arith}
use Rattle.std.proofs.lemmas.Bool.{both_ways, or_cases, or_left, or_right, and_parts, and_from, cases_Bool, not-true, not_from_false, false_from_ne_true, eqb-true, eq-eqb}
use Rattle.civil_time.specs.Civil.{weekday, FallsOn}
use Rattle.court_days.specs.Holiday.{is_fixed_date, is_monday_date, is_thursday_date, IsFixedHoliday, is_fixed_holiday, IsStatutory, is_statutory, fixed, monday, thursday, before_saturday, after_sunday}
use Rattle.court_days.specs.Calendar.{Entered}
use Rattle.court_days.specs.Legal.{IsWeekend, is_weekend, IsStateHoliday, is_state_holiday, IsLegalHoliday, is_legal_holiday, IsBusinessDay, is_business_day, IsOpen, is_open, IsOpenBusinessDay, is_open_business_day}
use Rattle.court_days.specs.declared.calendar.Direction.{Direction}
use Rattle.court_days.specs.declared.calendar.Direction.TheVariants.{Forward, Backward}
use Rattle.civil_time.proofs.DateOf.{falls_on-means}

-- the test passes just where the fact holds
abbrev pub Tells : Bool → Type 0 → Type 0
Tells test P = (test ≡ true) ↔ P

-- two tests of one fact are the same
pub same_test : (P : Type 0) (r t : Bool) → (IsTrue r ↔ P) → Tells t P → r ≡ t
same_test P true t h k = sym (k.1 (h.0 refl))
same_test P false t h k = elim (cases_Bool t) [ inl e ↦ absurd (both_ways false refl (h.1 (k.0 e))) | inr e ↦ sym e ]

module _ {P Q : Type 0} {a b : Bool} where
  pub tells-or : Tells a P → Tells b Q → Tells (a || b) (P ⊎ Q)
  tells-or h k = (
    λ t. elim (or_cases a b t) [ inl e ↦ inl (h.0 e) | inr e ↦ inr (k.0 e) ],
    λ s. elim s [ inl p ↦ or_left a b (h.1 p) | inr q ↦ or_right a b (k.1 q) ],
  )

  pub tells-and : Tells a P → Tells b Q → Tells (a && b) (P × Q)
  tells-and h k =
      (λ t. let both = and_parts a b t in (h.0 both.0, k.0 both.1), λ q. and_from a b (h.1 q.0) (k.1 q.1))

pub tells-not : {P : Type 0} {a : Bool} → Tells a P → Tells (not a) (¬ P)
tells-not {P} {a} h =
    (λ t p. both_ways a (not-true a t) (h.1 p), λ no. not_from_false a (false_from_ne_true a (λ e. no (h.0 e))))

pub tells-equal : (m n : ℕ) → Tells (m == n) (m ≡ n)
tells-equal m n = (eqb-true m n, eq-eqb m n)

-- the kinds of statutory days, in the order of the test
abbrev Kinds : ℕ → Type 0
Kinds day =
    ((IsFixedHoliday day
    ⊎ ((weekday day ≡ 1) × (FallsOn is_monday_date day ⊎ IsFixedHoliday (day - 1))))
    ⊎ ((weekday day ≡ 4) × FallsOn is_thursday_date day))
    ⊎ ((weekday day ≡ 5) × IsFixedHoliday (day + 1))

of_kinds : (day : ℕ) → Kinds day → IsStatutory day
of_kinds day (inl (inl (inl f))) = fixed f
of_kinds day (inl (inl (inr (w, inl f)))) = monday w f
of_kinds day (inl (inl (inr (w, inr f)))) = after_sunday w f
of_kinds day (inl (inr (w, f))) = thursday w f
of_kinds day (inr (w, f)) = before_saturday w f

kinds : (day : ℕ) → IsStatutory day → Kinds day
kinds day (fixed f) = inl (inl (inl f))
kinds day (monday w f) = inl (inl (inr (w, inl f)))
kinds day (after_sunday w f) = inl (inl (inr (w, inr f)))
kinds day (thursday w f) = inl (inr (w, f))
kinds day (before_saturday w f) = inr (w, f)

by_kinds : (day : ℕ) → day ≤ 1_000_000 → Tells (is_statutory day) (Kinds day)
unfolding is_statutory is_fixed_holiday
by_kinds day h =
    tells-or
    (tells-or
    (tells-or (falls_on-means is_fixed_date day (omega arith))
    (tells-and (tells-equal (weekday day) 1) (tells-or (falls_on-means is_monday_date day (omega arith)) (falls_on-means is_fixed_date (day - 1) (omega arith)))))
    (tells-and (tells-equal (weekday day) 4) (falls_on-means is_thursday_date day (omega arith))))
    (tells-and (tells-equal (weekday day) 5) (falls_on-means is_fixed_date (day + 1) (omega arith)))

pub is_statutory-means : (day : ℕ) → day ≤ 1_000_000 → (is_statutory day ≡ true) ↔ IsStatutory day
is_statutory-means day h = let t = by_kinds day h in (λ e. of_kinds day (t.0 e), λ s. t.1 (kinds day s))

pub is_weekend-means : (day : ℕ) → (is_weekend day ≡ true) ↔ IsWeekend day
unfolding is_weekend
is_weekend-means day = tells-or (tells-equal (weekday day) 6) (tells-equal (weekday day) 0)

pub is_state_holiday-means : (entered : Entered) (direction : Direction) (day : ℕ) → (is_state_holiday entered direction day ≡ true) ↔ IsStateHoliday entered direction day
unfolding is_state_holiday
is_state_holiday-means entered Forward day = (λ e. e, λ e. e)
is_state_holiday-means entered Backward day = (λ e. both_ways false refl e, λ f. absurd f)

module _ (entered : Entered) (direction : Direction) (day : ℕ) (limit : day ≤ 1_000_000) where
  pub is_legal_holiday-means : (is_legal_holiday entered direction day ≡ true) ↔ IsLegalHoliday entered direction day
  unfolding is_legal_holiday
  is_legal_holiday-means =
      tells-or (is_statutory-means day limit) (tells-or (λ e. e, λ e. e) (is_state_holiday-means entered direction day))

  pub is_business_day-means : (is_business_day entered direction day ≡ true) ↔ IsBusinessDay entered direction day
  unfolding is_business_day
  is_business_day-means = tells-and (tells-not (is_weekend-means day)) (tells-not is_legal_holiday-means)

pub is_open-means : (entered : Entered) (day : ℕ) → (is_open entered day ≡ true) ↔ IsOpen entered day
unfolding is_open
is_open-means entered day = tells-not (λ e. e, λ e. e)

pub is_open_business_day-means : (entered : Entered) (direction : Direction) (day : ℕ) → day ≤ 1_000_000 → (is_open_business_day entered direction day ≡ true) ↔ IsOpenBusinessDay entered direction day
unfolding is_open_business_day
is_open_business_day-means entered direction day limit = tells-and (is_business_day-means entered direction day limit) (is_open-means entered day)
