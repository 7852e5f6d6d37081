-- The function returns the holiday of statute that the day is.
use Rattle.std.proofs.Common.{◌≡◌, ℕ, ◌+◌, ◌-◌, ◌≤◌, ◌==◌, nat_le, ◌⊎◌, inl, inr, Bool, true, false, ◌&&◌, if◌then◌else◌, Option, Some, None, is_some, ◌↔◌, refl, sym, ap, ◌∙◌, subst, arith}
use Rattle.std.proofs.lemmas.Bool.{true≢false, eqb-true, eq-eqb, and_parts, cases_Bool}
use Rattle.std.proofs.lemmas.Option.{same_Some, none-some}
use Rattle.civil_time.specs.Civil.{weekday, month_of, day_of_month, FallsOn}
use Rattle.civil_time.proofs.DateOf.{falls_on-means}
use Rattle.court_days.specs.Holiday.{is_within}
use Rattle.court_reasons.specs.Holidays.{is_date, IsHoliday, IsStatutoryAs}
use Rattle.court_reasons.specs.Statutory.{fixed_holiday, monday_holiday, thursday_holiday, fixed_on, statutory_holiday}
use Rattle.court_reasons.specs.declared.statutory.Holiday.{Holiday}
use Rattle.court_reasons.specs.declared.statutory.Holiday.TheVariants.{NewYear, King, Washington, Memorial, Juneteenth, Independence, Labor, Columbus, Veterans, Thanksgiving, Christmas}
use Rattle.court_reasons.specs.declared.statutory.StatutoryHoliday.{StatutoryHoliday}
use Rattle.court_reasons.proofs.NextDates.{next_date}
use Rattle.court_days.specs.Holiday.{IsStatutory}
use Rattle.court_reasons.proofs.StatutoryDays.{by_weekday, statutory_holiday-is, statutory_holiday-means, weekdays_apart}

-- the first of five whose test passes
abbrev Five : (x₁ x₂ x₃ x₄ x₅ : Holiday) (a b c d e : Bool) → Holiday → Type 0
Five x₁ x₂ x₃ x₄ x₅ a b c d e h =
    ((a ≡ true) × (x₁ ≡ h)) ⊎ (((b ≡ true) × (x₂ ≡ h)) ⊎ (((c ≡ true) × (x₃ ≡ h)) ⊎ (((d ≡ true) × (x₄ ≡ h)) ⊎ ((e ≡ true) × (x₅ ≡ h)))))

five : (x₁ x₂ x₃ x₄ x₅ : Holiday) (a b c d e : Bool) (h : Holiday) → (if a then Some x₁ else (if b then Some x₂ else (if c then Some x₃ else (if d then Some x₄ else (if e then Some x₅ else None))))) ≡ Some h → Five x₁ x₂ x₃ x₄ x₅ a b c d e h
five x₁ x₂ x₃ x₄ x₅ true b c d e h is = inl (refl, same_Some _ _ is)
five x₁ x₂ x₃ x₄ x₅ false true c d e h is = inr (inl (refl, same_Some _ _ is))
five x₁ x₂ x₃ x₄ x₅ false false true d e h is = inr (inr (inl (refl, same_Some _ _ is)))
five x₁ x₂ x₃ x₄ x₅ false false false true e h is = inr (inr (inr (inl (refl, same_Some _ _ is))))
five x₁ x₂ x₃ x₄ x₅ false false false false true h is = inr (inr (inr (inr (refl, same_Some _ _ is))))
five x₁ x₂ x₃ x₄ x₅ false false false false false h is = absurd (none-some _ is)

only_one : (x : Holiday) (a : Bool) (h : Holiday) → (if a then Some x else None) ≡ Some h → (a ≡ true) × (x ≡ h)
only_one x true h is = (refl, same_Some _ _ is)
only_one x false h is = absurd (none-some _ is)

-- which date a holiday of a fixed date has
fixed_five : (month day : ℕ) (h : Holiday) → fixed_holiday month day ≡ Some h → Five NewYear Juneteenth Independence Veterans Christmas (is_date 1 1 month day) (is_date 6 19 month day) (is_date 7 4 month day) (is_date 11 11 month day) (is_date 12 25 month day) h
fixed_five month day h is = five _ _ _ _ _ (is_date 1 1 month day) (is_date 6 19 month day) (is_date 7 4 month day) (is_date 11 11 month day) (is_date 12 25 month day) h is

monday_five : (month day : ℕ) (h : Holiday) → monday_holiday month day ≡ Some h → Five King Washington Memorial Labor Columbus (is_within 1 15 21 month day) (is_within 2 15 21 month day) (is_within 5 25 31 month day) (is_within 9 1 7 month day) (is_within 10 8 14 month day) h
monday_five month day h is = five _ _ _ _ _ (is_within 1 15 21 month day) (is_within 2 15 21 month day) (is_within 5 25 31 month day) (is_within 9 1 7 month day) (is_within 10 8 14 month day) h is

date_parts : (m d month day : ℕ) → is_date m d month day ≡ true → (month ≡ m) × (day ≡ d)
date_parts m d month day t = let both = and_parts (month == m) (day == d) t in (eqb-true month m both.0, eqb-true day d both.1)

-- what a day has of a fixed date falls on it
module _ (day : ℕ) (limit : day ≤ 1_000_001) (h : Holiday) where
  falls : (test : ℕ → ℕ → Bool) → test (month_of day) (day_of_month day) ≡ true → FallsOn test day
  falls test t = (falls_on-means test day (omega arith)).0 t

  fixed_falls : fixed_on day ≡ Some h → IsHoliday h day
  fixed_falls is =
      elim (fixed_five (month_of day) (day_of_month day) h is) [
        | inl (t, e) ↦ subst (λ k. IsHoliday k day) e (falls (is_date 1 1) t)
        | inr (inl (t, e)) ↦ subst (λ k. IsHoliday k day) e (falls (is_date 6 19) t)
        | inr (inr (inl (t, e))) ↦ subst (λ k. IsHoliday k day) e (falls (is_date 7 4) t)
        | inr (inr (inr (inl (t, e)))) ↦ subst (λ k. IsHoliday k day) e (falls (is_date 11 11) t)
        | inr (inr (inr (inr (t, e)))) ↦ subst (λ k. IsHoliday k day) e (falls (is_date 12 25) t)
      ]

  monday_falls : weekday day ≡ 1 → monday_holiday (month_of day) (day_of_month day) ≡ Some h → IsHoliday h day
  monday_falls w is =
      elim (monday_five (month_of day) (day_of_month day) h is) [
        | inl (t, e) ↦ subst (λ k. IsHoliday k day) e (w, falls (is_within 1 15 21) t)
        | inr (inl (t, e)) ↦ subst (λ k. IsHoliday k day) e (w, falls (is_within 2 15 21) t)
        | inr (inr (inl (t, e))) ↦ subst (λ k. IsHoliday k day) e (w, falls (is_within 5 25 31) t)
        | inr (inr (inr (inl (t, e)))) ↦ subst (λ k. IsHoliday k day) e (w, falls (is_within 9 1 7) t)
        | inr (inr (inr (inr (t, e)))) ↦ subst (λ k. IsHoliday k day) e (w, falls (is_within 10 8 14) t)
      ]

  thursday_falls : weekday day ≡ 4 → thursday_holiday (month_of day) (day_of_month day) ≡ Some h → IsHoliday h day
  thursday_falls w is =
      let one = only_one Thanksgiving (is_within 11 22 28 (month_of day) (day_of_month day)) h is in
      subst (λ k. IsHoliday k day) one.1 (w, falls (is_within 11 22 28) one.0)

-- and what falls on a day is what the day has: of a fixed date, of a Monday or of a Thursday
fixed_at : (m d month day : ℕ) (h : Holiday) → fixed_holiday m d ≡ Some h → is_date m d month day ≡ true → fixed_holiday month day ≡ Some h
fixed_at m d month day h is t =
    let parts = date_parts m d month day t in
    ap (λ k. fixed_holiday k day) parts.0 ∙ ap (fixed_holiday m) parts.1 ∙ is

yes : (x y : Option Holiday) (a : Bool) → a ≡ true → (if a then x else y) ≡ x
yes x y a e = ap (λ b. if b then x else y) e

abbrev Has : ℕ → Holiday → Type 0
Has day h =
    (fixed_on day ≡ Some h)
    ⊎ (((weekday day ≡ 1) × (monday_holiday (month_of day) (day_of_month day) ≡ Some h))
    ⊎ ((weekday day ≡ 4) × (thursday_holiday (month_of day) (day_of_month day) ≡ Some h)))

module _ (day : ℕ) (limit : day ≤ 1_000_001) where
  passes : (test : ℕ → ℕ → Bool) → FallsOn test day → test (month_of day) (day_of_month day) ≡ true
  passes test f = (falls_on-means test day (omega arith)).1 f

  has_fixed : (m d : ℕ) (h : Holiday) → fixed_holiday m d ≡ Some h → FallsOn (is_date m d) day → Has day h
  has_fixed m d h is f = inl (fixed_at m d (month_of day) (day_of_month day) h is (passes (is_date m d) f))

  has_monday : (m low high : ℕ) (h : Holiday) (rest : Option Holiday) → weekday day ≡ 1 → FallsOn (is_within m low high) day
      → monday_holiday m (day_of_month day) ≡ (if nat_le low (day_of_month day) && nat_le (day_of_month day) high then Some h else rest) → Has day h
  has_monday m low high h rest w f is =
      let month = day_of_month day in
      let parts = and_parts (month_of day == m) (nat_le low month && nat_le month high) (passes (is_within m low high) f) in
      inr (inl (w, ap (λ k. monday_holiday k month) (eqb-true (month_of day) m parts.0) ∙ is ∙ yes (Some h) rest _ parts.1))

  has : (h : Holiday) → IsHoliday h day → Has day h
  has NewYear f = has_fixed 1 1 NewYear refl f
  has King (w, f) = has_monday 1 15 21 King None w f refl
  has Washington (w, f) = has_monday 2 15 21 Washington None w f refl
  has Memorial (w, f) = has_monday 5 25 31 Memorial None w f refl
  has Juneteenth f = has_fixed 6 19 Juneteenth refl f
  has Independence f = has_fixed 7 4 Independence refl f
  has Labor (w, f) = has_monday 9 1 7 Labor None w f refl
  has Columbus (w, f) = has_monday 10 8 14 Columbus None w f refl
  has Veterans f = has_fixed 11 11 Veterans refl f
  has Thanksgiving (w, f) = inr (inr (w, yes (Some Thanksgiving) None _ (passes (is_within 11 22 28) f)))
  has Christmas f = has_fixed 12 25 Christmas refl f

-- no two fall on a day
not_at : (low day n : ℕ) → nat_le low day ≡ true → nat_le low n ≡ false → (day == n) ≡ false
not_at low day n t f =
    elim (cases_Bool (day == n)) [
      | inl e ↦ absurd (true≢false (sym (subst (λ k. nat_le low k ≡ true) (eqb-true day n e) t) ∙ f))
      | inr e ↦ e
    ]

abbrev new_year_or : Bool → Option Holiday
new_year_or a = if a then Some NewYear else None

within_parts : (m low high month day : ℕ) → is_within m low high month day ≡ true → (month ≡ m) × (nat_le low day ≡ true)
within_parts m low high month day t =
    let parts = and_parts (month == m) (nat_le low day && nat_le day high) t in
    (eqb-true month m parts.0, (and_parts (nat_le low day) (nat_le day high) parts.1).0)

no_fixed_in : (m low high month day : ℕ) → is_within m low high month day ≡ true → fixed_holiday m day ≡ None → fixed_holiday month day ≡ None
no_fixed_in m low high month day t is = ap (λ k. fixed_holiday k day) (within_parts m low high month day t).0 ∙ is

monday_no_fixed : (month day : ℕ) (h : Holiday) → monday_holiday month day ≡ Some h → fixed_holiday month day ≡ None
monday_no_fixed month day h is =
    elim (monday_five month day h is) [
      | inl (t, e) ↦ no_fixed_in 1 15 21 month day t (ap new_year_or (not_at 15 day 1 (within_parts 1 15 21 month day t).1 refl))
      | inr (inl (t, e)) ↦ no_fixed_in 2 15 21 month day t refl
      | inr (inr (inl (t, e))) ↦ no_fixed_in 5 25 31 month day t refl
      | inr (inr (inr (inl (t, e)))) ↦ no_fixed_in 9 1 7 month day t refl
      | inr (inr (inr (inr (t, e)))) ↦ no_fixed_in 10 8 14 month day t refl
    ]

abbrev veterans_or : Bool → Option Holiday
veterans_or a = if a then Some Veterans else None

thursday_no_fixed : (month day : ℕ) (h : Holiday) → thursday_holiday month day ≡ Some h → fixed_holiday month day ≡ None
thursday_no_fixed month day h is =
    let one = only_one Thanksgiving (is_within 11 22 28 month day) h is in
    no_fixed_in 11 22 28 month day one.0 (ap veterans_or (not_at 22 day 11 (within_parts 11 22 28 month day one.0).1 refl))

-- the day after a fixed date has no holiday of a fixed date, and none of a Monday
abbrev HasNone : ℕ → ℕ → Type 0
HasNone month day = (fixed_holiday month day ≡ None) × (monday_holiday month day ≡ None)

after_date : (m d day : ℕ) → day ≤ 1_000_001 → d ≤ 27 → is_date m d (month_of day) (day_of_month day) ≡ true → HasNone m (d + 1) → HasNone (month_of (day + 1)) (day_of_month (day + 1))
after_date m d day limit early t none =
    let parts = date_parts m d (month_of day) (day_of_month day) t in
    let next = next_date day limit (omega (arith, parts.1)) in
    let month : month_of (day + 1) ≡ m = next.0 ∙ parts.0 in
    let dom : day_of_month (day + 1) ≡ d + 1 = next.1 ∙ ap (λ k. k + 1) parts.1 in
    subst (λ k. HasNone k (day_of_month (day + 1))) (sym month) (subst (λ k. HasNone m k) (sym dom) none)

after_fixed : (day : ℕ) (h : Holiday) → day ≤ 1_000_001 → fixed_on day ≡ Some h → HasNone (month_of (day + 1)) (day_of_month (day + 1))
after_fixed day h limit is =
    elim (fixed_five (month_of day) (day_of_month day) h is) [
      | inl (t, e) ↦ after_date 1 1 day limit (omega arith) t (refl, refl)
      | inr (inl (t, e)) ↦ after_date 6 19 day limit (omega arith) t (refl, refl)
      | inr (inr (inl (t, e))) ↦ after_date 7 4 day limit (omega arith) t (refl, refl)
      | inr (inr (inr (inl (t, e)))) ↦ after_date 11 11 day limit (omega arith) t (refl, refl)
      | inr (inr (inr (inr (t, e)))) ↦ after_date 12 25 day limit (omega arith) t (refl, refl)
    ]

none_before : (day : ℕ) (h : Holiday) (f : Option Holiday) → day ≤ 1_000_001 → fixed_on (day + 1) ≡ Some h → fixed_on day ≡ f → f ≡ None
none_before day h None limit is e = refl
none_before day h (Some other) limit is e = absurd (none-some h (sym (after_fixed day other limit e).0 ∙ is))

-- what a day has, by its parts
abbrev own : Holiday → StatutoryHoliday
own h = record { holiday = h; observed = false }

abbrev seen : Holiday → StatutoryHoliday
seen h = record { holiday = h; observed = true }

abbrev Told : Option Holiday → Option Holiday → Option Holiday → Option Holiday → Option Holiday → Bool → Bool → Bool → StatutoryHoliday → Type 0
Told f m b t n w₁ w₄ w₅ s =
    ((h : Holiday) × (own h ≡ s) × ((f ≡ Some h) ⊎ (((w₁ ≡ true) × (m ≡ Some h)) ⊎ ((w₄ ≡ true) × (t ≡ Some h)))))
    ⊎ ((h : Holiday) × (seen h ≡ s) × (((w₅ ≡ true) × (n ≡ Some h)) ⊎ ((w₁ ≡ true) × (b ≡ Some h))))

told : (f m b t n : Option Holiday) (w₁ w₄ w₅ : Bool) (s : StatutoryHoliday) → by_weekday f m b t n w₁ w₄ w₅ ≡ Some s → Told f m b t n w₁ w₄ w₅ s
told (Some h) m b t n w₁ w₄ w₅ s is = inl (h, same_Some _ _ is, inl refl)
told None (Some h) b t n true w₄ w₅ s is = inl (h, same_Some _ _ is, inr (inl (refl, refl)))
told None None (Some h) t n true w₄ w₅ s is = inr (h, same_Some _ _ is, inr (refl, refl))
told None None None t n true w₄ w₅ s is = absurd (none-some _ is)
told None m b (Some h) n false true w₅ s is = inl (h, same_Some _ _ is, inr (inr (refl, refl)))
told None m b None n false true w₅ s is = absurd (none-some _ is)
told None m b t (Some h) false false true s is = inr (h, same_Some _ _ is, inl (refl, refl))
told None m b t None false false true s is = absurd (none-some _ is)
told None m b t n false false false s is = absurd (none-some _ is)

-- and the function returns what the parts have, where no two parts have one
record Apart (f m b t n : Option Holiday) (w₁ w₄ w₅ : Bool) : Type 0 where
  monday : (h : Holiday) → m ≡ Some h → f ≡ None
  thursday : (h : Holiday) → t ≡ Some h → f ≡ None
  before : w₁ ≡ true → (h : Holiday) → b ≡ Some h → (f ≡ None) × (m ≡ None)
  after : (h : Holiday) → n ≡ Some h → f ≡ None
  no_thursday : w₄ ≡ true → w₁ ≡ false
  no_friday : w₅ ≡ true → (w₁ ≡ false) × (w₄ ≡ false)

tells : (f m b t n : Option Holiday) (w₁ w₄ w₅ : Bool) (s : StatutoryHoliday) → Apart f m b t n w₁ w₄ w₅ → Told f m b t n w₁ w₄ w₅ s → by_weekday f m b t n w₁ w₄ w₅ ≡ Some s
tells f m b t n w₁ w₄ w₅ s apart (inl (h, e, inl is)) = (λ i. by_weekday (is i) m b t n w₁ w₄ w₅) ∙ ap Some e
tells f m b t n w₁ w₄ w₅ s apart (inl (h, e, inr (inl (w, is)))) =
    let none = apart.monday h is in (λ i. by_weekday (none i) (is i) b t n (w i) w₄ w₅) ∙ ap Some e
tells f m b t n w₁ w₄ w₅ s apart (inl (h, e, inr (inr (w, is)))) =
    let none = apart.thursday h is in
    let other = apart.no_thursday w in (λ i. by_weekday (none i) m b (is i) n (other i) (w i) w₅) ∙ ap Some e
tells f m b t n w₁ w₄ w₅ s apart (inr (h, e, inl (w, is))) =
    let none = apart.after h is in
    let other = apart.no_friday w in (λ i. by_weekday (none i) m b t (is i) (other.0 i) (other.1 i) (w i)) ∙ ap Some e
tells f m b t n w₁ w₄ w₅ s apart (inr (h, e, inr (w, is))) =
    let none = apart.before w h is in (λ i. by_weekday (none.0 i) (none.1 i) (is i) t n (w i) w₄ w₅) ∙ ap Some e

module _ (day : ℕ) (limit : day ≤ 1_000_000) where
  parts_apart : Apart (fixed_on day) (monday_holiday (month_of day) (day_of_month day)) (fixed_on (day - 1)) (thursday_holiday (month_of day) (day_of_month day)) (fixed_on (day + 1)) (weekday day == 1) (weekday day == 4) (weekday day == 5)
  parts_apart = record {
    monday = λ h is. monday_no_fixed (month_of day) (day_of_month day) h is;
    thursday = λ h is. thursday_no_fixed (month_of day) (day_of_month day) h is;
    before = λ w h is. let on : (day - 1) + 1 ≡ day = omega (arith, eqb-true (weekday day) 1 w) in
        subst (λ d. HasNone (month_of d) (day_of_month d)) on (after_fixed (day - 1) h (omega arith) is);
    after = λ h is. none_before day h (fixed_on day) (omega arith) is refl;
    no_thursday = λ w. weekdays_apart (weekday day) 4 1 (λ e. omega arith) w;
    no_friday = λ w. (weekdays_apart (weekday day) 5 1 (λ e. omega arith) w, weekdays_apart (weekday day) 5 4 (λ e. omega arith) w);
  }

  abbrev TellsOn : StatutoryHoliday → Type 0
  TellsOn s = Told (fixed_on day) (monday_holiday (month_of day) (day_of_month day)) (fixed_on (day - 1)) (thursday_holiday (month_of day) (day_of_month day)) (fixed_on (day + 1)) (weekday day == 1) (weekday day == 4) (weekday day == 5) s

  means : (s : StatutoryHoliday) → TellsOn s → IsStatutoryAs s day
  means s (inl (h, e, inl is)) = subst (λ x. IsStatutoryAs x day) e (fixed_falls day (omega arith) h is)
  means s (inl (h, e, inr (inl (w, is)))) =
      subst (λ x. IsStatutoryAs x day) e (monday_falls day (omega arith) h (eqb-true (weekday day) 1 w) is)
  means s (inl (h, e, inr (inr (w, is)))) =
      subst (λ x. IsStatutoryAs x day) e (thursday_falls day (omega arith) h (eqb-true (weekday day) 4 w) is)
  means s (inr (h, e, inl (w, is))) =
      subst (λ x. IsStatutoryAs x day) e (inl (eqb-true (weekday day) 5 w, fixed_falls (day + 1) (omega arith) h is))
  means s (inr (h, e, inr (w, is))) =
      subst (λ x. IsStatutoryAs x day) e (inr (eqb-true (weekday day) 1 w, fixed_falls (day - 1) (omega arith) h is))

  of_day : (h : Holiday) → Has day h → TellsOn (own h)
  of_day h (inl is) = inl (h, refl, inl is)
  of_day h (inr (inl (w, is))) = inl (h, refl, inr (inl (eq-eqb (weekday day) 1 w, is)))
  of_day h (inr (inr (w, is))) = inl (h, refl, inr (inr (eq-eqb (weekday day) 4 w, is)))

  of_friday : (h : Holiday) → weekday day ≡ 5 → Has (day + 1) h → TellsOn (seen h)
  of_friday h w (inl is) = inr (h, refl, inl (eq-eqb (weekday day) 5 w, is))
  of_friday h w (inr (inl (v, is))) = absurd (omega arith)
  of_friday h w (inr (inr (v, is))) = absurd (omega arith)

  of_monday : (h : Holiday) → weekday day ≡ 1 → Has (day - 1) h → TellsOn (seen h)
  of_monday h w (inl is) = inr (h, refl, inr (eq-eqb (weekday day) 1 w, is))
  of_monday h w (inr (inl (v, is))) = absurd (omega arith)
  of_monday h w (inr (inr (v, is))) = absurd (omega arith)

  of_had : (observed : Bool) (h : Holiday) → IsStatutoryAs (record { holiday = h; observed = observed }) day → TellsOn (record { holiday = h; observed = observed })
  of_had false h is = of_day h (has day (omega arith) h is)
  of_had true h (inl (w, is)) = of_friday h w (has (day + 1) (omega arith) h is)
  of_had true h (inr (w, is)) = of_monday h w (has (day - 1) (omega arith) h is)

  pub statutory_holiday-tells : (s : StatutoryHoliday) → (statutory_holiday day ≡ Some s) ↔ IsStatutoryAs s day
  statutory_holiday-tells s = (
    λ is. means s (told _ _ _ _ _ (weekday day == 1) (weekday day == 4) (weekday day == 5) s (sym (statutory_holiday-is day) ∙ is)),
    λ is. statutory_holiday-is day ∙ tells _ _ _ _ _ (weekday day == 1) (weekday day == 4) (weekday day == 5) s parts_apart (of_had s.observed s.holiday is),
  )

pub had_holiday-tells : (day : ℕ) (had : Option StatutoryHoliday) → day ≤ 1_000_000 → had ≡ statutory_holiday day → (s : StatutoryHoliday) → (had ≡ Some s) ↔ IsStatutoryAs s day
had_holiday-tells day had limit is s =
    let tells = statutory_holiday-tells day limit s in (λ e. tells.0 (sym is ∙ e), λ h. is ∙ tells.1 h)

-- each day of statute has one of the eleven, and one alone
some_of : (had : Option StatutoryHoliday) → is_some had ≡ true → (s : StatutoryHoliday) × (had ≡ Some s)
some_of (Some s) e = (s, refl)
some_of None e = absurd (true≢false (sym e))

pub statutory_days-had : (day : ℕ) → day ≤ 1_000_000 → IsStatutory day ↔ ((had : StatutoryHoliday) × IsStatutoryAs had day)
statutory_days-had day limit =
    let means = statutory_holiday-means day limit in (
      λ is. let had = some_of (statutory_holiday day) (means.1 is) in (had.0, (statutory_holiday-tells day limit had.0).0 had.1),
      λ had. means.0 (ap is_some ((statutory_holiday-tells day limit had.0).1 had.1)),
    )

pub statutory_holiday-once : (day : ℕ) (had other : StatutoryHoliday) → day ≤ 1_000_000 → IsStatutoryAs had day → IsStatutoryAs other day → had ≡ other
statutory_holiday-once day had other limit is too =
    same_Some had other (sym ((statutory_holiday-tells day limit had).1 is) ∙ (statutory_holiday-tells day limit other).1 too)
