-- A day has a holiday of statute just where it is one.
use Rattle.std.proofs.Common.{◌≡◌, ℕ, ◌+◌, ◌-◌, ◌≤◌, ◌==◌, Bool, true, false, ◌||◌, ◌&&◌, if◌then◌else◌, inl, inr, Option, Some, None, is_some, IsTrue, ◌↔◌, refl, sym, ap, ◌∙◌, arith}
use Rattle.std.proofs.lemmas.Bool.{true≢false, eqb-true, cases_Bool}
use Rattle.civil_time.specs.Civil.{weekday, month_of, day_of_month}
use Rattle.court_days.specs.Holiday.{is_fixed_date, is_monday_date, is_thursday_date, is_within, is_fixed_holiday, is_statutory, IsStatutory}
use Rattle.court_days.proofs.TestLaws.{is_statutory-means}
use Rattle.court_reasons.specs.Statutory.{fixed_holiday, monday_holiday, thursday_holiday, fixed_on, own_day, observed_day, on_monday, fixed_or, statutory_holiday}
use Rattle.court_reasons.specs.declared.statutory.Holiday.{Holiday}
use Rattle.court_reasons.specs.declared.statutory.StatutoryHoliday.{StatutoryHoliday}

first_of_five : (x₁ x₂ x₃ x₄ x₅ : Holiday) (a b c d e : Bool) → is_some (if a then Some x₁ else (if b then Some x₂ else (if c then Some x₃ else (if d then Some x₄ else (if e then Some x₅ else None))))) ≡ ((((a || b) || c) || d) || e)
first_of_five x₁ x₂ x₃ x₄ x₅ true b c d e = refl
first_of_five x₁ x₂ x₃ x₄ x₅ false true c d e = refl
first_of_five x₁ x₂ x₃ x₄ x₅ false false true d e = refl
first_of_five x₁ x₂ x₃ x₄ x₅ false false false true e = refl
first_of_five x₁ x₂ x₃ x₄ x₅ false false false false true = refl
first_of_five x₁ x₂ x₃ x₄ x₅ false false false false false = refl

only : (x : Holiday) (a : Bool) → is_some (if a then Some x else None) ≡ a
only x true = refl
only x false = refl

fixed_some : (month day : ℕ) → is_some (fixed_holiday month day) ≡ is_fixed_date month day
fixed_some month day = first_of_five _ _ _ _ _ ((month == 1) && (day == 1)) ((month == 6) && (day == 19)) ((month == 7) && (day == 4)) ((month == 11) && (day == 11)) ((month == 12) && (day == 25))

monday_some : (month day : ℕ) → is_some (monday_holiday month day) ≡ is_monday_date month day
monday_some month day = first_of_five _ _ _ _ _ (is_within 1 15 21 month day) (is_within 2 15 21 month day) (is_within 5 25 31 month day) (is_within 9 1 7 month day) (is_within 10 8 14 month day)

thursday_some : (month day : ℕ) → is_some (thursday_holiday month day) ≡ is_thursday_date month day
thursday_some month day = only _ (is_within 11 22 28 month day)

-- what a day has, by what it has of a fixed date and by its weekday
abbrev pub by_weekday : Option Holiday → Option Holiday → Option Holiday → Option Holiday → Option Holiday → Bool → Bool → Bool → Option StatutoryHoliday
by_weekday (Some h) m b t n monday thursday friday = own_day (Some h)
by_weekday None m b t n monday thursday friday =
    if monday then on_monday m b else (if thursday then own_day t else (if friday then observed_day n else None))

chain : (f m b t n : Option Holiday) (w₁ w₄ w₅ : Bool) → (w₁ ≡ true → w₄ ≡ false) → (w₁ ≡ true → w₅ ≡ false) → (w₄ ≡ true → w₅ ≡ false)
    → is_some (by_weekday f m b t n w₁ w₄ w₅) ≡ (((is_some f || (w₁ && (is_some m || is_some b))) || (w₄ && is_some t)) || (w₅ && is_some n))
chain (Some h) m b t n w₁ w₄ w₅ p q r = refl
chain None (Some m) b t n true w₄ w₅ p q r = refl
chain None None (Some b) t n true w₄ w₅ p q r = refl
chain None None None t n true true w₅ p q r = absurd (true≢false (p refl))
chain None None None t n true false true p q r = absurd (true≢false (q refl))
chain None None None t n true false false p q r = refl
chain None m b (Some t) n false true w₅ p q r = refl
chain None m b None n false true true p q r = absurd (true≢false (r refl))
chain None m b None n false true false p q r = refl
chain None m b t (Some n) false false true p q r = refl
chain None m b t None false false true p q r = refl
chain None m b t n false false false p q r = refl

pub weekdays_apart : (w i j : ℕ) → ¬ (i ≡ j) → (w == i) ≡ true → (w == j) ≡ false
weekdays_apart w i j apart e =
    elim (cases_Bool (w == j)) [ inl f ↦ absurd (apart (sym (eqb-true w i e) ∙ eqb-true w j f)) | inr f ↦ f ]

alike : (a₁ a₂ m₁ m₂ b₁ b₂ t₁ t₂ n₁ n₂ w₁ w₄ w₅ : Bool) → a₁ ≡ a₂ → m₁ ≡ m₂ → b₁ ≡ b₂ → t₁ ≡ t₂ → n₁ ≡ n₂
    → (((a₁ || (w₁ && (m₁ || b₁))) || (w₄ && t₁)) || (w₅ && n₁)) ≡ (((a₂ || (w₁ && (m₂ || b₂))) || (w₄ && t₂)) || (w₅ && n₂))
alike a₁ a₂ m₁ m₂ b₁ b₂ t₁ t₂ n₁ n₂ w₁ w₄ w₅ p q r s u = λ i. (((p i || (w₁ && (q i || r i))) || (w₄ && s i)) || (w₅ && u i))

same_chain : (f m b t n : Option Holiday) (w₁ w₄ w₅ : Bool) → fixed_or f (if w₁ then on_monday m b else (if w₄ then own_day t else (if w₅ then observed_day n else None))) ≡ by_weekday f m b t n w₁ w₄ w₅
same_chain (Some h) m b t n w₁ w₄ w₅ = refl
same_chain None m b t n w₁ w₄ w₅ = refl

-- the holiday of a day, by its parts
abbrev pub had_on : ℕ → Option StatutoryHoliday
had_on day =
    by_weekday (fixed_on day) (monday_holiday (month_of day) (day_of_month day)) (fixed_on (day - 1)) (thursday_holiday (month_of day) (day_of_month day)) (fixed_on (day + 1))
    (weekday day == 1) (weekday day == 4) (weekday day == 5)

pub statutory_holiday-is : (day : ℕ) → statutory_holiday day ≡ had_on day
unfolding statutory_holiday
statutory_holiday-is day =
    same_chain (fixed_on day) (monday_holiday (month_of day) (day_of_month day)) (fixed_on (day - 1)) (thursday_holiday (month_of day) (day_of_month day)) (fixed_on (day + 1))
    (weekday day == 1) (weekday day == 4) (weekday day == 5)

pub statutory_some : (day : ℕ) → is_some (statutory_holiday day) ≡ is_statutory day
unfolding is_statutory is_fixed_holiday
statutory_some day =
    ap is_some (statutory_holiday-is day)
    ∙ chain (fixed_on day) (monday_holiday (month_of day) (day_of_month day)) (fixed_on (day - 1)) (thursday_holiday (month_of day) (day_of_month day)) (fixed_on (day + 1))
    (weekday day == 1) (weekday day == 4) (weekday day == 5)
    (weekdays_apart (weekday day) 1 4 (λ e. omega arith)) (weekdays_apart (weekday day) 1 5 (λ e. omega arith)) (weekdays_apart (weekday day) 4 5 (λ e. omega arith))
    ∙ alike _ _ _ _ _ _ _ _ _ _ (weekday day == 1) (weekday day == 4) (weekday day == 5)
    (fixed_some (month_of day) (day_of_month day)) (monday_some (month_of day) (day_of_month day)) (fixed_some (month_of (day - 1)) (day_of_month (day - 1)))
    (thursday_some (month_of day) (day_of_month day)) (fixed_some (month_of (day + 1)) (day_of_month (day + 1)))

pub statutory_holiday-means : (day : ℕ) → day ≤ 1_000_000 → IsTrue (is_some (statutory_holiday day)) ↔ IsStatutory day
statutory_holiday-means day limit =
    let tells = is_statutory-means day limit in
    (λ h. tells.0 (sym (statutory_some day) ∙ h), λ h. statutory_some day ∙ tells.1 h)
