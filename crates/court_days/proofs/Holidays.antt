-- What a statutory holiday is, where the date is known.
use Rattle.std.proofs.Common.{◌≡◌, ◌≢◌, ◌↔◌, ℕ, ◌+◌, ◌-◌, ◌⊎◌, inl, inr, ℤ, Bool, true, false, refl, sym, ◌∙◌, IsTrue, arith}
use Rattle.std.proofs.lemmas.Bool.{both_ways}
use Rattle.civil_time.specs.Civil.{HasYmd, weekday}
use Rattle.court_days.specs.Holiday.{is_fixed_date, is_monday_date, is_thursday_date, IsFixedHoliday, IsStatutory, fixed, monday, thursday, before_saturday, after_sunday}
use Rattle.civil_time.proofs.Dates.{falls_on, falls_on_from}

-- a statutory day that is no holiday of a fixed date
abbrev pub IsMovable : ℕ → ℕ → ℕ → Type 0
IsMovable day month dom =
    ((weekday day ≡ 1) × (IsTrue (is_monday_date month dom) ⊎ IsFixedHoliday (day - 1)))
    ⊎ (((weekday day ≡ 4) × IsTrue (is_thursday_date month dom)) ⊎ ((weekday day ≡ 5) × IsFixedHoliday (day + 1)))

module _ (day : ℕ) (year : ℤ) (month dom : ℕ) (ymd : HasYmd day year month dom) where
  statutory_cases : is_fixed_date month dom ≡ false → IsStatutory day → IsMovable day month dom
  statutory_cases other (fixed f) = absurd (both_ways _ other (falls_on is_fixed_date day year month dom ymd f))
  statutory_cases other (monday w f) = inl (w, inl (falls_on is_monday_date day year month dom ymd f))
  statutory_cases other (thursday w f) = inr (inl (w, falls_on is_thursday_date day year month dom ymd f))
  statutory_cases other (before_saturday w f) = inr (inr (w, f))
  statutory_cases other (after_sunday w f) = inl (w, inr f)

  pub on_fixed : is_fixed_date month dom ≡ true → IsTrue true ↔ IsStatutory day
  on_fixed f = (λ _. fixed (falls_on_from is_fixed_date day year month dom ymd f), λ _. refl)

  pub on_monday : (r : Bool) → weekday day ≡ 1 → is_monday_date month dom ≡ true → r ≡ true → IsTrue r ↔ IsStatutory day
  on_monday r w m t = (λ _. monday w (falls_on_from is_monday_date day year month dom ymd m), λ _. t)

  pub on_other_monday : (r : Bool) → weekday day ≡ 1 → is_fixed_date month dom ≡ false → is_monday_date month dom ≡ false → IsTrue r ↔ IsFixedHoliday (day - 1) → IsTrue r ↔ IsStatutory day
  on_other_monday r w other m h = (
    λ t. after_sunday w (h.0 t),
    λ s. elim (statutory_cases other s) [
      | inl (_, inl t) ↦ absurd (both_ways _ m t)
      | inl (_, inr f) ↦ h.1 f
      | inr (inl (v, _)) ↦ absurd (omega arith)
      | inr (inr (v, _)) ↦ absurd (omega arith)
    ],
  )

  pub on_thursday : (r : Bool) → weekday day ≡ 4 → is_fixed_date month dom ≡ false → r ≡ is_thursday_date month dom → IsTrue r ↔ IsStatutory day
  on_thursday r w other e = (
    λ t. thursday w (falls_on_from is_thursday_date day year month dom ymd (sym e ∙ t)),
    λ s. elim (statutory_cases other s) [
      | inl (v, _) ↦ absurd (omega arith)
      | inr (inl (_, t)) ↦ e ∙ t
      | inr (inr (v, _)) ↦ absurd (omega arith)
    ],
  )

  pub on_friday : (r : Bool) → weekday day ≡ 5 → is_fixed_date month dom ≡ false → IsTrue r ↔ IsFixedHoliday (day + 1) → IsTrue r ↔ IsStatutory day
  on_friday r w other h = (
    λ t. before_saturday w (h.0 t),
    λ s. elim (statutory_cases other s) [
      | inl (v, _) ↦ absurd (omega arith)
      | inr (inl (v, _)) ↦ absurd (omega arith)
      | inr (inr (_, f)) ↦ h.1 f
    ],
  )

  pub on_other_day : weekday day ≢ 1 → weekday day ≢ 4 → weekday day ≢ 5 → is_fixed_date month dom ≡ false → IsTrue false ↔ IsStatutory day
  on_other_day m t f other = (
    λ t. absurd (both_ways false refl t),
    λ s. elim (statutory_cases other s) [
      | inl (v, _) ↦ absurd (m v)
      | inr (inl (v, _)) ↦ absurd (t v)
      | inr (inr (v, _)) ↦ absurd (f v)
    ],
  )
