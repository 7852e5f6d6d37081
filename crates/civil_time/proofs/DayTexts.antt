-- The functions for a day's text, and the relation.
use Rattle.std.proofs.Common.{◌≡◌, ◌↔◌, ◌⊎◌, inl, inr, ℕ, zero, suc, ◌<◌, ◌≤◌, List, length, Bool, true, false, Some, None, leb, pos, refl, sym, ◌∙◌, subst, arith}
use Rattle.std.proofs.lemmas.Bool.{cases_Bool, false_from_ne_true, le-leb, leb-true}
use Rattle.std.proofs.lemmas.Slice.Eq.{bytes_eq-Decides}
use Rattle.std.specs.Str.{bytes_eq}
use Rattle.jiff.proofs.SpanFacts.{signed_arith}
use Rattle.civil_time.specs.Civil.{IsDayNumber, greatest, year_of, month_of, day_of_month}
use Rattle.civil_time.specs.DayText.{SpellsDay, day_text, day_of_text}
use Rattle.civil_time.proofs.DateOf.{greatest_is, date_of_day, year_of-is, month_of-is, day_of_month-is}
use Rattle.civil_time.proofs.Spelling.{four_at, two_at, read_back, same_day}

-- a text that spells a day is the day's text
pub spelled-is : (text : List ℕ) (day : ℕ) → SpellsDay text day → text ≡ day_text day
unfolding day_text
spelled-is text day (year, month, dom, ymd, spelled) =
    let from : pos (year_of day) ≡ pos year = year_of-is ymd.0 day ymd.1 ∙ ymd.2 in
    let same_year : year ≡ year_of day = omega (arith, signed_arith, from) in
    let same_month : month ≡ month_of day = sym (month_of-is ymd.0 day ymd.1 ∙ ymd.3) in
    let same_dom : dom ≡ day_of_month day = sym (day_of_month-is ymd.0 day ymd.1 ∙ ymd.4) in
    spelled ∙ rw (same_year, same_month, same_dom) refl

-- and each day's text spells it
pub spells-text : (day : ℕ) → day ≤ 2_932_896 → SpellsDay (day_text day) day
unfolding day_text
spells-text day limit =
    let date = date_of_day day limit in (
      year_of day,
      month_of day,
      day_of_month day,
      (date.0, date.1, sym (year_of-is date.0 day date.1), sym (month_of-is date.0 day date.1), sym (day_of_month-is date.0 day date.1)),
      refl,
    )

-- a text spells one day
pub one_day : (text : List ℕ) (a b : ℕ) → IsDayNumber a → IsDayNumber b → SpellsDay text a → SpellsDay text b → a ≡ b
one_day text a b in_a in_b spells_a spells_b =
    same_day a b (pos (four_at text)) (two_at text 5) (two_at text 8)
    (read_back text _ _ _ a refl refl refl in_a spells_a) (read_back text _ _ _ b refl refl refl in_b spells_b)

-- what the test of the search means
test-true : (text : List ℕ) (day : ℕ) → day ≤ 2_932_896 → bytes_eq text (day_text day) ≡ true → SpellsDay text day
test-true text day limit same =
    subst (λ t. SpellsDay t day) (sym ((bytes_eq-Decides text (day_text day)).0 same)) (spells-text day limit)

test-false : (text : List ℕ) (day : ℕ) → ¬ (SpellsDay text day) → day ≤ 2_932_896 → bytes_eq text (day_text day) ≡ false
test-false text day differs limit = false_from_ne_true _ (λ same. differs (test-true text day limit same))

-- the search stops at a day that passes, or at 0
greatest-passes : (test : ℕ → Bool) (n : ℕ) → (greatest test n ≤ n) × ((greatest test n ≡ 0) ⊎ (test (greatest test n) ≡ true))
unfolding greatest
greatest-passes test zero = (omega arith, inl refl)
greatest-passes test (suc n) =
    elim (cases_Bool (test (suc n))) [
      | inl passes ↦ rw passes (omega arith, inr passes)
      | inr fails ↦ let before = greatest-passes test n in rw fails (omega (arith, before.0), before.1)
    ]

abbrev last_spelled : List ℕ → ℕ
last_spelled text = greatest (λ day. bytes_eq text (day_text day)) 741_441

pub day_of_text-spelled : (text : List ℕ) (day : ℕ) → IsDayNumber day → SpellsDay text day → day_of_text text ≡ Some day
unfolding day_of_text
day_of_text-spelled text day limits spells =
    let passes : bytes_eq text (day_text day) ≡ true = (bytes_eq-Decides text (day_text day)).1 (spelled-is text day spells) in
    let later : (other : ℕ) → day < other → other ≤ 741_441 → bytes_eq text (day_text other) ≡ false =
    λ other above below. test-false text other
    (λ is. let same = one_day text other day (omega (arith, limits), below) limits is spells in absurd (omega (arith, same)))
    (omega arith) in
    let found : last_spelled text ≡ day = greatest_is (λ day. bytes_eq text (day_text day)) 741_441 day limits.1 passes later in
    rw (found, le-leb 3652 day limits.0) refl

-- a text of no day
pub day_of_text-none : (text : List ℕ) → ((day : ℕ) → IsDayNumber day → ¬ (SpellsDay text day)) → day_of_text text ≡ None
unfolding day_of_text
day_of_text-none text never =
    let day = last_spelled text in
    let stops = greatest-passes (λ day. bytes_eq text (day_text day)) 741_441 in
    let below : leb 3652 day ≡ false = false_from_ne_true _ (λ is.
    let low = leb-true 3652 day is in
    elim stops.1 [
      | inl first ↦ absurd (omega (arith, low, first))
      | inr passes ↦ never day (low, stops.0) (test-true text day (omega (arith, stops.0)) passes)
    ]) in
    rw below refl

-- so the function's value is the one day that the text spells
pub day_of_text-means : (text : List ℕ) (day : ℕ) → (day_of_text text ≡ Some day) ↔ (IsDayNumber day × SpellsDay text day)
unfolding day_of_text
day_of_text-means text day =
    let last = last_spelled text in
    let stops = greatest-passes (λ day. bytes_eq text (day_text day)) 741_441 in (
      λ is. elim (cases_Bool (leb 3652 last)) [
        | inl from ↦
            let low = leb-true 3652 last from in
            let some : Some last ≡ Some day = rw from at is in
            let same : last ≡ day = cc in
            elim stops.1 [
              | inl first ↦ absurd (omega (arith, low, first))
              | inr passes ↦ subst (λ d. IsDayNumber d × SpellsDay text d) same ((low, stops.0), test-true text last (omega (arith, stops.0)) passes)
            ]
        | inr before ↦ let none : None ≡ Some day = rw before at is in absurd (cc)
      ],
      λ is. day_of_text-spelled text day is.0 is.1,
    )

pub day_text-length : (day : ℕ) → length (day_text day) ≡ 10
unfolding day_text
day_text-length day = refl
