-- Reading a day's text.
use Rattle.std.proofs.Common.{◌≡◌, ℕ, ◌+◌, ◌-◌, ◌*◌, ◌≤◌, List, ℤ, pos, get_or, refl, sym, ap, ◌∙◌, arith}
use Rattle.jiff.specs.Words.{days_in_month}
use Rattle.jiff.proofs.Family.{epoch_day_injective, epoch_day_same}
use Rattle.jiff.proofs.SpanFacts.{signed_arith}
use Rattle.civil_time.specs.Civil.{HasYmd, IsDayNumber}
use Rattle.civil_time.specs.DayText.{date_text, SpellsDay}
use Rattle.civil_time.proofs.Years.{year_bounds}

-- a day has one date
pub same_ymd : (day : ℕ) (y₁ y₂ : ℤ) (m₁ k₁ m₂ k₂ : ℕ) → HasYmd day y₁ m₁ k₁ → HasYmd day y₂ m₂ k₂ → (y₁ ≡ y₂) × (m₁ ≡ m₂) × (k₁ ≡ k₂)
same_ymd day y₁ y₂ m₁ k₁ m₂ k₂ (d, e, y, m, k) (d', e', y', m', k') =
    let same = epoch_day_injective d d' (e ∙ sym e') in
    (sym y ∙ same.0 ∙ y', sym m ∙ same.1 ∙ m', sym k ∙ same.2 ∙ k')

-- and a date one day
pub same_day : (d₁ d₂ : ℕ) (y : ℤ) (m k : ℕ) → HasYmd d₁ y m k → HasYmd d₂ y m k → d₁ ≡ d₂
same_day d₁ d₂ y m k (d, e, dy, dm, dk) (d', e', dy', dm', dk') =
    let same : pos d₁ ≡ pos d₂ = sym e ∙ epoch_day_same d d' (dy ∙ sym dy') (dm ∙ sym dm') (dk ∙ sym dk') ∙ e' in
    omega (arith, signed_arith, same)

-- the number of digits of a text, from a place on
abbrev pub two_at : List ℕ → ℕ → ℕ
two_at text i = 10 * (get_or text i 0 - 48) + (get_or text (i + 1) 0 - 48)

abbrev pub four_at : List ℕ → ℕ
four_at text = 1000 * (get_or text 0 0 - 48) + 100 * (get_or text 1 0 - 48) + 10 * (get_or text 2 0 - 48) + (get_or text 3 0 - 48)

read_year : (text : List ℕ) (year month dom : ℕ) → text ≡ date_text year month dom → year ≤ 9999 → four_at text ≡ year
read_year text year month dom e h = rw e (omega arith)

read_month : (text : List ℕ) (year month dom : ℕ) → text ≡ date_text year month dom → month ≤ 99 → two_at text 5 ≡ month
read_month text year month dom e h = rw e (omega arith)

read_dom : (text : List ℕ) (year month dom : ℕ) → text ≡ date_text year month dom → dom ≤ 99 → two_at text 8 ≡ dom
read_dom text year month dom e h = rw e (omega arith)

short : (y : ℤ) (m : ℕ) → days_in_month y m ≤ 31
short y m = grind arith

-- what is read of a text that spells a day is the day's date
pub read_back : (text : List ℕ) (y : ℤ) (m k day : ℕ) → y ≡ pos (four_at text) → m ≡ two_at text 5 → k ≡ two_at text 8 → IsDayNumber day → SpellsDay text day → HasYmd day y m k
read_back text y m k day year month dom limits (y', m', k', (d, e, dy, dm, dk), spelled) =
    let years = year_bounds day d e limits in
    let ry = read_year text y' m' k' spelled (omega (arith, signed_arith)) in
    let rm = read_month text y' m' k' spelled (omega (arith, d.month_in)) in
    let rk = read_dom text y' m' k' spelled (omega (arith, d.day_in, short d.year d.month)) in
    (d, e, dy ∙ ap pos (sym ry) ∙ sym year, dm ∙ sym rm ∙ sym month, dk ∙ sym rk ∙ sym dom)

-- and that day's text is this one
pub one_text : (text bytes : List ℕ) (y : ℤ) (m k day found : ℕ) → y ≡ pos (four_at text) → m ≡ two_at text 5 → k ≡ two_at text 8 → IsDayNumber day → SpellsDay text day → HasYmd found y m k → SpellsDay bytes found → text ≡ bytes
one_text text bytes y m k day found year month dom limits (y', m', k', (d, e, dy, dm, dk), spelled) ymd (y₂, m₂, k₂, ymd₂, spelled₂) =
    let years = year_bounds day d e limits in
    let ry = read_year text y' m' k' spelled (omega (arith, signed_arith)) in
    let rm = read_month text y' m' k' spelled (omega (arith, d.month_in)) in
    let rk = read_dom text y' m' k' spelled (omega (arith, d.day_in, short d.year d.month)) in
    let same = same_ymd found y (pos y₂) m k m₂ k₂ ymd ymd₂ in
    let a : y' ≡ y₂ = omega (arith, signed_arith, same.0) in
    let b : m' ≡ m₂ = sym rm ∙ sym month ∙ same.1 in
    let c : k' ≡ k₂ = sym rk ∙ sym dom ∙ same.2 in
    spelled ∙ rw (a, b, c) refl ∙ sym spelled₂
