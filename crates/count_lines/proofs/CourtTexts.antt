-- The texts of a zone and of a closing time are text: bytes that are none spell neither.
use Rattle.std.proofs.Common.{◌≡◌, ◌==◌, length, ℤ, ◌+◌, ◌-◌, ◌/◌, ◌%◌, ◌<◌, ◌≤◌, ℕ, nat_lt, List, [], ◌∷◌, ◌++◌, true, Option, Some, None, IsUtf8, if◌then◌else◌, inl, inr, codes, refl, ◌∙◌, arith}
use Rattle.std.proofs.lemmas.List.Folds.{list_all-append}
use Rattle.std.proofs.lemmas.Bool.{cases_Bool}
use Rattle.std.proofs.lemmas.Bool.Decides.{nat_tests}
use Rattle.civil_time.specs.declared.zone.ChangeDate.{ChangeDate}
use Rattle.civil_time.specs.declared.zone.SummerTime.{SummerTime}
use Rattle.civil_time.specs.Civil.{year_of, month_of, day_of_month}
use Rattle.civil_time.specs.DayText.{day_text}
use Rattle.civil_time.specs.MomentGrammar.{SpellsOffset, plus as ahead, minus as behind, SpellsMoment}
use Rattle.civil_time.specs.MomentText.{clock_text}
use Rattle.civil_time.proofs.DayTexts.{spelled-is}
use Rattle.civil_time.specs.Reading.{clock_at, time_of_day_at}
use Rattle.civil_time.specs.Zone.{ZoneRules, IsChangeDate}
use Rattle.civil_time.specs.ZoneGrammar.{AreLetters, SpellsNumber, one_digit, two_digits, SpellsHours, plain, plus, minus, SpellsSummer, SpellsZone, month_text, change_text}
use Rattle.civil_time.specs.ZoneText.{zone_at}
use Rattle.civil_time.proofs.ReadingLemmas.{bound, tested, clock_sound, empty}
use Rattle.civil_time.proofs.ZoneGrammarSound.{zone_sound}
use Rattle.count_lines.proofs.TextNames.{is_word_byte, is_word, is_text, none_found}
use Rattle.court_days.specs.Court.{CourtSettings}
use Rattle.court_days.specs.Calendar.{Entered, no_days}
use Rattle.count_lines.specs.Answers.{CourtState, first_state}
use Rattle.count_lines.specs.Requests.{◌>>=◌, court_named}

joined : (xs ys : List ℕ) → is_word xs ≡ true → is_word ys ≡ true → is_word (xs ++ ys) ≡ true
joined xs ys left right = list_all-append is_word_byte xs ys ∙ rw (left, right) refl

below : (byte : ℕ) → 32 < byte → byte < 128 → is_word_byte byte ≡ true
below byte low high = grind (arith, nat_tests, low, high)

digit_word : (n : ℕ) → is_word_byte (48 + n % 10) ≡ true
digit_word n = below (48 + n % 10) (omega arith) (omega arith)

letters : (name : List ℕ) → AreLetters name → is_word name ≡ true
letters [] h = refl
letters (byte ∷ name) h = rw (below byte (grind (arith, nat_tests, h.0)) (grind (arith, nat_tests, h.0)), letters name h.1) refl

number : (n : ℕ) (text : List ℕ) → SpellsNumber n text → is_word text ≡ true
number n text (one_digit low is) = rw (is, below (48 + n) (omega arith) (omega arith)) refl
number n text (two_digits tens ones t o value is) = rw (is, below (48 + tens) (omega arith) (omega arith), below (48 + ones) (omega arith) (omega arith)) refl

hours_text : (hours : ℤ) (text : List ℕ) → SpellsHours hours text → is_word text ≡ true
hours_text hours text (plain n low e digits) = number n text digits
hours_text hours text (plus n digits low e spelled is) = rw (is, number n digits spelled) refl
hours_text hours text (minus n digits low e spelled is) = rw (is, number n digits spelled) refl

month : (n : ℕ) → n ≤ 11 → is_word (month_text n) ≡ true
month n high =
    elim (cases_Bool (nat_lt n 10)) [
      | inl small ↦ rw (small, below (48 + n) (omega arith) (omega arith)) refl
      | inr large ↦ rw (large, below (48 + (n - 10)) (omega arith) (omega arith)) refl
    ]

change : (date : ChangeDate) → IsChangeDate date → is_word (change_text date) ≡ true
change date h =
    let rest : is_word (46 ∷ (48 + date.week) ∷ 46 ∷ (48 + date.weekday) ∷ []) ≡ true =
    rw (below (48 + date.week) (omega arith) (omega (arith, h.week)), below (48 + date.weekday) (omega arith) (omega (arith, h.weekday))) refl in
    let whole = joined (month_text date.month) (46 ∷ (48 + date.week) ∷ 46 ∷ (48 + date.weekday) ∷ []) (month date.month (omega (arith, h.month))) rest in
    rw whole refl

summer : (summer : Option SummerTime) (text : List ℕ) → SpellsSummer summer text → is_word text ≡ true
summer None text is = rw is refl
summer (Some s) text spelled =
    rw spelled.3 (joined spelled.0 _ (letters spelled.0 spelled.1.letters)
    (joined (change_text s.begins) (change_text s.ends) (change s.begins spelled.2.begins) (change s.ends spelled.2.ends)))

pub zone_text : (zone : ZoneRules) (text : List ℕ) → SpellsZone zone text → is_word text ≡ true
zone_text zone text spelled =
    rw spelled.is (joined spelled.name (spelled.hours ++ spelled.summer) (letters spelled.name spelled.is_name.letters)
    (joined spelled.hours spelled.summer (hours_text zone.hours_west spelled.hours spelled.is_hours) (summer zone.summer spelled.summer spelled.is_summer)))

clock : (minute : ℕ) → minute < 1440 → is_word (clock_text minute) ≡ true
clock minute low =
    rw (below (48 + minute / 60 / 10) (omega arith) (omega arith), below (48 + minute / 60 % 10) (omega arith) (omega arith), below (48 + minute % 60 / 10) (omega arith) (omega arith), below (48 + minute % 60 % 10) (omega arith) (omega arith)) refl

time_text : (text : List ℕ) (minute : ℕ) → time_of_day_at text ≡ Some minute → is_word text ≡ true
time_text text minute h =
    let read = bound (clock_at text) (λ clock. if length clock.1 == 0 then Some clock.0 else None) minute h in
    let ended = tested (length read.0.1 == 0) read.0.0 minute read.2 in
    let spelled = clock_sound text read.0 read.1 in
    rw (spelled.1, empty read.0.1 ended.0) (joined (clock_text read.0.0) [] (clock read.0.0 spelled.0) refl)

-- the text of a day, of an offset, and so of a moment
day_word : (day : ℕ) → is_word (day_text day) ≡ true
unfolding day_text
day_word day =
    rw (digit_word (year_of day / 1000), digit_word (year_of day / 100), digit_word (year_of day / 10), digit_word (year_of day), digit_word (month_of day / 10), digit_word (month_of day), digit_word (day_of_month day / 10), digit_word (day_of_month day)) refl

offset_word : (hours : ℤ) (text : List ℕ) → SpellsOffset hours text → is_word text ≡ true
offset_word hours text (ahead n high e is) = rw (is, below (48 + n / 10) (omega arith) (omega arith), below (48 + n % 10) (omega arith) (omega arith)) refl
offset_word hours text (behind n high e is) = rw (is, below (48 + n / 10) (omega arith) (omega arith), below (48 + n % 10) (omega arith) (omega arith)) refl

pub moment_word : (at : ℤ) (text : List ℕ) → SpellsMoment at text → is_word text ≡ true
moment_word at text spelled =
    let date : is_word spelled.date ≡ true = rw (spelled-is spelled.date spelled.day spelled.is_day.1) (day_word spelled.day) in
    let time : is_word spelled.clock ≡ true = rw (spelled.is_clock.1) (clock spelled.minute spelled.is_clock.0) in
    let rest : is_word (spelled.clock ++ spelled.offset) ≡ true = joined spelled.clock spelled.offset time (offset_word spelled.hours spelled.offset spelled.is_offset) in
    let behind : is_word (84 ∷ (spelled.clock ++ spelled.offset)) ≡ true = rw rest refl in
    rw (spelled.is) (joined spelled.date (84 ∷ (spelled.clock ++ spelled.offset)) date behind)

-- no zone, no court
no_court : (zone close : List ℕ) → None ≡ zone_at zone → None ≡ court_named zone close
no_court zone close none = rw (← none) refl

pub no_zone_text : (zone close : List ℕ) → ¬ (IsUtf8 zone) → None ≡ court_named zone close
no_zone_text zone close other =
    no_court zone close (none_found (zone_at zone) (λ rules is. other (is_text zone (zone_text rules zone (zone_sound zone rules is)))))

-- no closing time, no court
pub no_close : (zone close : List ℕ) → None ≡ time_of_day_at close → None ≡ court_named zone close
no_close zone close none = go (zone_at zone) where
  go : (rules : Option ZoneRules) → ◌≡◌ {A = Option CourtSettings} None (rules >>= λ rules. time_of_day_at close >>= λ minute. Some (record { zone_text = zone; close_minute = minute }))
  go None = refl
  go (Some rules) = rw (← none) refl

pub no_close_text : (zone close : List ℕ) → ¬ (IsUtf8 close) → None ≡ court_named zone close
no_close_text zone close other =
    no_close zone close (none_found (time_of_day_at close) (λ minute is. other (is_text close (time_text close minute is))))

-- the court that is read at first
pub started : (court : CourtSettings) (calendar : Entered) → court.zone_text ≡ codes "UTC0" → time_of_day_at (codes "17:00") ≡ Some court.close_minute
    → calendar ≡ no_days → ◌≡◌ {A = CourtState} (record { court = court; calendar = calendar }) first_state
started court calendar zone close none =
    let same : Some 1020 ≡ Some court.close_minute = close in
    let minute : court.close_minute ≡ 1020 = cc in
    λ i. record { court = record { zone_text = zone i; close_minute = minute i }; calendar = none i }
