-- The grammar of times of day and of moments: HH:MM and YYYY-MM-DDTHH:MM+HH:00
use Rattle.std.specs.Prelude.{◌≡◌, ℕ, ◌+◌, ◌*◌, ◌<◌, ◌≤◌, List, ◌∷◌, ◌++◌, ℤ, pos, neg_ℤ, ◌-ℤ◌, ◌*ℤ◌}
use Rattle.civil_time.specs.Civil.{IsDayNumber}
use Rattle.civil_time.specs.DayText.{SpellsDay}
use Rattle.civil_time.specs.LocalTime.{IsMoment}
use Rattle.civil_time.specs.MomentText.{clock_text, hours_text}

-- from 00:00 to 23:59, in minutes after 00:00
abbrev pub SpellsTimeOfDay : ℕ → List ℕ → Type 0
SpellsTimeOfDay minute text = (minute < 1440) × (text ≡ clock_text minute)

-- up to 13 hours ahead of Greenwich after a plus, or behind it after a minus; 0 hours after either
pub data SpellsOffset (hours : ℤ) (text : List ℕ) : Type 0 where
  plus : (number : ℕ) → number ≤ 13 → hours ≡ pos number → text ≡ 43 ∷ hours_text number → SpellsOffset hours text
  minus : (number : ℕ) → number ≤ 13 → hours ≡ neg_ℤ (pos number) → text ≡ 45 ∷ hours_text number → SpellsOffset hours text

-- the text is a day, a time of day and an offset, and the instant is that local time less the offset
pub record SpellsMoment (at : ℤ) (text : List ℕ) : Type 0 where
  pub day : ℕ
  pub minute : ℕ
  pub hours : ℤ
  pub date : List ℕ
  pub clock : List ℕ
  pub offset : List ℕ
  pub is : text ≡ date ++ (84 ∷ (clock ++ offset))
  pub is_day : IsDayNumber day × SpellsDay date day
  pub is_clock : SpellsTimeOfDay minute clock
  pub is_offset : SpellsOffset hours offset
  pub is_at : at ≡ pos (86_400 * day + 60 * minute) -ℤ pos 3600 *ℤ hours
  pub limits : IsMoment at
