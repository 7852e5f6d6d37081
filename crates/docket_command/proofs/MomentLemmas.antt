-- What spells a moment names a whole minute.
use Rattle.std.proofs.Common.{◌≡◌, ◌↔◌, ◌∙◌, ℕ, ◌+◌, ◌*◌, ◌%◌, List, Some, ℤ, pos, negsuc, ◌-ℤ◌, ◌*ℤ◌, arith, to_z, of_z, w64, FitsSigned, to_z-of_z}
use Rattle.jiff_core.proofs.SignedLemmas.{signed_arith, one_part}
use Rattle.civil_time.specs.LocalTime.{IsMoment, seconds}
use Rattle.civil_time.specs.MomentGrammar.{SpellsMoment}

whole : (at : ℤ) (day minute : ℕ) (hours : ℤ) → IsMoment at → at ≡ pos (86_400 * day + 60 * minute) -ℤ pos 3600 *ℤ hours → seconds at % 60 ≡ 0
whole (pos n) day minute hours h e = omega (arith, signed_arith, one_part hours)
whole (negsuc n) day minute hours h e = absurd (omega (arith, h))

pub moment_fits : (at : ℤ) → IsMoment at → FitsSigned w64 at
moment_fits (pos n) h = omega (arith, h)
moment_fits (negsuc n) h = absurd (omega (arith, h))

pub spelled_minute : (at : ℤ) (text : List ℕ) → SpellsMoment at text → seconds (to_z w64 (of_z w64 at)) % 60 ≡ 0
spelled_minute at text s = rw (to_z-of_z (moment_fits at s.limits)) (whole at s.day s.minute s.hours s.limits s.is_at)

-- a moment of that instant is the one that the text spells
pub read_as_spelled : (text : List ℕ) (at : ℤ) (moment : ℕ) → pos moment ≡ to_z w64 (of_z w64 at) → IsMoment at
    → ((z : ℤ) → (Some at ≡ Some z) ↔ SpellsMoment z text) → (instant : ℕ) → (Some moment ≡ Some instant) ↔ SpellsMoment (pos instant) text
read_as_spelled text at moment is limits grammar instant =
    let same : pos moment ≡ at = is ∙ to_z-of_z (moment_fits at limits) in
    (λ found. (grammar (pos instant)).0 (cc), λ spells. let read = (grammar (pos instant)).1 spells in cc)
