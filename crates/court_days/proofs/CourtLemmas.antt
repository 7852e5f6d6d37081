-- The zone of a court.
use Rattle.std.proofs.Common.{◌≡◌, ℕ, zero, suc, ◌≤◌, List, Option, None, Some, ℤ, pos, negsuc, neg_ℤ, ◌≤ℤ◌, refl, sym, ap, ◌∙◌, subst, arith}
use Rattle.std.proofs.lemmas.Int.{ints}
use Rattle.std.specs.Prelude.{unwrap_or}
use Rattle.civil_time.specs.Zone.{ZoneRules, IsZone, IsSummerTime}
use Rattle.civil_time.specs.ZoneGrammar.{SpellsHours, plain, plus, minus, SpellsSummer}
use Rattle.civil_time.specs.ZoneText.{zone_at}
use Rattle.civil_time.specs.declared.zone.SummerTime.{SummerTime}
use Rattle.civil_time.proofs.ZoneGrammarSound.{zone_sound}
use Rattle.court_days.specs.Court.{CourtSettings, zone_of, greenwich}

-- the zone that the text of a court spells is its zone
pub zone_of-spelled : (text own : List ℕ) (minute : ℕ) (zone : ZoneRules) → zone_at text ≡ Some zone → own ≡ text → zone_at text ≡ Some (zone_of (record { zone_text = own; close_minute = minute }))
unfolding zone_of
zone_of-spelled text own minute zone spelled same =
    spelled ∙ ap Some (sym (ap (λ (z : Option ZoneRules). unwrap_or z greenwich) (ap zone_at same ∙ spelled)))

-- at most 12 hours west or east
hours_within : (hours : ℤ) (text : List ℕ) → SpellsHours hours text → (negsuc 11 ≤ℤ hours) × (hours ≤ℤ pos 12)
hours_within hours text (plain number le e digits) = rw e (omega (arith, ints), omega (arith, ints))
hours_within hours text (plus number digits le e spelled is) = rw e (omega (arith, ints), omega (arith, ints))
hours_within hours text (minus number digits le e spelled is) = rw e (east number le) where
  east : (number : ℕ) → number ≤ 12 → (negsuc 11 ≤ℤ neg_ℤ (pos number)) × (neg_ℤ (pos number) ≤ℤ pos 12)
  east zero le = (omega (arith, ints), omega (arith, ints))
  east (suc n) le = (omega (arith, ints), omega (arith, ints))

summer_within : (summer : Option SummerTime) (text : List ℕ) → SpellsSummer summer text → (kept : SummerTime) → summer ≡ Some kept → IsSummerTime kept
summer_within None text spelled kept e = cc
summer_within (Some summer) text spelled kept e = let same : summer ≡ kept = cc in subst IsSummerTime same spelled.2

-- a zone that is spelled is within its limits
pub zone_within : (text : List ℕ) (zone : ZoneRules) → zone_at text ≡ Some zone → IsZone zone
zone_within text zone e =
    let spelled = zone_sound text zone e in
    record { hours = hours_within zone.hours_west spelled.hours spelled.is_hours; summer = summer_within zone.summer spelled.summer spelled.is_summer }

-- and so is that of a court
pub zone_of-within : (court : CourtSettings) (zone : ZoneRules) → zone_at court.zone_text ≡ Some zone → (zone_of court ≡ zone) × IsZone zone
unfolding zone_of
zone_of-within court zone spelled = (ap (λ (z : Option ZoneRules). unwrap_or z greenwich) spelled, zone_within court.zone_text zone spelled)

-- each court has a zone within its limits
pub zone_of-is_zone : (court : CourtSettings) → IsZone (zone_of court)
unfolding zone_of
zone_of-is_zone court = go (zone_at court.zone_text) refl where
  go : (read : Option ZoneRules) → zone_at court.zone_text ≡ read → IsZone (unwrap_or read greenwich)
  go None e = record { hours = (omega (arith, ints), omega (arith, ints)); summer = λ kept e. cc }
  go (Some zone) e = zone_within court.zone_text zone e
