-- The moments at which a period of hours may begin.
use Rattle.std.proofs.Common.{◌≡◌, ◌≤◌, true, ℤ, pos, negsuc, arith}
use Rattle.std.proofs.lemmas.Bool.Decides.{nat_tests}
use Rattle.civil_time.specs.LocalTime.{local_day, seconds}
use Rattle.court_days.specs.Court.{CourtSettings, zone_of}
use Rattle.court_days.proofs.Accessible.{entered_start}
use Rattle.court_days.proofs.CourtLemmas.{zone_of-is_zone}
use Rattle.court_rules.specs.Acts.{is_entered_day, is_instant}

-- each moment whose local day may be entered lies within a day of those days
pub instant_of_day : (court : CourtSettings) (at : ℤ) → is_entered_day (local_day (zone_of court) (seconds at)) ≡ true → is_instant at ≡ true
instant_of_day court (pos n) on =
    let low : 10_957 ≤ local_day (zone_of court) n = (let h = on in grind (arith, nat_tests, h)) in
    let high : local_day (zone_of court) n ≤ 47_481 = (let h = on in grind (arith, nat_tests, h)) in
    let lies = entered_start (zone_of court) (zone_of-is_zone court) n low high in
    grind (arith, nat_tests, lies.0, lies.1)
instant_of_day court (negsuc n) on =
    let low : 10_957 ≤ local_day (zone_of court) 0 = (let h = on in grind (arith, nat_tests, h)) in
    let high : local_day (zone_of court) 0 ≤ 47_481 = (let h = on in grind (arith, nat_tests, h)) in
    let lies = entered_start (zone_of court) (zone_of-is_zone court) 0 low high in
    absurd (omega (arith, lies.0))
