-- What is stored of the ends that times have fits the columns.
use Rattle.std.proofs.Common.{◌≡◌, pos, negsuc, ap, arith}
use Rattle.civil_time.specs.LocalTime.{seconds}
use Rattle.civil_time.specs.Zone.{ZoneRules, IsZone}
use Rattle.court_days.specs.declared.filing.End.{End}
use Rattle.court_days.specs.declared.filing.End.TheVariants.{LastDay, Moment}
use Rattle.court_days.proofs.Accessible.{near_entered_day}
use Rattle.docket_decisions.specs.EndRows.{time_of, IsDueEnd}
use Rattle.docket_columns.specs.Fits.{IsSeconds, IsEndTime}

pub end_time_fits : (zone : ZoneRules) (end : End) → IsZone zone → IsDueEnd end → IsEndTime (time_of zone end)
end_time_fits zone (LastDay day) is due = (due, tt)
end_time_fits zone (Moment (pos n)) is due =
    let near = near_entered_day zone n is due in
    let fits : IsSeconds (pos n) = omega (arith, due) in
    ((omega (arith, near), omega (arith, near)), (fits, λ same. let number : n ≡ 9_999_999_999_999 = ap seconds same in omega (arith, due, number)))
end_time_fits zone (Moment (negsuc n)) is due = absurd (omega (arith, due))
