use Rattle.std.proofs.Common.{◌≡◌, ◌∙◌, Some, unwrap_or, sym, ap, rules}
use Rattle.sqlite_value.specs.Order.{column}
use Rattle.court_days.specs.Court.{CourtSettings, zone_of}
use Rattle.court_days.specs.declared.filing.End.{End}
use Rattle.court_days.proofs.CourtLemmas.{zone_of-is_zone}
use Rattle.docket_columns.specs.Fits.{IsEndTime}
use Rattle.docket_columns.proofs.EndLemmas.{end_time_fits}
use Rattle.docket_decisions.specs.EndRows.{time_of, IsDueEnd}
use Rattle.docket_calendar.proofs.row.due_of.Goals as goal

fits : (court : CourtSettings) (end : End) → IsDueEnd end → IsEndTime (time_of (zone_of court) end)
fits court end due = end_time_fits (zone_of court) end (zone_of-is_zone court) due

pub returns-in_default : goal.returns-in_default
returns-in_default c d is same =
    let court = c.args.court.now in
    let time = time_of (zone_of court) d.end in
    absurd (c.in_default.not-Some time (c.end_time_at.ensures.reads time (fits court d.end is.0) (ap (λ row. column row 0) same) (ap (λ row. column row 1) same)))

pub returns : goal.returns
returns c d is same =
    let court = c.args.court.now in
    let time = time_of (zone_of court) d.end in
    let told : c.end_time_at.result ≡ Some time = c.end_time_at.ensures.reads time (fits court d.end is.0) (ap (λ row. column row 0) same) (ap (λ row. column row 1) same) in
    let stored : c.in-Some.stored ≡ time = ap (λ o. unwrap_or o c.in-Some.stored) (sym c.in-Some.is ∙ told) in
    let end : c.end-end.result ≡ d.end = c.end-end.ensures.stored (zone_of court) d.end stored in
    search rules
