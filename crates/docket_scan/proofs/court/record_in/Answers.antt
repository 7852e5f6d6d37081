use Rattle.std.proofs.Common.{refl}
use Rattle.docket_columns.specs.Cells.{settings_of}
use Rattle.docket_scan.proofs.court.record_in.Goals as goal

pub returns : goal.returns
returns c =
    let same = rw c.in-Some.is at c.in_ok-zone.ensures.sound in
    let fits = rw c.in-Some.is at c.in_ok-zone.ensures.fits in
    (settings_of c.in-Some.field-0, same, fits, refl)
