use Rattle.std.proofs.Common.{◌≡◌, ℤ, pos, ◌≤ℤ◌, ◌<ℤ◌, ◌∙◌, sym, to_z, of_z, w16, w32, arith}
use Rattle.std.proofs.lemmas.Int.{ints}
use Rattle.jiff_core.proofs.SignedLemmas.{signed_arith}
use Rattle.civil_time.proofs.DateOf.{year_of-is}
use Rattle.civil_time.proofs.NewYears.{year_within}
use Rattle.civil_time.proofs.zone.year_of.Goals as goal

kept : (y z : ℤ) → y ≡ z → pos 1970 ≤ℤ y → y <ℤ pos 4000 → to_z w16 (of_z w16 (to_z w32 (of_z w32 z))) ≡ y
kept y z e low high = omega (arith, ints)

pub returns-clause-value : goal.returns-clause-value
returns-clause-value c =
    let ymd = c.ymd_of.ensures in
    let within = year_within ymd.0 c.args.day ymd.1 c.requires in
    kept _ _ ymd.2 within.0 within.1 ∙ sym (year_of-is ymd.0 c.args.day ymd.1)

pub returns-clause-limits : goal.returns-clause-limits
returns-clause-limits c =
    let ymd = c.ymd_of.ensures in
    let within = year_within ymd.0 c.args.day ymd.1 c.requires in
    rw (kept _ _ ymd.2 within.0 within.1) (within.0, omega (arith, signed_arith, within.1))
