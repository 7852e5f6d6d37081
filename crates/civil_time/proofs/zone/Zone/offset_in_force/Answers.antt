use Rattle.std.proofs.Common.{◌≡◌, Bool, true, false, cond, ℤ, pos, negsuc, ◌-ℤ◌, FitsSigned, to_z, of_z, w8, w64, arith, ap, ◌∙◌}
use Rattle.std.proofs.lemmas.Int.{ints}
use mir.Val.{bool_byte}
use Rattle.jiff_core.specs.Calendar.{IsBetween}
use Rattle.civil_time.specs.Zone.{ZoneRules}
use Rattle.civil_time.specs.LocalTime.{is_summer, offset_in_force}
use Rattle.civil_time.proofs.zone.Zone.offset_in_force.Goals as goal

-- an hour in summer time, less the hours west: it fits, and is at most 13
hours_ahead : (summer : Bool) (west a b : ℤ) → IsBetween (negsuc 11) (pos 12) west → a ≡ pos (bool_byte summer) → b ≡ to_z w8 (of_z w8 west) → (let ahead = to_z w64 (of_z w64 a) -ℤ to_z w64 (of_z w64 b) in
    FitsSigned w64 ahead × (to_z w64 (of_z w64 ahead) ≡ pos (cond summer 1 0) -ℤ west) × IsBetween (negsuc 11) (pos 13) (to_z w64 (of_z w64 ahead)))
hours_ahead true west a b h e f = (omega (arith, ints), omega (arith, ints), omega (arith, ints))
hours_ahead false west a b h e f = (omega (arith, ints), omega (arith, ints), omega (arith, ints))

pub overflow_sub-result : goal.overflow_sub-result
overflow_sub-result c = (hours_ahead c.is_summer.result c.self.inside.hours_west _ _ c.self.invariant.hours c.from.ensures c.from-2.ensures).0

pub returns-clause-value : goal.returns-clause-value
unfolding offset_in_force
returns-clause-value c =
    let zone : ZoneRules = c.args.self.now in
    let h = hours_ahead c.is_summer.result c.self.inside.hours_west _ _ c.self.invariant.hours c.from.ensures c.from-2.ensures in
    let summer = c.is_summer.ensures.value ∙ ap (is_summer zone.summer) c.standard_time-standard.ensures.value in
    h.1 ∙ ap (λ (z : ZoneRules). pos (cond c.is_summer.result 1 0) -ℤ z.hours_west) c.self.view_is ∙ ap (λ (s : Bool). pos (cond s 1 0) -ℤ zone.hours_west) summer

pub returns-clause-limits : goal.returns-clause-limits
returns-clause-limits c = (hours_ahead c.is_summer.result c.self.inside.hours_west _ _ c.self.invariant.hours c.from.ensures c.from-2.ensures).2
