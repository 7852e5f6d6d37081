use Rattle.std.proofs.Common.{◌≡◌, Bool, List, ◌∷◌, Option, refl, ap, ap₂, ◌∙◌}
use Rattle.docket_command.specs.declared.refusal.Refusal.{Refusal}
use Rattle.docket_decisions.specs.Refusals.{first_some, on}
use Rattle.docket_decisions.proofs.refusals.state_refusal.Goals as goal

-- a check that applies where its sentence is true, before such checks
before : {met is : Bool} {checks sentences : List (Option Refusal)} (r : Refusal) → met ≡ is → checks ≡ sentences → on met r ∷ checks ≡ on is r ∷ sentences
before r one more = ap₂ (λ (b : Bool) (rest : List (Option Refusal)). on b r ∷ rest) one more

-- each check applies where its sentence is true
pub returns : goal.returns
returns c =
    let court = c.args.circumstances.now.court.now in
    let v = c.args.view.now in
    let standing = c.requires.circumstances.standing in
    let about = c.requires.circumstances.subject in
    c.first_met.ensures
    ∙ ap first_some (
    before _ (c.lacks_case.ensures _ about)
    (before _ c.lacks_party.ensures
    (before _ (c.lacks_deadline.ensures _ about)
    (before _ c.lacks_row.ensures
    (before _ c.lacks_local_rule.ensures
    (before _ c.exists_already.ensures
    (before _ (c.is_not_open.ensures court v standing)
    (before _ (c.is_not_awaiting.ensures court v standing)
    (before _ c.is_not_responsive.ensures
    (before _ c.is_wrong_motion.ensures
    (before _ (c.is_late_motion.ensures v standing)
    (before _ c.is_served.ensures
    (before _ c.is_short_waiver.ensures
    (before _ (c.is_late_waiver.ensures v c.requires.circumstances.calendar)
    (before _ c.may_not_extend.ensures
    (before _ (c.is_expired.ensures v c.requires.circumstances.calendar standing)
    (before _ (c.is_not_later.ensures v standing)
    (before _ c.is_full.ensures refl)))))))))))))))))
    )
