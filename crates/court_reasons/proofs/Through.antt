-- Acts one after another.
use Rattle.std.proofs.Common.{◌≡◌, ℕ, ◌+◌, ◌<◌, List, ◌∷◌, ◌++◌, length, drop, get_or, sym, ap, ◌∙◌, append_assoc, drop-cons, suc, add-one}
use Rattle.civil_time.specs.Zone.{ZoneRules}
use Rattle.court_days.specs.Calendar.{Entered}
use Rattle.court_rules.specs.declared.act.Act.{Act}
use Rattle.court_rules.specs.declared.act.Standing.{Standing}
use Rattle.court_rules.specs.Standings.{standing_after}
use Rattle.court_reasons.specs.declared.step.Step.{Step}
use Rattle.court_reasons.specs.Steps.{steps_of_act, steps_through}

-- the steps of the acts from one on are those of the act and of the acts after it
next : (zone : ZoneRules) (entered : Entered) (before : Standing) (acts : List Act) (n : ℕ) (act : Act) → n < length acts → act ≡ get_or acts n act → steps_through zone entered before (drop n acts) ≡ steps_of_act zone entered before act ++ steps_through zone entered (standing_after zone entered before act) (drop (n + 1) acts)
next zone entered before acts n act lt is =
    ap (steps_through zone entered before) (drop-cons acts n act lt ∙ ap (λ x. x ∷ drop (suc n) acts) (sym is))
    ∙ ap (λ k. steps_of_act zone entered before act ++ steps_through zone entered (standing_after zone entered before act) (drop k acts)) (sym (add-one n))

pub act_more : (zone : ZoneRules) (entered : Entered) (before after : Standing) (acts : List Act) (n : ℕ) (act : Act) (steps pushed whole : List Step) → n < length acts → act ≡ get_or acts n act → after ≡ standing_after zone entered before act → pushed ≡ steps ++ steps_of_act zone entered before act → steps ++ steps_through zone entered before (drop n acts) ≡ whole → pushed ++ steps_through zone entered after (drop (n + 1) acts) ≡ whole
act_more zone entered before after acts n act steps pushed whole lt is a p w =
    ap (λ s. s ++ steps_through zone entered after (drop (n + 1) acts)) p
    ∙ append_assoc steps (steps_of_act zone entered before act) (steps_through zone entered after (drop (n + 1) acts))
    ∙ ap (λ x. steps ++ (steps_of_act zone entered before act ++ steps_through zone entered x (drop (n + 1) acts))) a
    ∙ ap (λ s. steps ++ s) (sym (next zone entered before acts n act lt is))
    ∙ w
