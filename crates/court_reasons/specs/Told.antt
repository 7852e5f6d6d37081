-- The acts that steps show.
use Rattle.std.specs.Prelude.{List, [], ◌∷◌}
use Rattle.std.specs.List.{flat_map}
use Rattle.court_rules.specs.declared.act.Act.{Act}
use Rattle.court_rules.specs.declared.act.Act.TheVariants as act
use Rattle.court_rules.specs.declared.act.Start.TheVariants as start
use Rattle.court_reasons.specs.declared.step.Step.{Step}
use Rattle.court_reasons.specs.declared.step.Step.TheVariants as step

-- the act of which the step is the first; the other steps say how its end is found
abbrev pub act_of : Step → List Act
act_of (step.Period days) = act.Start (start.Days days) ∷ []
act_of (step.Hours hours) = act.Start (start.Hours hours) ∷ []
act_of (step.Fixed day) = act.Fixed day ∷ []
act_of (step.Extended last days) = act.ExtendBy days ∷ []
act_of (step.ExtendedTo day) = act.ExtendTo day ∷ []
act_of (step.Motion served kind) = act.Motion served kind ∷ []
act_of (step.Resumed day three) = act.Resume day three ∷ []
act_of (step.Awaited notice) = act.AwaitStatement notice ∷ []
act_of (step.Done at way) = act.Done at way ∷ []
act_of step.Vacated = act.Vacated ∷ []
act_of _ = []

-- the acts among the steps, in order
abbrev pub acts_of : List Step → List Act
acts_of steps = flat_map act_of steps
