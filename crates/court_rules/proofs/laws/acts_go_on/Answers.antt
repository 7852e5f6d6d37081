use Rattle.std.proofs.Common.{[], ◌∷◌}
use Rattle.court_rules.specs.declared.act.Standing.TheVariants.{Vacated}
use Rattle.court_rules.proofs.Chains.{standing_through-append, table, first, next}
use Rattle.court_rules.proofs.laws.acts_go_on.Goals as goal

pub returns-clause-step : goal.returns-clause-step
returns-clause-step c = λ zone entered acts act. standing_through-append zone entered Vacated acts (act ∷ [])

pub returns-clause-table : goal.returns-clause-table
returns-clause-table c = table

pub returns-clause-first : goal.returns-clause-first
returns-clause-first c = first

pub returns-clause-next : goal.returns-clause-next
returns-clause-next c = next
