-- The words for the values of a type.
use Rattle.std.specs.Prelude.{ℕ, List, [], ◌∷◌, codes, Option, find}
use Rattle.std.specs.Str.{bytes_eq}
use Rattle.docket_command.specs.declared.choice.Sovereign.{Sovereign}
use Rattle.docket_command.specs.declared.choice.Sovereign.TheVariants as sovereign
use Rattle.court_rules.specs.calendar.DayKind.{DayKind}
use Rattle.court_rules.specs.calendar.DayKind.TheVariants as day_kind
use Rattle.docket_command.specs.declared.choice.Role.{Role}
use Rattle.docket_command.specs.declared.choice.Role.TheVariants as role
use Rattle.docket_command.specs.declared.choice.Basis.{Basis}
use Rattle.docket_command.specs.declared.choice.Basis.TheVariants as basis
use Rattle.docket_command.specs.declared.choice.PleadingKind.{PleadingKind}
use Rattle.docket_command.specs.declared.choice.PleadingKind.TheVariants as pleading_kind
use Rattle.docket_command.specs.declared.choice.Ruling.{Ruling}
use Rattle.docket_command.specs.declared.choice.Ruling.TheVariants as ruling
use Rattle.docket_command.specs.declared.choice.PeriodUnit.{PeriodUnit}
use Rattle.docket_command.specs.declared.choice.PeriodUnit.TheVariants as period_unit
use Rattle.court_rules.specs.calendar.Direction.{Direction}
use Rattle.court_rules.specs.calendar.Direction.TheVariants as direction
use Rattle.court_rules.specs.filing.Way.{Way}
use Rattle.court_rules.specs.filing.Way.TheVariants as way
use Rattle.court_rules.specs.declared.act.MotionKind.{MotionKind}
use Rattle.court_rules.specs.declared.act.MotionKind.TheVariants as motion_kind
use Rattle.docket_command.specs.declared.choice.ServiceMethod.{ServiceMethod}
use Rattle.docket_command.specs.declared.choice.ServiceMethod.TheVariants as service_method

-- the value with that word
abbrev pub named_in : {A : Type 0} → (A → List ℕ) → List A → List ℕ → Option A
named_in word values text = find (λ x. bytes_eq (word x) text) values

abbrev pub sovereign_word : Sovereign → List ℕ
sovereign_word sovereign.Federal = codes "federal"
sovereign_word sovereign.State = codes "state"

abbrev pub sovereign_named : List ℕ → Option Sovereign
sovereign_named = named_in sovereign_word (sovereign.Federal ∷ sovereign.State ∷ [])

abbrev pub day_kind_word : DayKind → List ℕ
day_kind_word day_kind.Federal = codes "federal"
day_kind_word day_kind.State = codes "state"
day_kind_word day_kind.Closed = codes "closed"

abbrev pub day_kind_named : List ℕ → Option DayKind
day_kind_named = named_in day_kind_word (day_kind.Federal ∷ day_kind.State ∷ day_kind.Closed ∷ [])

abbrev pub role_word : Role → List ℕ
role_word role.Plaintiff = codes "plaintiff"
role_word role.Defendant = codes "defendant"
role_word role.Other = codes "other"

abbrev pub role_named : List ℕ → Option Role
role_named = named_in role_word (role.Plaintiff ∷ role.Defendant ∷ role.Other ∷ [])

abbrev pub basis_word : Basis → List ℕ
basis_word basis.Private = codes "private"
basis_word basis.UnitedStates = codes "united_states"
basis_word basis.Officer = codes "officer"

abbrev pub basis_named : List ℕ → Option Basis
basis_named = named_in basis_word (basis.Private ∷ basis.UnitedStates ∷ basis.Officer ∷ [])

abbrev pub pleading_kind_word : PleadingKind → List ℕ
pleading_kind_word pleading_kind.Counterclaim = codes "counterclaim"
pleading_kind_word pleading_kind.Crossclaim = codes "crossclaim"
pleading_kind_word pleading_kind.Unanswered = codes "unanswered"

abbrev pub pleading_kind_named : List ℕ → Option PleadingKind
pleading_kind_named = named_in pleading_kind_word (pleading_kind.Counterclaim ∷ pleading_kind.Crossclaim ∷ pleading_kind.Unanswered ∷ [])

abbrev pub ruling_word : Ruling → List ℕ
ruling_word ruling.Denied = codes "denied"
ruling_word ruling.Postponed = codes "postponed"
ruling_word ruling.Statement = codes "statement"

abbrev pub ruling_named : List ℕ → Option Ruling
ruling_named = named_in ruling_word (ruling.Denied ∷ ruling.Postponed ∷ ruling.Statement ∷ [])

abbrev pub period_unit_word : PeriodUnit → List ℕ
period_unit_word period_unit.Days = codes "days"
period_unit_word period_unit.Months = codes "months"
period_unit_word period_unit.Hours = codes "hours"
period_unit_word period_unit.Fixed = codes "fixed"

abbrev pub period_unit_named : List ℕ → Option PeriodUnit
period_unit_named = named_in period_unit_word (period_unit.Days ∷ period_unit.Months ∷ period_unit.Hours ∷ period_unit.Fixed ∷ [])

abbrev pub direction_word : Direction → List ℕ
direction_word direction.Forward = codes "forward"
direction_word direction.Backward = codes "backward"

abbrev pub direction_named : List ℕ → Option Direction
direction_named = named_in direction_word (direction.Forward ∷ direction.Backward ∷ [])

abbrev pub way_word : Way → List ℕ
way_word way.Electronic = codes "electronic"
way_word way.Office = codes "office"

abbrev pub way_named : List ℕ → Option Way
way_named = named_in way_word (way.Electronic ∷ way.Office ∷ [])

abbrev pub motion_kind_word : MotionKind → List ℕ
motion_kind_word motion_kind.B = codes "b"
motion_kind_word motion_kind.E = codes "e"
motion_kind_word motion_kind.F = codes "f"

abbrev pub motion_kind_named : List ℕ → Option MotionKind
motion_kind_named = named_in motion_kind_word (motion_kind.B ∷ motion_kind.E ∷ motion_kind.F ∷ [])

abbrev pub service_method_word : ServiceMethod → List ℕ
service_method_word service_method.A = codes "A"
service_method_word service_method.B = codes "B"
service_method_word service_method.C = codes "C"
service_method_word service_method.D = codes "D"
service_method_word service_method.E = codes "E"
service_method_word service_method.F = codes "F"

abbrev pub service_method_named : List ℕ → Option ServiceMethod
service_method_named = named_in service_method_word (service_method.A ∷ service_method.B ∷ service_method.C ∷ service_method.D ∷ service_method.E ∷ service_method.F ∷ [])
