-- Each word reads back as the value whose word it is.
use Rattle.std.proofs.Common.{◌≡◌, Some, refl}
use Rattle.docket_command.specs.declared.choice.Sovereign.{Sovereign}
use Rattle.docket_command.specs.declared.choice.Sovereign.TheVariants as sovereign
use Rattle.court_rules.specs.calendar.DayKind.{DayKind}
use Rattle.court_rules.specs.calendar.DayKind.TheVariants as day_kind
use Rattle.docket_command.specs.declared.choice.Role.{Role}
use Rattle.docket_command.specs.declared.choice.Role.TheVariants as role
use Rattle.docket_command.specs.declared.choice.Basis.{Basis}
use Rattle.docket_command.specs.declared.choice.Basis.TheVariants as basis
use Rattle.docket_command.specs.declared.choice.PleadingKind.{PleadingKind}
use Rattle.docket_command.specs.declared.choice.PleadingKind.TheVariants as pleading_kind
use Rattle.docket_command.specs.declared.choice.Ruling.{Ruling}
use Rattle.docket_command.specs.declared.choice.Ruling.TheVariants as ruling
use Rattle.docket_command.specs.declared.choice.PeriodUnit.{PeriodUnit}
use Rattle.docket_command.specs.declared.choice.PeriodUnit.TheVariants as period_unit
use Rattle.court_rules.specs.calendar.Direction.{Direction}
use Rattle.court_rules.specs.calendar.Direction.TheVariants as direction
use Rattle.court_rules.specs.filing.Way.{Way}
use Rattle.court_rules.specs.filing.Way.TheVariants as way
use Rattle.court_rules.specs.declared.act.MotionKind.{MotionKind}
use Rattle.court_rules.specs.declared.act.MotionKind.TheVariants as motion_kind
use Rattle.docket_command.specs.declared.choice.ServiceMethod.{ServiceMethod}
use Rattle.docket_command.specs.declared.choice.ServiceMethod.TheVariants as service_method
use Rattle.docket_command.specs.declared.command_name.CommandName.{CommandName}
use Rattle.docket_command.specs.declared.command_name.CommandName.TheVariants as command_name
use Rattle.docket_command.specs.Names.{command_word, command_named}
use Rattle.docket_command.specs.Words.{sovereign_word, sovereign_named, day_kind_word, day_kind_named, role_word, role_named, basis_word, basis_named, pleading_kind_word, pleading_kind_named, ruling_word, ruling_named, period_unit_word, period_unit_named, direction_word, direction_named, way_word, way_named, motion_kind_word, motion_kind_named, service_method_word, service_method_named}

pub sovereign_back : (x : Sovereign) → sovereign_named (sovereign_word x) ≡ Some x
sovereign_back sovereign.Federal = refl
sovereign_back _ = refl

pub day_kind_back : (x : DayKind) → day_kind_named (day_kind_word x) ≡ Some x
day_kind_back day_kind.Federal = refl
day_kind_back _ = refl

pub role_back : (x : Role) → role_named (role_word x) ≡ Some x
role_back role.Plaintiff = refl
role_back _ = refl

pub basis_back : (x : Basis) → basis_named (basis_word x) ≡ Some x
basis_back basis.Private = refl
basis_back _ = refl

pub pleading_kind_back : (x : PleadingKind) → pleading_kind_named (pleading_kind_word x) ≡ Some x
pleading_kind_back pleading_kind.Counterclaim = refl
pleading_kind_back _ = refl

pub ruling_back : (x : Ruling) → ruling_named (ruling_word x) ≡ Some x
ruling_back ruling.Denied = refl
ruling_back _ = refl

pub period_unit_back : (x : PeriodUnit) → period_unit_named (period_unit_word x) ≡ Some x
period_unit_back period_unit.Days = refl
period_unit_back _ = refl

pub direction_back : (x : Direction) → direction_named (direction_word x) ≡ Some x
direction_back direction.Forward = refl
direction_back _ = refl

pub way_back : (x : Way) → way_named (way_word x) ≡ Some x
way_back way.Electronic = refl
way_back _ = refl

pub motion_kind_back : (x : MotionKind) → motion_kind_named (motion_kind_word x) ≡ Some x
motion_kind_back motion_kind.B = refl
motion_kind_back _ = refl

pub service_method_back : (x : ServiceMethod) → service_method_named (service_method_word x) ≡ Some x
service_method_back service_method.A = refl
service_method_back _ = refl

pub command_name_back : (x : CommandName) → command_named (command_word x) ≡ Some x
command_name_back command_name.DeclareDay = refl
command_name_back _ = refl
