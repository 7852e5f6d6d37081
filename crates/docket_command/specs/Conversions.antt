-- What a word of a command is to the rules of counting.
use Rattle.court_rules.specs.calendar.DayKind.{DayKind}
use Rattle.court_rules.specs.calendar.DayKind.TheVariants as day_kind
use Rattle.court_rules.specs.declared.method.Method.{Method}
use Rattle.court_rules.specs.declared.method.Method.TheVariants as method
use Rattle.docket_command.specs.declared.choice.Sovereign.{Sovereign}
use Rattle.docket_command.specs.declared.choice.Sovereign.TheVariants as sovereign
use Rattle.docket_command.specs.declared.choice.ServiceMethod.{ServiceMethod}
use Rattle.docket_command.specs.declared.choice.ServiceMethod.TheVariants as service_method

-- the kind of the day that a sovereign declares
abbrev pub day_kind_of : Sovereign → DayKind
day_kind_of sovereign.Federal = day_kind.Federal
day_kind_of sovereign.State = day_kind.State

-- the method of service, as the rules know it
abbrev pub method_of : ServiceMethod → Method
method_of service_method.A = method.A
method_of service_method.B = method.B
method_of service_method.C = method.C
method_of service_method.D = method.D
method_of service_method.E = method.E
method_of service_method.F = method.F
