-- The shapes of the fields of each kind of command.
use Rattle.std.proofs.Common.{◌≡◌, map, refl}
use Rattle.docket_command.specs.Fields.{field_name}
use Rattle.docket_command.specs.Schema.{field_of, type_of}
use Rattle.docket_command.specs.declared.command_name.CommandName.{CommandName}
use Rattle.docket_command.specs.declared.command_name.CommandName.TheVariants as name
use Rattle.docket_wire.specs.Reading.{is_known}
use Rattle.docket_wire.specs.Tables.{all_fields}
use Rattle.command_forms.specs.Shapes.{shape_named, shape_of}

pub one_shape : (kind : CommandName)
    → map (λ field. shape_named (field_name (field_of field))) (all_fields kind) ≡ map (λ field. shape_of (type_of field)) (all_fields kind)
unfolding is_known
one_shape name.DeclareDay = refl
one_shape name.CloseDay = refl
one_shape name.CloseSpan = refl
one_shape name.ShortDay = refl
one_shape name.WithdrawCalendar = refl
one_shape name.ImportCalendar = refl
one_shape name.OpenCase = refl
one_shape name.AddParty = refl
one_shape name.FileEntry = refl
one_shape name.ServeSummons = refl
one_shape name.FileWaiver = refl
one_shape name.ServePleading = refl
one_shape name.OrderReply = refl
one_shape name.RuleMotion = refl
one_shape name.Dispose = refl
one_shape name.StatementServed = refl
one_shape name.NoticeHearing = refl
one_shape name.OrderPeriod = refl
one_shape name.EnterJudgment = refl
one_shape name.Extend = refl
one_shape name.Satisfy = refl
one_shape name.Vacate = refl
one_shape name.LocalRule = refl
one_shape name.LocalPeriod = refl
