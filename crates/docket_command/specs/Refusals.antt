-- The numbers and the names of refusals, in the order in which they are checked.
use Rattle.std.specs.Prelude.{ℕ, List, codes}
use Rattle.docket_command.specs.declared.refusal.Refusal.{Refusal}
use Rattle.docket_command.specs.declared.refusal.Refusal.TheVariants as refusal

abbrev pub refusal_number : Refusal → ℕ
refusal_number refusal.BadKey = 1
refusal_number refusal.KeyReused = 2
refusal_number (refusal.BadValue f) = 3
refusal_number refusal.NoSuchCase = 4
refusal_number refusal.NoSuchParty = 5
refusal_number refusal.NoSuchDeadline = 6
refusal_number refusal.NoSuchCalendarRow = 7
refusal_number refusal.NoSuchLocalRule = 21
refusal_number refusal.Exists = 8
refusal_number refusal.NotOpen = 9
refusal_number refusal.NotAwaiting = 10
refusal_number refusal.NotResponsive = 11
refusal_number refusal.WrongMotion = 12
refusal_number refusal.AfterDeadline = 13
refusal_number refusal.AlreadyServed = 14
refusal_number refusal.ShortWaiver = 15
refusal_number refusal.LateWaiver = 16
refusal_number refusal.MayNotExtend = 17
refusal_number refusal.Expired = 18
refusal_number refusal.NotLater = 19
refusal_number refusal.Full = 20

abbrev pub refusal_name : Refusal → List ℕ
refusal_name refusal.BadKey = codes "BadKey"
refusal_name refusal.KeyReused = codes "KeyReused"
refusal_name (refusal.BadValue f) = codes "BadValue"
refusal_name refusal.NoSuchCase = codes "NoSuchCase"
refusal_name refusal.NoSuchParty = codes "NoSuchParty"
refusal_name refusal.NoSuchDeadline = codes "NoSuchDeadline"
refusal_name refusal.NoSuchCalendarRow = codes "NoSuchCalendarRow"
refusal_name refusal.NoSuchLocalRule = codes "NoSuchLocalRule"
refusal_name refusal.Exists = codes "Exists"
refusal_name refusal.NotOpen = codes "NotOpen"
refusal_name refusal.NotAwaiting = codes "NotAwaiting"
refusal_name refusal.NotResponsive = codes "NotResponsive"
refusal_name refusal.WrongMotion = codes "WrongMotion"
refusal_name refusal.AfterDeadline = codes "AfterDeadline"
refusal_name refusal.AlreadyServed = codes "AlreadyServed"
refusal_name refusal.ShortWaiver = codes "ShortWaiver"
refusal_name refusal.LateWaiver = codes "LateWaiver"
refusal_name refusal.MayNotExtend = codes "MayNotExtend"
refusal_name refusal.Expired = codes "Expired"
refusal_name refusal.NotLater = codes "NotLater"
refusal_name refusal.Full = codes "Full"
