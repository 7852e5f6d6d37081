-- The names of the kinds of commands.
use Rattle.std.specs.Prelude.{ℕ, List, [], ◌∷◌, codes, Option}
use Rattle.docket_command.specs.Words.{named_in}
use Rattle.docket_command.specs.declared.command.Action.{Action}
use Rattle.docket_command.specs.declared.command.Action.TheVariants as action
use Rattle.docket_command.specs.declared.command_name.CommandName.{CommandName}
use Rattle.docket_command.specs.declared.command_name.CommandName.TheVariants.{DeclareDay, CloseDay, CloseSpan, ShortDay, WithdrawCalendar, ImportCalendar, OpenCase, AddParty, FileEntry, ServeSummons, FileWaiver, ServePleading, OrderReply, RuleMotion, Dispose, StatementServed, NoticeHearing, OrderPeriod, EnterJudgment, Extend, Satisfy, Vacate, LocalRule, LocalPeriod}

abbrev pub command_word : CommandName → List ℕ
command_word DeclareDay = codes "declare_day"
command_word CloseDay = codes "close_day"
command_word CloseSpan = codes "close_span"
command_word ShortDay = codes "short_day"
command_word WithdrawCalendar = codes "withdraw_calendar"
command_word ImportCalendar = codes "import_calendar"
command_word OpenCase = codes "open_case"
command_word AddParty = codes "add_party"
command_word FileEntry = codes "file_entry"
command_word ServeSummons = codes "serve_summons"
command_word FileWaiver = codes "file_waiver"
command_word ServePleading = codes "serve_pleading"
command_word OrderReply = codes "order_reply"
command_word RuleMotion = codes "rule_motion"
command_word Dispose = codes "dispose"
command_word StatementServed = codes "statement_served"
command_word NoticeHearing = codes "notice_hearing"
command_word OrderPeriod = codes "order_period"
command_word EnterJudgment = codes "enter_judgment"
command_word Extend = codes "extend"
command_word Satisfy = codes "satisfy"
command_word Vacate = codes "vacate"
command_word LocalRule = codes "local_rule"
command_word LocalPeriod = codes "local_period"

-- all of them
abbrev pub command_names : List CommandName
command_names =
    DeclareDay ∷ CloseDay ∷ CloseSpan ∷ ShortDay ∷ WithdrawCalendar ∷ ImportCalendar ∷ OpenCase ∷ AddParty ∷ FileEntry ∷ ServeSummons ∷ FileWaiver ∷ ServePleading ∷ OrderReply ∷ RuleMotion ∷ Dispose ∷ StatementServed ∷ NoticeHearing ∷ OrderPeriod ∷ EnterJudgment ∷ Extend ∷ Satisfy ∷ Vacate ∷ LocalRule ∷ LocalPeriod ∷ []

abbrev pub command_named : List ℕ → Option CommandName
command_named = named_in command_word command_names

-- which kind an action is of
abbrev pub name_of : Action → CommandName
name_of (action.DeclareDay a) = DeclareDay
name_of (action.CloseDay a) = CloseDay
name_of (action.CloseSpan a) = CloseSpan
name_of (action.ShortDay a) = ShortDay
name_of (action.WithdrawCalendar a) = WithdrawCalendar
name_of (action.ImportCalendar a) = ImportCalendar
name_of (action.OpenCase a) = OpenCase
name_of (action.AddParty a) = AddParty
name_of (action.FileEntry a) = FileEntry
name_of (action.ServeSummons a) = ServeSummons
name_of (action.FileWaiver a) = FileWaiver
name_of (action.ServePleading a) = ServePleading
name_of (action.OrderReply a) = OrderReply
name_of (action.RuleMotion a) = RuleMotion
name_of (action.Dispose a) = Dispose
name_of (action.StatementServed a) = StatementServed
name_of (action.NoticeHearing a) = NoticeHearing
name_of (action.OrderPeriod a) = OrderPeriod
name_of (action.EnterJudgment a) = EnterJudgment
name_of (action.Extend a) = Extend
name_of (action.Satisfy a) = Satisfy
name_of (action.Vacate a) = Vacate
name_of (action.LocalRule a) = LocalRule
name_of (action.LocalPeriod a) = LocalPeriod
