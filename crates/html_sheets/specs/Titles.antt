-- What each kind of command is called on the pages.
use Rattle.std.specs.Prelude.{ℕ, List, codes}
use Rattle.docket_command.specs.declared.command_name.CommandName.{CommandName}
use Rattle.docket_command.specs.declared.command_name.CommandName.TheVariants.{DeclareDay, CloseDay, CloseSpan, ShortDay, WithdrawCalendar, ImportCalendar, OpenCase, AddParty, FileEntry, ServeSummons, FileWaiver, ServePleading, OrderReply, RuleMotion, Dispose, StatementServed, NoticeHearing, OrderPeriod, EnterJudgment, Extend, Satisfy, Vacate, LocalRule, LocalPeriod}

abbrev pub title_of : CommandName → List ℕ
title_of DeclareDay = codes "Declare a holiday"
title_of CloseDay = codes "Close the office on a day"
title_of CloseSpan = codes "Close the office for some hours"
title_of ShortDay = codes "Close early on a day"
title_of WithdrawCalendar = codes "Withdraw a row of the court's calendar"
title_of ImportCalendar = codes "Enter a table of days"
title_of OpenCase = codes "Open a case"
title_of AddParty = codes "Add a party"
title_of FileEntry = codes "File an entry"
title_of ServeSummons = codes "Serve a summons"
title_of FileWaiver = codes "File a waiver of service"
title_of ServePleading = codes "Serve a pleading"
title_of OrderReply = codes "Order a reply to an answer"
title_of RuleMotion = codes "File a motion under Rule 12"
title_of Dispose = codes "Rule on a motion"
title_of StatementServed = codes "Serve a more definite statement"
title_of NoticeHearing = codes "Notice a hearing"
title_of OrderPeriod = codes "Set a period"
title_of EnterJudgment = codes "Enter a judgment"
title_of Extend = codes "Extend a deadline"
title_of Satisfy = codes "Record what was filed"
title_of Vacate = codes "Vacate a deadline"
title_of LocalRule = codes "Enter a local rule"
title_of LocalPeriod = codes "Start a period of a local rule"
