-- The kinds of commands that are entered by a form: all but a table of days, which is a file.
use Rattle.std.specs.Prelude.{ℕ, List, [], ◌∷◌, ◌++◌, codes}
use Rattle.std.specs.List.{flat_map}
use Rattle.docket_command.specs.declared.command_name.CommandName.{CommandName}
use Rattle.docket_command.specs.declared.command_name.CommandName.TheVariants.{DeclareDay, CloseDay, CloseSpan, ShortDay, WithdrawCalendar, OpenCase, AddParty, FileEntry, ServeSummons, FileWaiver, ServePleading, OrderReply, RuleMotion, Dispose, StatementServed, NoticeHearing, OrderPeriod, EnterJudgment, Extend, Satisfy, Vacate, LocalRule, LocalPeriod}
use Rattle.html_sheets.specs.Entering.{enter_link}
use Rattle.html_sheets.specs.declared.about.About.TheVariants.{Nothing}

-- the kinds in groups, each with its heading
abbrev pub groups : List (List ℕ × List CommandName)
groups =
    (codes "Cases", OpenCase ∷ AddParty ∷ FileEntry ∷ [])
    ∷ (codes "Service and answers", ServeSummons ∷ FileWaiver ∷ ServePleading ∷ OrderReply ∷ [])
    ∷ (codes "Motions", RuleMotion ∷ Dispose ∷ StatementServed ∷ NoticeHearing ∷ [])
    ∷ (codes "Periods and deadlines", OrderPeriod ∷ LocalPeriod ∷ EnterJudgment ∷ Extend ∷ Satisfy ∷ Vacate ∷ [])
    ∷ (codes "The court's days", DeclareDay ∷ CloseDay ∷ CloseSpan ∷ ShortDay ∷ WithdrawCalendar ∷ [])
    ∷ (codes "Local rules", LocalRule ∷ [])
    ∷ []

-- a link to the form of a kind, which is filled in with nothing
abbrev pub kind_link : CommandName → List ℕ
kind_link kind = codes "<li>" ++ (enter_link Nothing kind ++ codes "</li>\n")

-- some kinds under a heading
abbrev pub kind_group : List ℕ × List CommandName → List ℕ
kind_group group = codes "<h2>" ++ (group.0 ++ (codes "</h2>\n<ul>\n" ++ (flat_map kind_link group.1 ++ codes "</ul>\n")))

unfoldable pub kind_groups : List ℕ
kind_groups = flat_map kind_group groups
