-- Where a browser is led by an accepted command.
use Rattle.std.specs.Prelude.{ℕ, List, ◌++◌, codes, decimal}
use Rattle.docket_command.specs.declared.command.Command.{Command}
use Rattle.docket_command.specs.declared.refusal.Reply.{Reply as Number}
use Rattle.docket_history.specs.Actions.{Work, in_case, on_calendar, opens, enters_rule, work}
use Rattle.docket_http.specs.declared.place.Place.{Place}
use Rattle.docket_http.specs.declared.place.Place.TheVariants.{Case, CourtDays, Rules}

abbrev pub path_of : Place → List ℕ
path_of (Case number) = codes "/pages/cases/" ++ decimal number
path_of CourtDays = codes "/pages/court-days"
path_of Rules = codes "/pages/rules"

-- the case in which it does something; the case that it opens, which is the reply; the court calendar; or the local rules
abbrev pub place_of : Work → ℕ → Place
place_of (in_case work) number = Case work.case
place_of (opens case) number = Case number
place_of (on_calendar work) number = CourtDays
place_of (enters_rule rule) number = Rules

abbrev pub place_after : Command → Number → Place
place_after c reply = place_of (work c.action) reply.number

-- the path after a command with this reply
abbrev pub path_after : Command → Number → List ℕ
path_after c reply = path_of (place_after c reply)
