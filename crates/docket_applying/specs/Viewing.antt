-- What a view has beside its case, its local rule and its calendar.
use Rattle.std.specs.Prelude.{length}
use Rattle.docket_command.specs.declared.command.Action.{Action}
use Rattle.docket_history.specs.Actions.{asks_cases, asks_local_rules, asks_next_row, if_asked}
use Rattle.docket_decisions.specs.Outcomes.{is_label_taken, is_row_standing}
use Rattle.docket_decisions.specs.Tables.{Tables}
use Rattle.docket_applying.specs.declared.viewing.NumbersShown.{NumbersShown}

-- the numbers and truth values that an action asks about
abbrev pub numbers_in : Tables → Action → NumbersShown
numbers_in t a = record {
  cases = if_asked (asks_cases a) (length t.cases);
  label_taken = is_label_taken a t.cases;
  row_stands = is_row_standing a t.calendar;
  next_row = if_asked (asks_next_row a) t.next_row;
  local_rules = if_asked (asks_local_rules a) (length t.local_rules);
}
