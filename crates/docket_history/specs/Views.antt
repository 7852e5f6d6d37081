-- What a view shows.
use Rattle.std.specs.Prelude.{ℕ, zero, suc, ◌-◌, ◌==◌, Bool, true, false, not, ◌&&◌, if◌then◌else◌, List, [], length, Option, Some, None, slice_get}
use Rattle.std.specs.List.{list_any}
use Rattle.std.specs.Option.{option_and_then, option_map_or}
use Rattle.court_rules.specs.declared.act.Act.{Act}
use Rattle.court_rules.specs.declared.act.Act.TheVariants as act
use Rattle.court_rules.specs.declared.deadline_rule.DeadlineRule.{DeadlineRule}
use Rattle.court_rules.specs.declared.deadline_rule.DeadlineRule.TheVariants.{Listed, Local}
use Rattle.docket_command.specs.declared.command.Action.{Action}
use Rattle.docket_history.specs.Actions.{deadline_named, party_served, asks_rule_of_deadline, local_rule_named, asks_parties, asks_entries, asks_deadlines, if_asked}
use Rattle.docket_history.specs.declared.view.CaseView.{CaseView}
use Rattle.docket_history.specs.declared.view.DeadlineView.{DeadlineView}
use Rattle.docket_history.specs.declared.view.View.{View}

-- a view, in clauses where `View` is the type of the code
abbrev pub ViewOf : Type 0
ViewOf = View

abbrev pub parties_in : Option CaseView → ℕ
parties_in None = 0
parties_in (Some case) = case.parties

abbrev pub entries_in : Option CaseView → ℕ
entries_in None = 0
entries_in (Some case) = case.entries

-- how many deadlines the case has
abbrev pub count_deadlines : Option CaseView → ℕ
count_deadlines None = 0
count_deadlines (Some case) = case.deadlines

abbrev pub named_in : Option CaseView → Option DeadlineView
named_in None = None
named_in (Some case) = case.named

-- the deadline that the command names
abbrev pub deadline_shown : View → Option DeadlineView
deadline_shown v = named_in v.case

abbrev pub acts_in : Option DeadlineView → List Act
acts_in None = []
acts_in (Some deadline) = deadline.acts

-- the name of a deadline's rule, where it is a local one
abbrev pub local_name : DeadlineRule → Option (List ℕ)
local_name (Listed rule) = None
local_name (Local name) = Some name

abbrev pub local_name_in : Option DeadlineView → Option (List ℕ)
local_name_in None = None
local_name_in (Some deadline) = local_name deadline.rule

-- the name of the local rule that an action asks about: the one that it names, or that of the deadline that it extends
abbrev pub rule_name_asked : Option DeadlineView → Action → Option (List ℕ)
rule_name_asked named a = if asks_rule_of_deadline a then local_name_in named else local_rule_named a

abbrev pub served_in : Option CaseView → Bool
served_in None = false
served_in (Some case) = case.is_served

-- what is shown of a case, by its deadlines

-- the deadline of a number, from 1
abbrev pub deadline_at : List DeadlineView → ℕ → Option DeadlineView
deadline_at all zero = None
deadline_at all (suc n) = slice_get all n

-- the deadline that an action names
abbrev pub deadline_of : List DeadlineView → Action → Option DeadlineView
deadline_of all a = option_and_then (deadline_at all) (deadline_named a)

abbrev pub last_act : List Act → Option Act
last_act acts = slice_get acts (length acts - 1)

-- the deadline is vacated, by its last act
abbrev pub is_vacated_by : Option Act → Bool
is_vacated_by (Some act.Vacated) = true
is_vacated_by _ = false

abbrev pub is_vacated : List Act → Bool
is_vacated acts = is_vacated_by (last_act acts)

-- the party has an initial deadline that is not vacated
abbrev pub has_initial : List DeadlineView → ℕ → Bool
has_initial all party = list_any (λ d. d.party == party && (d.initial && not (is_vacated d.acts))) all

-- a party that is served with a summons, or whose waiver is filed, has one
abbrev pub is_served_among : List DeadlineView → Action → Bool
is_served_among all a = option_map_or (has_initial all) (party_served a) false

-- a case with so many parties and entries, and these deadlines, as an action needs it: what the action asks about
abbrev pub case_shown : ℕ → ℕ → ℕ → List DeadlineView → Action → CaseView
case_shown k parties entries all a = record {
  number = k;
  parties = if_asked (asks_parties a) parties;
  entries = if_asked (asks_entries a) entries;
  deadlines = if_asked (asks_deadlines a) (length all);
  named = deadline_of all a;
  is_served = is_served_among all a;
}
