-- How a command that leaves the calendar as it is changes the rows of ends: by its acts, and those of the deadline that it names.
use Rattle.std.specs.Prelude.{◌≡◌, ◌⊎◌, ◌==◌, if◌then◌else◌, List, [], ◌∷◌, ◌++◌}
use Rattle.std.specs.List.{All, flat_map}
use Rattle.civil_time.specs.Zone.{ZoneRules}
use Rattle.court_days.specs.Calendar.{Entered}
use Rattle.court_rules.specs.Standings.{AreActs, standing}
use Rattle.court_rules.specs.declared.act.Act.{Act}
use Rattle.docket_decisions.specs.EndRows.{end_running, end_changes}
use Rattle.docket_decisions.specs.declared.end_row.EndChange.{EndChange}
use Rattle.docket_history.specs.declared.row.ActRow.{ActRow}
use Rattle.docket_history.specs.declared.row.Change.{Change}
use Rattle.docket_history.specs.declared.row.Change.TheVariants.{AddAct}

-- the acts of the row's deadline before it: none before the first, and else those of the deadline that the command names
abbrev pub acts_before : List Act → ActRow → List Act
acts_before named row = if row.number == 1 then [] else named

-- and with it
abbrev pub acts_with : List Act → ActRow → List Act
acts_with named row = acts_before named row ++ row.act ∷ []

-- the stored end of the row's deadline was that by the acts before it, and is to be that by the acts with it
abbrev pub moves_by_act : ZoneRules → Entered → List Act → ActRow → List EndChange
moves_by_act zone entered named row =
    end_changes row.case row.deadline (end_running zone (standing zone entered (acts_before named row)))
    (end_running zone (standing zone entered (acts_with named row)))

abbrev pub moves_by : ZoneRules → Entered → List Act → Change → List EndChange
moves_by zone entered named (AddAct row) = moves_by_act zone entered named row
moves_by zone entered named _ = []

-- the changes of stored ends, by those of a command that leaves the days and the spans of the calendar as they are
abbrev pub end_moves : ZoneRules → Entered → List Act → List Change → List EndChange
end_moves zone entered named changes = flat_map (moves_by zone entered named) changes

-- the act may come on its deadline
abbrev pub MayCome : ZoneRules → List Act → Change → Type 0
MayCome zone named (AddAct row) = AreActs zone (acts_with named row)
MayCome zone named _ = Unit {0}

-- the deadline that is named has lawful acts, if it is there, and so has each that gets an act
pub record AreLawful (zone : ZoneRules) (acts : List Act) (changes : List Change) : Type 0 where
  pub named : (acts ≡ []) ⊎ AreActs zone acts
  pub after : All (MayCome zone acts) changes
