-- What histories define, as lists of what was asked, the oldest first.
use Rattle.std.specs.Prelude.{◌≡◌, ℕ, ◌+◌, ◌==◌, Bool, false, ◌&&◌, if◌then◌else◌, List, [], ◌∷◌, ◌++◌, Option, Some, None}
use Rattle.std.specs.List.{All, Contains}
use Rattle.court_rules.specs.declared.act.Act.{Act}
use Rattle.docket_command.specs.declared.case_action.AddParty.{AddParty}
use Rattle.docket_command.specs.declared.case_action.FileEntry.{FileEntry}
use Rattle.docket_command.specs.declared.command.Command.{Command}
use Rattle.docket_command.specs.declared.command.Action.{Action}
use Rattle.docket_history.specs.Actions.{FoundRule, party_entered, entry_entered, case_named, deadline_named, row_withdrawn, deadlines_made, acts_made}
use Rattle.docket_history.specs.Histories.{History, standing_rows, next_row, items_of, numbered, rows_added, rule_found}
use Rattle.docket_history.specs.declared.row.NewDeadline.{NewDeadline}
use Rattle.docket_history.specs.declared.row.CalendarRow.{CalendarRow}

-- what the commands of a history ask, the oldest first
abbrev pub in_order : History → List Action
in_order [] = []
in_order (c ∷ before) = in_order before ++ c.action ∷ []

-- the same, each with the local rule that it names, where that was entered before it
abbrev pub asked_in_order : History → List (FoundRule × Action)
asked_in_order [] = []
asked_in_order (c ∷ before) = asked_in_order before ++ (rule_found before c.action, c.action) ∷ []

-- a row for each, numbered from a number on
abbrev pub numbered_by : {A R : Type 0} → (ℕ → A → R) → ℕ → List A → List R
numbered_by row number [] = []
numbered_by row number (x ∷ xs) = row number x ∷ numbered_by row (number + 1) xs

-- the lists that a function returns for the elements, joined
abbrev pub gathered : {A B : Type 0} → (A → List B) → List A → List B
gathered give [] = []
gathered give (x ∷ xs) = give x ++ gathered give xs

-- it is there, and of case k
abbrev pub of_case : {A : Type 0} → ℕ → (A → ℕ) → Option A → Option A
of_case k case None = None
of_case k case (Some a) = if case a == k then Some a else None

-- a party is added to case k
abbrev pub party_added : ℕ → Action → Option AddParty
party_added k a = of_case k (λ party. party.case) (party_entered a)

-- an entry is filed in case k
abbrev pub entry_filed : ℕ → Action → Option FileEntry
entry_filed k a = of_case k (λ entry. entry.case) (entry_entered a)

-- it is there, and this number
abbrev pub is_number : Option ℕ → ℕ → Bool
is_number (Some n) k = n == k
is_number None k = false

-- the deadlines that an action makes in case k
abbrev pub made_in : ℕ → FoundRule × Action → List NewDeadline
made_in k asked = if is_number (case_named asked.1) k then deadlines_made asked.0 asked.1 else []

-- the acts that an action adds to deadline n of case k
abbrev pub acts_on : ℕ → ℕ → Action → List Act
acts_on k n a = if is_number (case_named a) k && is_number (deadline_named a) n then acts_made a else []

-- the calendar rows that a command adds after a history
abbrev pub calendar_added : History → Command → List CalendarRow
calendar_added before c = numbered (next_row before) (rows_added (items_of (standing_rows before)) c.action)

-- the command withdraws the row of that number
abbrev pub Withdraws : ℕ → Command → Type 0
Withdraws number c = row_withdrawn c.action ≡ Some number

-- the row was added by a command, and no later one withdraws it
pub record IsAddedAndKept (h : History) (row : CalendarRow) : Type 0 where
  pub after : List Command
  pub command : Command
  pub before : History
  pub history : h ≡ after ++ command ∷ before
  pub added : Contains (calendar_added before command) row
  pub kept : All (λ (later : Command). ¬ (Withdraws row.number later)) after
