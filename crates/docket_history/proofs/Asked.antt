-- What an action doesn't ask about makes no difference to what it makes.
use Rattle.std.proofs.Common.{◌≡◌, ◌≢◌, ◌+◌, ◌||◌, ℕ, Bool, true, false, List, [], Option, Some, None, refl, sym, ap, ◌∙◌}
use Rattle.std.specs.Prelude.{is_some, option_to_list, if◌then◌else◌}
use Rattle.std.specs.Option.{option_and_then, option_map, option_map_or}
use Rattle.docket_command.specs.declared.command.Action.{Action}
use Rattle.docket_command.specs.declared.case_action.AddParty.{AddParty}
use Rattle.docket_command.specs.declared.case_action.FileEntry.{FileEntry}
use Rattle.docket_command.specs.declared.case_action.OpenCase.{OpenCase}
use Rattle.docket_history.specs.Actions.{CalendarWork, enters, imports, shortens, withdraws, DeadlineWork, CaseWork, FoundRule, calendar_work, opened, rule_entered, case_work, case_named, deadline_work, deadline_named, made_by, deadlines_made, acts_made, rows_of_work, rows_asked, moves_all_cases, may_enter, is_timed, asks_calendar, asks_cases, asks_parties, asks_entries, asks_deadlines, asks_next_row, asks_local_rules, if_asked}
use Rattle.docket_history.specs.CalendarItems.{fresh}
use Rattle.docket_history.specs.Histories.{numbered, rows_added, case_row, new_case, party_row, new_party, entry_row, new_entry, local_rule_row, new_local_rule}
use Rattle.docket_history.specs.declared.row.NewDeadline.{NewDeadline}
use Rattle.docket_history.specs.declared.item.CalendarItem.{CalendarItem}

pub case_asked : (n : ℕ) (a : Action) → new_case (if_asked (asks_cases a) n) a ≡ new_case n a
case_asked n a = at (opened a)
  where
    at : (o : Option OpenCase) → option_to_list (option_map (case_row (if_asked (is_some o || moves_all_cases a) n + 1)) o) ≡ option_to_list (option_map (case_row (n + 1)) o)
    at None = refl
    at (Some case) = refl

pub party_asked : (n : ℕ) (a : Action) → new_party (if_asked (asks_parties a) n) a ≡ new_party n a
party_asked n a = at (case_work a)
  where
    by_added : (asked : Bool) (o : Option AddParty) → option_to_list (option_map (party_row (if_asked (is_some o || asked) n + 1)) o) ≡ option_to_list (option_map (party_row (n + 1)) o)
    by_added asked None = refl
    by_added asked (Some party) = refl

    at : (o : Option CaseWork) → option_to_list (option_map (party_row (if_asked (option_map_or (λ work. is_some work.added || is_some work.parties) o false) n + 1)) (option_and_then (λ work. work.added) o)) ≡ option_to_list (option_map (party_row (n + 1)) (option_and_then (λ work. work.added) o))
    at None = refl
    at (Some work) = by_added (is_some work.parties) work.added

pub entry_asked : (n : ℕ) (a : Action) → new_entry (if_asked (asks_entries a) n) a ≡ new_entry n a
entry_asked n a = at (case_work a)
  where
    by_filed : (o : Option FileEntry) → option_to_list (option_map (entry_row (if_asked (is_some o) n + 1)) o) ≡ option_to_list (option_map (entry_row (n + 1)) o)
    by_filed None = refl
    by_filed (Some entry) = refl

    at : (o : Option CaseWork) → option_to_list (option_map (entry_row (if_asked (option_map_or (λ work. is_some work.filed) o false) n + 1)) (option_and_then (λ work. work.filed) o)) ≡ option_to_list (option_map (entry_row (n + 1)) (option_and_then (λ work. work.filed) o))
    at None = refl
    at (Some work) = by_filed work.filed

pub rule_asked : (n : ℕ) (a : Action) → new_local_rule (if_asked (asks_local_rules a) n) a ≡ new_local_rule n a
rule_asked n a = at (rule_entered a)
  where
    at : (o : FoundRule) → option_to_list (option_map (local_rule_row (if_asked (is_some o) n + 1)) o) ≡ option_to_list (option_map (local_rule_row (n + 1)) o)
    at None = refl
    at (Some rule) = refl

pub next_asked : (n : ℕ) (items : List CalendarItem) (a : Action) → numbered (if_asked (asks_next_row a) n) (rows_added items a) ≡ numbered n (rows_added items a)
next_asked n items a = at (calendar_work a)
  where
    by_work : (work : CalendarWork) → numbered (if_asked (may_enter work) n) (fresh items (rows_of_work work)) ≡ numbered n (fresh items (rows_of_work work))
    by_work (enters row) = refl
    by_work (imports rows) = refl
    by_work (shortens short) = refl
    by_work (withdraws number) = refl

    at : (o : Option CalendarWork) → numbered (if_asked (option_map_or may_enter o false) n) (fresh items (option_map_or rows_of_work o [])) ≡ numbered n (fresh items (option_map_or rows_of_work o []))
    at None = refl
    at (Some work) = by_work work

-- an action that names no case does nothing in one
no_work : (a : Action) → case_named a ≡ None → case_work a ≡ None
no_work a e = at (case_work a) e
  where
    at : (o : Option CaseWork) → option_map (λ work. work.case) o ≡ None → o ≡ None
    at None e = refl
    at (Some work) e = absurd (cc)

-- so it makes no deadline and no later act, adds no party and files no entry

pub none_made : (found : FoundRule) (a : Action) → case_named a ≡ None → deadlines_made found a ≡ []
none_made found a e = ap (λ o. option_map_or (made_by found) o []) (no_work a e)

pub none_acted_in : (a : Action) → case_named a ≡ None → acts_made a ≡ []
none_acted_in a e = ap (λ (o : Option CaseWork). option_map_or (λ (work : DeadlineWork). work.acts) (option_and_then (λ work. work.acting) o) []) (no_work a e)

pub no_party : (a : Action) (m n : ℕ) → case_named a ≡ None → new_party m a ≡ new_party n a
no_party a m n e = none m ∙ sym (none n)
  where
    none : (n : ℕ) → new_party n a ≡ []
    none n = ap (λ (o : Option CaseWork). option_to_list (option_map (party_row (n + 1)) (option_and_then (λ work. work.added) o))) (no_work a e)

pub no_entry : (a : Action) (m n : ℕ) → case_named a ≡ None → new_entry m a ≡ new_entry n a
no_entry a m n e = none m ∙ sym (none n)
  where
    none : (n : ℕ) → new_entry n a ≡ []
    none n = ap (λ (o : Option CaseWork). option_to_list (option_map (entry_row (n + 1)) (option_and_then (λ work. work.filed) o))) (no_work a e)

-- an action that names no deadline makes no later act
pub none_acted : (a : Action) → deadline_named a ≡ None → acts_made a ≡ []
none_acted a e = at (deadline_work a) e
  where
    at : (o : Option DeadlineWork) → option_map (λ work. work.deadline) o ≡ None → option_map_or (λ work. work.acts) o [] ≡ []
    at None e = refl
    at (Some work) e = absurd (cc)

-- an action that doesn't ask for the number of the next calendar row asks for no row
pub no_rows : (a : Action) → asks_next_row a ≡ false → rows_asked a ≡ []
no_rows a e = at (calendar_work a) e
  where
    at : (o : Option CalendarWork) → option_map_or may_enter o false ≡ false → option_map_or rows_of_work o [] ≡ []
    at None e = refl
    at (Some (enters row)) e = absurd (let no = e in cc)
    at (Some (imports rows)) e = absurd (let no = e in cc)
    at (Some (shortens short)) e = absurd (let no = e in cc)
    at (Some (withdraws number)) e = refl

-- one that doesn't ask about the calendar adds no row to it
pub added_same : (items : List CalendarItem) (a : Action) → rows_added (if asks_calendar a then items else []) a ≡ rows_added items a
added_same items a = at (calendar_work a)
  where
    by_work : (asked : Bool) (work : CalendarWork) → fresh (if may_enter work || asked then items else []) (rows_of_work work) ≡ fresh items (rows_of_work work)
    by_work asked (enters row) = refl
    by_work asked (imports rows) = refl
    by_work asked (shortens short) = refl
    by_work asked (withdraws number) = refl

    at : (o : Option CalendarWork) → fresh (if option_map_or may_enter o false || option_map_or is_timed (case_work a) false then items else []) (option_map_or rows_of_work o []) ≡ fresh items (option_map_or rows_of_work o [])
    at None = refl
    at (Some work) = by_work (option_map_or is_timed (case_work a) false) work

-- an action that doesn't ask how many deadlines there are makes none
none_asked : (found : FoundRule) (a : Action) → asks_deadlines a ≡ false → deadlines_made found a ≡ []
none_asked found a e = at (case_work a) e
  where
    by_making : (o : Option (FoundRule → List NewDeadline)) → is_some o ≡ false → option_map_or (λ make. make found) o [] ≡ []
    by_making None e = refl
    by_making (Some make) e = absurd (cc)

    at : (o : Option CaseWork) → option_map_or (λ work. is_some work.deadlines) o false ≡ false → option_map_or (made_by found) o [] ≡ []
    at None e = refl
    at (Some work) e = by_making work.deadlines e

pub asked_where_made : (found : FoundRule) (a : Action) → deadlines_made found a ≢ [] → asks_deadlines a ≡ true
asked_where_made found a some = at (asks_deadlines a) refl
  where
    at : (b : Bool) → asks_deadlines a ≡ b → asks_deadlines a ≡ true
    at true e = e
    at false e = absurd (some (none_asked found a e))

pub made_asked : {R : Type 0} (make : ℕ → List NewDeadline → List R) (n : ℕ) (found : FoundRule) (a : Action) → ((i j : ℕ) → make i [] ≡ make j []) → make (if_asked (asks_deadlines a) n) (deadlines_made found a) ≡ make n (deadlines_made found a)
made_asked make n found a none = at (asks_deadlines a) refl
  where
    at : (b : Bool) → asks_deadlines a ≡ b → make (if_asked b n) (deadlines_made found a) ≡ make n (deadlines_made found a)
    at true e = refl
    at false e = ap (make 0) (none_asked found a e) ∙ none 0 n ∙ ap (make n) (sym (none_asked found a e))
