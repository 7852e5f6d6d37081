-- The controls of a form: what a browser shows for a field, by its type.
use Rattle.std.specs.Prelude.{ℕ, List, [], ◌∷◌, ◌++◌, Bool, true, false, ◌==◌, length, bytes_eq, if◌then◌else◌, codes}
use Rattle.std.specs.List.{flat_map}
use Rattle.docket_command.specs.FieldTypes.{FieldType}
use Rattle.docket_command.specs.FieldTypes as of
use Rattle.html_sheets.specs.Escapes.{escaped}
use Rattle.entry_pages.specs.declared.control.State.{State}

-- the values of a type from which one is chosen, each with its words
abbrev pub choices_of : FieldType → List (List ℕ × List ℕ)
choices_of of.Number = []
choices_of of.Day = []
choices_of of.Moment = []
choices_of of.TimeOfDay = []
choices_of of.Flag = (codes "true", codes "yes") ∷ (codes "false", codes "no") ∷ []
choices_of of.Text = []
choices_of of.Rows = []
choices_of of.Basis =
    (codes "private", codes "a private party") ∷ (codes "united_states", codes "the United States, or sued in an official capacity")
    ∷ (codes "officer", codes "an officer or employee sued individually") ∷ []
choices_of of.Direction = (codes "forward", codes "forward") ∷ (codes "backward", codes "backward") ∷ []
choices_of of.MotionKind = (codes "b", codes "Rule 12(b)") ∷ (codes "e", codes "Rule 12(e)") ∷ (codes "f", codes "Rule 12(f)") ∷ []
choices_of of.PeriodUnit = (codes "days", codes "days") ∷ (codes "months", codes "months") ∷ (codes "hours", codes "hours") ∷ (codes "fixed", codes "a day") ∷ []
choices_of of.PleadingKind =
    (codes "counterclaim", codes "counterclaim") ∷ (codes "crossclaim", codes "crossclaim") ∷ (codes "unanswered", codes "one that allows no response") ∷ []
choices_of of.Role = (codes "plaintiff", codes "plaintiff") ∷ (codes "defendant", codes "defendant") ∷ (codes "other", codes "other") ∷ []
choices_of of.Ruling =
    (codes "denied", codes "denied") ∷ (codes "postponed", codes "postponed until trial") ∷ (codes "statement", codes "a more definite statement is ordered") ∷ []
choices_of of.ServiceMethod =
    (codes "A", codes "(A) handing it to the person") ∷ (codes "B", codes "(B) leaving it at the office or home") ∷ (codes "C", codes "(C) mail")
    ∷ (codes "D", codes "(D) leaving it with the clerk") ∷ (codes "E", codes "(E) electronic") ∷ (codes "F", codes "(F) other means consented to") ∷ []
choices_of of.Sovereign = (codes "federal", codes "the President or Congress") ∷ (codes "state", codes "the state") ∷ []
choices_of of.Way = (codes "electronic", codes "electronically") ∷ (codes "office", codes "at the office") ∷ []

-- the attributes of a line in which a value of the type is written
abbrev pub attributes_of : FieldType → List ℕ
attributes_of of.Number = codes " inputmode=\"numeric\" pattern=\"[0-9]{1,10}\""
attributes_of of.Day = codes " type=\"date\" min=\"2000-01-01\" max=\"2099-12-31\""
attributes_of of.Moment = codes " pattern=\"[0-9]{4}-[0-9]{2}-[0-9]{2}T[0-9]{2}:[0-9]{2}[+\\-][0-9]{2}:00\" placeholder=\"2025-11-01T17:00-05:00\""
attributes_of of.TimeOfDay = codes " type=\"time\""
attributes_of _ = []

-- the attribute of a field that must be there
abbrev pub required_told : Bool → List ℕ
required_told true = codes " required"
required_told false = []

-- the attributes of a field of that name that what was said is about, and that has a hint: a marked one is described by what was said,
-- then by its hint (WAI-ARIA 1.2, aria-invalid and aria-describedby)
abbrev pub described_told : List ℕ → Bool → Bool → List ℕ
described_told name true true = codes " aria-invalid=\"true\" aria-describedby=\"said " ++ (name ++ codes "-hint\"")
described_told name true false = codes " aria-invalid=\"true\" aria-describedby=\"said\""
described_told name false true = codes " aria-describedby=\"" ++ (name ++ codes "-hint\"")
described_told name false false = []

-- whether it must be there, whether what was said is about it, and whether it has a hint
abbrev pub state_told : List ℕ → Bool → Bool → Bool → List ℕ
state_told name needed marked hinted = required_told needed ++ described_told name marked hinted

abbrev pub state_of : State → List ℕ
state_of state = state_told state.name.now state.needed state.marked state.hinted

-- a line
abbrev pub line_told : List ℕ → List ℕ → List ℕ → List ℕ → List ℕ
line_told attributes name value state =
    codes "<input" ++ (attributes ++ (codes " id=\"" ++ (name ++ (codes "\" name=\"" ++ (name ++ (codes "\" value=\"" ++ (escaped value ++ (codes "\"" ++ (state ++ codes ">")))))))))

-- a choice among others, made where it is the value
abbrev pub option_told : List ℕ → List ℕ × List ℕ → List ℕ
option_told value choice =
    codes "<option value=\"" ++ (choice.0 ++ (codes "\"" ++ ((if bytes_eq choice.0 value then codes " selected" else []) ++ (codes ">" ++ (choice.1 ++ codes "</option>")))))

-- up to the choices, with an empty one in front of them
abbrev pub select_head : List ℕ → List ℕ → List ℕ
select_head name state =
    codes "<select id=\"" ++ (name ++ (codes "\" name=\"" ++ (name ++ (codes "\"" ++ (state ++ codes "><option value=\"\"></option>")))))

abbrev pub select_told : List (List ℕ × List ℕ) → List ℕ → List ℕ → List ℕ → List ℕ
select_told choices name value state = select_head name state ++ (flat_map (option_told value) choices ++ codes "</select>")

-- a type with choices is chosen from them, any other is written
abbrev pub control_told : FieldType → List ℕ → List ℕ → List ℕ → List ℕ
control_told t name value state =
    if length (choices_of t) == 0 then line_told (attributes_of t) name value state else select_told (choices_of t) name value state
