-- What stands below a field where people err, and describes it to a screen reader.
use Rattle.std.specs.Prelude.{ℕ, List, [], ◌∷◌, ◌++◌, Bool, true, false, if◌then◌else◌, codes}
use Rattle.docket_command.specs.declared.command_name.CommandName.{CommandName}
use Rattle.docket_command.specs.declared.command_name.CommandName.TheVariants as kind
use Rattle.docket_command.specs.declared.field.Field.{Field}
use Rattle.docket_command.specs.declared.field.Field.TheVariants as field
use Rattle.docket_command.specs.FieldTypes.{FieldType}
use Rattle.docket_command.specs.FieldTypes as of

abbrev pub party_hint : CommandName → List ℕ
party_hint kind.OrderPeriod = codes "Its number on the docket sheet; 0 is every party."
party_hint kind.Dispose = codes "Only where the court orders a more definite statement."
party_hint _ = codes "Its number on the docket sheet."

abbrev pub days_hint : CommandName → List ℕ
days_hint kind.Extend = codes "Either days or a last day."
days_hint _ = []

-- of a field
abbrev pub field_hint : CommandName → Field → List ℕ
field_hint k field.Case = codes "Its number here, not the docket number."
field_hint k field.Party = party_hint k
field_hint k field.Close = codes "Before the usual closing."
field_hint k field.Attorney = codes "Only for an officer sued individually."
field_hint k field.AttorneyMethod = codes "Only for an officer sued individually."
field_hint k field.Allowed = codes "At least 30, and 60 outside the United States."
field_hint k field.Deadline = codes "Its number on the docket sheet."
field_hint k field.Unit = codes "Days and months want the day from which to count, hours the time; all three want how many and the direction. A day wants the last day alone."
field_hint k field.Discharged = codes "Where the jury was discharged without a verdict on an issue."
field_hint k field.Days = days_hint k
field_hint k field.Rule = codes "Its name, which begins with LR."
field_hint k _ = []

-- of a field of a type: a moment is written in a form that a browser has no control for
abbrev pub own_hint : CommandName → Field → FieldType → List ℕ
own_hint k f of.Moment = codes "As 2025-11-01T17:00-05:00, with the court's offset on that day."
own_hint k f _ = field_hint k f

-- with that of a field that may be absent
abbrev pub hint_words : List ℕ → Bool → List ℕ
hint_words own true = own
hint_words [] false = codes "May be left empty."
hint_words (byte ∷ words) false = (byte ∷ words) ++ codes " May be left empty."

abbrev pub hint_of : CommandName → Field → FieldType → Bool → List ℕ
hint_of k f t needed = hint_words (own_hint k f t) needed

-- whether there is a hint
abbrev pub is_hinted : List ℕ → Bool
is_hinted [] = false
is_hinted (byte ∷ words) = true

-- the hint of a field of that name, if there is one
abbrev pub hint_told : List ℕ → List ℕ → List ℕ
hint_told name words =
    if is_hinted words then codes "<span id=\"" ++ (name ++ (codes "-hint\" class=\"hint\">" ++ (words ++ codes "</span>"))) else []
