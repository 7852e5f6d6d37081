-- What a command would do to a docket, by the history with it.
use Rattle.std.specs.Prelude.{◌≡◌, ℕ, ◌==◌, if◌then◌else◌, List, [], ◌∷◌, ◌++◌, codes, decimal, drop, length, unwrap_or, string_bytes}
use Rattle.std.specs.List.{flat_map}
use Rattle.court_days.specs.Court.{CourtSettings}
use Rattle.docket_command.specs.declared.command.Command.{Command}
use Rattle.docket_command.specs.declared.refusal.Reply.{Reply}
use Rattle.docket_decisions.specs.Outcomes.{outcome, repeated, refused, accepted}
use Rattle.docket_history.specs.Actions.{changes_calendar}
use Rattle.docket_history.specs.Histories.{History, act_rows}
use Rattle.docket_history.specs.declared.row.ActRow.{ActRow}
use Rattle.docket_questions.specs.Moves.{calendar_foreseen}
use Rattle.docket_questions.specs.Texts.{text_of_reasons}
use Rattle.docket_questions.specs.declared.prospect.Foreseen.{Foreseen}
use Rattle.docket_questions.specs.declared.prospect.Foreseen.TheVariants.{Refused, Known, Accepted}

-- the acts that a command adds to those of a history
abbrev pub acts_with : History → Command → List ActRow
acts_with h c = drop (length (act_rows h)) (act_rows (c ∷ h))

-- which deadline an act is on; it is new where the act is its first
abbrev pub act_title : ActRow → List ℕ
act_title row =
    (if row.number == 1 then codes "new " else [])
    ++ (codes "deadline " ++ (decimal row.deadline ++ (codes " of case " ++ (decimal row.case ++ codes "\n"))))

-- that deadline, and why it stands as it does in a history
abbrev pub deadline_told : CourtSettings → History → ActRow → List ℕ
deadline_told court h row = act_title row ++ unwrap_or (text_of_reasons court h row.case row.deadline) []

-- of a command that adds these acts, by the history with it
abbrev pub acts_foreseen : CourtSettings → History → List ActRow → List ℕ
acts_foreseen court h [] = codes "No deadline would be made or moved.\n"
acts_foreseen court h rows = flat_map (deadline_told court h) rows

-- what the docket would say of each deadline that a command makes or acts on
abbrev pub foreseen_text : CourtSettings → History → Command → List ℕ
foreseen_text court h c =
    if changes_calendar c.action
    then calendar_foreseen court h c
    else acts_foreseen court (c ∷ h) (acts_with h c)

-- what is foreseen is the answer to the command, and what it would do
abbrev pub IsForeseen : CourtSettings → History → Command → Foreseen → Type 0
IsForeseen court h c (Refused r) = outcome court h c ≡ refused r
IsForeseen court h c (Known reply) = outcome court h c ≡ repeated reply
IsForeseen court h c (Accepted text) = (reply : Reply) × (outcome court h c ≡ accepted reply) × (string_bytes text ≡ foreseen_text court h c)
