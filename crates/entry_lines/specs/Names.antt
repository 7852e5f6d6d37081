-- Which case and which party a person means by a name.
use Rattle.std.specs.Prelude.{ℕ, ◌^◌, Bool, true, false, ◌&&◌, List, [], ◌∷◌, length, map, filter, bytes_eq, nat_lt, if◌then◌else◌, decimal, Option, Some, None, is_none, Result, Ok, Err}
use Rattle.std.specs.Option.{option_map}
use Rattle.std.specs.Result.{result_map_both}
use Rattle.command_forms.specs.Values.{number_of}
use Rattle.docket_command.specs.declared.field.Field.{Field}
use Rattle.docket_command.specs.declared.field.Field.TheVariants as field
use Rattle.docket_history.specs.Histories.{History, case_rows}
use Rattle.docket_history.specs.Records.{case_labelled}
use Rattle.docket_history.specs.declared.row.CaseRow.{CaseRow}
use Rattle.docket_history.specs.declared.row.PartyRow.{PartyRow}
use Rattle.docket_questions.specs.Searches.{folded, has_words}
use Rattle.entry_lines.specs.declared.entry.Unnamed.{Unnamed}
use Rattle.entry_lines.specs.declared.entry.Unnamed.TheVariants.{NoCase, NoParty, SeveralParties}
use Rattle.entry_lines.specs.declared.parties.Fit.{Fit}
use Rattle.entry_lines.specs.declared.parties.Fit.TheVariants.{Whole, Part}

-- a text is a name, unless it is empty or a number of 1 to 10 digits
abbrev pub is_name : List ℕ → Bool
is_name text = nat_lt 0 (length text) && is_none (number_of text)

-- a name may stand for a case, a party and an opponent
abbrev pub takes_name : Field → Bool
takes_name field.Case = true
takes_name field.Party = true
takes_name field.Opponent = true
takes_name f = false

-- ---- the case

-- the number of a case has 32 bits; 0 is that of no case
abbrev pub number_of_case : Option ℕ → ℕ
number_of_case None = 0
number_of_case (Some n) = if nat_lt n (2 ^ 32) then n else 0

abbrev pub case_spelled : List ℕ → ℕ
case_spelled text = number_of_case (number_of text)

-- the case of a label, or of the number that digits spell
abbrev pub case_found : List ℕ → Option CaseRow → Option ℕ
case_found text labelled = if is_name text then option_map (λ case. case.number) labelled else Some (case_spelled text)

abbrev pub case_meant : History → List ℕ → Option ℕ
case_meant h text = case_found text (case_labelled (case_rows h) text)

-- the text that stands for the case; empty where none does
abbrev pub case_text : List (Field × List ℕ) → List ℕ
case_text [] = []
case_text ((field.Case, text) ∷ given) = text
case_text ((f, text) ∷ given) = case_text given

-- ---- the party

-- words fit a name of which they are the whole, or a part, without regard to the case of ASCII letters
abbrev pub fits : Fit → List ℕ → List ℕ → Bool
fits Whole words name = bytes_eq (folded name) (folded words)
fits Part words name = has_words name words

abbrev pub numbers_fitting : Fit → List ℕ → List PartyRow → List ℕ
numbers_fitting fit words parties = map (λ party. party.number) (filter (λ party. fits fit words party.name) parties)

-- the only one of the numbers
abbrev pub only_one : Field → List ℕ → Result ℕ Unnamed
only_one f [] = Err (NoParty f)
only_one f (n ∷ []) = Ok n
only_one f (n ∷ m ∷ more) = Err (SeveralParties f n m)

-- the whole name comes before a part of it
abbrev pub whole_first : List ℕ → List ℕ → List ℕ
whole_first [] parts = parts
whole_first (n ∷ more) parts = n ∷ more

abbrev pub party_meant : Field → List PartyRow → List ℕ → Result ℕ Unnamed
party_meant f parties words = only_one f (whole_first (numbers_fitting Whole words parties) (numbers_fitting Part words parties))

-- ---- a field, by the case that is meant and its parties

abbrev pub case_or_none : Option ℕ → Result ℕ Unnamed
case_or_none None = Err NoCase
case_or_none (Some number) = Ok number

-- the number that a name in the field means
abbrev pub number_meant : Option ℕ → List PartyRow → Field → List ℕ → Result ℕ Unnamed
number_meant case parties field.Case name = case_or_none case
number_meant case parties f name = party_meant f parties name

abbrev pub text_of_number : Result ℕ Unnamed → Result (List ℕ) Unnamed
text_of_number meant = result_map_both decimal (λ why. why) meant

-- its text, with that number for a name
abbrev pub text_meant : Option ℕ → List PartyRow → Field → List ℕ → Result (List ℕ) Unnamed
text_meant case parties f text = if takes_name f && is_name text then text_of_number (number_meant case parties f text) else Ok text
