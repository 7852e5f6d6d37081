-- The line of a command that a person enters in words.
use Rattle.std.specs.Prelude.{ℕ, ℤ, List, [], ◌∷◌, ◌++◌, take, codes, Option, Some, None, option_copied, unwrap_or, Result, Ok, Err}
use Rattle.civil_time.specs.DayText.{day_text}
use Rattle.command_forms.specs.Forms.{line_of}
use Rattle.court_days.specs.Court.{CourtSettings}
use Rattle.docket_command.specs.Fields.{field_name}
use Rattle.docket_command.specs.Names.{command_word}
use Rattle.docket_command.specs.declared.field.Field.{Field}
use Rattle.docket_command.specs.declared.field.Field.TheVariants as field
use Rattle.docket_history.specs.Histories.{History, parties_of_case, party_rows}
use Rattle.docket_history.specs.declared.row.PartyRow.{PartyRow}
use Rattle.hex.specs.Hex.{encode_lower}
use Rattle.html_sheets.specs.Due.{day_of_clock}
use Rattle.sha2.specs.Sha256.{sha256}
use Rattle.entry_lines.specs.Names.{case_meant, case_text, text_meant}
use Rattle.entry_lines.specs.declared.entry.Entry.{Entry}
use Rattle.entry_lines.specs.declared.entry.Unnamed.{Unnamed}

-- one more pair in front, unless a name fits none or several
abbrev pub with_field : Field → Result (List ℕ) Unnamed → Result (List (List ℕ × List ℕ)) Unnamed → Result (List (List ℕ × List ℕ)) Unnamed
with_field f (Err why) pairs = Err why
with_field f (Ok text) (Err why) = Err why
with_field f (Ok text) (Ok pairs) = Ok ((field_name f, text) ∷ pairs)

-- the pairs of the fields by the case that is meant and its parties, or the first name that fits none or several
abbrev pub pairs_meant : Option ℕ → List PartyRow → List (Field × List ℕ) → Result (List (List ℕ × List ℕ)) Unnamed
pairs_meant case parties [] = Ok []
pairs_meant case parties ((f, text) ∷ given) = with_field f (text_meant case parties f text) (pairs_meant case parties given)

module _ (h : History) where
  -- the parties of the case that is meant
  abbrev pub parties_meant : Option ℕ → List PartyRow
  parties_meant case = parties_of_case (unwrap_or case 0) (party_rows h)

  abbrev pub pairs_by_case : List (Field × List ℕ) → Option ℕ → Result (List (List ℕ × List ℕ)) Unnamed
  pairs_by_case given case = pairs_meant case (parties_meant case) given

  -- the pairs of the fields, with the numbers of the case and the parties that are named
  abbrev pub fields_named : List (Field × List ℕ) → Result (List (List ℕ × List ℕ)) Unnamed
  fields_named given = pairs_by_case given (case_meant h (case_text given))

-- the day of the clock in the court's zone, and the first 16 hexadecimal digits of the SHA-256 of the line
abbrev pub made_key : CourtSettings → ℤ → List ℕ → List ℕ
made_key court now line = day_text (day_of_clock court now) ++ (codes "-" ++ encode_lower (take 8 (sha256 line)))

-- the key that is given; else the one that is made of the line without a key
abbrev pub key_or_made : CourtSettings → ℤ → List (List ℕ × List ℕ) → Option (List ℕ) → List ℕ
key_or_made court now pairs (Some key) = key
key_or_made court now pairs None = made_key court now (line_of pairs)

abbrev pub key_of : CourtSettings → Entry → List (List ℕ × List ℕ) → List ℕ
key_of court entry pairs = key_or_made court entry.clock pairs (option_copied entry.key)

-- the kind of the command in front of its fields
abbrev pub kind_pair : Entry → List ℕ × List ℕ
kind_pair entry = (field_name field.Do, command_word entry.kind)

-- the line of the kind, the key and the fields
abbrev pub line_entered : CourtSettings → Entry → List (List ℕ × List ℕ) → List ℕ
line_entered court entry fields = line_of (kind_pair entry ∷ (field_name field.Key, key_of court entry (kind_pair entry ∷ fields)) ∷ fields)
