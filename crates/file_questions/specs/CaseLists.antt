-- Which cases of a history a list shows, and how much of the list goes out.
use Rattle.std.specs.Prelude.{◌≡◌, ℕ, Bool, true, ◌&&◌, List, length, filter, bytes_eq, Option, Some, None, option_copied, Result, Ok, Err, IfErr}
use Rattle.std.specs.Io.KnownBytes.{Appends}
use Rattle.std.specs.List.{flat_map, list_any}
use Rattle.sqlite.specs.Held.{state}
use Rattle.sqlite.specs.State.{HasCleanDisk}
use Rattle.sqlite.specs.Store.{Ghosts}
use Rattle.docket_history.specs.Histories.{History, case_rows, parties_of_case, party_rows}
use Rattle.docket_history.specs.declared.row.CaseRow.{CaseRow}
use Rattle.docket_applying.specs.Applying.{Asks, Stands}
use Rattle.docket_applying.specs.Dockets.{Docket}
use Rattle.docket_applying.specs.declared.fault.Fault.TheVariants.{NoMemory, StoreFailed}
use Rattle.docket_applying.specs.declared.listing.CalendarEnd.{CalendarEnd}
use Rattle.docket_applying.specs.declared.listing.CalendarEnd.TheVariants.{Store, WriteFailed}
use Rattle.docket_questions.specs.Searches.{holds}
use Rattle.docket_text.specs.CaseLists.{case_list_line}
use Rattle.file_questions.specs.declared.listing.Wanted.{Wanted}
use Rattle.line_io.specs.Output.{HasFront}

-- a case of this very label; any case where none is asked for
abbrev pub has_label : Option (List ℕ) → CaseRow → Bool
has_label None row = true
has_label (Some label) row = bytes_eq row.label label

-- a case of the number has a party whose name holds the part; any case does where none is asked for
abbrev pub has_party : History → Option (List ℕ) → ℕ → Bool
has_party h None number = true
has_party h (Some part) number = list_any (λ party. holds part party.name) (parties_of_case number (party_rows h))

-- the cases of the label that have such a party, in the order of their numbers
abbrev pub cases_told : History → Option (List ℕ) → Option (List ℕ) → List CaseRow
cases_told h label part = filter (λ row. has_label label row && has_party h part row.number) (case_rows h)

-- those of the label and of the party that are asked for
abbrev pub cases_wanted : Wanted → History → List CaseRow
cases_wanted wanted h = cases_told h (option_copied wanted.label) (option_copied wanted.party)

-- a line for each case
abbrev pub case_lines : List CaseRow → List ℕ
case_lines rows = flat_map case_list_line rows

-- the lines of the cases went out, and this is how many there are; or a prefix of them went out
abbrev pub GoesOut : List CaseRow → Option (List ℕ) → Option (List ℕ) → Result ℕ CalendarEnd → Type 0
GoesOut rows before after (Ok lines) = Appends before after (case_lines rows) × (lines ≡ length rows)
GoesOut rows before after (Err end) = HasFront before after (case_lines rows)

-- the list of a docket ends early only where memory ran out, or the database or the writer failed
abbrev pub IsEarlyEnd : CalendarEnd → Type 0
IsEarlyEnd (Store NoMemory) = Unit {0}
IsEarlyEnd (Store StoreFailed) = Unit {0}
IsEarlyEnd (Store _) = ⊥
IsEarlyEnd WriteFailed = Unit {0}

-- the writing of a line fails only where memory ran out, or the writer failed
abbrev pub IsEarlyWrite : CalendarEnd → Type 0
IsEarlyWrite (Store NoMemory) = Unit {0}
IsEarlyWrite (Store _) = ⊥
IsEarlyWrite WriteFailed = Unit {0}

-- the list of the cases went out, or a prefix of it
abbrev pub ListsCases : List CaseRow → Option (List ℕ) → Option (List ℕ) → Result ℕ CalendarEnd → Type 0
ListsCases rows before after result = GoesOut rows before after result × IfErr result IsEarlyEnd

module _ {S : Type 0} (g : Ghosts S) (d : Docket S) (h : History) where
  -- the docket is as after any question
  abbrev pub IsAsked : Result ℕ CalendarEnd → Type 0
  IsAsked (Ok lines) = Stands g d h
  IsAsked (Err (Store fault)) = Asks g d h (λ (lines : ℕ). ⊥) (Err fault)
  IsAsked (Err WriteFailed) = Stands g d h

  -- and the lines of the cases went out, or a prefix of them
  abbrev pub Lists : List CaseRow → Option (List ℕ) → Option (List ℕ) → Result ℕ CalendarEnd → Type 0
  Lists rows before after result = IsAsked result × (HasCleanDisk (state g d.conn) → GoesOut rows before after result)
