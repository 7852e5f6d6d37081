-- When the rows of entries are sound.
use Rattle.std.specs.Prelude.{◌≡◌, ℕ, Bool, ◌&&◌, List, map, IsTrue}
use Rattle.std.specs.List.{AllByRecursion}
use Rattle.docket_values.specs.Values.{is_entered, is_text}
use Rattle.docket_history.specs.declared.row.EntryRow.{EntryRow}
use Rattle.docket_sound.specs.Counted.{HasNumbered, cases_of, most_of}
use Rattle.docket_sound.specs.Numbers.{AreNumbered}
use Rattle.docket_sound.specs.declared.entry.EntryCheck.{EntryCheck}
use Rattle.docket_sound.specs.declared.numbering.Key.{Key}

abbrev pub entry_key : EntryRow → Key
entry_key row = record { case = row.case; number = row.number }

-- a day that a court may enter, and a text of 1 to 2,000 bytes
abbrev pub is_sound_entry : EntryRow → Bool
is_sound_entry row = is_entered row.day && is_text 2000 row.text

-- each entry is one of the cases, and numbered in its case, up to 10,000
pub record AreSoundEntries (cases : ℕ) (rows : List EntryRow) : Type 0 where
  pub numbered : AreNumbered cases 10_000 (map entry_key rows)
  pub within : AllByRecursion (λ row. IsTrue (is_sound_entry row)) rows

abbrev pub entries_checked : EntryCheck → ℕ
entries_checked check = cases_of check.numbering

-- these rows were taken
pub record HasTakenEntries (check : EntryCheck) (rows : List EntryRow) : Type 0 where
  pub most : most_of check.numbering ≡ 10_000
  pub numbered : HasNumbered check.numbering (map entry_key rows)
  pub sound : AreSoundEntries (entries_checked check) rows
