-- When the rows of cases are sound.
use Rattle.std.specs.Prelude.{◌≡◌, ◌≢◌, ℕ, ◌≤◌, ◌+◌, ◌==◌, nat_lt, Bool, not, ◌&&◌, List, [], ◌∷◌, map, length, bytes_eq, IsTrue}
use Rattle.std.specs.List.{AllByRecursion, list_any}
use Rattle.docket_values.specs.Values.{is_entered, is_text, is_word}
use Rattle.docket_history.specs.declared.row.CaseRow.{CaseRow}
use Rattle.docket_sound.specs.KnownTexts.{is_known}
use Rattle.docket_sound.specs.Numbers.{RunsFrom}
use Rattle.docket_sound.specs.declared.cases.CaseCheck.{CaseCheck}

-- no text is there twice
abbrev pub AreApart : List (List ℕ) → Type 0
AreApart [] = Unit {0}
AreApart (text ∷ more) = AllByRecursion (λ other. other ≢ text) more × AreApart more

-- a label has 1 to 40 bytes that show, a caption 1 to 200; a court may enter the day
abbrev pub is_sound_case : CaseRow → Bool
is_sound_case row = is_word 40 row.label && is_text 200 row.caption && is_entered row.filed

-- the cases are numbered, up to 100,000, and no two have one label
pub record AreSoundCases (rows : List CaseRow) : Type 0 where
  pub numbered : RunsFrom 1 (map (λ row. row.number) rows)
  pub few : length rows ≤ 100_000
  pub apart : AreApart (map (λ row. row.label) rows)
  pub within : AllByRecursion (λ row. IsTrue (is_sound_case row)) rows

-- the case may come next: it has the next number, there is room for it, and no case has its label
abbrev pub may_follow : CaseCheck → CaseRow → Bool
may_follow check row =
    nat_lt check.count 100_000
    && row.number == check.count + 1
    && is_sound_case row
    && not (is_known check.labels row.label)

-- these rows were taken
pub record HasTakenCases (check : CaseCheck) (rows : List CaseRow) : Type 0 where
  pub counted : check.count ≡ length rows
  pub known : (text : List ℕ) → is_known check.labels text ≡ list_any (λ row. bytes_eq row.label text) rows
  pub sound : AreSoundCases rows
