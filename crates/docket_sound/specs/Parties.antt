-- When the rows of parties are sound.
use Rattle.std.specs.Prelude.{◌≡◌, ℕ, Bool, List, map, IsTrue}
use Rattle.std.specs.List.{AllByRecursion}
use Rattle.docket_values.specs.Values.{is_text}
use Rattle.docket_history.specs.declared.row.PartyRow.{PartyRow}
use Rattle.docket_sound.specs.Counted.{HasNumbered, cases_of, most_of}
use Rattle.docket_sound.specs.Numbers.{AreNumbered}
use Rattle.docket_sound.specs.declared.numbering.Key.{Key}
use Rattle.docket_sound.specs.declared.party.PartyCheck.{PartyCheck}

abbrev pub party_key : PartyRow → Key
party_key row = record { case = row.case; number = row.number }

-- a name has 1 to 100 bytes
abbrev pub is_sound_party : PartyRow → Bool
is_sound_party row = is_text 100 row.name

-- each party is one of the cases, and numbered in its case, up to 1,000
pub record AreSoundParties (cases : ℕ) (rows : List PartyRow) : Type 0 where
  pub numbered : AreNumbered cases 1000 (map party_key rows)
  pub within : AllByRecursion (λ row. IsTrue (is_sound_party row)) rows

abbrev pub parties_checked : PartyCheck → ℕ
parties_checked check = cases_of check.numbering

-- these rows were taken
pub record HasTakenParties (check : PartyCheck) (rows : List PartyRow) : Type 0 where
  pub most : most_of check.numbering ≡ 1000
  pub numbered : HasNumbered check.numbering (map party_key rows)
  pub sound : AreSoundParties (parties_checked check) rows
