-- The records of a text of comma-separated values, as the crate csv reads them one by one.
use Rattle.std.specs.Prelude.{◌≡◌, ℕ, List, [], ◌∷◌, length, false, Option, Some, None}
use Rattle.std.specs.Borrow.{Bor}
use Rattle.csv.specs.Reading.{AreRecords, Reached, Ready, default_config, expected_len, is_flexible, reader_config, reader_state, reader_trim, source_of, strip_bom}
use Rattle.csv.specs.declared.parser.State.{State}
use Rattle.csv.specs.declared.parser.State.TheVariants as st
use Rattle.csv.specs.declared.reader.Reader.{Reader}
use Rattle.csv.specs.declared.reader.Trim.TheVariants as trim

-- the fields of a record, each with its bytes
abbrev pub Record : Type 0
Record = List (List ℕ)

-- the records of the text begin with these
abbrev pub BeginsWith : List ℕ → List Record → Type 0
BeginsWith bytes rs = (s : State) × (ys : List ℕ) × Reached default_config st.StartRecord (strip_bom bytes) rs s ys

-- the records of the text are these
abbrev pub AreAll : List ℕ → List Record → Type 0
AreAll bytes rs = AreRecords default_config st.StartRecord (strip_bom bytes) rs

-- the records of the text begin with these, and are none where these are none
abbrev pub StandsFirst : List ℕ → List Record → Type 0
StandsFirst bytes [] = AreAll bytes []
StandsFirst bytes (r ∷ rs) = BeginsWith bytes (r ∷ rs)

-- how many fields the reader expects in the next record
abbrev pub expected_of : List Record → Option ℕ
expected_of [] = None
expected_of (r ∷ rs) = Some (length r)

-- the reader has returned these records of the text
pub record IsAt (bytes : List ℕ) (rs : List Record) (reader : Reader (Bor (List ℕ))) : Type 0 where
  pub trim : reader_trim reader ≡ trim.None
  pub ready : Ready reader
  pub config : reader_config reader ≡ default_config
  pub strict : is_flexible reader ≡ false
  pub expected : expected_len reader ≡ expected_of rs
  pub left : List ℕ
  pub source : source_of (λ s. Some s.now) reader ≡ Some left
  pub reached : Reached default_config st.StartRecord (strip_bom bytes) rs (reader_state reader) left
