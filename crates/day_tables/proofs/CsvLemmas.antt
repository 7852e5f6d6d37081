-- Reading the records of a table one by one.
use Rattle.std.proofs.Common.{◌≡◌, ◌≢◌, ℕ, Bool, true, false, List, [], ◌∷◌, ◌++◌, length, Option, Some, None, refl, sym, ap, subst, ◌∙◌, inl, inr, ◌+◌, ◌==◌, Result, Ok, Err, IsUtf8, append_assoc, append-nil, eq-eqb, ne_eqb}
use Rattle.std.specs.Prelude.{IfSome, MatchBool}
use Rattle.std.specs.Borrow.{Bor}
use Rattle.csv.specs.Reading.{ExplainsRead, ReadRecord, ReadsNext, NextIs, TookRecord, Reached, default_config, expected_len, is_flexible, took_first, source_of, pending_of, strip_bom, reader_state, reader_trim, reader_config, reader_headers, names_headers}
use Rattle.csv.specs.Machine.{Read, next_record}
use Rattle.csv.specs.declared.parser.Config.{Config}
use Rattle.csv.specs.declared.parser.State.{State}
use Rattle.csv.specs.declared.parser.State.TheVariants as st
use Rattle.csv.specs.declared.reader.Reader.{Reader}
use Rattle.csv.specs.declared.reader.Trim.TheVariants as trim
use Rattle.csv.specs.declared.error.ErrorKind.{ErrorKind}
use Rattle.csv.specs.declared.error.ErrorKind.TheVariants as kind
use Rattle.csv.specs.declared.record.Position.{Position}
use Rattle.csv.proofs.ReadFacts.{rows-more, rows-end}
use Rattle.day_tables.specs.CalendarCsv.{text_of, is_header, row_at, rows_from, with_row, IsTable, HasFault, GivesRow}
use Rattle.day_tables.specs.CsvRecords.{Record, IsAt, AreAll, BeginsWith, expected_of}
use Rattle.day_tables.specs.declared.csv_fault.CsvFault.{CsvFault}
use Rattle.day_tables.specs.declared.csv_fault.CsvFault.TheVariants.{BadRow, BadCsv, NoMemory}
use Rattle.docket_command.specs.declared.new_day.NewDay.{NewDay}
use Rattle.std.specs.Str.{is_utf8}
use Rattle.std.proofs.lemmas.Str.{is_utf8-from_IsUtf8, IsUtf8-from_is_utf8}
use Rattle.std.proofs.lemmas.Bool.{and_parts, eqb-true}

abbrev done : List NewDay → Result (List NewDay) CsvFault
done ds = Ok ds

abbrev some : ℕ → Option ℕ
some n = Some n

abbrev rest_of : Bor (List ℕ) → Option (List ℕ)
rest_of s = Some s.now

expected_next : (rs : List Record) (fields : Record) (old new : Option ℕ) → old ≡ expected_of rs → IfSome old (λ e. new ≡ Some e) → new ≡ Some (length fields) → new ≡ expected_of (rs ++ fields ∷ [])
expected_next [] fields old new e kept here = here
expected_next (r ∷ rs) fields old new e kept here = let P : Option ℕ → Type 0 = λ o. IfSome o (λ n. new ≡ Some n) in subst P e kept

pub read_found : (bytes : List ℕ) (rs : List Record) (a b : Reader (Bor (List ℕ))) (fields : Record) → IsAt bytes rs a → ReadRecord rest_of a b true fields → took_first b ≡ true → is_flexible b ≡ is_flexible a
    → IsAt bytes (rs ++ fields ∷ []) b
read_found bytes rs a b fields at r took flexible =
    let lengths = r.5 refl at.strict in
    let more = rows-more rest_of a b fields default_config st.StartRecord (strip_bom bytes) at.left rs at.config at.source at.reached r in
    record {
      trim = r.3 ∙ at.trim;
      ready = inl took;
      config = r.2 ∙ at.config;
      strict = flexible ∙ at.strict;
      expected = expected_next rs fields (expected_len a) (expected_len b) at.expected lengths.0 lengths.1;
      left = more.0;
      source = more.1;
      reached = more.2;
    }

pub read_none : (bytes : List ℕ) (rs : List Record) (a b : Reader (Bor (List ℕ))) (fields : Record) → IsAt bytes rs a → ReadRecord rest_of a b false fields → AreAll bytes rs
read_none bytes rs a b fields at r = (reader_state a, at.left, at.reached, rows-end rest_of a b fields default_config at.left at.config at.source r)

pub read_either : (bytes : List ℕ) (rs : List Record) (a b : Reader (Bor (List ℕ))) (fields : Record) (found : Bool) → IsAt bytes rs a → ReadRecord rest_of a b found fields → took_first b ≡ true → is_flexible b ≡ is_flexible a
    → MatchBool found (IsAt bytes (rs ++ fields ∷ []) b × (expected_of (rs ++ fields ∷ []) ≡ Some (length fields))) (AreAll bytes rs)
read_either bytes rs a b fields true at r took flexible =
    let found = read_found bytes rs a b fields at r took flexible in
    (found, sym found.expected ∙ (r.5 refl at.strict).1)
read_either bytes rs a b fields false at r took flexible = read_none bytes rs a b fields at r

-- ---- a record that is refused is one of the text

next_some : (o : Option Read) (fields : Record) (s : State) (rest : List ℕ) → NextIs o true fields s rest → (p : Read) × (o ≡ Some p) × (fields ≡ p.0)
next_some None fields s rest h = cc h
next_some (Some p) fields s rest h = (p, refl, h.1)

took_some : (cfg : Config) (s s2 : State) (ys : List ℕ) (after : Option (List ℕ)) (fields : Record) → ReadsNext cfg s (Some ys) after true fields s2 → (p : Read) × (next_record cfg s [] [] ys ≡ Some p) × (fields ≡ p.0)
took_some cfg s s2 ys None fields h = absurd h
took_some cfg s s2 ys (Some zs) fields h = next_some _ fields s2 zs h

reached_push : (cfg : Config) (s : State) (xs : List ℕ) (rs : List Record) (s2 : State) (ys : List ℕ) (p : Read) → Reached cfg s xs rs s2 ys → next_record cfg s2 [] [] ys ≡ Some p → Reached cfg s xs (rs ++ p.0 ∷ []) p.1 p.2
unfolding Reached
reached_push cfg s xs [] s2 ys p h e = (p, rw (h.0, h.1) e, refl, (refl, refl))
reached_push cfg s xs (r ∷ rs) s2 ys p h e = (h.0, h.1, h.2, reached_push cfg h.0.1 h.0.2 rs s2 ys p h.3 e)

pub read_refused : (bytes : List ℕ) (rs : List Record) (a b : Reader (Bor (List ℕ))) (expected len : ℕ) (fields : Record) → IsAt bytes rs a → expected_len a ≡ Some expected → expected ≢ len → TookRecord rest_of a b fields → length fields ≡ len
    → (fields : Record) × BeginsWith bytes (rs ++ fields ∷ []) × (n : ℕ) × (expected_of rs ≡ Some n) × (length fields ≢ n)
read_refused bytes rs a b expected len fields at is differs took size =
    let step = took_some default_config (reader_state a) b.state at.left (pending_of (rest_of b.rdr) b) fields (rw (at.config, at.source) at took) in
    let p = step.0 in
    let wanted : expected_of rs ≡ Some expected = sym at.expected ∙ is in
    let pushed = reached_push default_config st.StartRecord (strip_bom bytes) rs (reader_state a) at.left p at.reached step.1 in
    let P : Record → Type 0 = λ f. Reached default_config st.StartRecord (strip_bom bytes) (rs ++ f ∷ []) p.1 p.2 in
    (fields, (p.1, p.2, subst P (sym step.2) pushed), expected, wanted, (λ e. differs (sym e ∙ size)))

pub refused_by : (bytes : List ℕ) (rs : List Record) (a b : Reader (Bor (List ℕ))) (k : ErrorKind) (pos : Option Position) (expected len : ℕ) → IsAt bytes rs a → k ≡ kind.UnequalLengths pos expected len → ExplainsRead rest_of a b false k
    → (fields : Record) × BeginsWith bytes (rs ++ fields ∷ []) × (n : ℕ) × (expected_of rs ≡ Some n) × (length fields ≢ n)
refused_by bytes rs a b k pos expected len at e why =
    let P : ErrorKind → Type 0 = λ k. ExplainsRead rest_of a b false k in
    let h : ExplainsRead rest_of a b false (kind.UnequalLengths pos expected len) = subst P e why in
    read_refused bytes rs a b expected len h.3 at h.1 h.2 h.4 h.5

-- ---- the loop over the rows

abbrev before : List NewDay → Result (List NewDay) CsvFault → Result (List NewDay) CsvFault
before days (Ok rest) = Ok (days ++ rest)
before days (Err e) = Err e

-- the header and some rows were read, of which the days are these; the n-th row is next
pub record SoFar (bytes : List ℕ) (header : Record) (n : ℕ) (days : List NewDay) (reader : Reader (Bor (List ℕ))) : Type 0 where
  pub rs : List Record
  pub at : IsAt bytes (header ∷ rs) reader
  pub so_far : (more : List Record) → rows_from 1 (rs ++ more) ≡ before days (rows_from n more)

pub text_of_text : (bytes : List ℕ) → IsUtf8 bytes → text_of bytes ≡ Some bytes
text_of_text bytes u = rw (is_utf8-from_IsUtf8 bytes u)

no_text : (bytes : List ℕ) (b : Bool) → is_utf8 bytes ≡ b → ¬ (IsUtf8 bytes) → text_of bytes ≡ None
no_text bytes true e h = absurd (h (IsUtf8-from_is_utf8 bytes e))
no_text bytes false e h = rw e

pub text_of_none : (bytes : List ℕ) → ¬ (IsUtf8 bytes) → text_of bytes ≡ None
text_of_none bytes h = no_text bytes (is_utf8 bytes) refl h

before-nil : (r : Result (List NewDay) CsvFault) → r ≡ before [] r
before-nil (Ok ds) = refl
before-nil (Err e) = refl

before-one : (days : List NewDay) (d : NewDay) (r : Result (List NewDay) CsvFault) → before days (with_row (Ok d) r) ≡ before (days ++ d ∷ []) r
before-one days d (Ok ds) = ap done (sym (append_assoc days (d ∷ []) ds))
before-one days d (Err e) = refl

pub started : (bytes : List ℕ) (header : Record) (reader : Reader (Bor (List ℕ))) → IsAt bytes (header ∷ []) reader → SoFar bytes header 1 [] reader
started bytes header reader at = record { rs = []; at = at; so_far = λ more. before-nil (rows_from 1 more) }

pub finished : (bytes : List ℕ) (header : Record) (n : ℕ) (days : List NewDay) (reader : Reader (Bor (List ℕ))) (s : SoFar bytes header n days reader) → is_header header ≡ true → AreAll bytes (header ∷ s.rs) → IsTable bytes days
finished bytes header n days reader s named all =
    let whole : rows_from 1 s.rs ≡ Ok days = ap (rows_from 1) (sym (append-nil s.rs)) ∙ s.so_far [] ∙ ap done (append-nil days) in
    (header ∷ s.rs, all, rw (named, whole))

-- the header has three fields
three : (header : Record) → is_header header ≡ true → length header ≡ 3
three header named = eqb-true _ _ (and_parts (length header == 3) _ named).0

begins_at : (bytes : List ℕ) (rs : List Record) (reader : Reader (Bor (List ℕ))) → IsAt bytes rs reader → BeginsWith bytes rs
begins_at bytes rs reader at = (reader_state reader, at.left, at.reached)

same_size : (header row : Record) (rs : List Record) → is_header header ≡ true → expected_of (header ∷ (rs ++ row ∷ [])) ≡ Some (length row) → (length row == 3) ≡ true
same_size header row rs named e = let size : length row ≡ 3 = sym (some_is _ _ e) ∙ three header named in eq-eqb _ _ size
  where
    some_is : (a b : ℕ) → some a ≡ some b → a ≡ b
    some_is a b e = cc

pub row_taken : (bytes : List ℕ) (header : Record) (n : ℕ) (days : List NewDay) (old new : Reader (Bor (List ℕ))) (s : SoFar bytes header n days old) (row : Record) (d : NewDay) → is_header header ≡ true
    → IsAt bytes (header ∷ (s.rs ++ row ∷ [])) new → expected_of (header ∷ (s.rs ++ row ∷ [])) ≡ Some (length row) → row_at n row ≡ Ok d → SoFar bytes header (n + 1) (days ++ d ∷ []) new
row_taken bytes header n days old new s row d named at size is = record {
  rs = s.rs ++ row ∷ [];
  at = at;
  so_far = λ more. ap (rows_from 1) (append_assoc s.rs (row ∷ []) more) ∙ s.so_far (row ∷ more) ∙ ap (before days) (rw (same_size header row s.rs named size, is) refl) ∙ before-one days d (rows_from (n + 1) more);
}

bad_at : (bytes : List ℕ) (header : Record) (n : ℕ) (days : List NewDay) (old : Reader (Bor (List ℕ))) (s : SoFar bytes header n days old) (row : Record) (e : CsvFault) → is_header header ≡ true
    → BeginsWith bytes (header ∷ (s.rs ++ row ∷ [])) → rows_from n (row ∷ []) ≡ Err e → HasFault bytes e
bad_at bytes header n days old s row e named begins bad =
    (header ∷ (s.rs ++ row ∷ []), begins, rw named (s.so_far (row ∷ []) ∙ ap (before days) bad))

pub row_bad : (bytes : List ℕ) (header : Record) (n : ℕ) (days : List NewDay) (old new : Reader (Bor (List ℕ))) (s : SoFar bytes header n days old) (row : Record) (e : CsvFault) → is_header header ≡ true
    → IsAt bytes (header ∷ (s.rs ++ row ∷ [])) new → expected_of (header ∷ (s.rs ++ row ∷ [])) ≡ Some (length row) → row_at n row ≡ Err e → HasFault bytes e
row_bad bytes header n days old new s row e named at size bad = bad_at bytes header n days old s row e named (begins_at bytes _ new at) (rw (same_size header row s.rs named size, bad))

pub row_unequal : (bytes : List ℕ) (header : Record) (n : ℕ) (days : List NewDay) (old : Reader (Bor (List ℕ))) (s : SoFar bytes header n days old) (row : Record) → is_header header ≡ true
    → BeginsWith bytes (header ∷ (s.rs ++ row ∷ [])) → (wanted : ℕ) → expected_of (header ∷ s.rs) ≡ Some wanted → length row ≢ wanted → HasFault bytes BadCsv
row_unequal bytes header n days old s row named begins wanted is differs =
    bad_at bytes header n days old s row BadCsv named begins (rw (ne_eqb (length row) 3 (λ e. differs (e ∙ sym (three header named) ∙ number_is _ _ is))))
  where
    number_is : (a b : ℕ) → some a ≡ some b → a ≡ b
    number_is a b e = cc

pub read_fault : (bytes : List ℕ) (header : Record) (n : ℕ) (days : List NewDay) (old : Reader (Bor (List ℕ))) (s : SoFar bytes header n days old) (e : CsvFault) → is_header header ≡ true
    → (e ≢ NoMemory → (e ≡ BadCsv) × (fields : Record) × BeginsWith bytes (header ∷ (s.rs ++ fields ∷ [])) × (n : ℕ) × (expected_of (header ∷ s.rs) ≡ Some n) × (length fields ≢ n)) → e ≢ NoMemory → HasFault bytes e
read_fault bytes header n days old s e named h other = let x = h other in subst (HasFault bytes) (sym x.0) (row_unequal bytes header n days old s x.1 named x.2 x.3 x.4 x.5)

pub row_fault : (e : CsvFault) (r : Result NewDay CsvFault) → e ≢ NoMemory → GivesRow (Err e) r → r ≡ Err e
row_fault NoMemory r other g = absurd (other refl)
row_fault (BadRow n) r other g = g
row_fault BadCsv r other g = g

pub row_past : (n : ℕ) (r : Record) → n ≡ 1001 → row_at n r ≡ Err (BadRow 1001)
row_past n r e = rw e

-- ---- the first record

pub fresh : (bytes : List ℕ) (reader : Reader (Bor (List ℕ))) → reader_trim reader ≡ trim.None → names_headers reader ≡ false → is_flexible reader ≡ false → reader_config reader ≡ default_config → reader_headers reader ≡ None
    → expected_len reader ≡ None → reader_state reader ≡ st.StartRecord → source_of rest_of reader ≡ Some (strip_bom bytes) → IsAt bytes [] reader
unfolding Reached
fresh bytes reader t named flexible config headers expected state source = record {
  trim = t;
  ready = inr (inr (named, headers));
  config = config;
  strict = flexible;
  expected = expected;
  left = strip_bom bytes;
  source = source;
  reached = (sym state, refl);
}

pub first_fault : (bytes : List ℕ) (e : CsvFault) → (e ≢ NoMemory → (e ≡ BadCsv) × (fields : Record) × BeginsWith bytes (fields ∷ []) × (n : ℕ) × (expected_of [] ≡ Some n) × (length fields ≢ n)) → e ≢ NoMemory → HasFault bytes e
first_fault bytes e h other = let x = h other in let no : expected_of [] ≡ Some x.3 = x.4 in cc

pub no_record : (bytes : List ℕ) → AreAll bytes [] → HasFault bytes (BadRow 0)
no_record bytes all = ([], all, refl)

pub no_header : (bytes : List ℕ) (row : Record) (reader : Reader (Bor (List ℕ))) → IsAt bytes (row ∷ []) reader → is_header row ≡ false → HasFault bytes (BadRow 0)
no_header bytes row reader at named = (row ∷ [], begins_at bytes (row ∷ []) reader at, rw named)
