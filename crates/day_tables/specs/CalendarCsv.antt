-- A table of days to be entered in the court's calendar, as comma-separated values by the crate csv, which drops a byte order
-- mark at the beginning. The first record is `kind,day,name`. Each further one, at most 1,000, has three fields: the kind
-- `federal`, `state` or `closed`; a real day as YYYY-MM-DD; and a name in UTF-8. The first bad record decides the fault. A
-- bad first record, or none, is bad row 0; another number of fields is bad csv; and the n-th record after the first is bad
-- row n, also where it is the 1,001st.
use Rattle.std.specs.Prelude.{◌≡◌, ◌+◌, ◌==◌, ◌&&◌, ℕ, List, [], ◌∷◌, ◌++◌, length, codes, decimal, Bool, false, Option, Some, None, option_map, option_and_then, Result, Ok, Err, nat_lt, if◌then◌else◌}
use Rattle.std.specs.Str.{bytes_eq, is_utf8}
use Rattle.csv.specs.Records.{field_at}
use Rattle.civil_time.specs.DayText.{day_of_text}
use Rattle.docket_command.specs.declared.new_day.NewDay.{NewDay}
use Rattle.docket_command.specs.Words.{day_kind_named}
use Rattle.day_tables.specs.CsvRecords.{Record, AreAll, StandsFirst}
use Rattle.day_tables.specs.declared.csv_fault.CsvFault.{CsvFault}
use Rattle.day_tables.specs.declared.csv_fault.CsvFault.TheVariants.{BadRow, BadCsv, NoMemory}

abbrev pub field_is : List ℕ → Option (List ℕ) → Bool
field_is text None = false
field_is text (Some f) = bytes_eq f text

abbrev pub is_header : Record → Bool
is_header r = (length r == 3) && (field_is (codes "kind") (field_at r 0) && (field_is (codes "day") (field_at r 1) && field_is (codes "name") (field_at r 2)))

-- the bytes as a text, if they are UTF-8
abbrev pub text_of : List ℕ → Option (List ℕ)
text_of bytes = if is_utf8 bytes then Some bytes else None

-- the day of a record of three fields
abbrev pub row_meaning : Record → Option NewDay
row_meaning r =
    option_and_then (λ kind. option_and_then (λ day. option_map (λ name. record { kind = kind; day = day; name = name }) (option_and_then text_of (field_at r 2))) (option_and_then day_of_text (field_at r 1)))
    (option_and_then (λ t. option_and_then day_kind_named (text_of t)) (field_at r 0))

abbrev pub row_or : CsvFault → Option NewDay → Result NewDay CsvFault
row_or e None = Err e
row_or e (Some d) = Ok d

abbrev pub row_at : ℕ → Record → Result NewDay CsvFault
row_at n r = if nat_lt 1000 n then Err (BadRow n) else row_or (BadRow n) (row_meaning r)

abbrev pub with_row : Result NewDay CsvFault → Result (List NewDay) CsvFault → Result (List NewDay) CsvFault
with_row (Err e) rest = Err e
with_row (Ok d) (Err e) = Err e
with_row (Ok d) (Ok ds) = Ok (d ∷ ds)

-- the days of the records after the first, from the n-th on
abbrev pub rows_from : ℕ → List Record → Result (List NewDay) CsvFault
rows_from n [] = Ok []
rows_from n (r ∷ rs) = if length r == 3 then with_row (row_at n r) (rows_from (n + 1) rs) else Err BadCsv

-- the days of all records
abbrev pub csv_rows : List Record → Result (List NewDay) CsvFault
csv_rows [] = Err (BadRow 0)
csv_rows (r ∷ rs) = if is_header r then rows_from 1 rs else Err (BadRow 0)

-- the text is a table of these days
abbrev pub IsTable : List ℕ → List NewDay → Type 0
IsTable bytes days = (rs : List Record) × AreAll bytes rs × (csv_rows rs ≡ Ok days)

-- the text is no table for this reason, which the records at its beginning already show
abbrev pub HasFault : List ℕ → CsvFault → Type 0
HasFault bytes e = (rs : List Record) × StandsFirst bytes rs × (csv_rows rs ≡ Err e)

-- a result is the row's day or its fault, unless memory ran out
abbrev pub GivesRow : Result NewDay CsvFault → Result NewDay CsvFault → Type 0
GivesRow (Ok d) read = read ≡ Ok d
GivesRow (Err NoMemory) read = Unit {0}
GivesRow (Err (BadRow n)) read = read ≡ Err (BadRow n)
GivesRow (Err BadCsv) read = read ≡ Err BadCsv

-- the text of a fault
abbrev pub fault_text : CsvFault → List ℕ
fault_text (BadRow n) = codes "bad row " ++ decimal n
fault_text BadCsv = codes "bad csv"
fault_text NoMemory = codes "there is not enough memory"
