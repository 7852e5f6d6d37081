-- A whole table of comma-separated values, as csv's reader reads it.
use Rattle.std.proofs.Common.{◌≡◌, ℕ, zero, suc, ◌+◌, ◌≤◌, List, [], ◌∷◌, ◌++◌, codes, decimal, length, map, unwrap_or, Some, None, ℤ, refl, ap, ◌∙◌, append-nil, arith}
use Rattle.std.proofs.lemmas.List.{length-append}
use Rattle.court_days.specs.Court.{CourtSettings}
use Rattle.csv.specs.Machine.{next_record}
use Rattle.csv.specs.Reading.{default_config, records, records_from, records_next}
use Rattle.csv.specs.Writing.{is_blank, row_body}
use Rattle.csv.specs.declared.parser.State.TheVariants as st
use Rattle.docket_history.specs.declared.record.DueRow.{DueRow}
use Rattle.docket_history.specs.declared.row.CaseRow.{CaseRow}
use Rattle.docket_text.specs.Parties.{party_text}
use Rattle.due_exports.specs.Ends.{day_of_end, time_of_end, closing_of_end}
use Rattle.due_exports.specs.Records.{record_writer, field_names, due_fields, header_record, due_record}
use Rattle.due_exports.specs.Texts.{Told, entries_text, export_text}
use Rattle.due_exports.specs.declared.form.Form.TheVariants.{Csv}
use Rattle.due_exports.proofs.RecordLemmas.{row-read, after-return, return-end}

header-read : (rest : List ℕ) → next_record default_config st.StartRecord [] [] (header_record ++ rest) ≡ Some (field_names, st.AfterCr, 10 ∷ rest)
header-read rest =
    row-read (codes "day") (codes "time")
    (codes "closing" ∷ codes "case" ∷ codes "label" ∷ codes "caption" ∷ codes "deadline" ∷ codes "rule" ∷ codes "party" ∷ []) rest

due-read : (court : CourtSettings) (due : DueRow) (case : CaseRow) (rest : List ℕ)
    → next_record default_config st.AfterCr [] [] (10 ∷ (due_record court due case ++ rest)) ≡ Some (due_fields court due case, st.AfterCr, 10 ∷ rest)
due-read court due case rest =
    after-return (due_record court due case ++ rest)
    ∙ row-read (day_of_end court due.end) (time_of_end court due.end)
    (unwrap_or (closing_of_end due.close due.end) [] ∷ decimal due.case ∷ case.label ∷ case.caption ∷ decimal due.number ∷ due.rule ∷ party_text due.party ∷ []) rest

no-more : next_record default_config st.AfterCr [] [] (10 ∷ []) ≡ None
no-more = after-return [] ∙ return-end

rows-read : (court : CourtSettings) (stamp : ℤ) (place : ℕ) (told : List Told) (n : ℕ) → length told ≤ n
    → records_from default_config n st.AfterCr (10 ∷ entries_text Csv court stamp place told) ≡ map (λ t. due_fields court t.0 t.1) told
unfolding records_from
rows-read court stamp place [] zero h = refl
rows-read court stamp place [] (suc n) h = ap (records_next (records_from default_config n)) no-more
rows-read court stamp place (t ∷ told) zero h = absurd (omega arith)
rows-read court stamp place (t ∷ told) (suc n) h =
    let rest = entries_text Csv court stamp (place + 1) told in
    ap (records_next (records_from default_config n)) (due-read court t.0 t.1 rest)
    ∙ ap (λ rows. due_fields court t.0 t.1 ∷ rows) (rows-read court stamp (place + 1) told n (omega arith))

-- a record has a byte at least
record-length : (court : CourtSettings) (due : DueRow) (case : CaseRow) → 1 ≤ length (due_record court due case)
unfolding is_blank
record-length court due case =
    let body = row_body record_writer (due_fields court due case) in
    omega (arith, length-append body (13 ∷ 10 ∷ []))

entries-length : (court : CourtSettings) (stamp : ℤ) (place : ℕ) (told : List Told) → length told ≤ length (entries_text Csv court stamp place told)
entries-length court stamp place [] = omega arith
entries-length court stamp place (t ∷ told) =
    let rest = entries_text Csv court stamp (place + 1) told in
    omega (arith, length-append (due_record court t.0 t.1) rest, record-length court t.0 t.1, entries-length court stamp (place + 1) told)

pub table-read : (court : CourtSettings) (stamp : ℤ) (from to : ℕ) (told : List Told)
    → records default_config (export_text Csv court stamp from to told) ≡ field_names ∷ map (λ t. due_fields court t.0 t.1) told
unfolding records_from
table-read court stamp from to told =
    let rows = entries_text Csv court stamp 0 told in
    let text = header_record ++ rows in
    let plain : export_text Csv court stamp from to told ≡ text = ap (λ l. header_record ++ l) (append-nil rows) in
    let enough : length told ≤ length text = omega (arith, length-append header_record rows, entries-length court stamp 0 told) in
    let one : length text + 1 ≡ suc (length text) = omega arith in
    ap (λ l. records default_config l) plain
    ∙ ap (λ n. records_from default_config n st.StartRecord text) one
    ∙ ap (records_next (records_from default_config (length text))) (header-read rows)
    ∙ ap (λ l. field_names ∷ l) (rows-read court stamp 0 told (length text) enough)
