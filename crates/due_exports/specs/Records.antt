-- A deadline as a record of comma-separated values (RFC 4180, section 2).
use Rattle.std.specs.Prelude.{ℕ, List, [], ◌∷◌, ◌++◌, codes, decimal, unwrap_or}
use Rattle.court_days.specs.Court.{CourtSettings}
use Rattle.court_days.specs.declared.filing.End.{End}
use Rattle.csv.specs.Writing.{row_text, default_writer, with_terminator}
use Rattle.csv.specs.declared.parser.Terminator.TheVariants.{CRLF}
use Rattle.csv.specs.declared.writer.WriterBuilder.{WriterBuilder}
use Rattle.docket_history.specs.declared.record.DueRow.{DueRow}
use Rattle.docket_history.specs.declared.row.CaseRow.{CaseRow}
use Rattle.docket_text.specs.Parties.{party_text}
use Rattle.due_exports.specs.Ends.{day_of_end, time_of_end, closing_of_end}

-- commas between fields and CR LF behind each record. A field with a comma, a quote, CR or LF is in quotes, its own
-- quotes doubled, and any other field is written as it is
abbrev pub record_writer : WriterBuilder
record_writer = with_terminator default_writer CRLF

-- the names of the fields
abbrev pub field_names : List (List ℕ)
field_names =
    codes "day" ∷ codes "time" ∷ codes "closing" ∷ codes "case" ∷ codes "label" ∷ codes "caption" ∷ codes "deadline"
    ∷ codes "rule" ∷ codes "party" ∷ []

-- the end: its day, its time, and the closing, which is empty for an instant
abbrev pub end_fields : CourtSettings → ℕ → End → List (List ℕ)
end_fields court close end = day_of_end court end ∷ time_of_end court end ∷ unwrap_or (closing_of_end close end) [] ∷ []

-- the end, the case, the number of the deadline there, its rule, and the party whose time it is
abbrev pub due_fields : CourtSettings → DueRow → CaseRow → List (List ℕ)
due_fields court due case =
    end_fields court due.close due.end
    ++ (decimal due.case ∷ case.label ∷ case.caption ∷ decimal due.number ∷ due.rule ∷ party_text due.party ∷ [])

-- the record of the names, and that of a deadline
abbrev pub header_record : List ℕ
header_record = row_text record_writer field_names

abbrev pub due_record : CourtSettings → DueRow → CaseRow → List ℕ
due_record court due case = row_text record_writer (due_fields court due case)
