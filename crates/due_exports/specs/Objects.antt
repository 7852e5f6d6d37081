-- A deadline as an object of JSON (RFC 8259, section 4).
use Rattle.std.specs.Prelude.{ℕ, List, [], ◌++◌, ◌==◌, if◌then◌else◌, codes, Option, Some, None}
use Rattle.court_days.specs.Court.{CourtSettings}
use Rattle.court_days.specs.declared.filing.End.{End}
use Rattle.docket_history.specs.declared.record.DueRow.{DueRow}
use Rattle.docket_history.specs.declared.row.CaseRow.{CaseRow}
use Rattle.serde_json.specs.Data.{Data, null, number, unsigned, string, object, Members, no_members, member, put}
use Rattle.serde_json.specs.Written.{compact_text}
use Rattle.due_exports.specs.Ends.{day_of_end, time_of_end, closing_of_end}

-- a text, or null where there is none
abbrev pub string_or_null : Option (List ℕ) → Data
string_or_null (Some text) = string text
string_or_null None = null

-- the members of an end among others: the closing of an instant is null
abbrev pub put_end : CourtSettings → ℕ → End → Members → Members
put_end court close end members =
    put (codes "closing") (string_or_null (closing_of_end close end))
    (put (codes "time") (string (time_of_end court end))
    (put (codes "day") (string (day_of_end court end)) members))

-- its members, in the order of their names' bytes. The party is 0 for every party
abbrev pub due_object : CourtSettings → DueRow → CaseRow → Data
due_object court due case = object (
    member (codes "caption") (string case.caption)
    (member (codes "case") (number (unsigned due.case))
    (member (codes "closing") (string_or_null (closing_of_end due.close due.end))
    (member (codes "day") (string (day_of_end court due.end))
    (member (codes "deadline") (number (unsigned due.number))
    (member (codes "label") (string case.label)
    (member (codes "party") (number (unsigned due.party))
    (member (codes "rule") (string due.rule)
    (member (codes "time") (string (time_of_end court due.end))
    no_members)))))))))

-- a comma and the end of a line come before each object but the first (section 5)
abbrev pub before_object : ℕ → List ℕ
before_object place = if place == 0 then [] else codes ",\n"

-- an object on a line, with no blank in it but within its strings
abbrev pub due_member : CourtSettings → ℕ → DueRow → CaseRow → List ℕ
due_member court place due case = before_object place ++ compact_text (due_object court due case)

-- the brackets of the array
abbrev pub array_head : List ℕ
array_head = codes "[\n"

abbrev pub array_foot : List ℕ
array_foot = codes "\n]\n"
