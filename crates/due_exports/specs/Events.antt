-- A deadline as an event of a calendar (RFC 5545, section 3.6.1).
use Rattle.std.specs.Prelude.{ℕ, ℤ, List, ◌++◌, codes, decimal}
use Rattle.std.specs.List.{flat_map}
use Rattle.docket_history.specs.declared.record.DueRow.{DueRow}
use Rattle.docket_history.specs.declared.row.CaseRow.{CaseRow}
use Rattle.html_sheets.specs.RuleWords.{rule_text}
use Rattle.icalendar.specs.ContentLines.{content_line}
use Rattle.icalendar.specs.Events.{event_lines}

-- what distinguishes the event from every other: the deadline by its number in its case, and the case by its number and its label
abbrev pub event_uid : DueRow → CaseRow → List ℕ
event_uid due case =
    codes "deadline-" ++ (decimal due.number
    ++ (codes "-of-case-" ++ (decimal due.case
    ++ (codes "-" ++ (case.label
    ++ codes "@docketctl")))))

-- the docket number and the caption of the case, and what is due, in words
abbrev pub event_summary : DueRow → CaseRow → List ℕ
event_summary due case = case.label ++ (codes " " ++ (case.caption ++ (codes ": " ++ rule_text due.rule)))

-- the case and the deadline, and on the next lines why it is what it is
abbrev pub event_description : DueRow → CaseRow → List ℕ → List ℕ
event_description due case reasons =
    codes "Case " ++ (decimal due.case
    ++ (codes ", " ++ (case.label
    ++ (codes ", deadline " ++ (decimal due.number
    ++ (codes "\n" ++ reasons))))))

-- the lines of the event of a deadline, at its end
abbrev pub due_lines : ℤ → DueRow → CaseRow → List ℕ → List (List ℕ)
due_lines stamp due case reasons =
    event_lines (event_uid due case) stamp due.end (event_summary due case) (event_description due case reasons)

abbrev pub due_event : ℤ → DueRow → CaseRow → List ℕ → List ℕ
due_event stamp due case reasons = flat_map content_line (due_lines stamp due case reasons)
