-- The texts and the pages that answer questions to the docket of a history.
use Rattle.std.specs.Prelude.{ℕ, ◌+◌, ◌-◌, List, ◌++◌, length, take, min, nat_le, if◌then◌else◌, codes, Option, Some, None}
use Rattle.std.specs.Option.{option_map}
use Rattle.court_days.specs.Calendar.{Entered}
use Rattle.court_days.specs.Court.{CourtSettings, zone_of}
use Rattle.court_reasons.specs.Steps.{steps_of}
use Rattle.docket_history.specs.Histories.{History, case_rows, deadlines, local_rule_rows}
use Rattle.docket_history.specs.Records.{calendar, case_record, deadline_lines}
use Rattle.docket_history.specs.Views.{deadline_at}
use Rattle.docket_history.specs.declared.record.CaseRecord.{CaseRecord}
use Rattle.docket_history.specs.declared.record.DeadlineLine.{DeadlineLine}
use Rattle.docket_history.specs.declared.view.DeadlineView.{DeadlineView}
use Rattle.docket_questions.specs.declared.telling.Telling.{Telling}
use Rattle.docket_questions.specs.declared.telling.Telling.TheVariants.{Page, Sheet, Text}
use Rattle.docket_questions.specs.Filings.{filed}
use Rattle.docket_questions.specs.Searches.{newest_cases}
use Rattle.docket_text.specs.CaseTexts.{case_text, deadlines_text}
use Rattle.docket_text.specs.RuleTexts.{rules_text}
use Rattle.html_sheets.specs.Pages.{page_foot, page_head}
use Rattle.html_sheets.specs.Sheets.{case_sheet}
use Rattle.html_sheets.specs.Sites.{case_page, cases_page, printed_page, reasons_page}
use Rattle.html_sheets.specs.declared.links.Links.TheVariants as links
use Rattle.reason_lines.specs.Lines.{reasons_text}

-- the docket sheet of a case with its deadlines, as a page that leads nowhere
abbrev pub sheet_page : CourtSettings → CaseRecord → List DeadlineLine → List ℕ
sheet_page court case lines = page_head case.label ++ (case_sheet links.None court case lines ++ page_foot)

-- a case with its deadlines, in this form
abbrev pub case_told : Telling → CourtSettings → CaseRecord → List DeadlineLine → List ℕ
case_told Text = case_text
case_told Sheet = sheet_page
case_told (Page day) = λ court case lines. case_page court case lines day

-- the text of a case with its deadlines, if there is such a case
abbrev pub told_of_found : (CaseRecord → List DeadlineLine → List ℕ) → Option CaseRecord → Option (List DeadlineLine) → Option (List ℕ)
told_of_found tell (Some case) (Some lines) = Some (tell case lines)
told_of_found tell _ _ = None

module _ (court : CourtSettings) (h : History) (number : ℕ) where
  -- the case of a number, if there is such a case: as a text, as its docket sheet, and as a page of the docket on a day, each with its deadlines
  abbrev pub text_of_case : Option (List ℕ)
  text_of_case = told_of_found (case_text court) (case_record h number) (deadline_lines court h number)

  abbrev pub page_of_sheet : Option (List ℕ)
  page_of_sheet = told_of_found (sheet_page court) (case_record h number) (deadline_lines court h number)

  abbrev pub page_of_case : ℕ → Option (List ℕ)
  page_of_case day = told_of_found (λ case lines. case_page court case lines day) (case_record h number) (deadline_lines court h number)

  -- its deadlines alone, a line for each
  abbrev pub text_of_deadlines : Option (List ℕ)
  text_of_deadlines = option_map (deadlines_text court) (deadline_lines court h number)

-- the steps by which a deadline's standing is found, by the calendar, a line a step
abbrev pub reasons_of : CourtSettings → Entered → DeadlineView → List ℕ
reasons_of court calendar deadline = reasons_text court calendar (Some deadline.rule) (steps_of (zone_of court) calendar deadline.acts)

-- the steps for the deadline with this number, from 1, in a case, if there is one
abbrev pub text_of_reasons : CourtSettings → History → ℕ → ℕ → Option (List ℕ)
text_of_reasons court h case number = option_map (reasons_of court (calendar h)) (deadline_at (deadlines case h) number)

-- the page of these steps on a day, with whether what the deadline asks for was filed in time
abbrev pub page_of_reasons : CourtSettings → History → ℕ → ℕ → ℕ → Option (List ℕ)
page_of_reasons court h case number day =
    option_map (λ deadline. reasons_page case number (reasons_of court (calendar h) deadline) (filed court (calendar h) deadline.acts) day)
    (deadline_at (deadlines case h) number)

-- the page on a day of the rules by which the deadlines run: those of the table, and the docket's own
abbrev pub page_of_rules : History → ℕ → List ℕ
page_of_rules h day = printed_page (codes "Rules") (rules_text (local_rule_rows h)) day

-- the number of the newest case of a page: of those before a number, or of all
abbrev pub last_before : ℕ → Option ℕ → ℕ
last_before cases None = cases
last_before cases (Some number) = min (number - 1) cases

-- the number before which the hundred cases are that come after it, where there are any
abbrev pub newer : ℕ → ℕ → Option ℕ
newer cases last = if nat_le cases last then None else Some (last + 101)

-- the number of the last of the hundred cases of the page, where there are others before it
abbrev pub older : ℕ → Option ℕ
older last = if nat_le last 100 then None else Some (last - 99)

-- the page on a day of at most a hundred cases up to a number, the newest first, with links to the newer and the older ones
abbrev pub page_up_to : History → ℕ → ℕ → List ℕ
page_up_to h day last = cases_page (take 100 (newest_cases h None last)) (newer (length (case_rows h)) last) (older last) day

abbrev pub page_of_cases : History → Option ℕ → ℕ → List ℕ
page_of_cases h before day = page_up_to h day (last_before (length (case_rows h)) before)
