-- The text of what decides a deadline.
use Rattle.std.proofs.Common.{◌≡◌, ◌∙◌, ℕ, List, Some, sym, ap, ap₂}
use Rattle.std.specs.Option.{option_map}
use Rattle.court_days.specs.Court.{CourtSettings}
use Rattle.docket_history.specs.Histories.{History}
use Rattle.docket_history.specs.Records.{calendar}
use Rattle.docket_applying.specs.Grounds.{AreGrounds}
use Rattle.docket_applying.specs.declared.explaining.Grounds.{Grounds}
use Rattle.html_sheets.specs.Sites.{reasons_page}
use Rattle.html_sheets.specs.declared.filed.Filed.{Filed}
use Rattle.docket_questions.specs.Filings.{filed}
use Rattle.docket_questions.specs.Texts.{reasons_of, text_of_reasons, page_of_reasons}

-- the text of what decides the deadline is that of the deadline
pub told_reasons : (court now : CourtSettings) (h : History) (case number : ℕ) (grounds : Grounds) (text : List ℕ) → now ≡ court → text ≡ reasons_of now grounds.calendar grounds.deadline
    → AreGrounds h case number (Some grounds) → Some text ≡ text_of_reasons court h case number
told_reasons court now h case number grounds text same is are =
    ap Some (is ∙ ap₂ (λ other entered. reasons_of other entered grounds.deadline) same are.1) ∙ sym (ap (option_map (reasons_of court (calendar h))) are.0)

-- and its page
pub paged_reasons : (court now : CourtSettings) (h : History) (case number day : ℕ) (grounds : Grounds) (text page : List ℕ) (how : Filed) → now ≡ court
    → text ≡ reasons_of now grounds.calendar grounds.deadline → how ≡ filed now grounds.calendar grounds.deadline.acts → page ≡ reasons_page case number text how day
    → AreGrounds h case number (Some grounds) → Some page ≡ page_of_reasons court h case number day
paged_reasons court now h case number day grounds text page how same told done is are =
    ap Some (
    is
    ∙ ap₂ (λ (lines : List ℕ) (filed : Filed). reasons_page case number lines filed day) (told ∙ ap₂ (λ other entered. reasons_of other entered grounds.deadline) same are.1)
    (done ∙ ap₂ (λ other entered. filed other entered grounds.deadline.acts) same are.1))
    ∙ sym (ap (option_map (λ deadline. reasons_page case number (reasons_of court (calendar h) deadline) (filed court (calendar h) deadline.acts) day)) are.0)
