use Rattle.std.proofs.Common.{ℕ, List, Some, ap, inl, inr, refl, subst}
use Rattle.docket_applying.specs.Applying.{Asks}
use Rattle.docket_questions.specs.Searches.{page_of_search}
use Rattle.docket_questions.specs.declared.dues.Dues.{Dues}
use Rattle.entry_pages.specs.Pages.{kinds_page}
use Rattle.entry_pages.specs.Saying.{nothing}
use Rattle.http_request.specs.declared.page.Page.TheVariants as page
use Rattle.http_request.specs.declared.wish.Wish.TheVariants.{Page}
use Rattle.docket_http.specs.Answer.{fine, found}
use Rattle.docket_http.specs.Asked.{text_asked}
use Rattle.docket_http.specs.Asking.{form_about}
use Rattle.docket_http.specs.Reply.{IsReply}
use Rattle.docket_http.specs.declared.head.Form.TheVariants.{Html}
use Rattle.docket_http.proofs.OnlyLemmas.{alone}
use Rattle.docket_http.proofs.PageLemmas.{shown}
use Rattle.docket_http.proofs.asking.page_reply.Goals as goal

pub returns-in-Cases : goal.returns-in-Cases
returns-in-Cases g c = λ body.
    let asked = c.shown_reply.ensures in
    shown g.S.Store c.args.docket.now c.shown_reply.new.docket c.args.page (page.Cases c.in-Cases.before) c.args.fresh c.day_of_request-day.result body c.shown_reply.result
    c.court.ensures c.day_of_request-day.ensures c.in-Cases.is refl refl asked.only asked.answer

pub returns-in-Case : goal.returns-in-Case
returns-in-Case g c = λ body.
    let asked = c.shown_reply-in-Case.ensures in
    shown g.S.Store c.args.docket.now c.shown_reply-in-Case.new.docket c.args.page (page.Case c.in-Case.number) c.args.fresh c.day_of_request-day.result body c.shown_reply-in-Case.result
    c.court.ensures c.day_of_request-day.ensures c.in-Case.is refl refl asked.only asked.answer

pub returns-in-Days : goal.returns-in-Days
returns-in-Days g c = λ body.
    let docket = c.args.docket.now in
    let now = c.shown_reply-in-Days.new.docket in
    let result = c.shown_reply-in-Days.result in
    let asked = c.shown_reply-in-Days.ensures in
    shown g.S.Store docket now c.args.page (page.Days c.in-Days.from c.in-Days.to) c.args.fresh c.day_of_request-day.result body result
    c.court.ensures c.day_of_request-day.ensures c.in-Days.is refl refl asked.only
    (λ h stands. subst (λ (dues : Dues). Asks g.S.Store now h (λ reply. IsReply reply (found Html (Some (text_asked docket.court h dues)))) result) c.listed.ensures (asked.answer h stands))

pub returns-in-Due : goal.returns-in-Due
returns-in-Due g c = λ body.
    let docket = c.args.docket.now in
    let now = c.shown_reply-in-Due.new.docket in
    let result = c.shown_reply-in-Due.result in
    let asked = c.shown_reply-in-Due.ensures in
    shown g.S.Store docket now c.args.page (page.Due c.in-Due.due) c.args.fresh c.day_of_request-day.result body result
    c.court.ensures c.day_of_request-day.ensures c.in-Due.is refl refl asked.only
    (λ h stands. subst (λ (dues : Dues). Asks g.S.Store now h (λ reply. IsReply reply (found Html (Some (text_asked docket.court h dues)))) result) c.listed_by.ensures (asked.answer h stands))

pub returns-in-Search : goal.returns-in-Search
returns-in-Search g c = λ body.
    let now = c.shown_reply-in-Search.new.docket in
    let result = c.shown_reply-in-Search.result in
    let asked = c.shown_reply-in-Search.ensures in
    let day = c.day_of_request-day.result in
    shown g.S.Store c.args.docket.now now c.args.page (page.Search c.in-Search.words) c.args.fresh day body result
    c.court.ensures c.day_of_request-day.ensures c.in-Search.is refl refl asked.only
    (λ h stands. subst (λ (words : List ℕ). Asks g.S.Store now h (λ reply. IsReply reply (found Html (Some (page_of_search h words day)))) result) c.as_str-words.ensures (asked.answer h stands))

pub returns-in-CourtDays : goal.returns-in-CourtDays
returns-in-CourtDays g c = λ body.
    let asked = c.shown_reply-in-CourtDays.ensures in
    shown g.S.Store c.args.docket.now c.shown_reply-in-CourtDays.new.docket c.args.page page.CourtDays c.args.fresh c.day_of_request-day.result body c.shown_reply-in-CourtDays.result
    c.court.ensures c.day_of_request-day.ensures c.in-CourtDays.is refl refl asked.only asked.answer

pub returns-in-Rules : goal.returns-in-Rules
returns-in-Rules g c = λ body.
    let asked = c.shown_reply-in-Rules.ensures in
    shown g.S.Store c.args.docket.now c.shown_reply-in-Rules.new.docket c.args.page page.Rules c.args.fresh c.day_of_request-day.result body c.shown_reply-in-Rules.result
    c.court.ensures c.day_of_request-day.ensures c.in-Rules.is refl refl asked.only asked.answer

pub returns-in-Reasons : goal.returns-in-Reasons
returns-in-Reasons g c = λ body.
    let asked = c.shown_reply-in-Reasons.ensures in
    shown g.S.Store c.args.docket.now c.shown_reply-in-Reasons.new.docket c.args.page (page.Reasons c.in-Reasons.case c.in-Reasons.deadline) c.args.fresh c.day_of_request-day.result body c.shown_reply-in-Reasons.result
    c.court.ensures c.day_of_request-day.ensures c.in-Reasons.is refl refl asked.only asked.answer

pub returns-in-Kinds : goal.returns-in-Kinds
returns-in-Kinds g c = λ body.
    let written = c.fine_reply.ensures in
    let fresh = c.args.fresh in
    alone g.S.Store c.args.docket.now (Page c.args.page fresh) (Page page.Kinds fresh) body (fine Html (kinds_page nothing)) c.fine_reply.result
    (ap (λ p. Page p fresh) c.in-Kinds.is) refl refl (λ court h. refl) (inl refl) (inr refl) (written.reply _ c.kinds_page.ensures) written.short

pub returns-in-Enter : goal.returns-in-Enter
returns-in-Enter g c = λ body.
    let written = c.fine_reply-in-Enter.ensures in
    let kind = c.in-Enter.kind in
    let about = c.in-Enter.about in
    let fresh = c.args.fresh in
    alone g.S.Store c.args.docket.now (Page c.args.page fresh) (Page (page.Enter kind about) fresh) body (fine Html (form_about kind fresh about)) c.fine_reply-in-Enter.result
    (ap (λ p. Page p fresh) c.in-Enter.is) refl refl (λ court h. refl) (inl refl) (inr refl) (written.reply _ c.form_text.ensures) written.short
