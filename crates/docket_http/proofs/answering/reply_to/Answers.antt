use Rattle.std.proofs.Common.{ap, inl, inr, refl, subst, sym}
use Rattle.std.specs.List.{slice_range}
use Rattle.docket_text.specs.HolidayTexts.{holiday_text}
use Rattle.http_request.specs.Request.{body_of}
use Rattle.http_request.specs.declared.wish.Wish.TheVariants.{Reject, Refuse, Command, Form, Preview, Case, Copy, Deadlines, Export, Holidays, Page}
use Rattle.docket_http.specs.Answer.{fine, problem_page, problem_response, refusal_page}
use Rattle.docket_http.specs.Asking.{IsBuilt}
use Rattle.docket_http.specs.declared.head.Form.TheVariants.{Text}
use Rattle.docket_http.specs.declared.failure.Failure.TheVariants as failure
use Rattle.docket_http.specs.declared.problem.Problem.TheVariants.{NoCopy, Rejected}
use Rattle.docket_http.specs.declared.reply.Reply.TheVariants.{Fixed, Shown}
use Rattle.docket_http.proofs.OnlyLemmas.{alone, at_once, question, replies_as}
use Rattle.docket_http.proofs.answering.reply_to.Goals as goal

pub returns-in-Reject : goal.returns-in-Reject
returns-in-Reject g c =
    let rejection = c.in-Reject.rejection in
    at_once g.S.Store c.args.docket.now c.args.request.now.wish (Reject rejection) (body_of c.args.request.now) (problem_response (Rejected rejection)) (Fixed (Rejected rejection)) c.in-Reject.is refl (refl, refl) (λ court h. refl) refl

pub returns-in-Refuse : goal.returns-in-Refuse
returns-in-Refuse g c =
    let rejection = c.in-Refuse.rejection in
    let written = c.refusal_reply.ensures in
    alone g.S.Store c.args.docket.now c.args.request.now.wish (Refuse rejection) (body_of c.args.request.now) (refusal_page rejection) c.refusal_reply.result
    c.in-Refuse.is refl refl (λ court h. refl) (inl refl) (inr refl) written.reply written.short

pub returns-in-Copy : goal.returns-in-Copy
returns-in-Copy g c = at_once g.S.Store c.args.docket.now c.args.request.now.wish Copy (body_of c.args.request.now) (problem_page NoCopy) (Shown failure.NoCopy) c.in-Copy.is refl (refl, refl) (λ court h. refl) refl

pub returns-in-Calendar : goal.returns-in-Calendar
returns-in-Calendar g c = absurd (subst IsBuilt c.in-Calendar.is c.requires.whole)

pub returns-in-Command : goal.returns-in-Command
returns-in-Command g c =
    let read = ap (λ xs. slice_range xs c.args.request.now.start c.args.request.now.end) c.deref.ensures.value in
    replies_as g.S.Store c.args.docket.now c.command_reply.new.docket (Command c.in-Command.field-0) c.args.request.now.wish _ (body_of c.args.request.now) c.command_reply.result
    (sym c.in-Command.is) read (c.command_reply.ensures c.in-Command.field-0)

pub returns-in-Form : goal.returns-in-Form
returns-in-Form g c =
    let read = ap (λ xs. slice_range xs c.args.request.now.start c.args.request.now.end) c.deref.ensures.value in
    replies_as g.S.Store c.args.docket.now c.form_reply.new.docket (Form c.in-Form.field-0 c.in-Form.fresh) c.args.request.now.wish _ (body_of c.args.request.now) c.form_reply.result
    (sym c.in-Form.is) read (c.form_reply.ensures c.in-Form.field-0)

pub returns-in-Preview : goal.returns-in-Preview
returns-in-Preview g c =
    let read = ap (λ xs. slice_range xs c.args.request.now.start c.args.request.now.end) c.deref.ensures.value in
    replies_as g.S.Store c.args.docket.now c.preview_reply.new.docket (Preview c.in-Preview.field-0 c.in-Preview.fresh) c.args.request.now.wish _ (body_of c.args.request.now) c.preview_reply.result
    (sym c.in-Preview.is) read (c.preview_reply.ensures c.in-Preview.field-0)

pub returns-in-Case : goal.returns-in-Case
returns-in-Case g c =
    let done = c.question_reply.ensures in
    question g.S.Store c.args.docket.now c.question_reply.new.docket c.args.request.now.wish (Case c.in-Case.number) (body_of c.args.request.now) c.question_reply.result
    c.in-Case.is refl refl refl refl done.only done.answer

pub returns-in-Deadlines : goal.returns-in-Deadlines
returns-in-Deadlines g c =
    let done = c.question_reply-in-Deadlines.ensures in
    question g.S.Store c.args.docket.now c.question_reply-in-Deadlines.new.docket c.args.request.now.wish (Deadlines c.in-Deadlines.number) (body_of c.args.request.now) c.question_reply-in-Deadlines.result
    c.in-Deadlines.is refl refl refl refl done.only done.answer

pub returns-in-Page : goal.returns-in-Page
returns-in-Page g c =
    let body = body_of c.args.request.now in
    replies_as g.S.Store c.args.docket.now c.page_reply.new.docket (Page c.in-Page.page c.in-Page.fresh) c.args.request.now.wish body body c.page_reply.result
    (sym c.in-Page.is) refl (c.page_reply.ensures body)

pub returns-in-Export : goal.returns-in-Export
returns-in-Export g c =
    let body = body_of c.args.request.now in
    replies_as g.S.Store c.args.docket.now c.export_reply.new.docket (Export c.in-Export.export c.in-Export.days c.in-Export.fresh) c.args.request.now.wish body body c.export_reply.result
    (sym c.in-Export.is) refl (c.export_reply.ensures body)

pub returns-in-Holidays : goal.returns-in-Holidays
returns-in-Holidays g c =
    let year = c.in-Holidays.year in
    let written = c.fine_reply.ensures in
    alone g.S.Store c.args.docket.now c.args.request.now.wish (Holidays year) (body_of c.args.request.now) (fine Text (holiday_text year)) c.fine_reply.result
    c.in-Holidays.is refl refl (λ court h. refl) (inl refl) (inr refl) (written.reply _ c.holiday_text.ensures) written.short
