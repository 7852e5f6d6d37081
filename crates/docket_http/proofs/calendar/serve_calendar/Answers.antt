use Rattle.std.proofs.Common.{◌∙◌, ℕ, ap, sym, subst, Err, inl, inr}
use Rattle.docket_applying.specs.AnyRows.{PreservesListing}
use Rattle.docket_applying.specs.Listing.{Lists}
use Rattle.docket_applying.specs.declared.listing.ListingEnd.{ListingEnd}
use Rattle.docket_applying.specs.declared.listing.ListingEnd.TheVariants.{NotBegun, Broken}
use Rattle.docket_applying.proofs.AnyLemmas.{lasting, lasts_at}
use Rattle.http_request.specs.declared.wish.Wish.TheVariants.{Calendar}
use Rattle.docket_http.specs.Asking.{problem_of_fault}
use Rattle.docket_http.specs.Serve.{IsBroken, IsServed, fault_of_broken}
use Rattle.docket_http.specs.declared.reply.Reply.TheVariants.{Fixed}
use Rattle.docket_http.specs.declared.fault.ServeFault.{ServeFault}
use Rattle.docket_http.proofs.ClosedLemmas.{begun_open, closed_sent, cut_open}
use Rattle.docket_http.proofs.AskingLemmas.{no_error}
use Rattle.docket_http.proofs.OnlyLemmas.{calendar_only}
use Rattle.docket_http.proofs.ServeLemmas.{calendar_broken, calendar_cut, calendar_served, calendar_told, delivered, of_writing, writing_own}
use Rattle.docket_http.proofs.calendar.serve_calendar.Goals as goal

pub returns-in-Ok : goal.returns-in-Ok
returns-in-Ok g c =
    let from = c.args.from in
    let to = c.args.to in
    let now = c.calendar_after.new.self in
    let before = g.W.Write.contents c.args.writer.now in
    let after = g.W.Write.contents c.calendar_after.new.writer in
    let listed = c.in-Ok.ensures in
    record {
      delivers = λ h body stands clean.
          subst (λ (status : ℕ). IsServed g.S.Store now h (Calendar from to) body before after status) (sym c.as_u16.ensures.value)
          (calendar_served g.S.Store now h from to body c.open_head.result.now before after c.in-Ok.field-0 c.open_head.ensures (listed.answer h stands) clean);
      only = λ body.
          calendar_only g.S.Store c.args.docket.now now from to body before after _ listed.court listed.clean (λ rows holds. lasting g.S.Store now.conn rows (listed.stays rows holds)) listed.writes_nothing
          (λ shut. no_error _ _ (listed.closed shut).0) tt;
    }

pub returns-in-Err-NotBegun : goal.returns-in-Err-NotBegun
returns-in-Err-NotBegun g c =
    let from = c.args.from in
    let to = c.args.to in
    let now = c.calendar_after.new.self in
    let before = g.W.Write.contents c.args.writer.now in
    let after = g.W.Write.contents c.calendar_after.new.writer in
    let end = g.W.Write.contents c.send.new.writer in
    let fault = c.in-Err-NotBegun.fault in
    let problem = c.problem_of.result in
    let result = c.send.result in
    let sent = c.send.ensures in
    let listed = c.in-Err-NotBegun.ensures in
    let is = c.in-Err-NotBegun.field-0-is in
    let named = c.problem_of.ensures ∙ ap problem_of_fault c.in-Err-NotBegun.fault-is in
    record {
      delivers = λ h body stands clean.
          let told = calendar_told g.S.Store now h from to body c.open_head.result.now before after fault problem named (λ failed. (listed.closes stands.serves).1 (inl (ap Err (is ∙ ap NotBegun failed))))
          (subst (λ (e : ListingEnd). Lists g.S.Store now h from to c.open_head.result.now before after (Err e)) is (listed.answer h stands)) clean in
          delivered g.S.Store now h (Calendar from to) body (Fixed problem) before after end result told.0 told.1 sent.whole sent.front;
      only = λ body.
          calendar_only g.S.Store c.args.docket.now now from to body before end result listed.court listed.clean
          (λ rows holds. lasts_at g.S.Store now.conn rows fault (subst (λ (e : ListingEnd). PreservesListing g.S.Store now.conn rows (Err e)) is (listed.stays rows holds))) listed.writes_nothing
          (λ shut. let closed = listed.closed shut in
          (closed.1, closed_sent c.in-Err-NotBegun.field-0 fault problem before after end result is named closed.0 (ap g.W.Write.contents closed.2) sent.whole sent.front))
          (of_writing result _ sent.front);
    }

pub returns-in-Err-Broken : goal.returns-in-Err-Broken
returns-in-Err-Broken g c =
    let from = c.args.from in
    let to = c.args.to in
    let now = c.calendar_after.new.self in
    let before = g.W.Write.contents c.args.writer.now in
    let after = g.W.Write.contents c.calendar_after.new.writer in
    let fault = c.in-Err-Broken.fault in
    let listed = c.in-Err-Broken.ensures in
    let is = c.in-Err-Broken.field-0-is in
    record {
      delivers = λ h body stands clean.
          subst (λ (e : ServeFault). IsBroken g.S.Store now h (Calendar from to) body before after e) (sym (c.broken.ensures.fault ∙ ap fault_of_broken c.in-Err-Broken.fault-is))
          (calendar_broken g.S.Store now h from to body c.open_head.result.now before after fault (λ failed. (listed.closes stands.serves).1 (inr (ap Err (is ∙ ap Broken failed))))
          c.open_head.ensures (subst (λ (e : ListingEnd). Lists g.S.Store now h from to c.open_head.result.now before after (Err e)) is (listed.answer h stands)) clean);
      only = λ body.
          calendar_only g.S.Store c.args.docket.now now from to body before after _ listed.court listed.clean
          (λ rows holds. lasts_at g.S.Store now.conn rows fault (subst (λ (e : ListingEnd). PreservesListing g.S.Store now.conn rows (Err e)) is (listed.stays rows holds))) listed.writes_nothing
          (λ shut. begun_open c.in-Err-Broken.field-0 fault is (listed.closed shut).0) c.broken.ensures.own;
    }

pub returns-in-Err-WriteFailed : goal.returns-in-Err-WriteFailed
returns-in-Err-WriteFailed g c =
    let from = c.args.from in
    let to = c.args.to in
    let now = c.calendar_after.new.self in
    let before = g.W.Write.contents c.args.writer.now in
    let after = g.W.Write.contents c.calendar_after.new.writer in
    let listed = c.in-Err-WriteFailed.ensures in
    let is = c.in-Err-WriteFailed.field-0-is in
    record {
      delivers = λ h body stands clean.
          calendar_cut g.S.Store now h from to body c.open_head.result.now before after c.open_head.ensures
          (subst (λ (e : ListingEnd). Lists g.S.Store now h from to c.open_head.result.now before after (Err e)) is (listed.answer h stands)) clean;
      only = λ body.
          calendar_only g.S.Store c.args.docket.now now from to body before after _ listed.court listed.clean
          (λ rows holds. lasting g.S.Store now.conn rows (subst (λ (e : ListingEnd). PreservesListing g.S.Store now.conn rows (Err e)) is (listed.stays rows holds))) listed.writes_nothing
          (λ shut. cut_open c.in-Err-WriteFailed.field-0 is (listed.closed shut).0) writing_own;
    }
