use Rattle.std.proofs.Common.{◌≡◌, ◌+◌, ◌<◌, ℕ, [], ◌∷◌, length, take, Err, refl, sym, ap, subst, ◌∙◌, arith}
use Rattle.std.proofs.lemmas.List.{length-append}
use Rattle.court_days.specs.Court.{CourtSettings}
use Rattle.docket_history.specs.Histories.{History}
use Rattle.docket_decisions.specs.Outcomes.{run, answers}
use Rattle.docket_applying.specs.Applying.{IsDocket, Stands}
use Rattle.docket_store.specs.Sequence.{AreReplies}
use Rattle.docket_store.proofs.RunLemmas.{run_more, replies_more, halts_more}
use Rattle.sqlite.specs.State.{HasCleanDisk}
use Rattle.sqlite.specs.Held.{state}
use Rattle.docket_applying.specs.declared.fault.Fault.TheVariants.{StoreFailed}
use Rattle.docket_applying.proofs.FailureLemmas.{later_then, same_fault}
use Rattle.docket_store.proofs.StopLemmas.{caused_at}
use Rattle.docket_store.proofs.SessionLemmas.{answered, stopped}
use Rattle.line_io.proofs.StepLemmas.{here, one_step, steps_then}
use Rattle.docket_applying.specs.AnyRows.{WritesAtMostOne}
use Rattle.docket_applying.proofs.AnyLemmas.{answered_one}
use Rattle.docket_store.proofs.sessions.answer_until.Goals as goal

pub returns-in-Err-clause-ends : goal.returns-in-Err-clause-ends
returns-in-Err-clause-ends g c h stands clean =
    let i = c.commands.command-index in
    let cs = c.args.commands.now in
    let command = c.command-item.result in
    let d = c.answer.new.docket in
    let told = c.commands.replies.items in
    let inside : i < length cs = omega arith in
    let was = c.commands.invariant.answers h stands (omega (arith, c.answer.ensures.clean)) in
    let before = subst (λ (k : CourtSettings). Stands g.S.Store c.commands.docket (run k h (take i cs)) × AreReplies told (answers k h (take i cs))) (sym c.answer.ensures.court) was in
    let is = subst (λ (k : CourtSettings). IsDocket k (run d.court h (take i cs))) (sym c.answer.ensures.court) before.0.docket in
    let halts = c.in-Err.ensures.halts (run d.court h (take i cs)) before.0 in
    stopped g.S.Store d h cs told i c.len.result c.in-Err.fault (sym c.commands.invariant.count) (c.len.ensures ∙ c.commands.invariant.len) inside before.1 is
    (halts_more d.court h cs i command inside c.command-item.is g.S.Store d refl c.in-Err.fault clean halts (run_more d.court h cs i command inside c.command-item.is))

pub commands-preserved : goal.commands-preserved
commands-preserved g c =
    let i = c.commands.command-index in
    let cs = c.args.commands.now in
    let command = c.command-item.result in
    let told = c.commands.replies.items in
    let inside : i < length cs = omega arith in
    record {
      court = c.answer.ensures.court ∙ c.commands.invariant.court;
      clean = omega (arith, c.commands.invariant.clean, c.answer.ensures.clean);
      len = omega (arith, c.push_reserved.ensures.len, c.commands.invariant.len);
      count = ap length c.push_reserved.ensures.items ∙ length-append told (c.in-Ok.reply ∷ []) ∙ ap (λ (n : ℕ). n + 1) c.commands.invariant.count;
      room = omega (arith, c.push_reserved.ensures.capacity, c.commands.invariant.room);
      stays_open = λ opened. c.answer.ensures.stays_open (c.commands.invariant.stays_open opened) (λ failed. let no = sym c.in-Ok.is ∙ failed in cc);
      later = λ h stands clean.
          let between : HasCleanDisk (state g.S.Store c.commands.docket.conn) = omega (arith, clean, c.answer.ensures.clean) in
          let was = c.commands.invariant.answers h stands between in
          later_then (state g.S.Store c.args.docket.now.conn) (state g.S.Store c.commands.docket.conn) (state g.S.Store c.answer.new.docket.conn) (c.commands.invariant.later h stands between)
          (c.answer.ensures.later (run c.commands.docket.court h (take i cs)) was.0 clean);
      steps = steps_then (WritesAtMostOne g.S.Store) _ _ _ c.commands.invariant.steps (one_step (WritesAtMostOne g.S.Store) _ _ (λ rows n stored are small holds.
          answered_one g.S.Store c.answer.new.docket.conn rows c.answer.new.docket.court n c.command-item.result c.answer.result (c.answer.ensures.any rows n stored are small holds)));
      answers = λ h stands clean.
          let court = c.answer.new.docket.court in
          let was = c.commands.invariant.answers h stands (omega (arith, c.answer.ensures.clean)) in
          let before = subst (λ (k : CourtSettings). Stands g.S.Store c.commands.docket (run k h (take i cs)) × AreReplies told (answers k h (take i cs))) (sym c.answer.ensures.court) was in
          let now = c.in-Ok.ensures.answer (run court h (take i cs)) before.0 clean in (
            subst (λ (x : History). Stands g.S.Store c.answer.new.docket x) (run_more court h cs i command inside c.command-item.is) now.0,
            replies_more court h cs i command inside c.command-item.is told c.push_reserved.new.self.items c.in-Ok.reply before.1 now.1 c.push_reserved.ensures.items,
          );
    }

pub returns-clause-ends : goal.returns-clause-ends
returns-clause-ends g c h stands clean =
    let i = c.commands.command-index in
    let cs = c.args.commands.now in
    let all : i ≡ length cs = omega (arith, c.commands.auto.command-index-end, c.commands-test.false) in
    let was = c.commands.invariant.answers h stands clean in
    answered g.S.Store c.commands.docket h cs c.commands.replies.items i (sym c.commands.invariant.count) all was.0 was.1

pub commands-init : goal.commands-init
commands-init g c = record {
  court = refl;
  clean = omega arith;
  len = c.requires.none;
  count = ap length c.requires.fresh;
  room = c.requires.room;
  stays_open = λ opened. opened;
  later = λ h stands clean. (omega arith, refl);
  steps = here (WritesAtMostOne g.S.Store) _;
  answers = λ h stands clean. (stands, subst (λ rs. AreReplies rs []) (sym c.requires.fresh) tt);
}

pub returns-in-Err-clause-steps : goal.returns-in-Err-clause-steps
returns-in-Err-clause-steps g c =
    steps_then (WritesAtMostOne g.S.Store) _ _ _ c.commands.invariant.steps (one_step (WritesAtMostOne g.S.Store) _ _ (λ rows n stored are small holds.
    answered_one g.S.Store c.answer.new.docket.conn rows c.answer.new.docket.court n c.command-item.result c.answer.result (c.answer.ensures.any rows n stored are small holds)))

pub returns-clause-steps : goal.returns-clause-steps
returns-clause-steps g c = c.commands.invariant.steps

pub returns-in-Err-clause-cause : goal.returns-in-Err-clause-cause
returns-in-Err-clause-cause g c h stands clean failed =
    let i = c.commands.command-index in
    let cs = c.args.commands.now in
    let between : HasCleanDisk (state g.S.Store c.commands.docket.conn) = omega (arith, clean, c.answer.ensures.clean) in
    let was = c.commands.invariant.answers h stands between in
    let before = c.commands.docket in
    caused_at g.S.Store cs i c.len.result c.command-item.result (state g.S.Store c.args.docket.now.conn) before c.answer.new.docket (omega arith) c.command-item.is (c.len.ensures ∙ c.commands.invariant.len)
    (c.commands.invariant.later h stands between) (c.in-Err.ensures.cause (run before.court h (take i cs)) was.0 clean (ap Err failed))

pub returns-in-Err-clause-stays_open : goal.returns-in-Err-clause-stays_open
returns-in-Err-clause-stays_open g c opened unfailed = c.answer.ensures.stays_open (c.commands.invariant.stays_open opened) (λ failed. unfailed (same_fault c.answer.result c.in-Err.fault StoreFailed c.in-Err.is failed))
