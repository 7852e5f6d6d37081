use Rattle.std.proofs.Common.{◌+◌, refl, ◌<◌, ◌∙◌, length, take, sym, subst, arith}
use Rattle.court_days.specs.Court.{CourtSettings}
use Rattle.docket_history.specs.Histories.{History}
use Rattle.docket_decisions.specs.Outcomes.{run, answers}
use Rattle.docket_applying.specs.Applying.{Stands}
use Rattle.docket_store.specs.Sequence.{AreReplies, BreaksOff}
use Rattle.docket_applying.specs.declared.fault.Fault.TheVariants.{NoMemory}
use Rattle.docket_store.proofs.RunLemmas.{run_more, replies_more, breaks_at, broken_off}
use Rattle.docket_store.proofs.sequence.apply_all.Goals as goal

pub commands-preserved : goal.commands-preserved
commands-preserved g c =
    let i = c.commands.command-index in
    let cs = c.args.commands.now in
    let command = c.command-item.result in
    let inside : i < length cs = omega arith in
    record {
      court = c.answer.ensures.court ∙ c.commands.invariant.court;
      clean = omega (arith, c.commands.invariant.clean, c.answer.ensures.clean);
      answers = λ h stands clean.
          let court = c.answer.new.docket.court in
          let was = c.commands.invariant.answers h stands (omega (arith, c.answer.ensures.clean)) in
          let before = subst (λ (k : CourtSettings). Stands g.S.Store c.commands.docket (run k h (take i cs)) × AreReplies c.commands.replies.items (answers k h (take i cs))) (sym c.answer.ensures.court) was in
          let now = c.in_ok-reply.ensures.answer (run court h (take i cs)) before.0 clean in (
            subst (λ (x : History). Stands g.S.Store c.answer.new.docket x) (run_more court h cs i command inside c.command-item.is) now.0,
            replies_more court h cs i command inside c.command-item.is c.commands.replies.items c.push.new.self.items c.in_ok-reply.reply before.1 now.1 c.in_ok-push.ensures.items,
          );
    }

pub returns-in_err-reply-clause-halts : goal.returns-in_err-reply-clause-halts
returns-in_err-reply-clause-halts g c h stands =
    let i = c.commands.command-index in
    let cs = c.args.commands.now in
    let command = c.command-item.result in
    let d = c.answer.new.docket in
    let inside : i < length cs = omega arith in
    let breaks : BreaksOff g.S.Store d h cs c.in_err-reply.field-0.0 = λ clean.
    let was = c.commands.invariant.answers h stands (omega (arith, c.answer.ensures.clean)) in
    let before = subst (λ (k : CourtSettings). Stands g.S.Store c.commands.docket (run k h (take i cs))) (sym c.answer.ensures.court) was.0 in
    breaks_at d.court h cs i command inside c.command-item.is g.S.Store d refl c.in_err-reply.field-0.0 (c.in_err-reply.ensures.halts (run d.court h (take i cs)) before) clean in
    broken_off g.S.Store d h cs c.in_err-reply.field-0.0 c.from_residual.result c.from_residual.ensures.1 breaks

pub returns-in_err-push-clause-halts : goal.returns-in_err-push-clause-halts
returns-in_err-push-clause-halts g c h stands =
    let i = c.commands.command-index in
    let cs = c.args.commands.now in
    let command = c.command-item.result in
    let d = c.answer.new.docket in
    let inside : i < length cs = omega arith in
    let breaks : BreaksOff g.S.Store d h cs NoMemory = λ clean.
    let was = c.commands.invariant.answers h stands (omega (arith, c.answer.ensures.clean)) in
    let before = subst (λ (k : CourtSettings). Stands g.S.Store c.commands.docket (run k h (take i cs))) (sym c.answer.ensures.court) was.0 in
    (i + 1, subst (λ (x : History). Stands g.S.Store d x) (run_more d.court h cs i command inside c.command-item.is) (c.in_ok-reply.ensures.answer (run d.court h (take i cs)) before clean).0) in
    broken_off g.S.Store d h cs NoMemory c.from_residual-in_err-push.result c.from_residual-in_err-push.ensures.1 breaks
