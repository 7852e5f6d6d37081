use Rattle.std.proofs.Common.{◌≡◌, Err, IsTrue, Result, rules, subst}
use Rattle.docket_decisions.specs.Decisions.{IsAnswer, IsChange}
use Rattle.docket_decisions.specs.Outcomes.{outcome}
use Rattle.docket_decisions.specs.Tables.{action_changes}
use Rattle.docket_decisions.specs.declared.decision.DecideFault.{DecideFault}
use Rattle.docket_decisions.specs.declared.decision.DecideFault.TheVariants.{Refused}
use Rattle.docket_decisions.specs.declared.decision.Decision.{Decision}
use Rattle.docket_history.specs.declared.view.View.{View}
use Rattle.docket_applying.proofs.AnyLemmas.{repeat_has}
use Rattle.docket_applying.proofs.ApplyLemmas.{calendar_kept, shown_sound}
use Rattle.docket_applying.proofs.judging.decide_by.Goals as goal

pub returns-then-not-is_sound-clause-decided : goal.returns-then-not-is_sound-clause-decided
returns-then-not-is_sound-clause-decided c h docket seen =
    let sound : IsTrue c.is_sound.result = c.is_sound.ensures.1 (shown_sound c.args.court.now h c.args.command.now _ docket seen) in
    absurd (let no = c.if-not-is_sound.true in cc)

pub returns-in-Ok-clause-kept : goal.returns-in-Ok-clause-kept
returns-in-Ok-clause-kept c h seen keeps = calendar_kept c.args.court.now h c.args.command.now _ _ _ c.args.subject c.requires seen c.keep_asked.ensures keeps

pub returns-in-Ok-clause-decided : goal.returns-in-Ok-clause-decided
returns-in-Ok-clause-decided c h docket seen =
    (c.in-Ok.ensures.outcome h seen, c.in-Ok.ensures.tables h seen, subst (λ (v : View). IsChange (action_changes v c.args.command.now.action) c.in-Ok.decision) seen c.in-Ok.ensures.changes, c.in-Ok.ensures.ends h docket.history seen)

pub returns-in-Ok-clause-repeats : goal.returns-in-Ok-clause-repeats
returns-in-Ok-clause-repeats c rows shows = repeat_has rows c.args.command.now c.args.view.now c.in-Ok.decision shows c.in-Ok.ensures.repeats

pub returns-in-Err-Refused-clause-kept : goal.returns-in-Err-Refused-clause-kept
returns-in-Err-Refused-clause-kept c h seen keeps = calendar_kept c.args.court.now h c.args.command.now _ _ _ c.args.subject c.requires seen c.keep_asked.ensures keeps

pub returns-in-Err-Refused-clause-decided : goal.returns-in-Err-Refused-clause-decided
returns-in-Err-Refused-clause-decided c h docket seen =
    let refused : c.decide-decided.result ≡ Err (Refused c.in-Err-Refused.refusal) = search rules in
    subst (λ (d : Result Decision DecideFault). IsAnswer d (outcome c.args.court.now h c.args.command.now)) refused (c.decide-decided.ensures.outcome h seen)

pub returns-in-Err-NoMemory-clause-kept : goal.returns-in-Err-NoMemory-clause-kept
returns-in-Err-NoMemory-clause-kept c h seen keeps = calendar_kept c.args.court.now h c.args.command.now _ _ _ c.args.subject c.requires seen c.keep_asked.ensures keeps
