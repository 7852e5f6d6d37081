use Rattle.std.proofs.Common.{◌∙◌, IfErr, sym, subst}
use Rattle.sqlite.specs.Held.{state}
use Rattle.sqlite.specs.State.{HasCleanDisk}
use Rattle.docket_applying.specs.Applying.{Faults, Stands}
use Rattle.docket_applying.specs.declared.fault.Fault.{Fault}
use Rattle.docket_applying.specs.declared.fault.Fault.TheVariants.{NoMemory, StoreFailed, Closed, Damaged}
use Rattle.docket_applying.specs.CourtDockets.{StandsAs}
use Rattle.command_lines.specs.Ending.{FailsAt}
use Rattle.docket_applying.specs.CourtDockets.{CourtDocket as Docket}
use Rattle.command_lines.specs.Lines.{docket_with}
use Rattle.command_lines.proofs.AnswerLemmas.{IsNoRefusal, left_by}
use Rattle.command_lines.proofs.clerk.Clerk.apply.Goals.{in-Ok, in-Err-Refused, in-Err-NoMemory, in-Err-StoreFailed, in-Err-Closed, in-Err-Damaged}
use Rattle.std.proofs.Common.{IfOk, Result}
use Rattle.docket_command.specs.declared.refusal.Refusal.{Refusal}
use Rattle.docket_command.specs.declared.refusal.Reply.{Reply}
use Rattle.docket_decisions.specs.Outcomes.{outcome}
use Rattle.docket_applying.specs.Dockets.{Docket as Stored}
use Rattle.docket_tables.specs.AnyRows.{AreDocketRows}
use Rattle.docket_tables.specs.Stands.{HoldsRows}
use Rattle.docket_applying.proofs.AnyLemmas.{one_at_most}
use Rattle.command_lines.specs.Lines.{IsSaid}
use Rattle.command_lines.proofs.AnswerLemmas.{refuses, says}
use Rattle.command_lines.proofs.clerk.Clerk.apply.Goals as goal

pub returns-clause-fails : goal.returns-clause-fails
returns-clause-fails g c =
    let Left = λ (fault : Fault). (docket : Docket) → StandsAs g.S.Store c.args.self.now docket → HasCleanDisk (state g.S.Store c.apply.new.self.conn) → FailsAt g.S.Store c.apply.new.self fault docket (docket_with docket c.args.command.now) in
    let left = λ (docket : Docket) (was : StandsAs g.S.Store c.args.self.now docket) (clean : HasCleanDisk (state g.S.Store c.apply.new.self.conn)) (fault : Fault) (plain : IsNoRefusal fault)
    (faults : Stands g.S.Store c.self.inside.docket docket.history → Faults g.S.Store c.apply.new.self docket.history c.args.command.now fault).
    let now : StandsAs g.S.Store c.self.inside.docket docket = subst (λ d. StandsAs g.S.Store d docket) (sym c.self.view_is) was in
    left_by g.S.Store c.apply.new.self docket c.args.command.now (c.apply.ensures.court ∙ now.court) clean fault plain (faults now.stands) in
    elim c.match-apply.branch [
      | in-Ok w ↦ subst (λ r. IfErr r Left) (sym w.result-is) tt
      | in-Err-Refused w ↦ subst (λ r. IfErr r Left) (sym w.result-is) tt
      | in-Err-NoMemory w ↦ subst (λ r. IfErr r Left) (sym w.result-is) (λ docket was clean. left docket was clean NoMemory tt (λ stands. subst (Faults g.S.Store c.apply.new.self docket.history c.args.command.now) w.in-Err-NoMemory.field-0-is (w.in-Err-NoMemory.ensures.answer docket.history stands)))
      | in-Err-StoreFailed w ↦ subst (λ r. IfErr r Left) (sym w.result-is) (λ docket was clean. left docket was clean StoreFailed tt (λ stands. subst (Faults g.S.Store c.apply.new.self docket.history c.args.command.now) w.in-Err-StoreFailed.field-0-is (w.in-Err-StoreFailed.ensures.answer docket.history stands)))
      | in-Err-Closed w ↦ subst (λ r. IfErr r Left) (sym w.result-is) (λ docket was clean. left docket was clean Closed tt (λ stands. subst (Faults g.S.Store c.apply.new.self docket.history c.args.command.now) w.in-Err-Closed.field-0-is (w.in-Err-Closed.ensures.answer docket.history stands)))
      | in-Err-Damaged w ↦ subst (λ r. IfErr r Left) (sym w.result-is) (λ docket was clean. left docket was clean Damaged tt (λ stands. subst (Faults g.S.Store c.apply.new.self docket.history c.args.command.now) w.in-Err-Damaged.field-0-is (w.in-Err-Damaged.ensures.answer docket.history stands)))
    ]

pub returns-clause-steps : goal.returns-clause-steps
returns-clause-steps g c = λ rows n stored are small holds.
    let new = c.apply.new.self in
    let here = sym c.self.view_is in
    one_at_most g.S.Store new.conn rows new.court n c.args.command.now c.apply.result
    (c.apply.ensures.any rows n stored (subst (λ (d : Stored g.row.S.Denot). AreDocketRows d.court n stored rows) here are) small (subst (λ (d : Stored g.row.S.Denot). HoldsRows g.S.Store d.conn rows) here holds))

pub returns-clause-said : goal.returns-clause-said
returns-clause-said g c =
    let new = c.apply.new.self in
    let command = c.args.command.now in
    let Says = λ (said : Result Reply Refusal). (docket : Docket) → StandsAs g.S.Store c.args.self.now docket → HasCleanDisk (state g.S.Store new.conn) → IsSaid said (outcome docket.court docket.history command) × StandsAs g.S.Store new (docket_with docket command) in
    let here = λ (docket : Docket) (was : StandsAs g.S.Store c.args.self.now docket). subst (λ d. StandsAs g.S.Store d docket) (sym c.self.view_is) was in
    elim c.match-apply.branch [
      | in-Ok w ↦ subst (λ r. IfOk r Says) (sym w.result-is) (λ docket was clean.
          let now = here docket was in
          says g.S.Store new docket command (c.apply.ensures.court ∙ now.court) clean w.in-Ok.reply (w.in-Ok.ensures.answer docket.history now.stands))
      | in-Err-Refused w ↦ subst (λ r. IfOk r Says) (sym w.result-is) (λ docket was clean.
          let now = here docket was in
          refuses g.S.Store new docket command (c.apply.ensures.court ∙ now.court) clean w.in-Err-Refused.refusal
          (subst (Faults g.S.Store new docket.history command) w.in-Err-Refused.field-0-is (w.in-Err-Refused.ensures.answer docket.history now.stands)))
      | in-Err-NoMemory w ↦ subst (λ r. IfOk r Says) (sym w.result-is) tt
      | in-Err-StoreFailed w ↦ subst (λ r. IfOk r Says) (sym w.result-is) tt
      | in-Err-Closed w ↦ subst (λ r. IfOk r Says) (sym w.result-is) tt
      | in-Err-Damaged w ↦ subst (λ r. IfOk r Says) (sym w.result-is) tt
    ]
