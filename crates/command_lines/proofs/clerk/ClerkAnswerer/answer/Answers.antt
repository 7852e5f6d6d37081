use Rattle.std.proofs.Common.{◌≡◌, ◌∙◌, ◌++◌, [], ◌∷◌, ℕ, List, Ok, sym, ap, subst, rules}
use Rattle.docket_decisions.specs.Outcomes.{outcome}
use Rattle.docket_wire.specs.Reading.{command_in}
use Rattle.line_io.specs.Report.{LineAnswer}
use Rattle.docket_applying.specs.CourtDockets.{CourtDocket as Docket, StandsAs}
use Rattle.command_lines.specs.Lines.{read_answer}
use Rattle.command_lines.proofs.AnswerLemmas.{said_is}
use Rattle.command_lines.proofs.AnswerLemmas.{nothing_written}
use Rattle.command_lines.proofs.clerk.ClerkAnswerer.answer.Goals as goal

pub returns-in_ok-push_line-in-Ok-clause-ok : goal.returns-in_ok-push_line-in-Ok-clause-ok
returns-in_ok-push_line-in-Ok-clause-ok g c s shows clean =
    let command = c.in-Ok.command in
    let told = c.in_ok-answer-in-Ok.ensures.said s shows clean in
    let same = said_is c.in_ok-answer-in-Ok.answer (outcome s.court s.history command) told.0 in
    let is : command_in c.args.line.now ≡ Ok command = c.in-Ok.ensures.value in
    let answer_is = ap (read_answer s) (sym is) in (
      c.in_ok-push_line-in-Ok.ensures.ok ∙ ap (λ (t : List ℕ). c.args.out.now.items ++ (t ++ 10 ∷ [])) (c.in_ok-text-in-Ok.ensures ∙ same.0) ∙ ap (λ (j : LineAnswer Docket). c.args.out.now.items ++ j.text) answer_is,
      (let bad = same.1 ∙ ap (λ (j : LineAnswer Docket). j.bad) answer_is in search rules),
      subst (λ (j : LineAnswer Docket). StandsAs g.S.Store c.apply.new.self j.after) answer_is told.1,
    )

pub returns-in_err-push_fault-in-Err-clause-steps : goal.returns-in_err-push_fault-in-Err-clause-steps
returns-in_err-push_fault-in-Err-clause-steps g c = nothing_written g.S.Store c.args.self.now

pub returns-in_ok-push_fault-in-Err-clause-steps : goal.returns-in_ok-push_fault-in-Err-clause-steps
returns-in_ok-push_fault-in-Err-clause-steps g c = nothing_written g.S.Store c.args.self.now
