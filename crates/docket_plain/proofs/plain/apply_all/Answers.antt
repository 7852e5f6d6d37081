use Rattle.std.proofs.Common.{◌≡◌, ◌∷◌, [], ◌++◌, List, Result, Ok, Err, refl, sym, ap, subst, ◌∙◌, append_assoc, append-nil, drop, ◌+◌}
use Rattle.std.proofs.lemmas.List.{drop_more, drop_all}
use Rattle.court_days.specs.Court.{CourtSettings}
use Rattle.docket_command.specs.declared.command.Command.{Command}
use Rattle.docket_command.specs.declared.refusal.Reply.{Reply}
use Rattle.docket_history.specs.Histories.{History}
use Rattle.docket_decisions.specs.Outcomes.{Answer, outcome, after, run, answers}
use Rattle.docket_decisions.specs.declared.decision.DecideFault.{DecideFault}
use Rattle.docket_decisions.specs.declared.decision.DecideFault.TheVariants.{Refused, NoMemory}
use Rattle.docket_plain.specs.Dockets.{Docket, IsSaid, IsReply, AreReplies, history_after}
use Rattle.docket_plain.proofs.plain.apply_all.Goals as goal

-- a reply other than that memory ran out
said : (r : Result Reply DecideFault) (a : Answer) → ¬ (r ≡ Err NoMemory) → IsReply r a → IsSaid r a
said (Ok reply) a other is = is
said (Err (Refused refusal)) a other is = is
said (Err NoMemory) a other is = absurd (other refl)

said_after : (r : Result Reply DecideFault) (court : CourtSettings) (h : History) (c : Command) → ¬ (r ≡ Err NoMemory) → history_after r court h c ≡ after court h c
said_after (Ok reply) court h c other = refl
said_after (Err (Refused refusal)) court h c other = refl
said_after (Err NoMemory) court h c other = absurd (other refl)

pub loop-command-preserved : goal.loop-command-preserved
loop-command-preserved c =
    let l = c.loop-command in
    let court = l.docket.court in
    let h = l.docket.history in
    let all = c.args.commands.now in
    let command = c.command-item.result in
    let reply = c.in_ok-reply.reply in
    let told = c.in_ok-reply.ensures in
    let left = drop (l.command-index + 1) all in
    let next : drop l.command-index all ≡ command ∷ left = drop_more all l.command-index command c.loop-command-test.true ∙ ap (λ x. x ∷ left) (sym c.command-item.is) in
    let now : c.apply.new.self ≡ record { court = court; history = after court h command } = c.apply.ensures.docket ∙ ap (λ g. record { court = court; history = g }) (said_after c.apply.result court h command told.1) in
    let spoken : IsSaid reply (outcome court h command) = subst (λ (r : Result Reply DecideFault). IsSaid r (outcome court h command)) (sym told.0) (said c.apply.result (outcome court h command) told.1 c.apply.ensures.answer) in
    record {
      told = λ rest others.
          let one : AreReplies (reply ∷ rest) (answers court h (command ∷ left)) = (spoken, subst (λ (d : Docket). AreReplies rest (answers d.court d.history left)) now others) in
          subst (λ (rs : List (Result Reply DecideFault)). AreReplies rs (answers c.args.docket.now.court c.args.docket.now.history all))
          (sym (append_assoc l.replies.items (reply ∷ []) rest) ∙ ap (λ rs. rs ++ rest) (sym c.in_ok-push.ensures.items))
          (l.invariant.told (reply ∷ rest) (subst (λ (cs : List Command). AreReplies (reply ∷ rest) (answers court h cs)) (sym next) one));
      court = ap (λ d. d.court) now ∙ l.invariant.court;
      gone = ap (λ d. run d.court d.history left) now ∙ ap (run court h) (sym next) ∙ l.invariant.gone;
    }

pub returns-clause-replies : goal.returns-clause-replies
returns-clause-replies c =
    let l = c.loop-command in
    let none : drop l.command-index c.args.commands.now ≡ [] = drop_all l.command-index c.args.commands.now c.loop-command-test.false in
    subst (λ (rs : List (Result Reply DecideFault)). AreReplies rs (answers c.args.docket.now.court c.args.docket.now.history c.args.commands.now)) (append-nil l.replies.items)
    (l.invariant.told [] (subst (λ (cs : List Command). AreReplies [] (answers l.docket.court l.docket.history cs)) (sym none) tt))
