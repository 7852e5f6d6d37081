-- A command that is sent again.
use Rattle.std.proofs.Common.{◌≡◌, ◌⊎◌, inl, inr, cond, Option, Some, None, [], ◌∷◌, Ok, Err, Result, refl, sym, ap, subst, ◌∙◌}
use Rattle.std.proofs.Math.Logic.{∥∥₁_map}
use Rattle.std.specs.Prelude.{find, bytes_eq, if◌then◌else◌}
use Rattle.std.specs.Option.{option_or}
use Rattle.std.proofs.lemmas.List.Folds.{find-append}
use Rattle.std.proofs.lemmas.Slice.Eq.{bytes_eq-Decides}
use Rattle.sqlite.specs.Store.{Ghosts}
use Rattle.court_days.specs.Court.{CourtSettings}
use Rattle.docket_command.specs.declared.command.Action.{Action}
use Rattle.docket_command.specs.declared.command.Action.TheVariants as action
use Rattle.docket_command.specs.declared.command.Command.{Command}
use Rattle.docket_command.specs.declared.refusal.Reply.{Reply}
use Rattle.docket_command.proofs.SamenessLemmas.{same_command}
use Rattle.docket_history.specs.Histories.{History}
use Rattle.docket_decisions.specs.Outcomes.{Answer, accepted, repeated, refused, answer_kept, under_key, kept_by, receipts, reply_to, replied, shown, shown_fresh, outcome, after, after_answer}
use Rattle.docket_history.specs.declared.row.Receipt.{Receipt}
use Rattle.docket_history.specs.declared.view.Kept.{Kept}
use Rattle.docket_history.specs.declared.view.Kept.TheVariants.{Same, Other}
use Rattle.docket_history.specs.declared.view.View.{View}
use Rattle.docket_decisions.proofs.Leading.{is_accepted}
use Rattle.docket_applying.proofs.ReceiptLemmas.{fresh_by, none_found}
use Rattle.docket_applying.specs.Applying.{Applies, Stands}
use Rattle.docket_applying.specs.Dockets.{Docket}
use Rattle.docket_store.specs.Reopening.{AppliesOnce}
use Rattle.docket_applying.specs.declared.fault.Fault.{Fault}
use Rattle.docket_applying.proofs.ApplyLemmas.{after_repeated}

-- the reply to an action does not depend on what stands under the key
reply_kept : (court : CourtSettings) (v : View) (k : Kept) (a : Action) → reply_to court (record v { under_key = k }) a ≡ reply_to court v a
reply_kept court v k (action.DeclareDay a) = refl
reply_kept court v k a = refl

-- a receipt that is the only one under the command's key
kept_alone : (o : Option Receipt) (new : Receipt) → o ≡ None
    → kept_by (option_or o (find (λ r. bytes_eq r.command.key new.command.key) (new ∷ []))) new.command ≡ Same new.reply
kept_alone None new e =
    (λ i. kept_by (cond ((bytes_eq-Decides new.command.key new.command.key).1 refl i) (Some new) None) new.command)
    ∙ (λ i. if (same_command new.command new.command).1 refl i then Same new.reply else Other)
kept_alone (Some r) new e = absurd (cc)

-- a command that was accepted is a repeat from then on, with the reply that it had
pub repeats : (court : CourtSettings) (h : History) (c : Command) (n : Reply) → outcome court h c ≡ accepted n → outcome court (c ∷ h) c ≡ repeated n
repeats court h c n e =
    let v : View = shown court h c in
    let new : Receipt = record { command = c; reply = replied (reply_to court (shown_fresh h c.action) c.action) } in
    let met = is_accepted court v c n e in
    let test = λ (r : Receipt). bytes_eq r.command.key c.key in
    let none : find test (receipts court h) ≡ None = none_found _ c (fresh_by court v.under_key v c n refl e) in
    let found : under_key (receipts court (c ∷ h)) c ≡ Same new.reply = ap (λ o. kept_by o c) (find-append test (receipts court h) (new ∷ [])) ∙ kept_alone (find test (receipts court h)) new none in
    let due : new.reply ≡ n = sym (met.due ∙ ap replied (reply_kept court (shown_fresh h c.action) v.under_key c.action)) in
    ap (λ k. answer_kept court k (shown court (c ∷ h) c) c) found ∙ ap repeated due

-- a command that is sent again changes nothing more
pub after_again : (court : CourtSettings) (h : History) (c : Command) → after court (after court h c) c ≡ after court h c
after_again court h c = at (outcome court h c) refl
  where
    at : (a : Answer) → outcome court h c ≡ a → after court (after_answer a h c) c ≡ after_answer a h c
    at (accepted n) e = after_repeated court (c ∷ h) c n (repeats court h c n e)
    at (repeated n) e = after_repeated court h c n e
    at (refused r) e = ap (λ a. after_answer a h c) e

reply_again : (court : CourtSettings) (h : History) (c : Command) (reply : Reply) (a : Answer) → outcome court h c ≡ a
    → (outcome court (after_answer a h c) c ≡ accepted reply) ⊎ (outcome court (after_answer a h c) c ≡ repeated reply) → (a ≡ accepted reply) ⊎ (a ≡ repeated reply)
reply_again court h c reply (accepted n) e (inl new) = absurd (let clash : repeated n ≡ accepted reply = sym (repeats court h c n e) ∙ new in cc)
reply_again court h c reply (accepted n) e (inr old) = inl (let same : repeated n ≡ repeated reply = sym (repeats court h c n e) ∙ old in cc)
reply_again court h c reply (repeated n) e (inl new) = inl (sym e ∙ new)
reply_again court h c reply (repeated n) e (inr old) = inr (sym e ∙ old)
reply_again court h c reply (refused r) e (inl new) = inl (sym e ∙ new)
reply_again court h c reply (refused r) e (inr old) = inr (sym e ∙ old)

-- the answer is the same whether or not the docket held the command already
pub applies_once : {S : Type 0} (g : Ghosts S) (d : Docket S) (h : History) (c : Command) (reply : Reply)
    → Applies g d (after d.court h c) c (Ok reply) → Applies g d h c (Ok reply)
applies_once g d h c reply given = (
  subst (λ (x : History). Stands g d x) (after_again d.court h c) given.0,
  λ clean. reply_again d.court h c reply (outcome d.court h c) refl (given.1 clean),
)

pub once_given : {S : Type 0} (g : Ghosts S) (d : Docket S) (court : CourtSettings) (h : History) (c : Command) (r : Result Reply Fault)
    → ∥ (Applies g d h c r ⊎ Applies g d (after court h c) c r) × (d.court ≡ court) ∥₁ → AppliesOnce g d court h c r
once_given g d court h c (Ok reply) given =
    ∥∥₁_map given (λ one. (elim one.0 [ inl fresh ↦ fresh | inr stood ↦ applies_once g d h c reply (subst (λ (s : CourtSettings). Applies g d (after s h c) c (Ok reply)) (sym one.1) stood) ], one.1))
once_given g d court h c (Err fault) given = given
