-- What an accepted command may rest on.
use Rattle.std.proofs.Common.{◌≡◌, Bool, true, false, not, Option, Some, None, List, ◌∷◌, refl, sym, ap, ◌∙◌}
use Rattle.std.proofs.lemmas.Bool.{not-false}
use Rattle.std.specs.Prelude.{bytes_eq, find, if◌then◌else◌}
use Rattle.court_days.specs.Court.{CourtSettings}
use Rattle.docket_command.specs.Sameness.{is_same_command}
use Rattle.docket_command.specs.declared.command.Command.{Command}
use Rattle.docket_command.specs.declared.field.Field.{Field}
use Rattle.docket_command.specs.declared.refusal.Refusal.{Refusal}
use Rattle.docket_command.specs.declared.refusal.Refusal.TheVariants as refusal
use Rattle.docket_command.specs.declared.refusal.Reply.{Reply}
use Rattle.docket_history.specs.Histories.{History}
use Rattle.docket_decisions.specs.Outcomes.{outcome, answer_kept, accepted, repeated, kept_by, receipts, shown}
use Rattle.docket_decisions.specs.Refusals.{on, on_value, first_some, refusal_of, is_reused, lacks_case, lacks_party}
use Rattle.docket_values.specs.Values.{is_word, first_bad, bad_values}
use Rattle.docket_history.specs.declared.row.Receipt.{Receipt}
use Rattle.docket_history.specs.declared.view.Kept.TheVariants.{Same, Other}
use Rattle.docket_history.specs.declared.view.View.{View}
use Rattle.docket_decisions.proofs.Leading.{is_accepted}
use Rattle.docket_decisions.proofs.Passed.{IsFree, is_free}

pub freed : (court : CourtSettings) (h : History) (c : Command) (reply : Reply) → outcome court h c ≡ accepted reply → IsFree court (shown court h c) c
freed court h c reply answer = is_free court (shown court h c) c (is_accepted court (shown court h c) c reply answer).free

-- the first refusals
on_first : (b : Bool) (r : Refusal) (rest : List (Option Refusal)) → first_some (on b r ∷ rest) ≡ None → (b ≡ false) × (first_some rest ≡ None)
on_first true r rest e = absurd cc
on_first false r rest e = (refl, e)

value_first : (f : Option Field) (rest : List (Option Refusal)) → first_some (on_value f ∷ rest) ≡ None → first_some rest ≡ None
value_first None rest e = e
value_first (Some f) rest e = absurd cc

-- its key is lawful and is no other command's, and its parties are there
pub record IsLawful (v : View) (c : Command) : Type 0 where
  pub key : is_word 64 c.key ≡ true
  pub reused : is_reused v.under_key ≡ false
  pub parties : lacks_party v c.action ≡ false

lawful : (court : CourtSettings) (v : View) (c : Command) → refusal_of court v c ≡ None → IsLawful v c
lawful court v c e =
    let key = on_first (not (is_word 64 c.key)) refusal.BadKey _ e in
    let reused = on_first (is_reused v.under_key) refusal.KeyReused _ key.1 in
    let values = value_first (first_bad (bad_values court c.action)) _ reused.1 in
    let case = on_first (lacks_case v c.action) refusal.NoSuchCase _ values in
    let parties = on_first (lacks_party v c.action) refusal.NoSuchParty _ case.1 in
    record { key = not-false (is_word 64 c.key) key.0; reused = reused.0; parties = parties.0 }

pub is_lawful : (court : CourtSettings) (h : History) (c : Command) (reply : Reply) → outcome court h c ≡ accepted reply → IsLawful (shown court h c) c
is_lawful court h c reply answer = lawful court (shown court h c) c (is_accepted court (shown court h c) c reply answer).free

-- there is no receipt under its key
not_same : (court : CourtSettings) (v : View) (c : Command) (reply old : Reply) → answer_kept court (Same old) v c ≡ accepted reply → ⊥
not_same court v c reply old e = let clash : repeated old ≡ accepted reply = e in cc

none_kept : (court : CourtSettings) (v : View) (c : Command) (reply : Reply) (o : Option Receipt) → v.under_key ≡ kept_by o c → is_reused v.under_key ≡ false → answer_kept court v.under_key v c ≡ accepted reply → o ≡ None
none_kept court v c reply None is fresh answer = refl
none_kept court v c reply (Some r) is fresh answer = at (is_same_command r.command c) is
  where
    at : (b : Bool) → v.under_key ≡ (if b then Same r.reply else Other) → Some r ≡ None
    at true same = absurd (not_same court v c reply r.reply (ap (λ k. answer_kept court k v c) (sym same) ∙ answer))
    at false other = absurd (let clash : true ≡ false = sym (ap is_reused other) ∙ fresh in cc)

pub no_receipt : (court : CourtSettings) (h : History) (c : Command) (reply : Reply) → outcome court h c ≡ accepted reply → find (λ r. bytes_eq r.command.key c.key) (receipts court h) ≡ None
no_receipt court h c reply answer =
    none_kept court (shown court h c) c reply (find (λ r. bytes_eq r.command.key c.key) (receipts court h)) refl (is_lawful court h c reply answer).reused answer
