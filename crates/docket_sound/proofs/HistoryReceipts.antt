-- The receipts of a history, by an induction on it.
use Rattle.std.proofs.Common.{◌≡◌, ◌≢◌, ◌∙◌, ℕ, Bool, true, false, cond, Some, None, List, [], ◌∷◌, map, refl, sym, subst}
use Rattle.std.proofs.lemmas.Bool.{false≢true}
use Rattle.std.proofs.lemmas.List.{map-append}
use Rattle.std.proofs.lemmas.Slice.Eq.{bytes_eq-Decides}
use Rattle.std.specs.Prelude.{bytes_eq, find}
use Rattle.std.specs.List.{AllByRecursion}
use Rattle.court_days.specs.Court.{CourtSettings}
use Rattle.docket_command.specs.declared.command.Action.{Action}
use Rattle.docket_command.specs.declared.command.Action.TheVariants as action
use Rattle.docket_command.specs.declared.command.Command.{Command}
use Rattle.docket_history.specs.Histories.{History}
use Rattle.docket_decisions.specs.Outcomes.{IsHistory, receipts, reply_to, replied, shown_fresh}
use Rattle.docket_history.specs.declared.row.Receipt.{Receipt}
use Rattle.docket_wire.specs.Valid.{IsCommand}
use Rattle.sqlite_trees.proofs.ListLemmas.{all-append}
use Rattle.docket_sound.specs.Cases.{AreApart}
use Rattle.docket_sound.specs.Receipts.{is_known_kind, AreOfKnownKinds, IsSoundReceipt, receipt_row, key_of}
use Rattle.docket_sound.proofs.AcceptedLemmas.{is_lawful, no_receipt}
use Rattle.docket_sound.proofs.CaseLemmas.{apart_more}

-- the receipt of a command, after a history
abbrev receipt_after : CourtSettings → History → Command → Receipt
receipt_after court h c = record { command = c; reply = replied (reply_to court (shown_fresh h c.action) c.action) }

module _ (later : Bool) where
  pub sound_receipts : (court : CourtSettings) (h : History) → IsHistory court h → AllByRecursion IsCommand h → AreOfKnownKinds later h → AllByRecursion (IsSoundReceipt later) (map receipt_row (receipts court h))
  sound_receipts court [] is all known = tt
  sound_receipts court (c ∷ h) is all known =
      let this : IsSoundReceipt later (receipt_row (receipt_after court h c)) = record {
        key = (is_lawful court h c is.0.0 is.0.1).key;
        body = record { command = c; lawful = all.0; known = known.0; named = refl; written = refl };
      } in
      subst (AllByRecursion (IsSoundReceipt later)) (sym (map-append receipt_row (receipts court h) (receipt_after court h c ∷ [])))
      (all-append (IsSoundReceipt later) (map receipt_row (receipts court h)) (receipt_row (receipt_after court h c) ∷ []) (sound_receipts court h is.1 all.1 known.1) (this, tt))

-- every kind is known where the later ones are
pub each_kind_known : (a : Action) → is_known_kind true a ≡ true
each_kind_known (action.ShortDay a) = refl
each_kind_known (action.LocalRule a) = refl
each_kind_known (action.LocalPeriod a) = refl
each_kind_known _ = refl

pub all_kinds_known : (h : History) → AreOfKnownKinds true h
all_kinds_known [] = tt
all_kinds_known (c ∷ h) = (each_kind_known c.action, all_kinds_known h)

-- no other receipt has the key
none_under : (key : List ℕ) (rows : List Receipt) → find (λ r. bytes_eq r.command.key key) rows ≡ None → AllByRecursion (λ other. key ≢ other) (map key_of rows)
none_under key [] none = tt
none_under key (row ∷ rows) none = at (bytes_eq row.command.key key) refl none (none_under key rows)
  where
    at : (b : Bool) → bytes_eq row.command.key key ≡ b → cond b (Some row) (find (λ r. bytes_eq r.command.key key) rows) ≡ None
        → (find (λ r. bytes_eq r.command.key key) rows ≡ None → AllByRecursion (λ other. key ≢ other) (map key_of rows))
        → AllByRecursion (λ other. key ≢ other) (map key_of (row ∷ rows))
    at true is none rest = absurd cc
    at false is none rest = ((λ same. false≢true (sym is ∙ (bytes_eq-Decides row.command.key key).1 (sym same))), rest none)

pub keys_apart : (court : CourtSettings) (h : History) → IsHistory court h → AreApart (map key_of (receipts court h))
keys_apart court [] is = tt
keys_apart court (c ∷ h) is =
    subst AreApart (sym (map-append key_of (receipts court h) (receipt_after court h c ∷ [])))
    (apart_more (map key_of (receipts court h)) c.key (keys_apart court h is.1) (none_under c.key (receipts court h) (no_receipt court h c is.0.0 is.0.1)))
