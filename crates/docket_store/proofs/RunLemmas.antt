-- A run goes on by one command.
use Rattle.std.proofs.Common.{◌≡◌, ℕ, ◌+◌, ◌<◌, List, [], ◌∷◌, ◌++◌, length, take, get_or, sym, ap, subst, ◌∙◌, Result, Ok, Err, IfErr, IsErrAnd}
use Rattle.std.proofs.lemmas.List.{take_more}
use Rattle.court_days.specs.Court.{CourtSettings}
use Rattle.docket_command.specs.declared.command.Command.{Command}
use Rattle.docket_command.specs.declared.refusal.Refusal.{Refusal}
use Rattle.docket_command.specs.declared.refusal.Reply.{Reply}
use Rattle.docket_history.specs.Histories.{History}
use Rattle.docket_decisions.specs.Outcomes.{Answer, outcome, after, run, answers}
use Rattle.docket_decisions.proofs.Runs.{run-push, answers-push}
use Rattle.sqlite.specs.Store.{Ghosts}
use Rattle.sqlite.specs.State.{HasCleanDisk}
use Rattle.sqlite.specs.Held.{state}
use Rattle.docket_tables.specs.Stands.{LastsAsEither}
use Rattle.docket_applying.specs.Applying.{docket_rows}
use Rattle.docket_applying.specs.Dockets.{Docket}
use Rattle.docket_store.specs.Sequence.{AreReplies, BreaksOff, Halts, HaltsAfter, IsSaid}
use Rattle.docket_applying.specs.declared.fault.Fault.{Fault}
use Rattle.docket_applying.specs.declared.fault.Fault.TheVariants.{Refused, NoMemory, StoreFailed, Closed, Damaged}

replies-push : (rs : List (Result Reply Refusal)) (all : List Answer) (r : Result Reply Refusal) (a : Answer) → AreReplies rs all → IsSaid r a → AreReplies (rs ++ r ∷ []) (all ++ a ∷ [])
replies-push [] [] r a all one = (one, tt)
replies-push [] (b ∷ bs) r a all one = elim all [ ]
replies-push (x ∷ xs) [] r a all one = elim all [ ]
replies-push (x ∷ xs) (b ∷ bs) r a all one = (all.0, replies-push xs bs r a all.1 one)

module _ (court : CourtSettings) (h : History) (cs : List Command) (i : ℕ) (c : Command) (inside : i < length cs) (is : c ≡ get_or cs i c) where
  next : take (i + 1) cs ≡ take i cs ++ c ∷ []
  next = take_more cs i c inside ∙ ap (λ x. take i cs ++ x ∷ []) (sym is)

  pub run_more : after court (run court h (take i cs)) c ≡ run court h (take (i + 1) cs)
  run_more = sym (run-push court h (take i cs) c) ∙ ap (run court h) (sym next)

  pub replies_more : (rs all : List (Result Reply Refusal)) (r : Result Reply Refusal) → AreReplies rs (answers court h (take i cs)) → IsSaid r (outcome court (run court h (take i cs)) c) → all ≡ rs ++ r ∷ [] → AreReplies all (answers court h (take (i + 1) cs))
  replies_more rs all r told said e =
      let P : List (Result Reply Refusal) × List Answer → Type 0 = λ p. AreReplies p.0 p.1 in
      subst P (λ j. (sym e j, (sym (answers-push court h (take i cs) c) ∙ ap (answers court h) (sym next)) j)) (replies-push rs (answers court h (take i cs)) r (outcome court (run court h (take i cs)) c) told said)

  module _ {S : Type 0} (g : Ghosts S) (d : Docket S) (same : d.court ≡ court) where
    -- what a command that halted the run leaves
    pub halts_more : (f : Fault) → HasCleanDisk (state g d.conn) → Halts g d (run d.court h (take i cs)) c f → after d.court (run d.court h (take i cs)) c ≡ run d.court h (take (i + 1) cs) → HaltsAfter g d h cs i f
    halts_more (Refused r) clean halts more = halts
    halts_more NoMemory clean halts more = halts
    halts_more StoreFailed clean halts more = subst (λ (x : History). LastsAsEither g d.conn (docket_rows d.court (run d.court h (take i cs))) (docket_rows d.court x)) more halts
    halts_more Closed clean halts more = halts
    halts_more Damaged clean halts more = absurd (halts clean)

    -- a command that halted the run
    pub breaks_at : (f : Fault) → Halts g d (run d.court h (take i cs)) c f → BreaksOff g d h cs f
    breaks_at f halts clean =
        (i, halts_more f clean halts (subst (λ (k : CourtSettings). after k (run k h (take i cs)) c ≡ run k h (take (i + 1) cs)) (sym same) run_more))

-- the fault that a run is broken off with
pub broken_off : {S X : Type 0} (g : Ghosts S) (d : Docket S) (h : History) (cs : List Command) (e : Fault) (r : Result X Fault) → IsErrAnd r (λ f. f ≡ e)
    → BreaksOff g d h cs e → IfErr r (BreaksOff g d h cs)
broken_off g d h cs e (Ok x) same breaks = absurd same
broken_off g d h cs e (Err f) same breaks = subst (BreaksOff g d h cs) (sym same) breaks
