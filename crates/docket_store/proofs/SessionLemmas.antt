-- A session ends where its commands stop.
use Rattle.std.proofs.Common.{◌≡◌, ℕ, zero, suc, ◌<◌, ◌≤◌, List, [], ◌∷◌, length, take, Option, None, Some, refl, sym, ap, subst, Result, arith}
use Rattle.std.proofs.lemmas.List.{take_all}
use Rattle.sqlite.specs.Store.{Ghosts}
use Rattle.sqlite.specs.State.{HasCleanDisk}
use Rattle.sqlite.specs.Held.{Held, state}
use Rattle.court_days.specs.Court.{CourtSettings}
use Rattle.docket_command.specs.declared.command.Command.{Command}
use Rattle.docket_command.specs.declared.refusal.Refusal.{Refusal}
use Rattle.docket_command.specs.declared.refusal.Reply.{Reply}
use Rattle.docket_history.specs.Histories.{History}
use Rattle.docket_decisions.specs.Outcomes.{Answer, outcome, after, run, answers}
use Rattle.docket_tables.specs.Stands.{IsSettled}
use Rattle.docket_applying.specs.Applying.{IsDocket, Stands, docket_rows}
use Rattle.docket_applying.specs.Dockets.{Docket}
use Rattle.docket_store.specs.Opening.{IsAdopted}
use Rattle.docket_store.specs.Sequence.{AreReplies, HaltsAfter}
use Rattle.docket_store.specs.Sessions.{AnswersFirst, HoldsDocket, LeftAt, LeftBy}
use Rattle.docket_applying.specs.declared.fault.Fault.{Fault}
use Rattle.docket_applying.specs.declared.fault.Fault.TheVariants.{Refused, NoMemory, StoreFailed, Closed, Damaged}

-- the first answers are those of the first commands
answers_take : (court : CourtSettings) (n : ℕ) (h : History) (cs : List Command) → take n (answers court h cs) ≡ answers court h (take n cs)
answers_take court zero h cs = refl
answers_take court (suc n) h [] = refl
answers_take court (suc n) h (c ∷ cs) = ap {B = List Answer} (λ rest. outcome court h c ∷ rest) (answers_take court n (after court h c) cs)

module _ {S : Type 0} (g : Ghosts S) (d : Docket S) (h : History) (cs : List Command) (replies : List (Result Reply Refusal)) where
  first_told : (i : ℕ) → AreReplies replies (answers d.court h (take i cs)) → AreReplies replies (take i (answers d.court h cs))
  first_told i told = subst (λ (all : List Answer). AreReplies replies all) (sym (answers_take d.court i h cs)) told

  left_at : (n : ℕ) (f : Fault) → IsDocket d.court (run d.court h (take n cs)) → HaltsAfter g d h cs n f → LeftAt g d.conn d.court h cs n f
  left_at n (Refused r) is halts = halts
  left_at n NoMemory is halts = (halts.docket, halts.rows)
  left_at n StoreFailed is halts = (is, halts)
  left_at n Closed is halts = halts
  left_at n Damaged is halts = halts

  -- a command got no answer, and its place is the number of answers before it
  pub stopped : (i place : ℕ) (f : Fault) → i ≡ length replies → place ≡ i → i < length cs → AreReplies replies (answers d.court h (take i cs))
      → IsDocket d.court (run d.court h (take i cs)) → HaltsAfter g d h cs i f
      → AnswersFirst d.court h cs replies × LeftBy g d.conn d.court h cs (length replies) (Some (place, f))
  stopped i place f count at inside told is halts =
      let P : ℕ → Type 0 = λ n. ((n ≤ length cs) × AreReplies replies (take n (answers d.court h cs)))
      × ((place ≡ n) × (n < length cs) × LeftAt g d.conn d.court h cs n f) in
      subst P count ((omega (arith, inside), first_told i told), (at, inside, left_at i f is halts))

  -- every command was answered
  pub answered : (i : ℕ) → i ≡ length replies → i ≡ length cs → Stands g d (run d.court h (take i cs)) → AreReplies replies (answers d.court h (take i cs))
      → AnswersFirst d.court h cs replies × LeftBy g d.conn d.court h cs (length replies) None
  answered i count all stands told =
      let P : ℕ → Type 0 = λ n. ((n ≤ length cs) × AreReplies replies (take n (answers d.court h cs))) × ((n ≡ length cs) × HoldsDocket g d.conn d.court (run d.court h cs)) in
      let whole : take i cs ≡ cs = take_all i cs (omega (arith, all)) in
      let last : Stands g d (run d.court h cs) = subst (λ (xs : List Command). Stands g d (run d.court h xs)) whole stands in
      subst P count ((omega (arith, all), first_told i told), (all, (last.docket, last.rows)))

  -- the connection of the docket goes back
  pub ended : (end : Option (ℕ × Fault)) (court : CourtSettings) (conn : Held S) → d.court ≡ court → conn ≡ d.conn
      → AnswersFirst d.court h cs replies × LeftBy g d.conn d.court h cs (length replies) end
      → AnswersFirst court h cs replies × LeftBy g conn court h cs (length replies) end
  ended end court conn its same ends =
      let P : CourtSettings × Held S → Type 0 = λ p. AnswersFirst p.0 h cs replies × LeftBy g p.1 p.0 h cs (length replies) end in
      subst P (λ j. (its j, sym same j)) ends

-- the connection of an adopted docket goes back before any command
pub not_begun : {S : Type 0} (g : Ghosts S) (d : Docket S) (court : CourtSettings) (h : History) (conn : Held S) → conn ≡ d.conn → IsAdopted g d court h
    → HasCleanDisk (state g conn) → IsSettled (state g conn) (docket_rows court h)
not_begun {S} g d court h conn same adopted clean =
    let was : HasCleanDisk (state g d.conn) = subst (λ (x : Held S). HasCleanDisk (state g x)) same clean in
    let P : CourtSettings × Held S → Type 0 = λ p. IsSettled (state g p.1) (docket_rows p.0 h) in
    subst P (λ j. ((adopted was).1 j, sym same j)) ((adopted was).0.rows.1 was)
