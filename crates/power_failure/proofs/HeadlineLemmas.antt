-- What a session and a power failure leave is the docket of a prefix.
use Rattle.std.proofs.Common.{◌≡◌, inl, inr, ℕ, zero, suc, ◌+◌, List, [], ◌∷◌, take, Option, None, Some, sym, subst, arith}
use Rattle.std.proofs.Math.Logic.{∥∥₁_map}
use Rattle.std.proofs.lemmas.List.{take_all}
use Rattle.std.specs.List.{AllByRecursion}
use Rattle.sqlite_wal.specs.Recovery.{Image}
use Rattle.sqlite.specs.Store.{Ghosts}
use Rattle.sqlite.specs.Held.{Held}
use Rattle.court_days.specs.Court.{CourtSettings}
use Rattle.docket_command.specs.declared.command.Command.{Command}
use Rattle.docket_history.specs.Histories.{History}
use Rattle.docket_decisions.specs.Outcomes.{after, run}
use Rattle.docket_tables.specs.Stands.{LastsAsEither}
use Rattle.docket_wire.specs.Valid.{IsCommand}
use Rattle.docket_applying.specs.Applying.{IsDocket, StandsFor, docket_rows}
use Rattle.docket_store.specs.Reopening.{HoldDocket, HoldEither}
use Rattle.docket_store.specs.Sessions.{LeftBy}
use Rattle.docket_applying.specs.declared.fault.Fault.{Fault}
use Rattle.docket_applying.specs.declared.fault.Fault.TheVariants.{Refused, NoMemory, StoreFailed, Closed, Damaged}
use Rattle.docket_applying.proofs.ApplyLemmas.{docket_after}
use Rattle.power_failure.specs.Headline.{IsPrefix, OfPrefix, StopsAt, Tells}
use Rattle.power_failure.specs.declared.telling.Question.{Question}
use Rattle.power_failure.specs.declared.telling.Told.{Told}

-- the first commands lead to a docket
docket_of_prefix : (court : CourtSettings) (n : ℕ) (h : History) (cs : List Command) → IsDocket court h → AllByRecursion IsCommand cs
    → IsDocket court (run court h (take n cs))
docket_of_prefix court zero h cs is lawful = is
docket_of_prefix court (suc n) h [] is lawful = is
docket_of_prefix court (suc n) h (c ∷ cs) is lawful = docket_of_prefix court n (after court h c) cs (docket_after court h c is lawful.0) lawful.1

module _ {S : Type 0} (g : Ghosts S) (conn : Held S) (files : Image) (court : CourtSettings) (h : History) (cs : List Command) (is : IsDocket court h)
    (lawful : AllByRecursion IsCommand cs) (settled : (now : History) → StandsFor g conn court now → HoldDocket files court now)
    (either : (now next : History) → LastsAsEither g conn (docket_rows court now) (docket_rows court next) → HoldEither files court now next) where
  abbrev pub Prefixed : ℕ → Type 0
  Prefixed n = OfPrefix court h cs n (λ now. HoldDocket files court now)

  abbrev Holds : ℕ → Type 0
  Holds n = HoldDocket files court (run court h (take n cs))

  -- the docket of the first n commands is one of a prefix
  here : (acknowledged n : ℕ) → IsPrefix acknowledged n cs → Holds n
      → (k : ℕ) × IsPrefix acknowledged k cs × IsDocket court (run court h (take k cs)) × HoldDocket files court (run court h (take k cs))
  here acknowledged n first holds = (n, first, docket_of_prefix court n h cs is lawful, holds)

  pub leaves_prefix : (n : ℕ) (end : Option (ℕ × Fault)) → LeftBy g conn court h cs n end → Prefixed n
  leaves_prefix n None left =
      let whole : take n cs ≡ cs = take_all n cs (omega (arith, left.0)) in
      ∣ here n n (record { holds = omega arith; one_more = omega arith; within = omega (arith, left.0) })
      (subst (λ (xs : List Command). HoldDocket files court (run court h xs)) (sym whole) (settled (run court h cs) left.1.1)) ∣₁
  leaves_prefix n (Some (place, NoMemory)) left =
      ∣ here n n (record { holds = omega arith; one_more = omega arith; within = omega (arith, left.1) }) (settled (run court h (take n cs)) left.2.1) ∣₁
  leaves_prefix n (Some (place, StoreFailed)) left =
      ∥∥₁_map (either (run court h (take n cs)) (run court h (take (n + 1) cs)) left.2.1) (λ one. elim one [
        | inl was ↦ here n n (record { holds = omega arith; one_more = omega arith; within = omega (arith, left.1) }) was
        | inr next ↦ here n (n + 1) (record { holds = omega arith; one_more = omega arith; within = omega (arith, left.1) }) next
      ])
  leaves_prefix n (Some (place, Refused r)) left = absurd left.2
  leaves_prefix n (Some (place, Closed)) left = absurd left.2
  leaves_prefix n (Some (place, Damaged)) left = absurd left.2

-- where a session stopped
pub stops_at : {S : Type 0} (g : Ghosts S) (conn : Held S) (court : CourtSettings) (h : History) (cs : List Command) (n : ℕ) (end : Option (ℕ × Fault))
    → LeftBy g conn court h cs n end → StopsAt cs n end
stops_at g conn court h cs n None left = left.0
stops_at g conn court h cs n (Some at) left = (left.0, left.1)

-- the court of the question is the court of the docket
pub told_by_court : (h : History) (asked : Question) (told : Told) {before after : Option (List ℕ)} {was is : CourtSettings} → was ≡ is
    → Tells was h asked before after told → Tells is h asked before after told
told_by_court h asked told {before} {after} same tells = subst (λ (k : CourtSettings). Tells k h asked before after told) same tells
