-- What the end of a transaction leaves.
use Rattle.std.proofs.Common.{◌≡◌, ◌⊎◌, inl, inr, Ok, Err, Result, true, IsTrue, IsErr, MatchResult, refl, sym, ap, subst, ◌∙◌, arith}
use Rattle.std.specs.Prelude.{false}
use Rattle.sqlite.specs.Tree.{Trees}
use Rattle.sqlite.specs.Store.{Ghosts}
use Rattle.sqlite.specs.Held.{Held}
use Rattle.sqlite.specs.Effect.{Database, IsDatabase}
use Rattle.sqlite.specs.declared.error.Error.{Error}
use Rattle.sqlite.specs.State.{State, HasCleanDisk, Survives, IsRolledBack, KeepsCommit, Shows as Turns}
use Rattle.sqlite.proofs.StateLemmas.{survives_then}
use Rattle.sqlite.specs.Steps.{FailsToCommit}
use Rattle.sqlite_catalog.specs.Listing.{IsSound}
use Rattle.docket_tables.specs.Layouts.{Rows, AreRows}
use Rattle.docket_tables.specs.Stands.{IsImage, Shows, Sees, IsSettled, IsEither, StaysInside, MakesNothing, Makes}
use Rattle.docket_tables.specs.declared.fault.StoreFault.{StoreFault}
use Rattle.docket_tables.specs.declared.fault.StoreFault.TheVariants.{NoMemory, StoreFailed}

-- while the connection is open, a power failure leaves the last commit and nothing else
abbrev pub LeavesCommit : State → Type 0
LeavesCommit s = (db : Trees) → IsTrue s.is_open → s.may_leave db → db ≡ s.committed.trees

pub image_of : (s : State) (rows : Rows) → Shows s rows → IsImage rows s.now.trees
image_of s rows shows = record { sound = ∣ subst (λ k. IsSound k s.now.trees) shows.schema shows.live ∣₁; holds = shows.holds }

-- the same database under another state
pub shows_again : (s t : State) (rows : Rows) → t.now ≡ s.now → IsTrue t.is_open → Shows s rows → Shows t rows
shows_again s t rows same is_open shows = record {
  is_open = is_open;
  schema = ap (λ (b : Database). b.schema) same ∙ shows.schema;
  live = subst IsDatabase (sym same) shows.live;
  holds = subst (AreRows rows) (sym (ap (λ (b : Database). b.trees) same)) shows.holds;
}

pub settles : (s : State) (rows : Rows) → s.in_transaction ≡ false → Shows s rows → s.committed ≡ s.now → LeavesCommit s → IsSettled s rows
settles s rows idle shows committed leaves = record {
  idle = idle;
  shows = shows;
  committed = committed;
  images = λ db may. subst (IsImage rows) (sym (leaves db shows.is_open may ∙ ap (λ (b : Database). b.trees) committed)) (image_of s rows shows);
}

keeps_then : (a b c : State) → KeepsCommit a b → KeepsCommit b c → KeepsCommit a c
keeps_then a b c p q = record { was_open = λ h. p.was_open (q.was_open h); committed = λ h. q.committed h ∙ p.committed (q.was_open h) }

pub inside_then : (a b c : State) → StaysInside a b → StaysInside b c → StaysInside a c
inside_then a b c p q = record {
  kept = λ clean. keeps_then a b c (p.kept (omega (arith, q.survives.clean))) (q.kept clean);
  survives = survives_then a b c _ _ (λ _. ⊥) (λ _ db none. none) (λ _ db none. none) p.survives q.survives;
}

pub inside_still : (s : State) → StaysInside s s
inside_still s = record {
  kept = λ clean. record { was_open = λ h. h; committed = λ h. refl };
  survives = record { clean = omega arith; shield = λ h. h; counts = omega arith; limit = refl; closes = λ _ h. inl h; crash = λ _ db may. inl may };
}

module _ (start begun last end : State) (rows next : Rows) (was : IsSettled start rows) (begins : begun ≡ record start { in_transaction = true })
    (kept : KeepsCommit begun last) (inside : Survives begun last (λ _. ⊥)) (leaves : LeavesCommit end) where
  -- what the transaction wrote is undone
  rolled_back : IsRolledBack last end → IsTrue end.is_open → IsSettled end rows
  rolled_back undone is_open =
      let early : KeepsCommit (record start { in_transaction = true }) last = subst (λ s. KeepsCommit s last) begins kept in
      let both = undone.undone is_open in
      let now : end.now ≡ start.now = both.0 ∙ early.committed (undone.was_open is_open) ∙ was.committed in
      settles end rows undone.autocommit (shows_again start end rows now is_open was.shows) (both.1 ∙ sym both.0) leaves

  earlier : HasCleanDisk last → (db : Trees) → last.may_leave db → IsImage rows db
  earlier clean db may =
      let early : Survives (record start { in_transaction = true }) last (λ _. ⊥) = subst (λ s. Survives s last (λ _. ⊥)) begins inside in
      elim (early.crash clean db may) [ inl before ↦ was.images db before | inr none ↦ absurd none ]

  pub dropped : HasCleanDisk end → Survives last end (λ _. ⊥) → IsRolledBack last end → IsEither end rows next
  dropped clean after undone = record {
    images = λ db may. elim (after.crash clean db may) [ inl before ↦ inl (earlier (omega (arith, after.clean)) db before) | inr none ↦ absurd none ];
    settled = rolled_back undone;
  }

  pub committed : Sees last next → Turns last end last.now last.now false → IsSettled end next
  committed sees turns = settles end next turns.mode (shows_again last end next turns.now_is turns.is_open sees.shows) (turns.committed_is ∙ sym turns.now_is) leaves

  pub not_committed : HasCleanDisk end → Sees last next → Survives last end (λ db. db ≡ last.now.trees) → (e : Error) → FailsToCommit last end e → IsEither end rows next
  not_committed clean sees after e fails = record {
    images = λ db may. elim (after.crash clean db may) [
      | inl before ↦ inl (earlier (omega (arith, after.clean)) db before)
      | inr made ↦ inr (subst (IsImage next) (sym made) (image_of last next sees.shows))
    ];
    settled = elim fails [
      | inl failed ↦ rolled_back failed.3
      | inr idle ↦ absurd (let on = sees.begun in let off = idle.1 in cc)
    ];
  }

-- the same where nothing is known of what the connection held
module _ (start begun last end : State) (begins : begun ≡ record start { in_transaction = true }) (inside : Survives begun last (λ _. ⊥)) where
  left_before : HasCleanDisk last → (db : Trees) → last.may_leave db → start.may_leave db
  left_before clean db may =
      let early : Survives (record start { in_transaction = true }) last (λ _. ⊥) = subst (λ s. Survives s last (λ _. ⊥)) begins inside in
      elim (early.crash clean db may) [ inl before ↦ before | inr none ↦ absurd none ]

  pub left_undone : HasCleanDisk end → Survives last end (λ _. ⊥) → (db : Trees) → end.may_leave db → start.may_leave db
  left_undone clean after db may = elim (after.crash clean db may) [ inl before ↦ left_before (omega (arith, after.clean)) db before | inr none ↦ absurd none ]

  pub made : (rows : Rows) → LeavesCommit end → Sees last rows → Turns last end last.now last.now false → IsSettled end rows
  made rows leaves sees turns = settles end rows turns.mode (shows_again last end rows turns.now_is turns.is_open sees.shows) (turns.committed_is ∙ sym turns.now_is) leaves

  pub may_be_made : (rows : Rows) → HasCleanDisk end → Sees last rows → Survives last end (λ db. db ≡ last.now.trees) → (db : Trees) → end.may_leave db → start.may_leave db ⊎ IsImage rows db
  may_be_made rows clean sees after db may = elim (after.crash clean db may) [
    | inl before ↦ inl (left_before (omega (arith, after.clean)) db before)
    | inr made ↦ inr (subst (IsImage rows) (sym made) (image_of last rows sees.shows))
  ]

-- a transaction that left nothing made nothing, whatever the fault is called
pub nothing_made : {S : Type 0} (g : Ghosts S) (old new : Held S) (rows : Rows) (fault : StoreFault) → MakesNothing g old new → Makes g old new rows (Err fault)
nothing_made g old new rows NoMemory it = it
nothing_made g old new rows StoreFailed it = (it.0, λ clean db may. inl (it.1 clean db may))

pub begins_seeing : (start begun : State) (rows : Rows) → IsSettled start rows → begun ≡ record start { in_transaction = true } → Sees begun rows
begins_seeing start begun rows was begins =
    subst (λ s. Sees s rows) (sym begins) (record {
      begun = refl;
      shows = record { is_open = was.shows.is_open; schema = was.shows.schema; live = was.shows.live; holds = was.shows.holds };
    })

pub when_err : {T E : Type 0} (r : Result T E) (P : T → Type 0) (Q : Type 0) → IsErr r → Q → MatchResult r P (λ _. Q)
when_err (Ok x) P Q bad q = absurd (let e = bad in cc)
when_err (Err e) P Q bad q = q
