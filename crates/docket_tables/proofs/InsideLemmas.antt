-- Questions inside a transaction.
use Rattle.std.proofs.Common.{◌∙◌, ◌⊎◌, inl, inr, ℕ, List, Result, Ok, Err, IfOk, IfErr, IsErr, subst, sym, arith}
use Rattle.std.proofs.lemmas.Result.{IfOk-weaker, IfOk-from_err}
use Rattle.sqlite.specs.Order.{Row}
use Rattle.sqlite.specs.Listing.{understood}
use Rattle.sqlite.specs.declared.error.Error.{Error}
use Rattle.sqlite.specs.State.{State, HasCleanDisk, Survives, IsUnchanged, IsRolledBack, FailsToQuery, IsTooLate, Shown}
use Rattle.sqlite.proofs.Callers.{IsPlain}
use Rattle.sqlite.proofs.InsideLemmas.{unchanged_keeps}
use Rattle.docket_tables.specs.Schema.{docket_schema}
use Rattle.docket_tables.specs.Layouts.{Rows}
use Rattle.docket_tables.specs.Readings.{IsReadAs}
use Rattle.docket_tables.specs.declared.fault.ReadFault.{ReadFault}
use Rattle.docket_tables.specs.Stands.{Sees, StaysInside, Inside}
use Rattle.docket_tables.proofs.CommitLemmas.{shows_again, inside_then}
use Rattle.docket_tables.proofs.StandsLemmas.{failed_query, shown_unchanged}

module _ (sql : List ℕ) (params : Row) (old new : State) (plain : IsPlain (understood docket_schema sql)) where
  plainly : (rows : Rows) → Sees old rows → IsPlain (understood old.now.schema sql)
  plainly rows sees = subst (λ s. IsPlain (understood s sql)) (sym sees.shows.schema) plain

  after : {X : Type 0} (rows : Rows) (items : X → List Row) (result : Result X Error) → Sees old rows → IfOk result (λ x. Shown sql params old new (items x))
      → IfErr result (λ e. FailsToQuery sql params old new e ⊎ IsTooLate sql params old new e) → IsUnchanged old new ⊎ IsRolledBack old new
  after rows items (Ok x) sees ok err = inl (shown_unchanged sql params old new (items x) (plainly rows sees) ok)
  after rows items (Err e) sees ok err = elim err [ inl fails ↦ failed_query sql params old new e (plainly rows sees) fails | inr late ↦ inl late.5 ]

  pub asks_inside : {X : Type 0} (rows : Rows) (items : X → List Row) (result : Result X Error) → Survives old new (λ _. ⊥) → (HasCleanDisk old → Sees old rows)
      → (HasCleanDisk new → IfOk result (λ x. Shown sql params old new (items x))) → (HasCleanDisk new → IfErr result (λ e. FailsToQuery sql params old new e ⊎ IsTooLate sql params old new e))
      → StaysInside old new
  asks_inside rows items result crash sees ok err = record {
    kept = λ clean. unchanged_keeps old new (after rows items result (sees (omega (arith, crash.clean))) (ok clean) (err clean));
    survives = crash;
  }

  pub sees_still : (rows : Rows) (found : List Row) → Sees old rows → Shown sql params old new found → Sees new rows
  sees_still rows found sees shown =
      let same = shown_unchanged sql params old new found (plainly rows sees) shown in
      record { begun = same.0.mode ∙ sees.begun; shows = shows_again old new rows same.0.now_is same.0.is_open sees.shows }

-- steps of a transaction, one after another

-- a step that succeeded
abbrev pub Went : State → State → Rows → Rows → Type 0 → Type 0
Went old new rows next A = (HasCleanDisk old → Sees old rows) → StaysInside old new × (HasCleanDisk new → Sees new next × A)

-- a step that commits nothing, however it ends
abbrev pub Stays : State → State → Rows → Type 0
Stays old new rows = (HasCleanDisk old → Sees old rows) → StaysInside old new

pub failed_after : (old new : State) (rows other : Rows) {Y F : Type 0} (later : Result Y F) (B : Y → Type 0) → Stays old new rows → IsErr later → Inside old new rows other later B
failed_after old new rows other later B stays failed sees = (stays sees, λ clean. IfOk-from_err later _ failed)

pub stays_after : (old mid new : State) (rows next : Rows) (A : Type 0) → Went old mid rows next A → Stays mid new next → Stays old new rows
stays_after old mid new rows next A first second sees =
    let one = first sees in
    inside_then _ _ _ one.0 (second (λ clean. (one.1 clean).0))

pub inside_after : (old mid new : State) (rows next last : Rows) (A : Type 0) {Y F : Type 0} (result : Result Y F) (B C : Y → Type 0) → Went old mid rows next A → Inside mid new next last result B → (A → (y : Y) → B y → C y)
    → Inside old new rows last result C
inside_after old mid new rows next last A result B C first second both sees =
    let one = first sees in
    let two = second (λ clean. (one.1 clean).0) in (
      inside_then _ _ _ one.0 two.0,
      λ clean. IfOk-weaker result _ _ (λ y h. (h.0, both (one.1 (omega (arith, two.0.survives.clean))).1 y h.1)) (two.1 clean),
    )

pub inside_with : (old mid new : State) (rows next last : Rows) (A : Type 0) {Y F : Type 0} (result : Result Y F) (C : Y → Type 0) → Went old mid rows next A → Stays mid new next
    → (HasCleanDisk new → A → Sees mid next → IfOk result (λ y. Sees new last × C y)) → Inside old new rows last result C
inside_with old mid new rows next last A result C first stays ok sees =
    let one = first sees in
    let two = stays (λ clean. (one.1 clean).0) in (
      inside_then _ _ _ one.0 two,
      λ clean. let there = one.1 (omega (arith, two.survives.clean)) in ok clean there.1 there.0,
    )

pub went_after : (old mid new : State) (rows next last : Rows) (A B C : Type 0) → Went old mid rows next A → Went mid new next last B → (A → B → C) → Went old new rows last C
went_after old mid new rows next last A B C first second both sees =
    let one = first sees in
    let two = second (λ clean. (one.1 clean).0) in (
      inside_then _ _ _ one.0 two.0,
      λ clean. let there = two.1 clean in (there.0, both (one.1 (omega (arith, two.0.survives.clean))).1 there.1),
    )

-- what was read inside a transaction
pub read_inside : {X : Type 0} (result : Result X ReadFault) (P : X → Type 0) (Q : Type 0) → IsReadAs P result → Q → IfOk result (λ x. Q × P x)
read_inside (Ok x) P Q read q = (q, read)
read_inside (Err e) P Q read q = tt
