-- What a connection holds is what is left of it.
use Rattle.std.proofs.Common.{◌≡◌, ◌⊎◌, inl, inr, Bool, IsTrue, refl, sym, subst}
use Rattle.std.proofs.Math.Logic.{∥∥₁_map}
use Rattle.sqlite_disk.specs.declared.Disk.{Ghosts as Disk}
use Rattle.sqlite_disk.specs.declared.Files.{Files}
use Rattle.sqlite_wal.specs.Files.{outcomes}
use Rattle.sqlite_wal.specs.Recovery.{Image}
use Rattle.sqlite_catalog.specs.Listing.{IsSound}
use Rattle.sqlite_store.specs.declared.store.FileStore.{FileStore}
use Rattle.sqlite.specs.Closing.{HoldsAlone, IsCopied}
use Rattle.sqlite.specs.Effect.{Database}
use Rattle.sqlite.specs.Files.{file_state, over_files}
use Rattle.sqlite.specs.Held.{Held, state}
use Rattle.sqlite.specs.Schema.{Schema}
use Rattle.sqlite.specs.State.{State}
use Rattle.sqlite.specs.Store.{Ghosts}
use Rattle.sqlite.specs.Tree.{Trees}
use Rattle.sqlite.specs.View.{doubt}
use Rattle.sqlite.specs.declared.file.Leftover.{Leftover}
use Rattle.sqlite.specs.declared.file.Leftover.TheVariants as left
use Rattle.docket_tables.specs.Layouts.{Rows}
use Rattle.docket_tables.specs.Stands.{HoldsRows, IsEither, IsImage, IsLasting, IsSettled, Lasts, LastsAsEither}
use Rattle.docket_store.specs.Left.{Leaves}
use Rattle.file_dockets.specs.Keeping.{HoldsBetween, IsBetween}

pub clean_of : (is_clean : Bool) → IsTrue is_clean → doubt is_clean ≡ 0
unfolding doubt
clean_of is_clean is = subst (λ b. doubt b ≡ 0) (sym is) refl

both : {A : Type 0} → A ⊎ A → A
both (inl a) = a
both (inr a) = a

module _ (s : State) (rows : Rows) where
  -- the last commit of a settled connection has its rows
  settled_image : IsSettled s rows → IsImage rows s.committed.trees
  settled_image settled =
      let shows = settled.shows in
      let sound : IsSound _ s.now.trees = subst (λ (schema : Schema). IsSound schema s.now.trees) shows.schema shows.live in
      let now : IsImage rows s.now.trees = record { sound = ∣ sound ∣₁; holds = shows.holds } in
      subst (λ (db : Database). IsImage rows db.trees) (sym settled.committed) now

  between_settled : IsSettled s rows → IsBetween s rows rows
  between_settled settled = record { images = λ db may. inl (settled.images db may); settled = λ _. inl settled }

  between_lasting : IsLasting s rows → IsBetween s rows rows
  between_lasting lasting = record { images = λ db may. inl (lasting.images db may); settled = λ is_open. inl (lasting.settled is_open) }

  module _ (next : Rows) where
    between_either : IsEither s rows next → IsBetween s rows next
    between_either either = record { images = either.images; settled = λ is_open. inl (either.settled is_open) }

    between_first : IsBetween s rows rows → IsBetween s rows next
    between_first is = record { images = λ db may. inl (both (is.images db may)); settled = λ is_open. inl (both (is.settled is_open)) }

    between_second : IsBetween s next next → IsBetween s rows next
    between_second is = record { images = λ db may. inr (both (is.images db may)); settled = λ is_open. inr (both (is.settled is_open)) }

module _ {S : Type 0} (g : Ghosts S) (conn : Held S) (rows : Rows) where
  pub held : HoldsRows g conn rows → HoldsBetween g conn rows rows
  held holds clean = between_settled (state g conn) rows (holds.1 clean)

  pub lasting : Lasts g conn rows → HoldsBetween g conn rows rows
  lasting lasts clean = between_lasting (state g conn) rows (lasts.1 clean)

  pub either : (next : Rows) → LastsAsEither g conn rows next → HoldsBetween g conn rows next
  either next lasts clean = between_either (state g conn) rows next (lasts.1 clean)

  pub first : (next : Rows) → HoldsBetween g conn rows rows → HoldsBetween g conn rows next
  first next holds clean = between_first (state g conn) rows next (holds clean)

  pub second : (next : Rows) → HoldsBetween g conn next next → HoldsBetween g conn rows next
  second next holds clean = between_second (state g conn) rows next (holds clean)

-- the last commit is one of the two
committed_image : (s : State) (rows next : Rows) → IsSettled s rows ⊎ IsSettled s next → IsImage rows s.committed.trees ⊎ IsImage next s.committed.trees
committed_image s rows next (inl settled) = inl (settled_image s rows settled)
committed_image s rows next (inr settled) = inr (settled_image s next settled)

-- closed files hold the last commit
pub closed_leaves : {D : Type 0} {g : Disk D} (conn : Held (FileStore D g)) (files : Files D) (rows next : Rows) → HoldsBetween over_files conn rows next → IsCopied conn files
    → (image : Image) → outcomes g files.log files.db image → ∥ ((db : Trees) × HoldsAlone image db × (IsImage rows db ⊎ IsImage next db)) ∥₁
closed_leaves {D} {g} conn files rows next holds copied image may =
    let found : (db : Trees) × HoldsAlone image db × (IsImage rows db ⊎ IsImage next db) = (
      (file_state conn).committed.trees,
      copied.left image may,
      committed_image (file_state conn) rows next ((holds copied.was_clean).settled copied.was_open),
    ) in
    ∣ found ∣₁

-- what is left is of another kind too
pub leaves_map : {D : Type 0} {g : Disk D} (rest : Leftover D g) (P Q : Trees → Type 0) → ((db : Trees) → P db → Q db) → Leaves rest P → Leaves rest Q
leaves_map (left.Files files) P Q then leaves = λ image may. ∥∥₁_map (leaves image may) (λ one. (one.0, one.1, then one.0 one.2))
leaves_map (left.Unopened files) P Q then leaves = λ image may. ∥∥₁_map (leaves image may) (λ one. (one.0, one.1, then one.0 one.2))
leaves_map (left.Store it) P Q then leaves = λ db may. then db (leaves db may)
