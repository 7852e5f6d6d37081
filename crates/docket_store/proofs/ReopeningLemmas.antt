-- What an open finds of a docket.
use Rattle.std.proofs.Common.{◌≡◌, ◌⊎◌, ◌∙◌, inl, inr, Ok, Err, Result, Option, Some, None, IfOk, IfErr, IfSome, IsErrAnd, MatchResult, IsTrue, refl, sym, ap, subst}
use Rattle.std.proofs.Math.Logic.{∥∥₁_elim, ∥∥₁_map}
use base.Stored.{Coded-set}
use Rattle.sqlite_schema.specs.contracts.schema.Schema as schema
use Rattle.sqlite_catalog.proofs.ReadLemmas.{lists_once}
use Rattle.sqlite_trees.specs.Objects.{catalog_tree}
use Rattle.sqlite.specs.Effect.{Database}
use Rattle.sqlite.specs.Schema.{Schema}
use Rattle.sqlite_pool.proofs.ResealLemmas.{adopts_of}
use Rattle.sqlite_pool.proofs.StateLemmas.{size_is_allowed}
use Rattle.sqlite_catalog.specs.Listing.{IsSound}
use Rattle.sqlite_disk.specs.declared.Disk.{Ghosts}
use Rattle.sqlite_wal.specs.Recovery.{Image}
use Rattle.sqlite_store.specs.declared.store.FileStore.{FileStore}
use Rattle.sqlite_store.specs.FileStore.{state, view, recovers, reading, schema_in}
use Rattle.sqlite_store.specs.Listing.{IsOurs}
use Rattle.sqlite_trees.specs.View.{IsRolledBack as IsUndone}
use Rattle.sqlite.specs.Tree.{Trees}
use Rattle.sqlite.specs.Files.{HoldsDatabase, IsOpened, file_state, over_files}
use Rattle.sqlite.specs.Held.{Held, IsNew}
use Rattle.sqlite.specs.State.{HasCleanDisk, IsLive, Opens, State}
use Rattle.court_days.specs.Court.{CourtSettings}
use Rattle.docket_history.specs.Histories.{History}
use Rattle.docket_columns.specs.declared.version.Version.{Version}
use Rattle.docket_columns.specs.declared.version.Version.TheVariants.{First, Second}
use Rattle.docket_tables.specs.Schema.{docket_schema, schema_of}
use Rattle.docket_tables.specs.Layouts.{AreRowsIn, Rows}
use Rattle.docket_tables.specs.Stands.{HoldsRowsIn, IsEither, IsImage, IsImageIn, IsSettled, IsSettledIn}
use Rattle.docket_tables.proofs.CommitLemmas.{LeavesCommit}
use Rattle.docket_applying.specs.Applying.{StandsFor, docket_rows}
use Rattle.docket_store.specs.Reopening.{HoldDocket, HoldEither, HoldRows, LeavesEither, MayLeave, StandsForEither}

-- what follows from three clauses about a value
pub if_ok : {T E : Type 0} (A B C P : T → Type 0) (r : Result T E) → ((x : T) → A x → B x → C x → P x) → IfOk r A → IfOk r B → IfOk r C → IfOk r P
if_ok A B C P (Ok x) then a b c = then x a b c
if_ok A B C P (Err e) then a b c = a

-- what holds of what a failed open left
pub if_left : {T E L : Type 0} (A B : E → L → Type 0) → ((e : E) (left : L) → A e left → B e left) → (r : Result T (E × Option L)) → IfErr r (λ e. IfSome e.1 (A e.0)) → IfErr r (λ e. IfSome e.1 (B e.0))
if_left A B then (Ok x) is = is
if_left A B then (Err (e, None)) is = is
if_left A B then (Err (e, Some left)) is = then e left is

-- the same for the one or the other
pub err_either : {T E : Type 0} (A B : Type 0) (P Q : E → Type 0) (r : Result T E) → (A → IfErr r P) → (B → IfErr r Q) → ∥ A ⊎ B ∥₁ → IfErr r (λ e. ∥ P e ⊎ Q e ∥₁)
err_either A B P Q (Ok x) was is held = tt
err_either A B P Q (Err e) was is held = ∥∥₁_map held (λ one. elim one [ inl a ↦ inl (was a) | inr b ↦ inr (is b) ])

-- what holds of an error holds of the result that returns it
pub err_told : {T E : Type 0} (P : E → Type 0) (r : Result T E) (e : E) → IsErrAnd r (λ f. f ≡ e) → P e → IfErr r P
err_told P (Ok x) e told p = absurd told
err_told P (Err f) e told p = subst P (sym told) p

pub match_told : {T E : Type 0} (A : T → Type 0) (P : E → Type 0) (r : Result T E) (e : E) → IsErrAnd r (λ f. f ≡ e) → P e → MatchResult r A P
match_told A P (Ok x) e told p = absurd told
match_told A P (Err f) e told p = subst P (sym told) p

-- What a power failure may leave of the files holds a database that the store allows, where each of those has the docket's tables.
holds_allowed : {D : Type 0} {g : Ghosts D} (it : FileStore D g) → IsTrue (view it).is_numbered → ((db : Trees) → recovers it db → ∥ IsSound docket_schema db ∥₁)
    → (files : Image) → (state it).may_leave files → ∥ ((db : Trees) × recovers it db × HoldsDatabase files db) ∥₁
holds_allowed it numbered sound files may = ∥∥₁_elim it.safe squash₁ (λ all.
    let found = all files may in
    let db : Trees = reading it found.0 in
    let allowed : recovers it db = (files, found.0, may, ∣ found.1 ∣₁, refl) in
    ∥∥₁_elim (size_is_allowed it.pool) squash₁ (λ size. ∥∥₁_elim (sound db allowed) squash₁ (λ lists. ∥∥₁_map found.2 (λ ours.
    let r : (x : Trees) × recovers it x × HoldsDatabase files x = (
      db,
      allowed,
      (
        (state it).page_size,
        size,
        record {
          pages = found.0;
          wanted = schema_in it found.0;
          schema = docket_schema;
          found = adopts_of _ files found.0 found.1;
          reads = refl;
          sound = lists;
          ours = subst (λ b. IsOurs (state it).page_size b (schema_in it found.0) found.0) numbered ours;
        },
      ),
    ) in r))))

either_sound : (rows next : Rows) (db : Trees) → IsImage rows db ⊎ IsImage next db → ∥ IsSound docket_schema db ∥₁
either_sound rows next db (inl image) = image.sound
either_sound rows next db (inr image) = image.sound

pub leaves_docket : {D : Type 0} {g : Ghosts D} (it : FileStore D g) (court : CourtSettings) (h next : History) (files : Image)
    → LeavesEither it court h next → MayLeave it files → HoldEither files court h next
leaves_docket it court h next files leaves may =
    let sound : (db : Trees) → recovers it db → ∥ IsSound docket_schema db ∥₁ = λ db allowed. either_sound _ _ db (leaves.images db allowed) in
    ∥∥₁_map (holds_allowed it leaves.numbered sound files may) (λ found. elim (leaves.images found.0 found.1) [
      | inl image ↦ inl ∣ (found.0, found.2, image) ∣₁
      | inr image ↦ inr ∣ (found.0, found.2, image) ∣₁
    ])

-- what is known of an image in part is known of it
pub image_known : (v : Version) (rows : Rows) (db : Trees) → ∥ IsImageIn v rows db ∥₁ → IsImageIn v rows db
image_known First rows db known = record {
  sound = ∥∥₁_elim known squash₁ (λ image. image.sound);
  holds = λ table is. ∥∥₁_elim known squash₁ (λ image. image.holds table is);
}
image_known Second rows db known = record {
  sound = ∥∥₁_elim known squash₁ (λ image. image.sound);
  holds = λ table. ∥∥₁_elim known squash₁ (λ image. image.holds table);
}

-- trees list one schema at most
same_schema : (s t : Schema) (db : Trees) → ∥ IsSound s db ∥₁ → IsSound t db → t ≡ s
same_schema s t db p q = ∥∥₁_elim p (Coded-set schema.the_row.coded _ _) (λ h. lists_once (db catalog_tree) t s q.lists h.lists)

-- a connection that was just opened on an image of the rows holds them
opened_holds : (v : Version) (s : State) (rows : Rows) → Opens s → IsLive s → LeavesCommit s → IsImageIn v rows s.committed.trees → IsSettledIn v s rows
opened_holds v s rows opens live leaves image =
    let is = opens.clean in
    record {
      idle = opens.autocommit;
      shows = record {
        is_open = opens.is_open;
        schema = ap (λ (b : Database). b.schema) is ∙ same_schema (schema_of v) s.committed.schema s.committed.trees image.sound (live opens.is_open).1;
        live = (live opens.is_open).0;
        holds = subst (AreRowsIn v rows) (sym (ap (λ (b : Database). b.trees) is)) image.holds;
      };
      committed = sym is;
      images = λ db may. subst (IsImageIn v rows) (sym (leaves db opens.is_open may)) image;
    }

module _ {D : Type 0} {g : Ghosts D} (files : Image) (conn : Held (FileStore D g)) (new : IsNew conn) (opened : HasCleanDisk (file_state conn) → IsOpened conn)
    (found : HasCleanDisk (file_state conn) → (db : Trees) → HoldsDatabase files db → (file_state conn).committed.trees ≡ db)
    (settled : (db : Trees) → IsTrue (file_state conn).is_open → (file_state conn).may_leave db → db ≡ (file_state conn).committed.trees) where
  pub holds_again : (v : Version) (rows : Rows) → HoldRows v files rows → HoldsRowsIn over_files v conn rows
  holds_again v rows held = (
    new.autocommit,
    λ clean.
        let image = image_known v rows _ (∥∥₁_map held (λ one. subst (IsImageIn v rows) (sym (found clean one.0 one.1)) one.2)) in
        opened_holds v (file_state conn) rows (opened clean).0 (opened clean).1 settled image,
  )

  pub stands_again : (court : CourtSettings) (h : History) → HoldDocket files court h → StandsFor over_files conn court h
  stands_again court h = holds_again Second (docket_rows court h)

  pub stands_for_either : (court : CourtSettings) (h next : History) → HoldEither files court h next → StandsForEither over_files conn court h next
  stands_for_either court h next held = ∥∥₁_map held (λ one. elim one [ inl was ↦ inl (stands_again court h was) | inr is ↦ inr (stands_again court next is) ])

-- What a power failure leaves of a store it leaves of an earlier one with the same numbers and no fewer possible databases.
module _ {D : Type 0} {g : Ghosts D} (conn : Held (FileStore D g)) (last : FileStore D g) (undone : IsUndone (view conn.store) (view last)) (numbered : IsTrue (view last).is_numbered)
    (fewer : (db : Trees) → recovers last db → recovers conn.store db) where
  pub leaves_both : (court : CourtSettings) (h next : History) → IsEither (file_state conn) (docket_rows court h) (docket_rows court next) → LeavesEither conn.store court h next × LeavesEither last court h next
  leaves_both court h next either = (
    record { numbered = subst IsTrue undone.numbered numbered; images = either.images },
    record { numbered = numbered; images = λ db may. either.images db (fewer db may) },
  )

pub either_of_settled : (s : State) (rows : Rows) → IsSettled s rows → IsEither s rows rows
either_of_settled s rows settled = record { images = λ db may. inl (settled.images db may); settled = λ _. settled }
