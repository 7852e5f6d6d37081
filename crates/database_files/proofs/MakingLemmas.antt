-- What the making of a database leaves on its way. The kit's own lemma is about pages of 4,096 bytes.
use Rattle.std.proofs.Common.{◌≡◌, ◌⊎◌, ◌∙◌, ◌≤◌, ℕ, [], true, Result, Ok, Err, IfErr, IfOk, refl, sym, subst, inl, inr, arith}
use Rattle.std.proofs.Math.Logic.{∥∥₁_map}
use Rattle.sqlite_disk.specs.declared.Disk.{Ghosts}
use Rattle.sqlite_disk.specs.declared.Files.{Files}
use Rattle.sqlite_pages.specs.PageMap.{PageMap}
use Rattle.sqlite_pool.specs.File.{in_use, version_in}
use Rattle.sqlite_pool.specs.Opening.{IsBlankFile, IsNew}
use Rattle.sqlite_pool.specs.Stored.{Recovers, reserved, stored_size}
use Rattle.sqlite_pool.specs.StoredLaws.{trimmed_whole}
use Rattle.sqlite_pool.proofs.ProbeLemmas.{not_blank}
use Rattle.sqlite_pool.proofs.ResealLemmas.{adopts_of}
use Rattle.sqlite_store.specs.Db.{trees_in}
use Rattle.sqlite_store.specs.Listed.{catalog_rows}
use Rattle.sqlite_store.specs.Listing.{IsOurs, all_trees, file_trees}
use Rattle.sqlite_store.specs.Opening as store
use Rattle.sqlite_store.proofs.BuildLemmas.{new_is_empty}
use Rattle.sqlite_store.proofs.ListingLemmas.{named_tree, past_version}
use Rattle.sqlite_store.specs.declared.store.FileStore.{FileStore}
use Rattle.sqlite_trees.specs.Tree.{Trees}
use Rattle.sqlite_wal.proofs.CleanLemmas.{both_clean}
use Rattle.sqlite_wal.specs.PageSize.{IsPageSize}
use Rattle.sqlite_wal.specs.Reads.{AreClean, OnlyReads}
use Rattle.sqlite_wal.specs.Recovery.{AreWhole, Image}
use Rattle.sqlite.specs.Files as held
use Rattle.sqlite.specs.Files.{AreFoundIn, HoldsDatabase, IsEmpty, file_state, image_of}
use Rattle.sqlite.specs.Held.{Held}
use Rattle.sqlite.proofs.FileLemmas.{same_image}
use Rattle.sqlite.proofs.ListingLemmas.{empty_is_sound}
use Rattle.database_files.specs.Making.{Finds, HoldsNone, IsMadeIn, new_page}

pub ok_as : {T E : Type 0} (A B : T → Type 0) (r : Result T E) → ((x : T) → A x → B x) → IfOk r A → IfOk r B
ok_as A B (Ok x) then a = then x a
ok_as A B (Err e) then a = a

pub err_both : {T E : Type 0} (A B P : E → Type 0) (r : Result T E) → ((e : E) → A e → B e → P e) → IfErr r A → IfErr r B → IfErr r P
err_both A B P (Ok x) then a b = a
err_both A B P (Err e) then a b = then e a b

-- files that hold a database do not count as files that hold none
pub holds_some : (image : Image) (db : Trees) → HoldsDatabase image db → ¬ HoldsNone image
holds_some image db held =
    let few : reserved held.0 ≤ 8 = grind arith in
    not_blank held.0 image held.2.pages held.2.found (omega (arith, held.1.0)) held.2.ours.file.sound new_page (omega arith)

empty_database : (size : ℕ) (image : Image) (pages : PageMap) → IsPageSize (stored_size size) → Recovers size image pages → IsOurs size true [] pages
    → (db : Trees) × HoldsDatabase image db × IsEmpty db
unfolding trees_in
empty_database size image pages valid found ours =
    let db = file_trees size [] pages in
    let unlisted = catalog_rows size [] (in_use size pages) in (
      db,
      (size, valid, record { pages = pages; wanted = []; schema = _; found = adopts_of size image pages found; ours = ours; reads = refl; sound = empty_is_sound db unlisted }),
      (λ tree low. past_version tree low (all_trees size [] (in_use size pages)) (version_in pages) ∙ named_tree tree low size [] (in_use size pages), unlisted),
    )

pub under_way : (size : ℕ) (image : Image) → IsPageSize (stored_size size)
    → IsBlankFile size image ⊎ ((pages : PageMap) × Recovers size image pages × (IsNew size pages ⊎ ∥ store.IsFresh size [] pages ∥₁))
    → IsBlankFile size image ⊎ ∥ ((db : Trees) × HoldsDatabase image db × IsEmpty db) ∥₁
under_way size image valid (inl blank) = inl blank
under_way size image valid (inr made) =
    inr (elim made.2 [
      | inl new ↦
          let whole : AreWhole size made.0 = subst (AreWhole size) made.1.shows (trimmed_whole size made.1.stored made.1.whole) in
          let empty = new_is_empty size made.0 whole new in
          ∣ empty_database size image made.0 valid made.1 (record { file = empty.0; numbered = λ _. record { listed = empty.1; spaced = refl; ordered = refl } }) ∣₁
      | inr fresh ↦ ∥∥₁_map fresh (λ it. empty_database size image made.0 valid made.1 it.0)
    ])

-- what is found in files that were read was in them before
module _ {D : Type 0} {g : Ghosts D} (files seen : Files D) (log : OnlyReads g files.log seen.log) (db : OnlyReads g files.db seen.db) (c : Held (FileStore D g)) where
  pub finds_none : (AreClean g seen.log seen.db → HoldsNone (image_of g files)) → IsMadeIn seen c → Finds files c
  finds_none none made =
      let blank = none made.honest in
      record {
        honest = both_clean _ _ _ _ log.clean db.clean made.honest;
        holds = λ trees held. absurd (holds_some (image_of g files) trees held blank);
        reads = inr (blank, made.nothing);
      }

  pub finds_held : held.Finds seen c → Finds files c
  finds_held found =
      let same : image_of g seen ≡ image_of g files = same_image log db in
      record {
        honest = both_clean _ _ _ _ log.clean db.clean found.honest;
        holds = λ trees held. found.holds trees (subst (λ i. HoldsDatabase i trees) (sym same) held);
        reads = inl (subst (λ i. AreFoundIn i (file_state c).committed.trees) same found.reads);
      }
