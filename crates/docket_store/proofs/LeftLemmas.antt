-- What an open that failed leaves of two files.
use Rattle.std.proofs.Common.{◌≡◌, ◌⊎◌, ◌≢◌, ◌∙◌, ℕ, ◌+◌, ◌*◌, ◌≤◌, ◌%◌, Bool, cond, List, [], ◌∷◌, take, Option, Some, None, option_map, IsTrue, take_all, refl, sym, ap, subst, inl, inr, arith}
use Rattle.std.proofs.Math.Logic.{∥∥₁_elim, ∥∥₁_map}
use Rattle.std.proofs.Math.Path.{fun_ext}
use Rattle.std.proofs.lemmas.Bool.{cases_Bool, cases_eq, eq-eqb, ne_eqb}
use Rattle.sqlite_disk.specs.Events.{Event, replay, settled}
use Rattle.sqlite_disk.specs.History.{MayLeave}
use Rattle.sqlite_disk.specs.declared.Disk.{Ghosts}
use Rattle.sqlite_disk.specs.declared.Files.{Files}
use Rattle.sqlite_wal.specs.Files.{outcomes}
use Rattle.sqlite_wal.specs.Recovery as raw
use Rattle.sqlite_wal.specs.Recovery.{AreWhole, Image, IsIgnored, Pages}
use Rattle.sqlite_wal.specs.Format.{be32}
use Rattle.sqlite_wal.specs.PageSize.{IsPageSize}
use Rattle.sqlite_wal.proofs.RecoveryLemmas.{recovers_once}
use Rattle.sqlite_pool.specs.File.{IsSoundFile}
use Rattle.sqlite_pool.specs.Stored.{Adopts, AreSealed, Recovers, StandsAs, is_among, is_summed, resealed, reserved, sealed, stored_size}
use Rattle.sqlite_pool.proofs.ProbeLemmas.{reserved_word, size_by_file, size_by_log}
use Rattle.sqlite_pool.proofs.ResealLemmas.{adopts_of, plain_adopts}
use Rattle.sqlite.proofs.FileLemmas.{is_something}
use Rattle.sqlite.specs.Files.{HoldsDatabase, LeavesFiles, NamesSize, SaysSums, image_of}
use Rattle.sqlite.specs.Opening.{HoldsIn}
use Rattle.sqlite.specs.Tree.{Trees}
use Rattle.sqlite.specs.declared.file.Leftover.{Leftover}
use Rattle.sqlite.specs.declared.file.Leftover.TheVariants as left
use Rattle.database_files.specs.Making.{HoldsNone, LeavesNew}
use Rattle.database_files.proofs.MakingLemmas.{holds_some}
use Rattle.docket_store.specs.Left.{HaveSums, HoldSome, HoldsSummed, StillHolds}

-- a file that was synced, and no more, is left as it was
pub fresh_file : (mixes : Bool) (log db : List ℕ) (is_log kind : Bool) (key : ℕ) (events : List Event) → is_log ≡ kind → events ≡ settled key ∷ [] → (c : List ℕ)
    → (let m = replay (cond is_log log db) events in MayLeave mixes m.seen m.synced m.steps c) → c ≡ cond kind log db
fresh_file mixes log db is_log kind key events of is c may = elim (rw (of, is) at may) [ inl same ↦ same | inr same ↦ same ]

abbrev again : ℕ → Option (List ℕ) → Option (List ℕ)
again size = option_map (λ bytes. sealed (take size bytes))

sealed_again : (size : ℕ) (page : Option (List ℕ)) → ((bytes : List ℕ) → page ≡ Some bytes → bytes ≡ sealed (take size bytes)) → again size page ≡ page
sealed_again size None seals = refl
sealed_again size (Some bytes) seals = ap Some (sym (seals bytes refl))

-- pages with the right sums stay the same where they get them again
still_sealed : (size : ℕ) (numbers : List ℕ) (stored : Pages) → AreSealed size stored → resealed size numbers stored ≡ stored
unfolding resealed
still_sealed size numbers stored seals = fun_ext λ n. elim (cases_Bool (is_among numbers n)) [ inl among ↦ rw among (sealed_again size (stored n) (seals n)) | inr other ↦ rw other refl ]

-- pages without sums have the right ones
plain_sealed : (size : ℕ) (stored : Pages) → size % 16 ≢ 8 → AreWhole (stored_size size) stored → AreSealed size stored
unfolding sealed
plain_sealed size stored plain whole n bytes is =
    let all : stored_size size ≡ size = rw (ne_eqb _ 8 plain) (omega arith) in
    let len = whole.sized n bytes is ∙ all in
    rw (take_all size bytes (omega arith), len, ne_eqb _ 8 plain)

large : (size : ℕ) → 512 ≤ stored_size size → 504 ≤ size
large size big = let few : reserved size ≤ 8 = grind arith in omega (arith, big)

-- files that hold pages under one size, if the size that they name was read as another
module _ (files : Image) (held : ℕ) (pages : Pages) (found : Adopts held files pages) (big : 504 ≤ held) (sound : IsSoundFile held pages)
    (size : ℕ) (named : NamesSize files (stored_size size)) where
  same_stored : stored_size size ≡ stored_size held
  same_stored = elim (cases_eq (stored_size size) (stored_size held)) [
    | inl same ↦ same
    | inr other ↦
        let read : ¬ (¬ IsIgnored files.log) = λ seen. other (named.0 seen ∙ size_by_log held files pages found seen) in
        absurd (read (λ ignored. other (named.1 ignored ∙ size_by_file held files pages found big sound ignored)))
  ]

  -- the header shows whether the pages end in sums
  same_size : (IsTrue (is_summed size) → SaysSums (stored_size size) files) → size % 16 ≡ 8 → size ≡ held
  same_size says summed =
      let word = reserved_word held files pages found big sound in
      let on : reserved size ≡ 8 = rw (eq-eqb (size % 16) 8 summed) refl in
      let now = subst (λ n. raw.Recovers n files found.stored) (sym same_stored) found.found in
      let said = says (rw on refl) found.stored word.0 now word.1 (word.2 ∙ sym same_stored) in
      omega (arith, said, word.3, same_stored, on)

module _ (files : Image) (held : ℕ) (pages : Pages) (was : Recovers held files pages) (big : 504 ≤ held) (sound : IsSoundFile held pages)
    (size : ℕ) (named : NamesSize files (stored_size size)) (says : IsTrue (is_summed size) → SaysSums (stored_size size) files) where
  same : stored_size size ≡ stored_size held
  same = same_stored files held pages (adopts_of held files pages was) big sound size named

  seals : AreSealed size was.stored
  seals = elim (cases_eq (size % 16) 8) [
    | inl summed ↦ subst (λ n. AreSealed n was.stored) (sym (same_size files held pages (adopts_of held files pages was) big sound size named says summed)) was.sealed
    | inr plain ↦ plain_sealed size was.stored plain (subst (λ n. AreWhole n was.stored) (sym same) was.whole)
  ]

  pub recovered_again : (image : Image) → StandsAs size files image → Recovers held image pages
  recovered_again image stands =
      let before = subst (λ n. raw.Recovers n files was.stored) (sym same) was.found in
      let after : raw.Recovers (stored_size size) image was.stored = elim stands.0 [
        | inl alike ↦ alike was.stored before
        | inr summed ↦ elim (summed.2 was.stored before) [ inl now ↦ now | inr now ↦ subst (raw.Recovers (stored_size size) image) (still_sealed size summed.0 was.stored seals) now ]
      ] in
      let now = subst (λ n. raw.Recovers n image was.stored) same after in
      record { stored = was.stored; found = now; whole = was.whole; sealed = was.sealed; shows = was.shows; present = now.present }

-- files whose pages end in no sums, but could be read as files whose pages do
module _ (files : Image) (size other : ℕ) (pages wrong : Pages) (found : Adopts size files pages) (taken : Adopts other files wrong) (big : 504 ≤ size) (sound : IsSoundFile size pages)
    (large : 504 ≤ other) (well : IsSoundFile other wrong) where
  names : NamesSize files (stored_size other)
  names = (λ seen. sym (size_by_log other files wrong taken seen), λ ignored. sym (size_by_file other files wrong taken large well ignored))

  says : other % 16 ≡ 8 → SaysSums (stored_size other) files
  says summed stored first is at len =
      let word = reserved_word other files wrong taken large well in
      let one = recovers_once (stored_size other) files stored taken.stored is taken.found in
      let both : Some first ≡ Some word.0 = sym at ∙ ap (λ (p : Pages). p 1) one ∙ word.1 in
      let same : first ≡ word.0 = cc in
      let on : reserved other ≡ 8 = rw (eq-eqb (other % 16) 8 summed) refl in
      ap (λ (b : List ℕ). be32 b 20) same ∙ word.3 ∙ ap (λ n. n * 0x100_0000 + 0x0040_2020) on

  not_taken : size % 16 ≡ 0 → other % 16 ≢ 8
  not_taken plain summed = let same = same_size files size pages found big sound other names (λ _. says summed) summed in omega (arith, same, plain, summed)

pub plain_have_sums : (files : Image) (size : ℕ) (db : Trees) → IsPageSize size → HoldsIn size files db → HaveSums files
plain_have_sums files size db is held other taken =
    let by = taken.2 in
    let few = large size (omega (arith, is.0)) in
    let plain = not_taken files size taken.0 held.pages by.pages held.found by.found few held.ours.file.sound (large taken.0 taken.1.0) by.ours.file.sound is.3 in (
      taken.0,
      taken.1,
      record { pages = by.pages; wanted = by.wanted; schema = by.schema; found = plain_adopts taken.0 files by.pages plain by.found; ours = by.ours; reads = by.reads; sound = by.sound },
    )

-- so they hold what they held
summed_again : (files image : Image) (db : Trees) (held : HoldsSummed files db) (size : ℕ) → NamesSize files (stored_size size) → (IsTrue (is_summed size) → SaysSums (stored_size size) files)
    → StandsAs size files image → HoldsDatabase image db
summed_again files image db held size named says stands =
    let by = held.2 in
    let now = recovered_again files held.0 by.pages by.found (large held.0 held.1.0) by.ours.file.sound size named says image stands in (
      held.0,
      held.1,
      record { pages = by.pages; wanted = by.wanted; schema = by.schema; found = adopts_of held.0 image by.pages now; ours = by.ours; reads = by.reads; sound = by.sound },
    )

module _ {D : Type 0} (g : Ghosts D) (files : Files D) (only : (image : Image) → outcomes g files.log files.db image → image ≡ image_of g files)
    (P : Trees → Type 0) (known : (db : Trees) → ∥ P db ∥₁ → P db) (held : HoldSome P (image_of g files)) where
  as_before : (image : Image) → outcomes g files.log files.db image → HoldSome P image
  as_before image may = subst (HoldSome P) (sym (only image may)) held

  kept : (rest : Leftover D g) → LeavesFiles {g = g} files rest → StillHolds (image_of g files) rest P
  kept (left.Files now) leaves = λ image may. as_before image (leaves image may)
  kept (left.Store now) leaves = λ db may. known db (∥∥₁_map held (λ one. subst P (sym ((leaves db may).1 one.0 one.1)) one.2))
  kept (left.Unopened now) (inl none) = λ sums image may. ∥∥₁_elim held squash₁ (λ one. absurd (is_something (image_of g files) one.0 one.1 none.0))
  kept (left.Unopened now) (inr some) = λ sums image may. elim (some.4 image may).same [
    | inl old ↦ as_before image old
    | inr stands ↦ ∥∥₁_map held (λ one. (one.0, summed_again (image_of g files) image one.0 (sums one.0 one.1) _ some.1 some.3 stands, one.2))
  ]

  -- no database is made in them, since they held one
  not_made : (rest : Leftover D g) → HoldsNone (image_of g files) → StillHolds (image_of g files) rest P
  not_made (left.Files now) none = λ image may. ∥∥₁_elim held squash₁ (λ one. absurd (holds_some (image_of g files) one.0 one.1 none))
  not_made (left.Store now) none = λ db may. known db (∥∥₁_map held (λ one. absurd (holds_some (image_of g files) one.0 one.1 none)))
  not_made (left.Unopened now) none = λ sums image may. ∥∥₁_elim held squash₁ (λ one. absurd (holds_some (image_of g files) one.0 one.1 none))

  pub still_holds : (rest : Leftover D g) → LeavesFiles {g = g} files rest ⊎ LeavesNew {g = g} files rest → StillHolds (image_of g files) rest P
  still_holds rest (inl leaves) = kept rest leaves
  still_holds rest (inr new) = not_made rest new.0
