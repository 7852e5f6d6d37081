use Rattle.std.proofs.Common.{◌≡◌, ◌+◌, ◌≤◌, ◌∙◌, false, arith, sym, ap, subst, subst₂, inl, inr}
use Rattle.sqlite_pool.specs.Opening.{IsBlankFile}
use Rattle.sqlite_pool.specs.Stored.{stored_size}
use Rattle.sqlite_store.specs.FileStore.{faults, view as shown}
use Rattle.sqlite_store.specs.Laws.{settled_at}
use Rattle.sqlite_store.specs.Unopened.{image, state_of}
use Rattle.sqlite_trees.proofs.Doubt.{clean_of as sure, no_doubt}
use Rattle.sqlite_wal.specs.Files.{outcomes, seen_image}
use Rattle.sqlite_wal.specs.PageSize.{IsPageSize}
use Rattle.sqlite_wal.specs.Reads.{AreClean, are_clean}
use Rattle.sqlite.specs.Files.{IsEmpty, faults_of, image_of}
use Rattle.sqlite.proofs.FileLemmas.{from_connection, stored_used, wanted_less}
use Rattle.sqlite.proofs.ListingLemmas.{empty_is_sound}
use Rattle.sqlite.proofs.OpenLemmas.{pool_files}
use Rattle.database_files.specs.Making.{new_page}
use Rattle.database_files.proofs.MakingLemmas.{under_way}
use Rattle.database_files.proofs.making.connect.Goals as goal

pub over-requires : goal.over-requires
over-requires g c none = (c.in-Ok-store_in.ensures.ok (sure _ none)).fresh

pub returns-in-Ok-over-clause-found : goal.returns-in-Ok-over-clause-found
returns-in-Ok-over-clause-found g c now =
    let store = c.in-Ok-store_in.store in
    let still = sure (shown store).is_clean (omega (arith, c.in-Ok-over.ensures.clean)) in
    let it = c.in-Ok-store_in.ensures.ok still in
    let trees = sym (ap (λ d. d.trees) (c.in-Ok-over.ensures.opens now).0.clean) ∙ c.in-Ok-over.ensures.trees now in
    record {
      honest = sym ((pool_files c.in-Ok.fresh.pool).1 ∙ ap (λ f. are_clean g.D.Disk f.0 f.1) c.in-Ok.ensures.files) ∙ c.in-Ok-store_in.ensures.honest still;
      nothing = subst IsEmpty (sym trees) (it.empty, it.unlisted);
    }

pub returns-in-Err-clause-unharmed : goal.returns-in-Err-clause-unharmed
returns-in-Err-clause-unharmed g c still =
    let back = c.in-Err.ensures.back in (
      c.requires.blank (subst₂ (AreClean g.D.Disk) back.0 back.1 still),
      λ image may. (subst (λ f. g.D.Disk.may_leave f image.log) back.0 may.0, subst (λ f. g.D.Disk.may_leave f image.db) back.1 may.1),
    )

pub returns-in-Err-store_in-clause-cause : goal.returns-in-Err-store_in-clause-cause
returns-in-Err-store_in-clause-cause g c still =
    let fresh = c.in-Ok.fresh in
    let made = c.in-Ok.ensures in
    let clean = sym ((pool_files fresh.pool).1 ∙ ap (λ f. are_clean g.D.Disk f.0 f.1) made.files) ∙ c.in-Err-store_in.ensures.falls still in
    let seen : image fresh ≡ image_of g.D.Disk c.args.files = ap (λ f. seen_image g.D.Disk f.0 f.1) made.files in
    let blank : IsBlankFile (state_of fresh).page_size (image fresh) = subst₂ IsBlankFile (sym (made.size ∙ c.requires.size)) (sym seen) (c.requires.blank clean) in
    let counts : faults_of g.D.Disk c.args.files ≤ (state_of fresh).faults =
    omega (arith, (pool_files fresh.pool).0, ap (λ f. g.D.Disk.faults f.0 + g.D.Disk.faults f.1) made.files) in
    wanted_less _ _ _ _ _ _ c.in-Err-store_in.error counts (c.in-Err-store_in.ensures.counts still) (λ _. blank) (c.in-Err-store_in.ensures.cause still)

pub returns-in-Err-store_in-clause-unharmed : goal.returns-in-Err-store_in-clause-unharmed
returns-in-Err-store_in-clause-unharmed g c still =
    let fresh = c.in-Ok.fresh in
    let made = c.in-Ok.ensures in
    let clean = sym ((pool_files fresh.pool).1 ∙ ap (λ f. are_clean g.D.Disk f.0 f.1) made.files) ∙ c.in-Err-store_in.ensures.falls still in
    let size : (state_of fresh).page_size ≡ new_page = made.size ∙ c.requires.size in
    let seen : image fresh ≡ image_of g.D.Disk c.args.files = ap (λ f. seen_image g.D.Disk f.0 f.1) made.files in
    let none = c.requires.blank clean in
    let blank : IsBlankFile (state_of fresh).page_size (image fresh) = subst₂ IsBlankFile (sym size) (sym seen) none in
    let given = c.args.size in
    let valid : IsPageSize (stored_size new_page) =
    subst IsPageSize (sym (stored_used given false) ∙ ap stored_size c.requires.size) (given.smallest, given.largest, given.power, given.aligned) in (
      none,
      λ left may. elim ((c.in-Err-store_in.ensures.kept still).blank blank left may) [
        | inl was ↦ inl (subst (λ f. outcomes g.D.Disk f.0 f.1 left) made.files ((pool_files fresh.pool).2 left was))
        | inr way ↦ inr (under_way new_page left valid (rw (size, made.none) at way))
      ],
    )

pub returns-in-Err-over-clause-cause : goal.returns-in-Err-over-clause-cause
returns-in-Err-over-clause-cause g c late =
    let now = no_doubt _ late in
    let fresh = c.in-Ok.fresh in
    let made = c.in-Ok.ensures in
    let store = c.in-Ok-store_in.store in
    let it = c.in-Ok-store_in.ensures.ok (sure (shown store).is_clean (omega (arith, c.in-Err-over.ensures.unharmed.clean))) in
    let counts : faults_of g.D.Disk c.args.files ≤ faults store =
    omega (arith, it.counts, (pool_files fresh.pool).0, ap (λ f. g.D.Disk.faults f.0 + g.D.Disk.faults f.1) made.files) in
    rw c.blurred.ensures (from_connection _ _ _ _ _ c.in-Err-over.error counts c.in-Err-over.ensures.unharmed.counts (λ _. (_, empty_is_sound _ it.unlisted)) (c.in-Err-over.ensures.err now))

pub returns-in-Err-over-clause-unharmed : goal.returns-in-Err-over-clause-unharmed
returns-in-Err-over-clause-unharmed g c late =
    let now = no_doubt _ late in
    let fresh = c.in-Ok.fresh in
    let made = c.in-Ok.ensures in
    let store = c.in-Ok-store_in.store in
    let still = sure (shown store).is_clean (omega (arith, c.in-Err-over.ensures.unharmed.clean)) in
    let it = c.in-Ok-store_in.ensures.ok still in
    let clean = sym ((pool_files fresh.pool).1 ∙ ap (λ f. are_clean g.D.Disk f.0 f.1) made.files) ∙ c.in-Ok-store_in.ensures.honest still in (
      c.requires.blank clean,
      λ found may.
          let is = settled_at store g.met.D.Disk.seen_may_stay found it.is_open (c.in-Err-over.ensures.unharmed.outcomes found may) ∙ sym it.fresh.clean in
          subst IsEmpty (sym is) (it.empty, it.unlisted),
    )
