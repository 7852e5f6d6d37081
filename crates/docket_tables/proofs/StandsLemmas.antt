-- What calls leave of a connection that holds rows.
use Rattle.std.proofs.Common.{◌⊎◌, inl, inr, ℕ, List, sym, subst, ◌∙◌, arith}
use Rattle.sqlite.specs.Order.{Row}
use Rattle.sqlite.specs.Tree.{Trees}
use Rattle.sqlite.specs.Listing.{understood}
use Rattle.sqlite.specs.declared.error.Error.{Error}
use Rattle.sqlite.specs.State.{State, HasCleanDisk, Survives, IsUnchanged, IsRolledBack, FailsToQuery, FailsToShow, IsNotRun, Shown, ShowsRows, CommitsShowing}
use Rattle.sqlite.proofs.StateLemmas.{survives_weaker}
use Rattle.sqlite.specs.Clock.{timed}
use Rattle.sqlite.proofs.Callers.{IsPlain, never_commits}
use Rattle.docket_tables.specs.Schema.{docket_schema}
use Rattle.docket_tables.specs.Layouts.{Rows}
use Rattle.docket_tables.specs.Stands.{IsImage, IsSettled, IsLasting}
use Rattle.docket_tables.proofs.CommitLemmas.{shows_again}

module _ (old new : State) (rows : Rows) (crash : Survives old new (λ _. ⊥)) (clean : HasCleanDisk new) (was : IsSettled old rows) where
  images_last : (db : Trees) → new.may_leave db → IsImage rows db
  images_last db may = elim (crash.crash clean db may) [ inl earlier ↦ was.images db earlier | inr none ↦ absurd none ]

  pub unchanged_settled : IsUnchanged old new → IsSettled new rows
  unchanged_settled same = record {
    idle = same.0.mode ∙ was.idle;
    shows = shows_again old new rows same.0.now_is same.0.is_open was.shows;
    committed = same.0.committed_is ∙ was.committed ∙ sym same.0.now_is;
    images = images_last;
  }

  pub undone_lasting : IsUnchanged old new ⊎ IsRolledBack old new → IsLasting new rows
  undone_lasting (inl same) = record { images = images_last; settled = λ _. unchanged_settled same }
  undone_lasting (inr undone) = record {
    images = images_last;
    settled = λ is_open.
        let both = undone.undone is_open in
        record { idle = undone.autocommit; shows = shows_again old new rows (both.0 ∙ was.committed) is_open was.shows; committed = both.1 ∙ sym both.0; images = images_last };
  }

-- a plain query that fails leaves the connection as it was, or rolled back
pub failed_query : (sql : List ℕ) (params : Row) (old new : State) (e : Error) → IsPlain (understood old.now.schema sql) → FailsToQuery sql params old new e → IsUnchanged old new ⊎ IsRolledBack old new
unfolding FailsToQuery IsNotRun
failed_query sql params old new e plain (inl (inl never)) = inl never.1
failed_query sql params old new e plain (inl (inr fails)) = inr fails.3
failed_query sql params old new e plain (inr run) =
    let bare = subst IsPlain run.1.is plain in
    inl (subst (FailsToShow old new sql run.0 (timed params run.0.formats run.1.now) e) bare.0 run.2).3

pub shown_unchanged : (sql : List ℕ) (params : Row) (old new : State) (found : List Row) → IsPlain (understood old.now.schema sql) → Shown sql params old new found → IsUnchanged old new
unfolding Shown
shown_unchanged sql params old new found plain h =
    let bare = subst IsPlain h.1.is plain in
    (subst (ShowsRows old new sql h.0 (timed params h.0.formats h.1.now) found) bare.0 h.2).3

-- a plain query of a connection that holds rows
module _ (sql : List ℕ) (params : Row) (old new : State) (rows : Rows) (plain : IsPlain (understood docket_schema sql)) (was : HasCleanDisk old → IsSettled old rows)
    (crash : Survives old new (CommitsShowing sql params old)) where
  before : HasCleanDisk new → HasCleanDisk old
  before clean = omega (arith, crash.clean)

  plainly : HasCleanDisk old → IsPlain (understood old.now.schema sql)
  plainly clean = subst (λ s. IsPlain (understood s sql)) (sym (was clean).shows.schema) plain

  reads_only : Survives old new (λ _. ⊥)
  reads_only = survives_weaker old new _ _ (λ clean db. never_commits sql params old db (plainly (before clean))) crash

  pub read_settled : (found : List Row) → (HasCleanDisk new → Shown sql params old new found) → HasCleanDisk new → IsSettled new rows
  read_settled found shown clean = unchanged_settled old new rows reads_only clean (was (before clean)) (shown_unchanged sql params old new found (plainly (before clean)) (shown clean))

  pub read_lasting : (e : Error) → (HasCleanDisk new → FailsToQuery sql params old new e) → HasCleanDisk new → IsLasting new rows
  read_lasting e fails clean = undone_lasting old new rows reads_only clean (was (before clean)) (failed_query sql params old new e (plainly (before clean)) (fails clean))
