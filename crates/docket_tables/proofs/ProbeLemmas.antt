-- The empty statement, prepared: it writes nothing, and answers only where the connection is open.
use Rattle.std.proofs.Common.{◌⊎◌, inl, inr, ℕ, List}
use Rattle.sqlite.specs.Order.{Row}
use Rattle.sqlite.specs.Tree.{Trees}
use Rattle.sqlite.specs.declared.error.Error.{Error}
use Rattle.sqlite.specs.State.{State, HasCleanDisk, Survives, IsUnchanged, IsRolledBack, IsNotRun}
use Rattle.docket_tables.specs.Layouts.{Rows}
use Rattle.docket_tables.specs.Stands.{IsImage, IsSettled, IsEither}
use Rattle.docket_tables.proofs.StandsLemmas.{unchanged_settled, undone_lasting}

-- a statement that is not run leaves the connection as it was, or rolled back
pub not_run : (sql : List ℕ) (params : Row) (old new : State) (e : Error) → IsNotRun old new sql params e → IsUnchanged old new ⊎ IsRolledBack old new
unfolding IsNotRun
not_run sql params old new e (inl never) = inl never.1
not_run sql params old new e (inr fails) = inr fails.3

module _ (old new : State) (rows next : Rows) (crash : Survives old new (λ _. ⊥)) (clean : HasCleanDisk new) (was : IsEither old rows next) where
  images_last : (db : Trees) → new.may_leave db → IsImage rows db ⊎ IsImage next db
  images_last db may = elim (crash.crash clean db may) [ inl earlier ↦ was.images db earlier | inr none ↦ absurd none ]

  -- the connection is open, and was
  pub probe_alive : IsUnchanged old new → IsSettled new rows
  probe_alive same = unchanged_settled old new rows crash clean (was.settled same.0.was_open) same

  pub probed : IsUnchanged old new ⊎ IsRolledBack old new → IsEither new rows next
  probed (inl same) = record { images = images_last; settled = λ _. probe_alive same }
  probed (inr undone) = record {
    images = images_last;
    settled = λ is_open. (undone_lasting old new rows crash clean (was.settled (undone.was_open is_open)) (inr undone)).settled is_open;
  }
