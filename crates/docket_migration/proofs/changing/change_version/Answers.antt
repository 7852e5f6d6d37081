use Rattle.std.proofs.Common.{◌≡◌, ◌⊎◌, inl, inr, Err, ap, subst, arith, rules}
use Rattle.sqlite.specs.Held.{state}
use Rattle.sqlite.specs.State.{HasCleanDisk}
use Rattle.sqlite.specs.Tree.{Trees}
use Rattle.docket_tables.specs.Stands.{HoldsRows, MakesNothing, Sees}
use Rattle.docket_tables.proofs.CommitLemmas.{LeavesCommit, left_undone, made, may_be_made}
use Rattle.docket_migration.specs.Changing.{Changes, IsEitherVersion}
use Rattle.docket_migration.specs.Keeping.{HasGone, IsCommitted, IsImageOfGone}
use Rattle.docket_migration.specs.Moving.{moved}
use Rattle.docket_migration.proofs.GoneLemmas.{apart_begun, gone_and_kept, has_begun, may_have_gone}
use Rattle.docket_migration.proofs.GrowLemmas.{none_yet}
use Rattle.docket_migration.proofs.SettleLemmas.{left_clean, nothing_changed}
use Rattle.docket_migration.proofs.changing.change_version.Goals as goal

pub returns-in-Err-clause-changed : goal.returns-in-Err-clause-changed
returns-in-Err-clause-changed g c court next rows one was =
    let start = state g.S.Store c.args.conn.now in
    let begun = state g.S.Store c.transaction-tx.result.conn.now in
    let last = state g.S.Store c.change_checked.new.tx.conn.now in
    let end = c.drop-tx.new.self.0 in
    let begins = ap (state g.S.Store) c.transaction-tx.ensures.begun in
    let nothing : MakesNothing g.S.Store c.args.conn.now end = (
      c.drop-tx.ensures.ended,
      λ clean. left_undone start begun last (state g.S.Store end) begins c.change_checked.ensures.survives clean c.drop-tx.ensures.survives,
    ) in
    let since = left_clean start begun last (state g.S.Store end) _ begins c.change_checked.ensures.survives c.drop-tx.ensures.survives in
    let same : end ≡ c.conn-1.given.0 = search rules in
    subst (λ h. Changes g.S.Store c.args.conn.now h rows (moved court next rows) (Err c.undone_fault.result)) same
    (nothing_changed g.S.Store c.args.conn.now end rows (moved court next rows) c.undone_fault.result was since nothing)

pub returns-in-Ok-clause-changed : goal.returns-in-Ok-clause-changed
returns-in-Ok-clause-changed g c court next rows one was =
    let start = state g.S.Store c.args.conn.now in
    let begun = state g.S.Store c.transaction-tx.result.conn.now in
    let last = state g.S.Store c.change_checked.new.tx.conn.now in
    let end = c.commit.new.self.0 in
    let begins = ap (state g.S.Store) c.transaction-tx.ensures.begun in
    let law : LeavesCommit (state g.S.Store end) = λ db is_open may. g.met.S.Store.settled end.store db is_open may in
    let since = left_clean start begun last (state g.S.Store end) _ begins c.change_checked.ensures.survives c.commit.ensures.survives in
    let holds : HoldsRows g.S.Store end (moved court next rows) = (
      c.commit.ensures.ended,
      λ clean.
          let sees : Sees last (moved court next rows) =
          c.in_default.ensures.ok (omega (arith, c.commit.ensures.survives.clean)) court next rows one (none_yet start begun rows (was.1 (omega (arith, since, clean))) begins) in
          made start begun last (state g.S.Store end) begins c.change_checked.ensures.survives (moved court next rows) law sees (c.in-Ok.ensures.ok clean).1,
    ) in
    let same : end ≡ c.conn-2-1.given.0 = search rules in
    subst (λ h. HoldsRows g.S.Store h (moved court next rows)) same holds

pub returns-in-Err-commit-clause-changed : goal.returns-in-Err-commit-clause-changed
returns-in-Err-commit-clause-changed g c court next rows one was =
    let start = state g.S.Store c.args.conn.now in
    let begun = state g.S.Store c.transaction-tx.result.conn.now in
    let last = state g.S.Store c.change_checked.new.tx.conn.now in
    let end = c.commit.new.self.0 in
    let begins = ap (state g.S.Store) c.transaction-tx.ensures.begun in
    let since = left_clean start begun last (state g.S.Store end) _ begins c.change_checked.ensures.survives c.commit.ensures.survives in
    let either : IsEitherVersion g.S.Store end rows (moved court next rows) = (
      c.commit.ensures.ended,
      λ clean db may.
          let held = was.1 (omega (arith, since, clean)) in
          let sees : Sees last (moved court next rows) = c.in_default.ensures.ok (omega (arith, c.commit.ensures.survives.clean)) court next rows one (none_yet start begun rows held begins) in
          elim (may_be_made start begun last (state g.S.Store end) begins c.change_checked.ensures.survives (moved court next rows) clean sees c.commit.ensures.survives db may) [
            | inl before ↦ inl (held.images db before)
            | inr next_one ↦ inr next_one
          ],
    ) in
    let same : end ≡ c.conn-2-1.given.0 = search rules in
    subst (λ h. IsEitherVersion g.S.Store h rows (moved court next rows)) same either

pub returns-in-Err-clause-may_go : goal.returns-in-Err-clause-may_go
returns-in-Err-clause-may_go g c has apart =
    let start = state g.S.Store c.args.conn.now in
    let begun = state g.S.Store c.transaction-tx.result.conn.now in
    let last = state g.S.Store c.change_checked.new.tx.conn.now in
    let end = c.drop-tx.new.self.0 in
    let begins = ap (state g.S.Store) c.transaction-tx.ensures.begun in
    let same : end ≡ c.conn-1.given.0 = search rules in
    subst (λ h. HasCleanDisk (state g.S.Store h) → (db : Trees) → (state g.S.Store h).may_leave db → start.may_leave db ⊎ IsImageOfGone start db) same
    (λ clean db may. inl (left_undone start begun last (state g.S.Store end) begins c.change_checked.ensures.survives clean c.drop-tx.ensures.survives db may))

pub returns-in-Ok-clause-gone : goal.returns-in-Ok-clause-gone
returns-in-Ok-clause-gone g c has apart =
    let start = state g.S.Store c.args.conn.now in
    let begun = state g.S.Store c.transaction-tx.result.conn.now in
    let last = state g.S.Store c.change_checked.new.tx.conn.now in
    let end = c.commit.new.self.0 in
    let begins = ap (state g.S.Store) c.transaction-tx.ensures.begun in
    let law : LeavesCommit (state g.S.Store end) = λ db is_open may. g.met.S.Store.settled end.store db is_open may in
    let same : end ≡ c.conn-2-1.given.0 = search rules in
    subst (λ h. HasCleanDisk (state g.S.Store h) → HasGone start (state g.S.Store h) × IsCommitted (state g.S.Store h)) same
    (λ clean.
    let it = c.in_default.ensures.any (omega (arith, c.commit.ensures.survives.clean)) (has_begun start begun begins has) (apart_begun start begun begins apart) in
    gone_and_kept start begun last (state g.S.Store end) begins it (c.in-Ok.ensures.ok clean).1 law)

pub returns-in-Err-commit-clause-may_go : goal.returns-in-Err-commit-clause-may_go
returns-in-Err-commit-clause-may_go g c has apart =
    let start = state g.S.Store c.args.conn.now in
    let begun = state g.S.Store c.transaction-tx.result.conn.now in
    let last = state g.S.Store c.change_checked.new.tx.conn.now in
    let end = c.commit.new.self.0 in
    let begins = ap (state g.S.Store) c.transaction-tx.ensures.begun in
    let same : end ≡ c.conn-2-1.given.0 = search rules in
    subst (λ h. HasCleanDisk (state g.S.Store h) → (db : Trees) → (state g.S.Store h).may_leave db → start.may_leave db ⊎ IsImageOfGone start db) same
    (λ clean db may.
    let it = c.in_default.ensures.any (omega (arith, c.commit.ensures.survives.clean)) (has_begun start begun begins has) (apart_begun start begun begins apart) in
    may_have_gone start begun last (state g.S.Store end) begins c.change_checked.ensures.survives it clean c.commit.ensures.survives db may)
