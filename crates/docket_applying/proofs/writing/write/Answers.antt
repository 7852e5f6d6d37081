use Rattle.sqlite.specs.declared.error.Error.{Error}
use Rattle.std.proofs.lemmas.Result.{IfErr-weaker}
use Rattle.docket_applying.proofs.WritingCauses.{change_since, later_at_end}
use Rattle.docket_tables.proofs.MakingCauses.{commit_caused, open_caused}
use Rattle.docket_tables.proofs.ChangeCauses.{change_after, change_passed}
use Rattle.docket_tables.specs.Causes.{HasChangeCause, IsLater}
use Rattle.std.proofs.Common.{◌≡◌, [], IsTrue, false, Ok, Err, MatchResult, IfErr, OnOk, inl, ap, sym, subst, arith, rules}
use Rattle.sqlite.specs.State.{HasCleanDisk, KeepsCounts, Shows as Turns}
use Rattle.sqlite.specs.Steps.{FailsToCommit}
use Rattle.sqlite.specs.Held.{state}
use Rattle.docket_decisions.specs.EndRows.{end_rows}
use Rattle.docket_decisions.specs.Tables.{Tables}
use Rattle.docket_tables.specs.AnyRows.{recorded, with_stored}
use Rattle.docket_tables.specs.Contents.{rows_in}
use Rattle.docket_tables.specs.Layouts.{Rows}
use Rattle.docket_applying.specs.Settling.{updated_ends}
use Rattle.docket_tables.specs.Stands.{Sees, HoldsRows, LastsAsEither, StaysInside}
use Rattle.docket_tables.proofs.CommitLemmas.{begins_seeing, when_err, LeavesCommit, dropped, committed, not_committed}
use Rattle.docket_tables.proofs.EndLemmas.{sees_permuted}
use Rattle.docket_applying.proofs.WholeLemmas.{may_update, updated}
use Rattle.docket_tables.specs.Changing.{with_changes}
use Rattle.docket_applying.proofs.writing.write.Goals as goal

pub returns-in_err-fill-clause-either : goal.returns-in_err-fill-clause-either
returns-in_err-fill-clause-either g c t small holds ready =
    let court = c.args.court.now in
    let start = state g.S.Store c.args.conn.now in
    let begun = state g.S.Store c.transaction-tx.result.conn.now in
    let last = state g.S.Store c.fill.new.tx.conn.now in
    let end = c.drop-tx.new.self.0 in
    let then : Tables = with_changes c.args.command.now c.args.changes.now t in
    let rows : Rows = rows_in court t in
    let next : Rows = rows_in court then in
    let begins = ap (state g.S.Store) c.transaction-tx.ensures.begun in
    let either : LastsAsEither g.S.Store end rows next = (
      c.drop-tx.ensures.ended,
      λ clean.
          let before : HasCleanDisk last = omega (arith, c.drop-tx.ensures.survives.clean) in
          let at_begin : HasCleanDisk begun = omega (arith, c.fill.ensures.clean) in
          let at_start : HasCleanDisk start = subst HasCleanDisk begins at_begin in
          let facts = ready at_start in
          let was = holds.1 at_start in
          let inside : StaysInside begun last = (c.fill.ensures.inside t (end_rows court t) small (may_update court c.args.changes.now.ends t then facts) (λ _. begins_seeing start begun rows was begins)).0 in
          dropped start begun last (state g.S.Store end) rows next was begins (inside.kept before) inside.survives (λ db is_open may. g.met.S.Store.settled end.store db is_open may) clean
          c.drop-tx.ensures.survives (c.drop-tx.ensures.undone clean),
    ) in
    let same : end ≡ c.conn-1.given.0 = search rules in
    when_err c.from_residual.result _ _ c.from_residual.ensures.0 (subst (λ h. LastsAsEither g.S.Store h rows next) same either)

pub returns-clause-either : goal.returns-clause-either
returns-clause-either g c t small holds ready =
    let court = c.args.court.now in
    let start = state g.S.Store c.args.conn.now in
    let begun = state g.S.Store c.transaction-tx.result.conn.now in
    let last = state g.S.Store c.fill.new.tx.conn.now in
    let end = c.commit.new.self.0 in
    let then : Tables = with_changes c.args.command.now c.args.changes.now t in
    let rows : Rows = rows_in court t in
    let next : Rows = rows_in court then in
    let begins = ap (state g.S.Store) c.transaction-tx.ensures.begun in
    let law : LeavesCommit (state g.S.Store end) = λ db is_open may. g.met.S.Store.settled end.store db is_open may in
    let before : HasCleanDisk (state g.S.Store end) → HasCleanDisk last = λ clean. omega (arith, c.commit.ensures.survives.clean) in
    let at_start : HasCleanDisk (state g.S.Store end) → HasCleanDisk start = λ clean.
    let there = before clean in
    let at_begin : HasCleanDisk begun = omega (arith, c.fill.ensures.clean) in
    subst HasCleanDisk begins at_begin in
    let was = λ (clean : HasCleanDisk (state g.S.Store end)). holds.1 (at_start clean) in
    let done = λ (clean : HasCleanDisk (state g.S.Store end)). let facts = ready (at_start clean) in
    c.in_ok-fill.ensures.inside t (end_rows court t) small (may_update court c.args.changes.now.ends t then facts) (λ _. begins_seeing start begun rows (was clean) begins) in
    let sees : HasCleanDisk (state g.S.Store end) → Sees last next = λ clean.
    sees_permuted last court then (updated_ends court c.args.changes.now.ends then (end_rows court t)) (end_rows court then) (updated court c.args.changes.now.ends t then (ready (at_start clean))) ((done clean).1 (before clean)).0 in
    let same : end ≡ c.conn-2-1.given.0 = search rules in
    let ended = elim c.commit.result as (λ r. (HasCleanDisk (state g.S.Store end) → OnOk r (IsTrue last.in_transaction × Turns last (state g.S.Store end) last.now last.now false × KeepsCounts last (state g.S.Store end) × ((state g.S.Store end).marks ≡ []))) → (HasCleanDisk (state g.S.Store end) → IfErr r (FailsToCommit last (state g.S.Store end))) → MatchResult r (λ _. HoldsRows g.S.Store end next) (λ _. LastsAsEither g.S.Store end rows next)) [
      | Ok u ↦ λ ok err. (c.commit.ensures.ended, λ clean. committed start begun last (state g.S.Store end) rows next (was clean) begins ((done clean).0.kept (before clean)) (done clean).0.survives law (sees clean) (ok clean).1)
      | Err e ↦ λ ok err. (
        c.commit.ensures.ended,
        λ clean.
            not_committed start begun last (state g.S.Store end) rows next (was clean) begins ((done clean).0.kept (before clean)) (done clean).0.survives law clean (sees clean) c.commit.ensures.survives e (err clean),
      )
    ] c.commit.ensures.ok c.commit.ensures.err in
    subst (λ h. MatchResult c.commit.result (λ _. HoldsRows g.S.Store h next) (λ _. LastsAsEither g.S.Store h rows next)) same ended

pub returns-in_err-fill-clause-any : goal.returns-in_err-fill-clause-any
returns-in_err-fill-clause-any g c n stored rows are small holds =
    let start = state g.S.Store c.args.conn.now in
    let begun = state g.S.Store c.transaction-tx.result.conn.now in
    let last = state g.S.Store c.fill.new.tx.conn.now in
    let end = c.drop-tx.new.self.0 in
    let left = c.fill.ensures.any n stored rows are small in
    let next : Rows = with_stored left.0 (recorded c.args.court.now n c.args.command.now c.args.changes.now.reply c.args.changes.now.rows.items rows) in
    let begins = ap (state g.S.Store) c.transaction-tx.ensures.begun in
    let either : LastsAsEither g.S.Store end rows next = (
      c.drop-tx.ensures.ended,
      λ clean.
          let before : HasCleanDisk last = omega (arith, c.drop-tx.ensures.survives.clean) in
          let at_begin : HasCleanDisk begun = omega (arith, c.fill.ensures.clean) in
          let was = holds.1 (subst HasCleanDisk begins at_begin) in
          let inside : StaysInside begun last = (left.2 (λ _. begins_seeing start begun rows was begins)).0 in
          dropped start begun last (state g.S.Store end) rows next was begins (inside.kept before) inside.survives (λ db is_open may. g.met.S.Store.settled end.store db is_open may) clean
          c.drop-tx.ensures.survives (c.drop-tx.ensures.undone clean),
    ) in
    let same : end ≡ c.conn-1.given.0 = search rules in
    (left.0, left.1, when_err c.from_residual.result _ _ c.from_residual.ensures.0 (subst (λ h. LastsAsEither g.S.Store h rows next) same either))

pub returns-clause-any : goal.returns-clause-any
returns-clause-any g c n stored rows are small holds =
    let start = state g.S.Store c.args.conn.now in
    let begun = state g.S.Store c.transaction-tx.result.conn.now in
    let last = state g.S.Store c.fill.new.tx.conn.now in
    let end = c.commit.new.self.0 in
    let left = c.in_ok-fill.ensures.any n stored rows are small in
    let next : Rows = with_stored left.0 (recorded c.args.court.now n c.args.command.now c.args.changes.now.reply c.args.changes.now.rows.items rows) in
    let begins = ap (state g.S.Store) c.transaction-tx.ensures.begun in
    let law : LeavesCommit (state g.S.Store end) = λ db is_open may. g.met.S.Store.settled end.store db is_open may in
    let before : HasCleanDisk (state g.S.Store end) → HasCleanDisk last = λ clean. omega (arith, c.commit.ensures.survives.clean) in
    let at_start : HasCleanDisk (state g.S.Store end) → HasCleanDisk start = λ clean.
    let there = before clean in
    let at_begin : HasCleanDisk begun = omega (arith, c.fill.ensures.clean) in
    subst HasCleanDisk begins at_begin in
    let was = λ (clean : HasCleanDisk (state g.S.Store end)). holds.1 (at_start clean) in
    let done = λ (clean : HasCleanDisk (state g.S.Store end)). left.2 (λ _. begins_seeing start begun rows (was clean) begins) in
    let sees : HasCleanDisk (state g.S.Store end) → Sees last next = λ clean. ((done clean).1 (before clean)).0 in
    let same : end ≡ c.conn-2-1.given.0 = search rules in
    let ended = elim c.commit.result as (λ r. (HasCleanDisk (state g.S.Store end) → OnOk r (IsTrue last.in_transaction × Turns last (state g.S.Store end) last.now last.now false × KeepsCounts last (state g.S.Store end) × ((state g.S.Store end).marks ≡ []))) → (HasCleanDisk (state g.S.Store end) → IfErr r (FailsToCommit last (state g.S.Store end))) → MatchResult r (λ _. HoldsRows g.S.Store end next) (λ _. LastsAsEither g.S.Store end rows next)) [
      | Ok u ↦ λ ok err. (c.commit.ensures.ended, λ clean. committed start begun last (state g.S.Store end) rows next (was clean) begins ((done clean).0.kept (before clean)) (done clean).0.survives law (sees clean) (ok clean).1)
      | Err e ↦ λ ok err. (
        c.commit.ensures.ended,
        λ clean.
            not_committed start begun last (state g.S.Store end) rows next (was clean) begins ((done clean).0.kept (before clean)) (done clean).0.survives law clean (sees clean) c.commit.ensures.survives e (err clean),
      )
    ] c.commit.ensures.ok c.commit.ensures.err in
    (left.0, left.1, subst (λ h. MatchResult c.commit.result (λ _. HoldsRows g.S.Store h next) (λ _. LastsAsEither g.S.Store h rows next)) same ended)

pub returns-in_err-fill-clause-cause : goal.returns-in_err-fill-clause-cause
returns-in_err-fill-clause-cause g c clean t small holds update written =
    let court = c.args.court.now in
    let start = state g.S.Store c.args.conn.now in
    let begun = state g.S.Store c.transaction-tx.result.conn.now in
    let last = state g.S.Store c.fill.new.tx.conn.now in
    let end = c.drop-tx.new.self.0 in
    let then : Tables = with_changes c.args.command.now c.args.changes.now t in
    let rows : Rows = rows_in court t in
    let begins = ap (state g.S.Store) c.transaction-tx.ensures.begun in
    let same : end ≡ c.conn-1.given.0 = search rules in
    let ended : HasCleanDisk (state g.S.Store end) = subst (λ h. HasCleanDisk (state g.S.Store h)) (sym same) clean in
    let before : HasCleanDisk last = omega (arith, ended, c.drop-tx.ensures.survives.clean) in
    let at_begin : HasCleanDisk begun = omega (arith, before, c.fill.ensures.clean) in
    let was = holds.1 (subst HasCleanDisk begins at_begin) in
    let e = c.in_err-fill.field-0.0 in
    let cause = c.in_err-fill.ensures.cause before t (end_rows court t) small (may_update court c.args.changes.now.ends t then update) written (begins_seeing start begun rows was begins) in
    change_passed start (state g.S.Store c.conn-1.given.0) e c.from_residual.result c.from_residual.ensures.1
    (subst (λ h. HasChangeCause start (state g.S.Store h) e) same (change_since start begun last (state g.S.Store end) e begins c.drop-tx.ensures.survives.counts cause))

pub returns-clause-cause : goal.returns-clause-cause
returns-clause-cause g c clean t small holds update written =
    let court = c.args.court.now in
    let start = state g.S.Store c.args.conn.now in
    let begun = state g.S.Store c.transaction-tx.result.conn.now in
    let last = state g.S.Store c.fill.new.tx.conn.now in
    let end = c.commit.new.self.0 in
    let then : Tables = with_changes c.args.command.now c.args.changes.now t in
    let rows : Rows = rows_in court t in
    let begins = ap (state g.S.Store) c.transaction-tx.ensures.begun in
    let same : end ≡ c.conn-2-1.given.0 = search rules in
    let ended : HasCleanDisk (state g.S.Store end) = subst (λ h. HasCleanDisk (state g.S.Store h)) (sym same) clean in
    let before : HasCleanDisk last = omega (arith, ended, c.commit.ensures.survives.clean) in
    let at_begin : HasCleanDisk begun = omega (arith, before, c.fill.ensures.clean) in
    let was = holds.1 (subst HasCleanDisk begins at_begin) in
    let done = c.in_ok-fill.ensures.inside t (end_rows court t) small (may_update court c.args.changes.now.ends t then update) (λ _. begins_seeing start begun rows was begins) in
    let sees = (done.1 before).0 in
    let caused : (e : Error) → FailsToCommit last (state g.S.Store end) e → HasChangeCause start (state g.S.Store end) e =
    λ e fails.
    let cause : HasChangeCause last (state g.S.Store end) e = inl (open_caused last (state g.S.Store end) e sees.shows.is_open (commit_caused last (state g.S.Store end) e sees.begun fails)) in
    change_since start begun (state g.S.Store end) (state g.S.Store end) e begins (omega arith)
    (change_after begun last (state g.S.Store end) (state g.S.Store end) e done.0.survives.counts (omega arith) done.0.survives.limit cause) in
    subst (λ h. IfErr c.commit.result (HasChangeCause start (state g.S.Store h))) same (IfErr-weaker c.commit.result _ _ caused (c.commit.ensures.err ended))

pub returns-in_err-fill-clause-later : goal.returns-in_err-fill-clause-later
returns-in_err-fill-clause-later g c clean t small holds update =
    let court = c.args.court.now in
    let start = state g.S.Store c.args.conn.now in
    let begun = state g.S.Store c.transaction-tx.result.conn.now in
    let last = state g.S.Store c.fill.new.tx.conn.now in
    let end = c.drop-tx.new.self.0 in
    let then : Tables = with_changes c.args.command.now c.args.changes.now t in
    let rows : Rows = rows_in court t in
    let begins = ap (state g.S.Store) c.transaction-tx.ensures.begun in
    let same : end ≡ c.conn-1.given.0 = search rules in
    let ended : HasCleanDisk (state g.S.Store end) = subst (λ h. HasCleanDisk (state g.S.Store h)) (sym same) clean in
    let before : HasCleanDisk last = omega (arith, ended, c.drop-tx.ensures.survives.clean) in
    let at_begin : HasCleanDisk begun = omega (arith, before, c.fill.ensures.clean) in
    let was = holds.1 (subst HasCleanDisk begins at_begin) in
    let inside : StaysInside begun last = (c.fill.ensures.inside t (end_rows court t) small (may_update court c.args.changes.now.ends t then update) (λ _. begins_seeing start begun rows was begins)).0 in
    subst (λ h. IsLater start (state g.S.Store h)) same
    (later_at_end start begun last (state g.S.Store end) begins (inside.survives.counts, inside.survives.limit) (c.drop-tx.ensures.survives.counts, c.drop-tx.ensures.survives.limit))

pub returns-clause-later : goal.returns-clause-later
returns-clause-later g c clean t small holds update =
    let court = c.args.court.now in
    let start = state g.S.Store c.args.conn.now in
    let begun = state g.S.Store c.transaction-tx.result.conn.now in
    let last = state g.S.Store c.fill.new.tx.conn.now in
    let end = c.commit.new.self.0 in
    let then : Tables = with_changes c.args.command.now c.args.changes.now t in
    let rows : Rows = rows_in court t in
    let begins = ap (state g.S.Store) c.transaction-tx.ensures.begun in
    let same : end ≡ c.conn-2-1.given.0 = search rules in
    let ended : HasCleanDisk (state g.S.Store end) = subst (λ h. HasCleanDisk (state g.S.Store h)) (sym same) clean in
    let before : HasCleanDisk last = omega (arith, ended, c.commit.ensures.survives.clean) in
    let at_begin : HasCleanDisk begun = omega (arith, before, c.fill.ensures.clean) in
    let was = holds.1 (subst HasCleanDisk begins at_begin) in
    let done = c.in_ok-fill.ensures.inside t (end_rows court t) small (may_update court c.args.changes.now.ends t then update) (λ _. begins_seeing start begun rows was begins) in
    subst (λ h. IsLater start (state g.S.Store h)) same
    (later_at_end start begun last (state g.S.Store end) begins (done.0.survives.counts, done.0.survives.limit) (c.commit.ensures.survives.counts, c.commit.ensures.survives.limit))
