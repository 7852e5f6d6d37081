use Rattle.std.proofs.Common.{◌≡◌, [], Some, ap, sym, subst, arith, refl, rules}
use Rattle.sqlite.specs.Held.{state}
use Rattle.sqlite.specs.State.{HasCleanDisk}
use Rattle.sqlite.specs.declared.error.Error.{Error}
use Rattle.docket_decisions.specs.Tables.{rows_of}
use Rattle.docket_tables.specs.Causes.{IsCausedMaking}
use Rattle.docket_tables.specs.Contents.{rows_in}
use Rattle.docket_tables.specs.Layouts.{Rows}
use Rattle.docket_tables.specs.Schema.{no_schema}
use Rattle.docket_tables.specs.Stands.{Sees, HoldsRows, MakesNothing, MayMake}
use Rattle.docket_tables.specs.declared.fault.StoreFault.{StoreFault}
use Rattle.docket_tables.specs.declared.fault.StoreFault.TheVariants.{StoreFailed}
use Rattle.docket_tables.proofs.CommitLemmas.{LeavesCommit, left_undone, nothing_made, made, may_be_made}
use Rattle.docket_tables.proofs.MakingCauses.{caused_since, commit_caused, making_after, told_making}
use Rattle.docket_tables.proofs.creation.make.Goals as goal

pub returns-in-Err-clause-made : goal.returns-in-Err-clause-made
returns-in-Err-clause-made g c =
    let start = state g.S.Store c.args.conn.now in
    let begun = state g.S.Store c.transaction-tx.result.conn.now in
    let last = state g.S.Store c.define_docket.new.tx.conn.now in
    let end = c.drop-tx.new.self.0 in
    let rows : Rows = rows_in c.args.court.now (rows_of c.args.court.now []) in
    let begins = ap (state g.S.Store) c.transaction-tx.ensures.begun in
    let nothing : MakesNothing g.S.Store c.args.conn.now end = (
      c.drop-tx.ensures.ended,
      λ clean. left_undone start begun last (state g.S.Store end) begins c.define_docket.ensures.inside.survives clean c.drop-tx.ensures.survives,
    ) in
    let same : end ≡ c.conn-1.given.0 = search rules in
    nothing_made g.S.Store c.args.conn.now c.conn-1.given.0 rows c.undone_fault.result (subst (MakesNothing g.S.Store c.args.conn.now) same nothing)

pub returns-in-Ok-clause-made : goal.returns-in-Ok-clause-made
returns-in-Ok-clause-made g c =
    let start = state g.S.Store c.args.conn.now in
    let begun = state g.S.Store c.transaction-tx.result.conn.now in
    let last = state g.S.Store c.define_docket.new.tx.conn.now in
    let end = c.commit.new.self.0 in
    let rows : Rows = rows_in c.args.court.now (rows_of c.args.court.now []) in
    let begins = ap (state g.S.Store) c.transaction-tx.ensures.begun in
    let law : LeavesCommit (state g.S.Store end) = λ db is_open may. g.met.S.Store.settled end.store db is_open may in
    let bare = subst (λ s. s.now.schema ≡ no_schema) (sym begins) c.requires.bare in
    let holds : HoldsRows g.S.Store end rows = (
      c.commit.ensures.ended,
      λ clean.
          let sees : Sees last rows = c.in_default.ensures.ok (omega (arith, c.commit.ensures.survives.clean)) bare in
          made start begun last (state g.S.Store end) begins c.define_docket.ensures.inside.survives rows law sees (c.in-Ok.ensures.ok clean).1,
    ) in
    let same : end ≡ c.conn-2-1.given.0 = search rules in
    subst (λ h. HoldsRows g.S.Store h rows) same holds

pub returns-in-Err-commit-clause-made : goal.returns-in-Err-commit-clause-made
returns-in-Err-commit-clause-made g c =
    let start = state g.S.Store c.args.conn.now in
    let begun = state g.S.Store c.transaction-tx.result.conn.now in
    let last = state g.S.Store c.define_docket.new.tx.conn.now in
    let end = c.commit.new.self.0 in
    let rows : Rows = rows_in c.args.court.now (rows_of c.args.court.now []) in
    let begins = ap (state g.S.Store) c.transaction-tx.ensures.begun in
    let bare = subst (λ s. s.now.schema ≡ no_schema) (sym begins) c.requires.bare in
    let may : MayMake g.S.Store c.args.conn.now end rows = (
      c.commit.ensures.ended,
      λ clean.
          let sees : Sees last rows = c.in_default.ensures.ok (omega (arith, c.commit.ensures.survives.clean)) bare in
          may_be_made start begun last (state g.S.Store end) begins c.define_docket.ensures.inside.survives rows clean sees c.commit.ensures.survives,
    ) in
    let same : end ≡ c.conn-2-1.given.0 = search rules in
    subst (λ h. MayMake g.S.Store c.args.conn.now h rows) same may

pub returns-in-Err-clause-cause : goal.returns-in-Err-clause-cause
returns-in-Err-clause-cause g c =
    let start = state g.S.Store c.args.conn.now in
    let begun = state g.S.Store c.transaction-tx.result.conn.now in
    let last = state g.S.Store c.define_docket.new.tx.conn.now in
    let end = c.drop-tx.new.self.0 in
    let e : Error = c.in-Err.error in
    let fault : StoreFault = c.undone_fault.result in
    let begins = ap (state g.S.Store) c.transaction-tx.ensures.begun in
    let bare = subst (λ s. s.now.schema ≡ no_schema) (sym begins) c.requires.bare in
    let on = ap (λ s. s.in_transaction) begins in
    let told : HasCleanDisk (state g.S.Store end) → IsCausedMaking start (state g.S.Store end) (Some e) fault =
    λ clean.
    let cause = c.in-Err.ensures.cause (omega (arith, clean, c.drop-tx.ensures.survives.clean)) bare on in
    told_making start (state g.S.Store end) (Some e) e fault refl c.undone_fault.ensures.other
    (caused_since start begun last (state g.S.Store end) e begins c.drop-tx.ensures.survives.counts cause) in
    let same : end ≡ c.conn-1.given.0 = search rules in
    subst (λ h. HasCleanDisk (state g.S.Store h) → IsCausedMaking start (state g.S.Store h) (Some e) fault) same told

pub returns-in-Err-commit-clause-cause : goal.returns-in-Err-commit-clause-cause
returns-in-Err-commit-clause-cause g c =
    let start = state g.S.Store c.args.conn.now in
    let begun = state g.S.Store c.transaction-tx.result.conn.now in
    let last = state g.S.Store c.define_docket.new.tx.conn.now in
    let end = c.commit.new.self.0 in
    let e : Error = c.in-Err-commit.error in
    let begins = ap (state g.S.Store) c.transaction-tx.ensures.begun in
    let bare = subst (λ s. s.now.schema ≡ no_schema) (sym begins) c.requires.bare in
    let told : HasCleanDisk (state g.S.Store end) → IsCausedMaking start (state g.S.Store end) (Some e) StoreFailed =
    λ clean.
    let sees = c.in_default.ensures.ok (omega (arith, clean, c.commit.ensures.survives.clean)) bare in
    let inside = c.define_docket.ensures.inside.survives in
    let cause = commit_caused last (state g.S.Store end) e sees.begun (c.in-Err-commit.ensures.err clean) in (
      e,
      refl,
      caused_since start begun (state g.S.Store end) (state g.S.Store end) e begins (omega arith)
          (making_after begun last (state g.S.Store end) (state g.S.Store end) e inside.counts (omega arith) inside.limit (λ _. sees.shows.is_open) cause),
    ) in
    let same : end ≡ c.conn-2-1.given.0 = search rules in
    subst (λ h. HasCleanDisk (state g.S.Store h) → IsCausedMaking start (state g.S.Store h) (Some e) StoreFailed) same told
