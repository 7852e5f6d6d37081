use Rattle.docket_tables.proofs.CauseLemmas.{inside_caused}
use Rattle.docket_tables.specs.Causes.{IsCaused}
use Rattle.sqlite.specs.State.{FailsToQuery, IsTooLate}
use Rattle.std.proofs.Common.{◌∙◌, ◌⊎◌, inl, inr, sym, subst, IfErr, Ok, Err, true≢false}
use Rattle.std.proofs.lemmas.Result.{IfOk-weaker}
use Rattle.sqlite.specs.Given.{IsPlain}
use Rattle.sqlite.specs.Held.{state}
use Rattle.sqlite.specs.Listing.{understood}
use Rattle.sqlite.specs.Values.{bound}
use Rattle.docket_tables.specs.Schema.{docket_schema}
use Rattle.docket_tables.proofs.InsideLemmas.{asks_inside, sees_still}
use Rattle.docket_tables.proofs.QueryLemmas.{select_means, answered}
use Rattle.docket_tables.proofs.store.ask_inside.Goals as goal

pub returns-clause-inside : goal.returns-clause-inside
returns-clause-inside g c rows sees =
    let old = state g.S.Store c.args.tx.now.conn.now in
    let new = state g.S.Store c.query_all.new.self.conn.now in
    let plain = subst (λ t. IsPlain (understood docket_schema t)) (sym c.select_text.ensures) (select_means c.args.query).plain in
    asks_inside c.select_text.result.now (bound c.args.values.now) old new plain rows (λ found. found.items) c.query_all.result c.query_all.ensures.survives sees c.query_all.ensures.ok c.query_all.ensures.err

pub returns-clause-ok : goal.returns-clause-ok
returns-clause-ok g c clean rows sees =
    let old = state g.S.Store c.args.tx.now.conn.now in
    let new = state g.S.Store c.query_all.new.self.conn.now in
    let plain = subst (λ t. IsPlain (understood docket_schema t)) (sym c.select_text.ensures) (select_means c.args.query).plain in
    IfOk-weaker c.query_all.result _ _ (λ found shown. (
      sees_still c.select_text.result.now (bound c.args.values.now) old new plain rows found.items sees shown,
      answered c.args.query (bound c.args.values.now) rows old new found.items sees.shows.schema sees.shows.holds (rw c.select_text.ensures at shown),
    )) (c.query_all.ensures.ok clean)

pub returns-clause-cause : goal.returns-clause-cause
returns-clause-cause g c clean rows sees suits =
    let old = state g.S.Store c.args.tx.now.conn.now in
    let new = state g.S.Store c.query_all.new.self.conn.now in
    let sql = c.select_text.result.now in
    let params = bound c.args.values.now in
    elim c.query_all.result as (λ r. IfErr r (λ e. FailsToQuery sql params old new e ⊎ IsTooLate sql params old new e) → IfErr r (IsCaused old new)) [
      | Ok found ↦ λ _. tt
      | Err e ↦ λ failed. elim failed [
        | inl fails ↦ inside_caused c.args.query params rows old new e sees suits (rw c.select_text.ensures at fails)
        | inr late ↦ absurd (true≢false (sym sees.begun ∙ late.3))
      ]
    ] (c.query_all.ensures.err clean)
