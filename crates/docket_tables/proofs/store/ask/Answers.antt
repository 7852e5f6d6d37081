use Rattle.std.proofs.Common.{IfErr, Ok, Err, sym, subst, arith}
use Rattle.std.proofs.lemmas.Result.{IfOk-weaker}
use Rattle.sqlite.specs.Given.{IsPlain}
use Rattle.sqlite.specs.Held.{state}
use Rattle.sqlite.specs.Listing.{understood}
use Rattle.sqlite.specs.State.{CommitsShowing, FailsToQuery, Survives}
use Rattle.sqlite.specs.Values.{bound}
use Rattle.docket_tables.specs.Causes.{IsCaused}
use Rattle.docket_tables.specs.Schema.{docket_schema}
use Rattle.docket_tables.proofs.CauseLemmas.{question_caused}
use Rattle.docket_tables.proofs.NothingLemmas.{question_writes_nothing}
use Rattle.docket_tables.proofs.QueryLemmas.{select_means, answered}
use Rattle.docket_tables.proofs.store.ask.Goals as goal

pub returns-clause-ok : goal.returns-clause-ok
returns-clause-ok g c rows holds =
    let old = state g.S.Store c.args.conn.now in
    let new = state g.S.Store c.read.new.conn in
    let plain = subst (λ t. IsPlain (understood docket_schema t)) (sym c.select_text.ensures) (select_means c.args.query).plain in
    IfOk-weaker c.read.result _ _ (λ found h. (
      h.0,
      λ clean.
          let was = holds.1 (omega (arith, c.read.ensures.survives.clean)) in
          answered c.args.query (bound c.args.values.now) rows old new found.items was.shows.schema was.shows.holds (rw c.select_text.ensures at (h.1 clean)),
    )) (c.read.ensures.ok rows holds plain)

pub returns-clause-err : goal.returns-clause-err
returns-clause-err g c rows holds = c.read.ensures.err rows holds (subst (λ t. IsPlain (understood docket_schema t)) (sym c.select_text.ensures) (select_means c.args.query).plain)

pub returns-clause-cause : goal.returns-clause-cause
returns-clause-cause g c rows holds suits clean =
    let old = state g.S.Store c.args.conn.now in
    let new = state g.S.Store c.read.new.conn in
    elim c.read.result as (λ r. IfErr r (FailsToQuery c.select_text.result.now (bound c.args.values.now) old new) → IfErr r (IsCaused old new)) [
      | Ok found ↦ λ _. tt
      | Err e ↦ λ fails. question_caused c.args.query (bound c.args.values.now) rows old new e (holds.1 (omega (arith, clean, c.read.ensures.survives.clean))) suits (rw c.select_text.ensures at fails)
    ] (c.read.ensures.fails clean)

pub returns-clause-writes_nothing : goal.returns-clause-writes_nothing
returns-clause-writes_nothing g c =
    let old = state g.S.Store c.args.conn.now in
    let new = state g.S.Store c.read.new.conn in
    let params = bound c.args.values.now in
    question_writes_nothing c.args.query params old new (subst (λ sql. Survives old new (CommitsShowing sql params old)) c.select_text.ensures c.read.ensures.survives)
