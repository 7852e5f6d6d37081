use Rattle.std.proofs.Common.{◌≡◌, Vec, Global, arith, sym, subst, subst₂, rules, IfErr}
use Rattle.sqlite.specs.Given.{HasBegun}
use Rattle.sqlite.specs.State.{CommitsShowing, FailsToQuery, HasCleanDisk, Survives}
use Rattle.sqlite.specs.Held.{state}
use Rattle.sqlite.specs.Values.{bound}
use Rattle.sqlite.proofs.StateLemmas.{survives_then}
use Rattle.sqlite.proofs.Callers.{begun_plain}
use Rattle.docket_history.specs.declared.record.DueRow.{DueRow}
use Rattle.docket_tables.specs.Causes.{IsCausedFault}
use Rattle.docket_tables.proofs.StandsLemmas.{failed_query}
use Rattle.docket_calendar.specs.Asked.{RemainsAfter}
use Rattle.docket_calendar.specs.Gathering.{ComesTo}
use Rattle.docket_calendar.proofs.CauseLemmas.{begins, question_caused}
use Rattle.docket_calendar.proofs.GatherLemmas.{comes_from, remains_later, whole_after}
use Rattle.docket_calendar.proofs.TellLemmas.{lists_still}
use Rattle.docket_calendar.proofs.gathering.gather.Goals as goal

pub returns-in-Ok-clause-survives : goal.returns-in-Ok-clause-survives
returns-in-Ok-clause-survives g c =
    let old = state g.S.Store c.args.conn.now in
    let mid = state g.S.Store c.in-Ok.rows.conn.now in
    let new = state g.S.Store c.gather_all.new.rows.conn.now in
    let both : Survives old new (CommitsShowing c.args.sql.now (bound c.args.values.now) old) =
    survives_then old mid new _ _ _ (λ _ db may. may) (λ _ db none. absurd none) c.in-Ok.ensures.survives c.gather_all.ensures.survives in
    search rules

pub returns-in-Ok-clause-gathers : goal.returns-in-Ok-clause-gathers
returns-in-Ok-clause-gathers g c = λ listed clean lists.
    let old = c.args.conn.now in
    let mid = c.in-Ok.rows.conn.now in
    let new = c.gather_all.new.rows.conn.now in
    let sql = c.args.sql.now in
    let params = bound c.args.values.now in
    let court = c.args.court.now in
    let end : new ≡ c.conn-1.given.0 = search rules in
    let late : HasCleanDisk (state g.S.Store new) = subst (λ h. HasCleanDisk (state g.S.Store h)) (sym end) clean in
    let early : HasCleanDisk (state g.S.Store mid) = omega (arith, c.gather_all.ensures.survives.clean, late) in
    let begun = begun_plain g.S.Store sql params old mid lists.plain (c.in-Ok.ensures.begun early) in
    let comes = c.gather_all.ensures.gathers sql params listed late (lists_still g.S.Store court listed sql params old mid begun.1 lists) (begun.0, omega arith) begun.1.0.is_open in
    let from_old = comes_from g.S.Store court listed old mid new (λ (found : Vec DueRow Global). found.items ≡ listed) c.gather_all.result begun.1 comes in
    subst (λ h. ComesTo g.S.Store old h (λ (found : Vec DueRow Global). found.items ≡ listed) c.gather_all.result) end from_old

pub returns-in-Err-clause-survives : goal.returns-in-Err-clause-survives
returns-in-Err-clause-survives g c = let refused = rw c.in-Err.is at c.query.follows.holds-at-none in refused.survives

pub returns-in-Err-clause-gathers : goal.returns-in-Err-clause-gathers
returns-in-Err-clause-gathers g c = λ listed clean lists.
    let refused = rw c.in-Err.is at c.query.follows.holds-at-none in
    failed_query c.args.sql.now (bound c.args.values.now) (state g.S.Store c.args.conn.now) (state g.S.Store c.query.follows.lender-at-none) c.in-Err.error lists.plain (refused.err clean)

pub returns-in-Ok-clause-remains : goal.returns-in-Ok-clause-remains
returns-in-Ok-clause-remains g c = λ plain clean.
    let old = c.args.conn.now in
    let mid = c.in-Ok.rows.conn.now in
    let new = c.gather_all.new.rows.conn.now in
    let end : new ≡ c.conn-1.given.0 = search rules in
    let late : HasCleanDisk (state g.S.Store new) = subst (λ h. HasCleanDisk (state g.S.Store h)) (sym end) clean in
    let early : HasCleanDisk (state g.S.Store mid) = omega (arith, c.gather_all.ensures.survives.clean, late) in
    let begun = begun_plain g.S.Store c.args.sql.now (bound c.args.values.now) old mid plain (c.in-Ok.ensures.begun early) in
    subst (λ h. RemainsAfter g.S.Store old h c.gather_all.result) end (remains_later g.S.Store old mid new c.gather_all.result begun.1 (c.gather_all.ensures.remains late begun.1.0.is_open))

pub returns-in-Err-clause-remains : goal.returns-in-Err-clause-remains
returns-in-Err-clause-remains g c = λ plain clean.
    let refused = rw c.in-Err.is at c.query.follows.holds-at-none in
    failed_query c.args.sql.now (bound c.args.values.now) (state g.S.Store c.args.conn.now) (state g.S.Store c.query.follows.lender-at-none) c.in-Err.error plain (refused.err clean)

pub returns-in-Ok-clause-cause : goal.returns-in-Ok-clause-cause
returns-in-Ok-clause-cause g c = λ first last rows is days holds clean.
    let old = c.args.conn.now in
    let mid = c.in-Ok.rows.conn.now in
    let new = c.gather_all.new.rows.conn.now in
    let end : new ≡ c.conn-1.given.0 = search rules in
    let late : HasCleanDisk (state g.S.Store new) = subst (λ h. HasCleanDisk (state g.S.Store h)) (sym end) clean in
    let early : HasCleanDisk (state g.S.Store mid) = omega (arith, c.gather_all.ensures.survives.clean, late) in
    let before : HasCleanDisk (state g.S.Store old) = omega (arith, c.in-Ok.ensures.survives.clean, early) in
    let way = begins g.S.Store first last old mid (holds.1 before).shows.schema (subst₂ (λ sql params. HasBegun g.S.Store sql params old mid) is days (c.in-Ok.ensures.begun early)) in
    let from_old = whole_after (state g.S.Store old) (state g.S.Store mid) (state g.S.Store new) c.gather_all.result c.in-Ok.ensures.survives.counts c.in-Ok.ensures.survives.limit (c.gather_all.ensures.cause late way) in
    subst (λ h. IfErr c.gather_all.result (IsCausedFault (state g.S.Store old) (state g.S.Store h))) end from_old

pub returns-in-Err-clause-cause : goal.returns-in-Err-clause-cause
returns-in-Err-clause-cause g c = λ first last rows is days holds clean.
    let old = state g.S.Store c.args.conn.now in
    let new = state g.S.Store c.query.follows.lender-at-none in
    let refused = rw c.in-Err.is at c.query.follows.holds-at-none in
    let before : HasCleanDisk old = omega (arith, refused.survives.clean, clean) in
    let shows = (holds.1 before).shows in
    question_caused first last old new c.in-Err.error shows.schema shows.is_open (subst₂ (λ sql params. FailsToQuery sql params old new c.in-Err.error) is days (refused.err clean))
