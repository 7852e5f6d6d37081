use Rattle.std.proofs.Common.{◌≡◌, subst, sym}
use Rattle.sqlite.specs.Held.{state}
use Rattle.docket_columns.specs.declared.version.Version.TheVariants.{Second}
use Rattle.docket_scan.specs.Holdings.{holdings_of}
use Rattle.docket_scan.specs.Judging.{AreJudged}
use Rattle.docket_scan.specs.Reading.{LastBefore}
use Rattle.docket_scan.proofs.CauseLemmas.{err_caused, result_after}
use Rattle.docket_scan.proofs.JudgingLemmas.{first_judged, told_of}
use Rattle.docket_scan.proofs.judging.judge_more.Goals as goal

pub returns-in-First-clause-told : goal.returns-in-First-clause-told
returns-in-First-clause-told g c first court next prior clean =
    first_judged c.args.version c.in-First.is court next (state g.S.Store first) (state g.S.Store c.args.conn.now) c.args.read (prior clean)

pub returns-in_err-held-in-Second-clause-told : goal.returns-in_err-held-in-Second-clause-told
returns-in_err-held-in-Second-clause-told g c first court next prior clean =
    let start = state g.S.Store first in
    let old = state g.S.Store c.args.conn.now in
    let new = state g.S.Store c.judge_short_days.new.conn in
    let last = subst (λ v. LastBefore v start court next old c.args.read) c.in-Second.is prior in
    let handed = c.from_residual in
    subst (λ v. AreJudged v court next start new (λ r held. held ≡ holdings_of court r) handed.result) (sym c.in-Second.is)
    (told_of Second court next start new (λ r held. held ≡ holdings_of court r) handed.result c.in_err-held-in-Second.field-0.0 handed.ensures.1
    (c.in_err-held-in-Second.ensures.err first court next last clean))

pub returns-in_ok-held-in-Second-clause-told : goal.returns-in_ok-held-in-Second-clause-told
returns-in_ok-held-in-Second-clause-told g c first court next prior clean =
    let start = state g.S.Store first in
    let old = state g.S.Store c.args.conn.now in
    let new = state g.S.Store c.judge_local_rules.new.conn in
    let last = subst (λ v. LastBefore v start court next old c.args.read) c.in-Second.is prior in
    let held = c.in_ok-held-in-Second.ensures.ok first court next last in
    subst (λ v. AreJudged v court next start new (λ r held. held ≡ holdings_of court r) c.judge_local_rules.result) (sym c.in-Second.is)
    (c.judge_local_rules.ensures.told first court next held clean)

pub returns-in_err-held-in-Second-clause-cause : goal.returns-in_err-held-in-Second-clause-cause
returns-in_err-held-in-Second-clause-cause g c clean =
    let old = state g.S.Store c.args.conn.now in
    let new = state g.S.Store c.judge_short_days.new.conn in
    err_caused old new c.in_err-held-in-Second.field-0.0 c.from_residual.result c.from_residual.ensures.1 (c.in_err-held-in-Second.ensures.cause clean)

pub returns-in_ok-held-in-Second-clause-cause : goal.returns-in_ok-held-in-Second-clause-cause
returns-in_ok-held-in-Second-clause-cause g c clean =
    result_after c.judge_short_days.ensures.writes_nothing c.judge_local_rules.ensures.writes_nothing clean c.judge_local_rules.result (c.judge_local_rules.ensures.cause clean)
