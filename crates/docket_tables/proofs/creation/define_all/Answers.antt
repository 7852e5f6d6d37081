use Rattle.std.proofs.Common.{◌≡◌, ◌∙◌, ◌<◌, ℕ, suc, length, get_or, refl, sym, ap, subst, arith, add-one}
use Rattle.sqlite.specs.Held.{state}
use Rattle.sqlite.specs.State.{HasCleanDisk}
use Rattle.docket_tables.specs.Creation.{IsMade}
use Rattle.docket_tables.specs.Tables.{tables}
use Rattle.docket_tables.proofs.CommitLemmas.{inside_then, inside_still}
use Rattle.docket_tables.proofs.CreateLemmas.{at_place, nothing_yet, sees_nothing}
use Rattle.docket_tables.proofs.MakingCauses.{StaysBegun, making_after, passed_on}
use Rattle.docket_tables.proofs.creation.define_all.Goals as goal

pub tables-init : goal.tables-init
tables-init g c = (refl, inside_still _, λ clean was. was, λ clean was. (λ opened. opened, λ begun. begun))

pub returns-in_err-define-clause-same_reference : goal.returns-in_err-define-clause-same_reference
returns-in_err-define-clause-same_reference g c = c.define.ensures.same_reference ∙ c.tables.invariant.0

pub returns-in_err-define-clause-inside : goal.returns-in_err-define-clause-inside
returns-in_err-define-clause-inside g c = inside_then _ _ _ c.tables.invariant.1 c.define.ensures.inside

pub tables-preserved : goal.tables-preserved
tables-preserved g c = (
  c.define.ensures.same_reference ∙ c.tables.invariant.0,
  inside_then _ _ _ c.tables.invariant.1 c.define.ensures.inside,
  λ clean was.
      let at : ℕ = c.tables.number in
      let low : at < length tables = omega (arith, c.tables-test.true, ap length c.requires) in
      let place = at_place at c.table_at.result low (c.table_at.ensures ∙ ap (λ all. get_or all at c.table_at.result) c.requires) in
      let before = c.tables.invariant.2 (omega (arith, c.define.ensures.inside.survives.clean)) was in
      subst (IsMade (state g.S.Store c.define.new.tx.conn.now)) (ap suc place ∙ sym (add-one at))
      (c.in_ok-define.ensures.ok clean (subst (IsMade (state g.S.Store c.tables.tx.conn.now)) (sym place) before)),
  λ clean was.
      let at : ℕ = c.tables.number in
      let low : at < length tables = omega (arith, c.tables-test.true, ap length c.requires) in
      let place = at_place at c.table_at.result low (c.table_at.ensures ∙ ap (λ all. get_or all at c.table_at.result) c.requires) in
      let before = c.tables.invariant.2 (omega (arith, c.define.ensures.inside.survives.clean)) was in
      let serves = (c.in_ok-define.ensures.ok clean (subst (IsMade (state g.S.Store c.tables.tx.conn.now)) (sym place) before)).serves (omega arith) in
      (λ _. serves.0, λ _. serves.1),
)

pub returns-in_err-define-clause-cause : goal.returns-in_err-define-clause-cause
returns-in_err-define-clause-cause g c clean bare begun =
    let at : ℕ = c.tables.number in
    let start = state g.S.Store c.args.tx.now.conn.now in
    let mid = state g.S.Store c.tables.tx.conn.now in
    let end = state g.S.Store c.define.new.tx.conn.now in
    let low : at < length tables = omega (arith, c.tables-test.true, ap length c.requires) in
    let place = at_place at c.table_at.result low (c.table_at.ensures ∙ ap (λ all. get_or all at c.table_at.result) c.requires) in
    let before : HasCleanDisk mid = omega (arith, clean, c.define.ensures.inside.survives.clean) in
    let none = nothing_yet start bare in
    let stays : StaysBegun start mid = c.tables.invariant.3 before none in
    let made = subst (IsMade mid) (sym place) (c.tables.invariant.2 before none) in
    let cause = c.in_err-define.ensures.cause clean made (stays.1 begun) in
    let survives = c.tables.invariant.1.survives in
    let e = c.in_err-define.field-0.0 in
    passed_on start end e c.from_residual.result c.from_residual.ensures.1 (making_after start mid end end e survives.counts (omega arith) survives.limit stays.0 cause)

pub returns-clause-same_reference : goal.returns-clause-same_reference
returns-clause-same_reference g c = c.tables.invariant.0

pub returns-clause-inside : goal.returns-clause-inside
returns-clause-inside g c = c.tables.invariant.1

pub returns-clause-ok : goal.returns-clause-ok
returns-clause-ok g c clean was =
    let all : c.tables.number ≡ length tables = omega (arith, c.tables-test.false, c.tables.auto, ap length c.requires) in
    let start = state g.S.Store c.args.tx.now.conn.now in
    let end = state g.S.Store c.tables.tx.conn.now in
    sees_nothing end (subst (IsMade end) all (c.tables.invariant.2 clean (nothing_yet start was)))
