use Rattle.std.proofs.Common.{◌≡◌, ◌∷◌, arith}
use Rattle.std.proofs.lemmas.Result.{err_from_is_err_and}
use Rattle.day_tables.proofs.CsvLemmas.{finished, row_taken, row_bad, read_fault, row_fault, row_past}
use Rattle.day_tables.proofs.calendar_csv.days_of.Goals as goal

pub returns-in_err-next_record-clause-fault : goal.returns-in_err-next_record-clause-fault
returns-in_err-next_record-clause-fault c bytes header named at =
    let s = c.loop-n.invariant bytes header named at in
    let p = err_from_is_err_and c.from_residual.result c.from_residual.ensures.1 in
    rw (p.1, p.2) (read_fault bytes header _ _ _ s _ named (c.in_err-next_record.ensures.refused bytes (header ∷ s.rs) s.at))

pub returns-then-not-branch-clause-rows : goal.returns-then-not-branch-clause-rows
returns-then-not-branch-clause-rows c bytes header named at =
    let s = c.loop-n.invariant bytes header named at in
    let all = rw c.if-not-branch.true at (c.in_ok-next_record.ensures.found bytes (header ∷ s.rs) s.at) in
    finished bytes header _ _ _ s named all

pub returns-in_err-day_of-clause-fault : goal.returns-in_err-day_of-clause-fault
returns-in_err-day_of-clause-fault c bytes header named at =
    let s = c.loop-n.invariant bytes header named at in
    let p = err_from_is_err_and c.from_residual-in_err-day_of.result c.from_residual-in_err-day_of.ensures.1 in
    let found = rw c.if-not-branch.false at (c.in_ok-next_record.ensures.found bytes (header ∷ s.rs) s.at) in
    rw (p.1, p.2) (λ other. row_bad bytes header _ _ _ _ s _ _ named found.0 found.1 (row_fault _ _ other c.in_err-day_of.ensures))

pub loop-n-preserved : goal.loop-n-preserved
loop-n-preserved c bytes header named at =
    let s = c.loop-n.invariant bytes header named at in
    let found = rw c.if-not-branch.false at (c.in_ok-next_record.ensures.found bytes (header ∷ s.rs) s.at) in
    rw c.in_ok-push.ensures.items (row_taken bytes header _ _ _ _ s _ _ named found.0 found.1 c.in_ok-day_of.ensures)

pub returns-in_err-next_record-2-clause-fault : goal.returns-in_err-next_record-2-clause-fault
returns-in_err-next_record-2-clause-fault c bytes header named at =
    let s = c.loop-n.invariant bytes header named at in
    let p = err_from_is_err_and c.from_residual-in_err-next_record-2.result c.from_residual-in_err-next_record-2.ensures.1 in
    rw (p.1, p.2) (read_fault bytes header _ _ _ s _ named (c.in_err-next_record-2.ensures.refused bytes (header ∷ s.rs) s.at))

pub returns-then-branch-clause-fault : goal.returns-then-branch-clause-fault
returns-then-branch-clause-fault c bytes header named at other =
    let s = c.loop-n.invariant bytes header named at in
    let found = rw c.if-branch.true at (c.in_ok-next_record-2.ensures.found bytes (header ∷ s.rs) s.at) in
    let last : c.loop-n.n ≡ 1001 = omega arith in
    row_bad bytes header _ _ _ _ s _ _ named found.0 found.1 (row_past _ _ last)

pub returns-clause-rows : goal.returns-clause-rows
returns-clause-rows c bytes header named at =
    let s = c.loop-n.invariant bytes header named at in
    let all = rw c.if-branch.false at (c.in_ok-next_record-2.ensures.found bytes (header ∷ s.rs) s.at) in
    finished bytes header _ _ _ s named all
