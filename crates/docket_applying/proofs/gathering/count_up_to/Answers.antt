use Rattle.std.proofs.Common.{leb, leb-true, leb-false, rules}
use Rattle.std.proofs.lemmas.List.Sorted.{IsPartitionPoint-from_clause, IsPartitionedBy-leb}
use Rattle.docket_history.specs.declared.row.ActRow.{ActRow}
use Rattle.docket_applying.proofs.gathering.count_up_to.Goals as goal

pub returns-clause-cut : goal.returns-clause-cut
returns-clause-cut c rises =
    let n = c.args.deadline in
    let parted = IsPartitionedBy-leb (λ (row : ActRow). row.deadline) _ n rises in
    let point = IsPartitionPoint-from_clause (λ (row : ActRow). leb row.deadline n) _ _ c.partition_point.ensures.partitioned parted (λ a r q k. search rules) in
    (λ i d low high. leb-true _ _ (point.0 i d low high), λ i d low high. leb-false _ _ (point.1 i d low high))
