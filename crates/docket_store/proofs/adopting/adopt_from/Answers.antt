use Rattle.std.proofs.Common.{◌≡◌, false, rules}
use Rattle.docket_scan.specs.Shapes.{has_named}
use Rattle.docket_tables.specs.declared.table.Table.TheVariants as table
use Rattle.docket_store.proofs.OpeningLemmas.{not_unnamed}
use Rattle.docket_store.proofs.adopting.adopt_from.Goals as goal

pub returns-then-not-has_named-clause-found : goal.returns-then-not-has_named-clause-found
returns-then-not-has_named-clause-found g c court h is stands clean =
    let none : has_named c.args.conn.now.schema table.Court ≡ false = search rules in
    not_unnamed g.S.Store c.args.conn.now court h stands clean none
