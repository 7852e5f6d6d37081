use Rattle.std.proofs.Common.{refl}
use Rattle.sqlite_schema.specs.Names.{same_name}
use Rattle.docket_tables.proofs.laws.dockets_are_recognized.Goals as goal

pub returns-clause-named : goal.returns-clause-named
unfolding same_name
returns-clause-named c = refl
