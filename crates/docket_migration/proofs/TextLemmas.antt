-- What the text that sets the version is, whatever the schema.
use Rattle.std.proofs.Common.{refl}
use Rattle.sqlite.specs.Listing.{listing_schema}
use Rattle.sqlite_tied.specs.Compute.{everything}
use Rattle.docket_migration.specs.Moving.{version_text}
use Rattle.docket_scan.specs.Shapes.{name_of}
use Rattle.docket_tables.specs.declared.table.Table.TheVariants.{Court}
use Rattle.docket_migration.proofs.ExtendLemmas.{UpdatesOne}

pub sets_version : UpdatesOne version_text (name_of Court)
unfolding everything listing_schema
sets_version = record { parsed = _; first_is = refl; updates = (_, _, refl, refl); lists = refl }
