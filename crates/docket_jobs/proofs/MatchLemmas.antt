-- From the values of clap's matches to the rows of its parse.
use Rattle.std.proofs.Common.{◌≡◌, [], List, Some, ap, option_map, rules, unwrap_or}
use Rattle.clap.specs.Matches.{first_value, subcommand_name_of}
use Rattle.clap.specs.Simple.{subcommand_rows_of}
use Rattle.clap.specs.Walk.{Row, Text, first_of, rows_of}
use Rattle.clap.proofs.WalkLemmas.{first_value-rows}
use Rattle.clap.specs.declared.parser.matches.Found.{Found}
use Rattle.clap.specs.declared.parser.matches.ArgMatches.{ArgMatches}
use Rattle.docket_jobs.specs.Jobs.{value_of}

pub first_value_or : (f : Found) (id : Text) → unwrap_or (first_value f id) [] ≡ value_of id (rows_of f)
first_value_or f id = ap (λ o. unwrap_or o []) (first_value-rows f id)

pub first_value_is : (f : Found) (id : Text) → first_value f id ≡ first_of id (rows_of f)
first_value_is = first_value-rows

-- a subcommand is met with its name and its rows
pub rows_met : (m : ArgMatches) (name : Text) (rows : List Row) → Some name ≡ subcommand_name_of m → Some rows ≡ option_map (λ p. p.1) (subcommand_rows_of m) → subcommand_rows_of m ≡ Some (name, rows)
rows_met m name rows named told = search rules
