use Rattle.std.proofs.Common.{option_copied, ap, ◌∙◌}
use Rattle.sqlite_value.specs.Order.{column}
use Rattle.docket_columns.proofs.RuleLemmas.{none_local}
use Rattle.docket_columns.proofs.local_rule.local_name_of.Goals as goal

pub returns-in_err-name : goal.returns-in_err-name
returns-in_err-name c = ap option_copied c.from_residual.ensures ∙ none_local (column c.args.row.now 1) c.in_err-name.ensures.reads
