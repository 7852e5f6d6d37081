use Rattle.std.proofs.Common.{rules, subst, sym, IsUtf8}
use Rattle.docket_columns.proofs.cases.case_of.Goals as goal

pub returns-then-has_values-clause-fits : goal.returns-then-has_values-clause-fits
returns-then-has_values-clause-fits c =
    let label = subst IsUtf8 (sym c.in_ok-from_str.ensures) c.in-Some-text_at.ensures.utf8 in
    let caption = subst IsUtf8 (sym c.in_ok-from_str-2.ensures) c.in-Some-text_at-2.ensures.utf8 in
    (search rules, label, caption, search rules)
