use Rattle.std.proofs.Common.{◌∙◌, sym, ap}
use Rattle.std.specs.List.{list_all}
use Rattle.std.proofs.lemmas.List.Folds.{list_all-map}
use Rattle.docket_scan.specs.Shapes.{has_column}
use Rattle.docket_scan.proofs.shape.has_columns.Goals as goal

pub returns : goal.returns
returns c =
    let has = has_column c.args.columns.now in
    c.has_each.ensures ∙ sym (list_all-map has (λ name. name.now) c.table_columns.result.now) ∙ ap (list_all has) c.table_columns.ensures
