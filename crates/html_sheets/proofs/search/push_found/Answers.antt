use Rattle.std.proofs.Common.{◌≡◌, length, arith}
use Rattle.std.proofs.lemmas.Bool.Decides.{nat_tests}
use Rattle.html_sheets.proofs.ElementLemmas.{none_found}
use Rattle.html_sheets.proofs.search.push_found.Goals as goal

pub returns-then-is_empty : goal.returns-then-is_empty
returns-then-is_empty c =
    let empty : length c.args.cases.now ≡ 0 = grind (arith, nat_tests, c.is_empty.ensures, c.if-is_empty.true) in
    rw (none_found c.args.cases.now empty) (c.in_ok-push_str.ensures.bytes)
