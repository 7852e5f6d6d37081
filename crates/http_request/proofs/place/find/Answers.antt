use Rattle.std.proofs.Common.{◌∙◌, sym, subst, arith, ℕ, List}
use Rattle.matchit.specs.Params.{walk}
use Rattle.http_request.specs.Values.{HasValues}
use Rattle.http_request.proofs.PlaceLemmas.{no-place, place-found, place-parts}
use Rattle.http_request.proofs.place.find.Goals as goal

pub returns-in-Err : goal.returns-in-Err
returns-in-Err c = no-place c.args.router.now c.args.path.now c.requires (λ i. omega (arith, c.type_inv.path i)) c.in-Err.ensures.missing

pub returns-in-Ok : goal.returns-in-Ok
returns-in-Ok c =
    let at = place-found c.args.router.now c.args.path.now _ c.requires (λ i. omega (arith, c.type_inv.path i)) c.utf8.path c.in-Ok.ensures.found in
    let pairs = λ (path : List ℕ). walk c.in-Ok.found.params.pattern.now c.in-Ok.found.params.text.now path c.in-Ok.found.params.names.now 0 0 in
    let same = c.found_on.ensures at.place at.route (subst (λ path. HasValues at.place (pairs path)) (sym c.in-Ok.ensures.path) at.values) in
    at.is ∙ place-parts at.place c.found_on.result.route c.found_on.result.first.now c.found_on.result.second.now same.0 same.1 same.2
