use Rattle.std.proofs.Common.{rules, ◌≡◌, List, [], ◌∷◌, length, ap, ◌∙◌, sym, refl, arith}
use Rattle.std.specs.Vec.Iter.{into_iter_items}
use Rattle.docket_decisions.specs.Tables.{Tables, all_changed, changed}
use Rattle.docket_questions.proofs.calendar.rows_after.Goals as goal

no_items : {X : Type 0} (xs : List X) → length xs ≡ 0 → xs ≡ []
no_items [] none = refl
no_items (x ∷ xs) none = absurd (cc)

pub changes-preserved : goal.changes-preserved
changes-preserved c =
    let steps = c.in-Some.ensures.steps in
    let so_far = c.changes.invariant in
    record {
      len = omega (arith, ap length steps.0);
      rest = λ t is.
          let found = so_far.rest t is in
          let now = found.0 in (
            changed c.in-Some.change now,
            c.in_ok-change_rows.ensures now found.1,
            ap (λ xs. all_changed xs now) (sym steps.0) ∙ found.2,
          );
    }

pub returns : goal.returns
returns c t is =
    let found = c.changes.invariant.rest t is in
    let steps = c.in-None.ensures.steps in
    let none : into_iter_items c.changes.change-iterator ≡ [] = no_items (into_iter_items c.changes.change-iterator) (sym c.changes.invariant.len ∙ steps.0) in
    let whole : into_iter_items c.into_iter-change-iterator.result ≡ c.args.changes.items = search rules in
    let same : all_changed c.args.changes.items t ≡ found.0 = ap (λ xs. all_changed xs t) (sym whole) ∙ sym found.2 ∙ ap (λ xs. all_changed xs found.0) none in
    found.1 ∙ ap (λ (now : Tables). now.calendar) (sym same)
