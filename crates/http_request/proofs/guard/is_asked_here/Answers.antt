use Rattle.std.proofs.Common.{◌&&◌, ◌∷◌, [], ◌∙◌, ap, sym, map, string_bytes}
use Rattle.http_request.specs.Fields.{same_name}
use Rattle.http_request.specs.Guard.{is_at}
use Rattle.http_request.proofs.GuardLemmas.{any_of_map, from_no_page, from_page}
use Rattle.http_request.proofs.guard.is_asked_here.Goals as goal

pub returns-in-Missing : goal.returns-in-Missing
returns-in-Missing c =
    from_no_page (map string_bytes c.args.origins.now) _ _ c.of.result.now _ (c.in-One.ensures.1 ∙ ap (λ h. h ∷ []) (sym c.of.ensures)) c.in-Missing.ensures
    (c.is_served.ensures ∙ any_of_map (λ origin. is_at c.of.result.now origin) string_bytes c.args.origins.now)

pub returns-in-One-field_values : goal.returns-in-One-field_values
returns-in-One-field_values c =
    let host = c.of-in-One-field_values.result.now in
    let page = c.of-in-One-field_values-2.result.now in
    from_page (map string_bytes c.args.origins.now) _ _ host page _ (c.in-One.ensures.1 ∙ ap (λ h. h ∷ []) (sym c.of-in-One-field_values.ensures))
    (c.in-One-field_values.ensures.1 ∙ ap (λ p. p ∷ []) (sym c.of-in-One-field_values-2.ensures))
    (c.is_own_page.ensures ∙ any_of_map (λ origin. is_at host origin && same_name page origin) string_bytes c.args.origins.now)
