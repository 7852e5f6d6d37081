-- What is bound as a number or as a text is that value.
use Rattle.std.proofs.Common.{◌≡◌, true, false, Bool, cond, IsTrue, List, [], ◌∷◌, map, refl, ap, sym, subst, ◌∙◌}
use Rattle.std.proofs.lemmas.Bool.{and_parts, false≢true}
use Rattle.std.specs.Float.{Float}
use Rattle.std.specs.Prelude.{is_nan}
use Rattle.sqlite_value.specs.declared.value.Value.{Value}
use Rattle.sqlite_value.specs.declared.value.Value.TheVariants.{Null, Int, Real, Text, Blob}
use Rattle.sqlite_value.specs.declared.value.ValueRef.{ValueRef}
use Rattle.sqlite_value.specs.Value.{owned}
use Rattle.sqlite_value.specs.Order.{Row}
use Rattle.sqlite.specs.Values.{bound_value, bound}
use Rattle.docket_columns.specs.Plain.{is_plain, are_plain}

real_value : (nan : Bool) (x : Float) → IsTrue (is_plain (cond nan Null (Real x))) → Real x ≡ cond nan Null (Real x)
real_value true x plain = absurd (false≢true plain)
real_value false x plain = refl

plain_value : (v : Value) → IsTrue (is_plain (bound_value v)) → v ≡ bound_value v
plain_value Null plain = refl
plain_value (Int n) plain = refl
plain_value (Real x) plain = real_value (is_nan x) x plain
plain_value (Text t) plain = refl
plain_value (Blob b) plain = refl

plain_values : (vs : List ValueRef) → IsTrue (are_plain (bound vs)) → map owned vs ≡ bound vs
plain_values [] plain = refl
plain_values (v ∷ vs) plain =
    let parts = and_parts _ _ plain in
    ap (λ x. x ∷ map owned vs) (plain_value (owned v) parts.0) ∙ ap (λ xs. bound_value (owned v) ∷ xs) (plain_values vs parts.1)

pub bound_is : (vs : List ValueRef) (cells : Row) → IsTrue (are_plain cells) → bound vs ≡ cells → map owned vs ≡ cells
bound_is vs cells plain e = plain_values vs (subst (λ (r : Row). IsTrue (are_plain r)) (sym e) plain) ∙ e
