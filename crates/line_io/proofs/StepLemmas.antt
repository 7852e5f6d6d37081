-- Steps, put together.
use Rattle.std.proofs.Common.{ℕ, zero, suc, refl, subst, sym}
use Rattle.line_io.specs.Steps.{Leads, Reaches}

module _ {X : Type 0} (Steps : X → X → Type 0) where
  pub here : (x : X) → Reaches Steps x x
  here x = (0, refl)

  pub one_step : (x y : X) → Steps x y → Reaches Steps x y
  one_step x y step = (1, (x, refl, step))

  leads_then : (n : ℕ) (x y z : X) → Reaches Steps x y → Leads Steps n y z → Reaches Steps x z
  leads_then zero x y z before same = subst (Reaches Steps x) (sym same) before
  leads_then (suc n) x y z before more =
      let so_far = leads_then n x y more.0 before more.1 in
      (suc so_far.0, (more.0, so_far.1, more.2))

  pub steps_then : (x y z : X) → Reaches Steps x y → Reaches Steps y z → Reaches Steps x z
  steps_then x y z before more = leads_then more.0 x y z before more.1
