use Rattle.std.proofs.Common.{◌≡◌, Bool, true, false, not, Option, None, List, ◌∷◌, sym, ◌∙◌}
use Rattle.docket_decisions.specs.Refusals.{on, on_value, first_some}
use Rattle.docket_command.specs.declared.field.Field.{Field}
use Rattle.docket_command.specs.declared.refusal.Refusal.{Refusal}
use Rattle.docket_decisions.proofs.refusals.refusal.Goals as goal

-- what doesn't apply is skipped
skipped : (b1 b2 : Bool) (f : Option Field) (r1 r2 : Refusal) (rest : List (Option Refusal)) → b1 ≡ true → b2 ≡ false → f ≡ None → first_some (on (not b1) r1 ∷ on b2 r2 ∷ on_value f ∷ rest) ≡ first_some rest
skipped b1 b2 f r1 r2 rest e1 e2 e3 = rw (e1, e2, e3)

pub returns-in-None : goal.returns-in-None
returns-in-None c =
    c.state_refusal.ensures ∙ sym (skipped _ _ _ _ _ _ (sym c.is_word.ensures ∙ c.if-not-is_word.false) (sym c.is_reused.ensures ∙ c.if-is_reused.false) (sym c.in-None.ensures))
