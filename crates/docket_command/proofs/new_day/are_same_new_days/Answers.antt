use Rattle.std.proofs.Common.{◌≡◌, ◌≢◌, ap, suc, length, List, [], ◌∷◌, false, Bool, true, ◌&&◌, refl}
use Rattle.docket_command.specs.Sameness.{are_same_new_days, is_same_new_day}
use Rattle.docket_command.specs.declared.new_day.NewDay.{NewDay}
use Rattle.docket_command.proofs.new_day.are_same_new_days.Goals as goal

and_off : (b c : Bool) → false ≡ c → false ≡ (b && c)
and_off true c e = e
and_off false c e = refl

-- lists of two lengths are not the same
apart : (xs ys : List NewDay) → length xs ≢ length ys → false ≡ are_same_new_days xs ys
apart [] [] differ = absurd (differ refl)
apart [] (y ∷ ys) differ = refl
apart (x ∷ xs) [] differ = refl
apart (x ∷ xs) (y ∷ ys) differ = and_off (is_same_new_day x y) _ (apart xs ys (λ e. differ (ap suc e)))

pub returns-then-a-b : goal.returns-then-a-b
returns-then-a-b c = apart _ _ c.if-a-b.true
