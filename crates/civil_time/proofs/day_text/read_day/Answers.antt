use Rattle.std.proofs.Common.{◌≡◌, ◌∙◌, ℕ, arith, ap, length, sym, subst, List, nat_eq, true, rules}
use Rattle.std.proofs.lemmas.Bool.{both_ways}
use Rattle.std.proofs.lemmas.Cmp.{nat_list_eq_equiv}
use lib.Pointwise.{pointwise}
use Rattle.std.proofs.lemmas.Int.{ints}
use Rattle.civil_time.proofs.Spelling.{read_back, one_text, same_day}
use Rattle.civil_time.proofs.DayTexts.{day_of_text-none, day_of_text-spelled}
use Rattle.civil_time.proofs.day_text.read_day.Goals as goal

pub returns-in_err-day-clause-none : goal.returns-in_err-day-clause-none
returns-in_err-day-clause-none c =
    rw c.from_residual.ensures (λ day limits spells. c.in_err-day.ensures.none day limits
    (read_back c.args.text.now _ _ _ day (omega (arith, ints)) (omega arith) (omega arith) limits spells))

pub returns-else-eq-clause-none : goal.returns-else-eq-clause-none
returns-else-eq-clause-none c = λ day limits spells.
    let P : List ℕ → Type 0 = λ xs. pointwise nat_eq c.args.text.now xs ≡ true in
    let same = one_text c.args.text.now c.as_slice.result.now _ _ _ day c.in_ok-day.day (omega (arith, ints)) (omega arith) (omega arith) limits spells c.in_ok-day.ensures.value (rw c.as_slice.ensures c.day_bytes.ensures.means) in
    both_ways _ (sym c.if-eq.ensures) (subst P same (nat_list_eq_equiv.refl c.args.text.now))

pub returns-then-eq-clause-only : goal.returns-then-eq-clause-only
returns-then-eq-clause-only c = λ other limits spells.
    same_day other c.in_ok-day.day _ _ _
    (read_back c.args.text.now _ _ _ other (omega (arith, ints)) (omega arith) (omega arith) limits spells) c.in_ok-day.ensures.value

pub returns-then-text-ne10-clause-value : goal.returns-then-text-ne10-clause-value
returns-then-text-ne10-clause-value c = sym (day_of_text-none c.args.text.now (λ day limits spells. c.if-text-ne10.true (ap length spells.4)))

pub returns-in_err-day-clause-value : goal.returns-in_err-day-clause-value
returns-in_err-day-clause-value c =
    let never = rw c.from_residual.ensures at (returns-in_err-day-clause-none c) in
    c.from_residual.ensures ∙ sym (day_of_text-none c.args.text.now never)

pub returns-else-eq-clause-value : goal.returns-else-eq-clause-value
returns-else-eq-clause-value c = sym (day_of_text-none c.args.text.now (returns-else-eq-clause-none c))

pub returns-then-eq-clause-value : goal.returns-then-eq-clause-value
returns-then-eq-clause-value c = sym (day_of_text-spelled c.args.text.now c.in_ok-day.day c.in_ok-day.ensures.limits (search rules))
