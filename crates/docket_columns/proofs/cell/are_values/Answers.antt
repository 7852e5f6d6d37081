use Rattle.std.proofs.Common.{arith, refl, ap, ◌≡◌, ℕ, ◌+◌, ◌<◌, ext_get_or, map, ◌∙◌, sym}
use Rattle.std.proofs.lemmas.List.{get_or-map, length-map}
use Rattle.std.proofs.lemmas.Bool.{false≢true}
use Rattle.sqlite_value.specs.Order.{Row, column}
use Rattle.sqlite_value.specs.declared.value.Value.TheVariants.{Null}
use Rattle.sqlite_value.specs.declared.value.ValueRef.TheVariants as read
use Rattle.sqlite_value.specs.Value.{owned}
use Rattle.docket_columns.proofs.cell.are_values.Goals as goal

pub returns : goal.returns
returns c = (
  λ _. ext_get_or Null c.args.row.now (map owned c.args.values.now) (c.requires ∙ sym (length-map c.args.values.now owned))
      (λ k h. c.loop-at.invariant k (omega arith)),
  λ _. refl,
)

pub returns-in_default : goal.returns-in_default
returns-in_default c = (
  λ f. absurd (false≢true f),
  λ e. sym c.if-is_same.false
      ∙ c.is_same.ensures.1 (c.in-Ok.ensures.ok.1 ∙ ap (λ (row : Row). column row c.loop-at.at) e ∙ get_or-map owned c.args.values.now c.loop-at.at read.Null Null c.loop-at-test.true),
)

-- values that are the same before a place, and there
same-on : (row other : Row) (at : ℕ) → ((k : ℕ) → k < at → column row k ≡ column other k) → column row at ≡ column other at
    → (k : ℕ) → k < at + 1 → column row k ≡ column other k
same-on row other at before here k within = grind (arith, before k)

pub loop-at-preserved : goal.loop-at-preserved
loop-at-preserved c =
    same-on c.args.row.now (map owned c.args.values.now) c.loop-at.at c.loop-at.invariant
    (sym c.in-Ok.ensures.ok.1 ∙ c.is_same.ensures.0 c.if-is_same.true ∙ sym (get_or-map owned c.args.values.now c.loop-at.at read.Null Null c.loop-at-test.true))
