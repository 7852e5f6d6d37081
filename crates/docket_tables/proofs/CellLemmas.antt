-- Cells, and what one more row makes of a table.
use Rattle.std.proofs.Common.{◌≡◌, ℕ, ℤ, ◌≤◌, List, [], ◌∷◌, ◌++◌, map, length, append-nil, Bool, true, false, Some, cond, Ordering, Less, Equal, Greater, IsPermutation, is_eq, IsTrue, refl, sym, ap, subst, ◌∙◌, arith}
use Rattle.std.specs.Prelude.{bytes_eq}
use Rattle.std.specs.Ordering.{match_ordering}
use Rattle.std.proofs.Math.Logic.{∥∥₁_map}
use Rattle.std.proofs.lemmas.Bool.{or_parts}
use Rattle.std.proofs.lemmas.Map.Text.{is_eq-slice_cmp}
use Rattle.std.proofs.lemmas.List.Sorted.{IsPermutation-map, IsPermutation-refl, IsPermutation-cons, IsPermutation-trans, IsPermutation-sym, IsPermutation-middle, length_permutation}
use Rattle.sqlite.specs.declared.types.Value.{Value}
use Rattle.sqlite.specs.declared.types.Value.TheVariants.{Null, Int, Text}
use Rattle.sqlite.specs.Order.{Row, value_cmp}
use Rattle.sqlite.specs.Kind.TheVariants.{Integer}
use Rattle.sqlite.specs.Cast.{cast}
use Rattle.sqlite.specs.Ops.{unary, is_true, from_truth}
use Rattle.sqlite.specs.Tree.{Trees}
use Rattle.sqlite.specs.Collation.TheVariants.{Binary}
use Rattle.sqlite_schema.specs.Rules.{equal}
use Rattle.sqlite_trees.specs.Tree.{put_row, rowid}
use Rattle.sqlite_trees.specs.View.{IsShaped, is_int}
use Rattle.sqlite_trees.specs.declared.store.Shape.TheVariants as shape
use Rattle.sqlite_trees.proofs.TreeLemmas.{IsShaped-put_row}
use Rattle.sqlite_rules.specs.Edit.{is_taken}
use Rattle.sqlite_value.proofs.OrderLemmas.{value_cmp-Text}
use Rattle.sqlite.proofs.Callers.{one_permutation}
use Rattle.docket_tables.specs.Holds.{cells, Holds}

same_either : (b : Bool) (x : Value) → cond b x x ≡ x
same_either true x = refl
same_either false x = refl

pub cast_int : (n : ℤ) → cast Integer (Int n) ≡ Int n
unfolding unary
cast_int n = same_either _ (Int n)

pub cast_null : cast Integer Null ≡ Null
unfolding unary
cast_null = same_either _ Null

pub truth_back : (b : Bool) → is_true (from_truth (Some b)) ≡ b
truth_back true = refl
truth_back false = refl

pub equal_text : (s t : List ℕ) → equal Binary (Text s) (Text t) ≡ bytes_eq s t
unfolding Rattle.sqlite_sql.specs.Ops.binary
equal_text s t = truth_back (is_eq (value_cmp (Text s) (Text t))) ∙ ap is_eq (value_cmp-Text s t) ∙ is_eq-slice_cmp s t

pub put_permutes : (row : Row) (rows : List Row) → is_taken rows row ≡ false → IsPermutation (row ∷ rows) (put_row row rows)
put_permutes row [] free = IsPermutation-refl _
put_permutes row (r ∷ rows) free = go (value_cmp (rowid r) (rowid row)) (or_parts _ _ free).0 (put_permutes row rows (or_parts _ _ free).1)
  where
    go : (o : Ordering) → is_eq o ≡ false → IsPermutation (row ∷ rows) (put_row row rows) → IsPermutation (row ∷ r ∷ rows) (match_ordering o (r ∷ put_row row rows) (row ∷ rows) (row ∷ r ∷ rows))
    go Less other more = IsPermutation-trans _ _ _ (IsPermutation-sym _ _ (IsPermutation-middle (r ∷ []) row rows)) (IsPermutation-cons r _ _ more)
    go Equal other more = absurd (let no = other in cc)
    go Greater other more = IsPermutation-refl _

pub holds_more : (tree : ℕ) (places : List ℕ) (all : List Row) (row shown : Row) (old new : Trees) → Holds tree places all old → IsTrue (is_int (rowid row)) → is_taken (old tree) row ≡ false
    → new tree ≡ put_row row (old tree) → cells places row ≡ shown → Holds tree places (all ++ shown ∷ []) new
holds_more tree places all row shown old new holds id fresh rows same =
    ∥∥₁_map holds (λ was.
    let put : IsPermutation (row ∷ old tree) (new tree) = subst (IsPermutation (row ∷ old tree)) (sym rows) (put_permutes row (old tree) fresh) in
    let first : IsPermutation (map (cells places) (new tree)) (shown ∷ all) =
    IsPermutation-trans _ _ _ (IsPermutation-map (cells places) _ _ (IsPermutation-sym _ _ put)) (subst (λ c. IsPermutation (cells places row ∷ map (cells places) (old tree)) (c ∷ all)) same (IsPermutation-cons _ _ _ was.0)) in (
      IsPermutation-trans _ _ _ first (IsPermutation-sym _ _ (subst (λ xs. IsPermutation (all ++ shown ∷ []) (shown ∷ xs)) (append-nil all) (IsPermutation-middle all shown []))),
      subst (IsShaped shape.Table) (sym rows) (IsShaped-put_row row (old tree) id was.1),
    ))

pub holds_same : (tree : ℕ) (places : List ℕ) (all : List Row) (old new : Trees) → new tree ≡ old tree → Holds tree places all old → Holds tree places all new
holds_same tree places all old new same holds = subst (λ rows. ∥ IsPermutation (map (cells places) rows) all × IsShaped shape.Table rows ∥₁) (sym same) holds

-- a list of at most one element has no other order
pub short_permutation : {X : Type 0} (xs ys : List X) → length xs ≤ 1 → IsPermutation xs ys → ys ≡ xs
short_permutation [] [] short same = refl
short_permutation [] (y ∷ ys) short same = absurd (omega (arith, length_permutation _ _ same))
short_permutation (x ∷ []) ys short same = one_permutation x ys same
short_permutation (x ∷ z ∷ xs) ys short same = absurd (omega arith)
