-- The receipts of a history in the order of their keys.
use Rattle.std.proofs.Common.{◌≡◌, ◌≢◌, ◌∙◌, ℕ, suc, ◌+◌, ◌≤◌, Bool, true, false, cond, Some, None, List, [], ◌∷◌, map, filter, length, IsSorted, refl, sym, ap, ap₂, subst, arith}
use Rattle.std.proofs.lemmas.Bool.{false≢true}
use Rattle.std.proofs.lemmas.List.Sorted.{length_permutation, IsPermutation-map}
use Rattle.std.proofs.lemmas.Map.Text.{is_eq-slice_cmp}
use Rattle.std.proofs.lemmas.Slice.Eq.{bytes_eq-Decides}
use Rattle.std.specs.Cmp.Lexicographic.{slice_cmp}
use Rattle.std.specs.List.{AllByRecursion}
use Rattle.std.specs.Ordering.{nat_cmp, is_lt, is_eq, ordering_reverse}
use Rattle.std.specs.Str.{bytes_eq}
use Rattle.std.specs.declared.cmp.Ordering.{Ordering}
use Rattle.std.specs.declared.cmp.Ordering.TheVariants.{Less, Equal, Greater}
use Rattle.sqlite_trees.proofs.ListLemmas.{all_weaker, all_from_map, all-permutation, filter_none, IsPermutation-filter, map-map}
use Rattle.court_days.specs.Court.{CourtSettings}
use Rattle.docket_history.specs.Histories.{History}
use Rattle.docket_decisions.specs.Outcomes.{IsHistory, receipts}
use Rattle.docket_history.specs.declared.row.Receipt.{Receipt}
use Rattle.docket_wire.specs.Valid.{IsCommand}
use Rattle.docket_sound.specs.Cases.{AreApart}
use Rattle.docket_sound.specs.Orders.{AreInOrder, receipt_order}
use Rattle.docket_sound.specs.Receipts.{AreOfKnownKinds, AreSoundReceipts, IsSoundReceipt, KeysAscend, receipt_row, key_of}
use Rattle.docket_sound.specs.declared.receipt.ReceiptRecord.{ReceiptRecord}
use Rattle.docket_sound.proofs.HistoryReceipts.{sound_receipts, keys_apart}
use Rattle.docket_sound.proofs.OrderLemmas.{receipt_total}

-- the receipts under a key: at most one, where no key is there twice
abbrev under : List ℕ → List Receipt → List Receipt
under key rows = filter (λ row. bytes_eq key (key_of row)) rows

abbrev HaveOne : List Receipt → Type 0
HaveOne rows = (key : List ℕ) → length (under key rows) ≤ 1

other_key : (key other : List ℕ) → other ≢ key → bytes_eq key other ≡ false
other_key key other apart = at (bytes_eq key other) refl
  where
    at : (b : Bool) → bytes_eq key other ≡ b → b ≡ false
    at true e = absurd (apart (sym ((bytes_eq-Decides key other).0 e)))
    at false e = refl

none_under : (key : List ℕ) (rows : List Receipt) → AllByRecursion (λ other. other ≢ key) (map key_of rows) → under key rows ≡ []
none_under key rows apart =
    filter_none (λ row. bytes_eq key (key_of row)) rows
    (all_weaker (λ row. key_of row ≢ key) (λ row. bytes_eq key (key_of row) ≡ false) (λ row off. other_key key (key_of row) off) rows (all_from_map (λ other. other ≢ key) key_of rows apart))

few_under : (rows : List Receipt) → AreApart (map key_of rows) → HaveOne rows
few_under [] apart key = omega arith
few_under (row ∷ rows) apart key = at (bytes_eq key (key_of row)) refl (few_under rows apart.1 key)
  where
    at : (b : Bool) → bytes_eq key (key_of row) ≡ b → length (under key rows) ≤ 1 → length (cond b (row ∷ under key rows) (under key rows)) ≤ 1
    at true e few =
        let same = (bytes_eq-Decides key (key_of row)).0 e in
        let none = none_under key rows (subst (λ k. AllByRecursion (λ other. other ≢ k) (map key_of rows)) (sym same) apart.0) in
        subst (λ (l : List Receipt). length (row ∷ l) ≤ 1) (sym none) (omega arith)
    at false e few = few

few_left : (row : Receipt) (rows : List Receipt) → HaveOne (row ∷ rows) → HaveOne rows
few_left row rows few key = at (bytes_eq key (key_of row)) (few key)
  where
    at : (b : Bool) → length (cond b (row ∷ under key rows) (under key rows)) ≤ 1 → length (under key rows) ≤ 1
    at true one = omega (arith, one)
    at false one = one

-- two keys in order that are not the same
module _ (r s : Receipt) (rows : List Receipt) (sorted : IsSorted receipt_order (r ∷ s ∷ rows)) (few : HaveOne (r ∷ s ∷ rows)) where
  abbrev under_both : Bool → Bool → ℕ
  under_both own other = length (cond own (r ∷ cond other (s ∷ under (key_of r) rows) (under (key_of r) rows)) (cond other (s ∷ under (key_of r) rows) (under (key_of r) rows)))

  not_twice : bytes_eq (key_of r) (key_of s) ≡ true → ⊥
  not_twice same =
      let two : length (under (key_of r) (r ∷ s ∷ rows)) ≡ suc (suc (length (under (key_of r) rows))) = ap₂ under_both ((bytes_eq-Decides (key_of r) (key_of r)).1 refl) same in
      omega (arith, two, few (key_of r))

  follows : is_lt (slice_cmp nat_cmp (key_of r) (key_of s)) ≡ true
  follows = at (slice_cmp nat_cmp (key_of r) (key_of s)) refl
    where
      at : (o : Ordering) → slice_cmp nat_cmp (key_of r) (key_of s) ≡ o → is_lt o ≡ true
      at Less e = refl
      at Equal e = absurd (not_twice (sym (is_eq-slice_cmp (key_of r) (key_of s)) ∙ ap is_eq e))
      at Greater e =
          let not_less : is_lt (receipt_order s r) ≡ false = sorted 0 r (omega arith) (omega arith) in
          absurd (false≢true (sym not_less ∙ ap is_lt (receipt_total.antisymm s r ∙ ap ordering_reverse e)))

  tail : IsSorted receipt_order (s ∷ rows)
  tail k d low high = rw Rattle.std.proofs.Common.add-one (rw Rattle.std.proofs.Common.add-one at (sorted (suc k) d (omega arith) (omega arith)))

ascend : (row : Receipt) (rows : List Receipt) → IsSorted receipt_order (row ∷ rows) → HaveOne (row ∷ rows) → KeysAscend (Some (key_of row)) (map key_of rows)
ascend r [] sorted few = tt
ascend r (s ∷ rows) sorted few = (follows r s rows sorted few, ascend s rows (tail r s rows sorted few) (few_left r (s ∷ rows) few))

all_ascend : (rows : List Receipt) → IsSorted receipt_order rows → HaveOne rows → KeysAscend None (map key_of rows)
all_ascend [] sorted few = tt
all_ascend (row ∷ rows) sorted few = (refl, ascend row rows sorted few)

pub sorted_receipts : (court : CourtSettings) (later : Bool) (h : History) → IsHistory court h → AllByRecursion IsCommand h → AreOfKnownKinds later h → (rows : List Receipt) → AreInOrder receipt_order (receipts court h) rows → AreSoundReceipts later (map receipt_row rows)
sorted_receipts court later h is all known rows order =
    let one = few_under (receipts court h) (keys_apart court h is) in
    let few : HaveOne rows = λ key. omega (arith, one key, length_permutation _ _ (IsPermutation-filter (λ (row : Receipt). bytes_eq key (key_of row)) (receipts court h) rows order.same)) in
    record {
      apart = subst (KeysAscend None) (sym (map-map (λ (row : ReceiptRecord). row.key) receipt_row rows)) (all_ascend rows order.sorted few);
      within = all-permutation (IsSoundReceipt later) (map receipt_row (receipts court h)) (map receipt_row rows) (IsPermutation-map receipt_row (receipts court h) rows order.same) (sound_receipts later court h is all known);
    }
