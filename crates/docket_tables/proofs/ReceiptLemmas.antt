-- What a receipt that was read shows of the rows.
use Rattle.std.proofs.Common.{◌≡◌, ◌∙◌, ◌==◌, ◌||◌, ◌&&◌, ℕ, pos, suc, Bool, true, false, cond, List, [], ◌∷◌, filter, slice_get, Some, None, Option, IfSome, Ok, Result, IfOk, IfErr, refl, sym, ap, subst, arith}
use Rattle.std.specs.Coded.{coded_bool}
use base.Stored.{Coded-set}
use Rattle.std.specs.List.{Contains, list_any}
use Rattle.std.specs.Option.{ok_or}
use Rattle.std.specs.Str.{bytes_eq}
use Rattle.std.proofs.Math.Logic.{∥∥₁_elim}
use Rattle.std.proofs.lemmas.Bool.{and_parts, eqb-true, eq-eqb, false≢true}
use Rattle.std.proofs.lemmas.List.Sorted.{list_any-IsPermutation}
use Rattle.std.proofs.lemmas.Slice.Eq.{bytes_eq-Decides}
use Rattle.sqlite.specs.declared.types.Value.TheVariants.{Int, Text}
use Rattle.sqlite.specs.Order.{Row}
use Rattle.docket_command.specs.declared.refusal.Reply.{Reply}
use Rattle.docket_history.specs.declared.view.Kept.{Kept}
use Rattle.docket_history.specs.declared.view.Kept.TheVariants.{Same, Other}
use Rattle.docket_columns.specs.Cells.{kept_as, stored_cells}
use Rattle.docket_tables.specs.Holds.{has_key}
use Rattle.docket_tables.specs.Queries.{IsAnswer}
use Rattle.docket_tables.specs.declared.fault.ReadFault.{ReadFault}
use Rattle.docket_tables.specs.declared.fault.ReadFault.TheVariants.{Damaged}
use Rattle.docket_tables.specs.declared.query.Query.TheVariants as ask
use Rattle.docket_tables.proofs.CellLemmas.{equal_text}
use Rattle.docket_tables.proofs.HoldsLemmas.{and_yes}

-- what is kept as the same command has its body, and that reply
pub kept_same : (stored : List ℕ) (number : ℕ) (body : List ℕ) (reply : Reply) → kept_as stored number body ≡ Same reply → (stored ≡ body) × (number ≡ reply.number)
kept_same stored number body reply = at (bytes_eq stored body) refl
  where
    at : (b : Bool) → bytes_eq stored body ≡ b → cond b (Same (record { number = number })) Other ≡ Same reply → (stored ≡ body) × (number ≡ reply.number)
    at true same is = ((bytes_eq-Decides stored body).0 same, let it = is in cc)
    at false other is = absurd (let no = is in cc)

-- the row of a receipt whose reply is returned has that body
pub kept_told : (found : Option Kept) (result : Result Kept ReadFault) (row : Row) (body : List ℕ) → result ≡ ok_or found Damaged
    → IfSome found (λ kept. (key stored : List ℕ) × (number : ℕ) × (row ≡ stored_cells key stored number) × (kept ≡ kept_as stored number body))
    → (reply : Reply) → result ≡ Ok (Same reply) → (key : List ℕ) × (row ≡ stored_cells key body reply.number)
kept_told None result row body is sound reply same = absurd (subst (λ (r : Result Kept ReadFault). IfErr r (λ _. ⊥)) (sym same ∙ is) tt)
kept_told (Some kept) result row body is sound reply same =
    let kept_is = subst (λ (r : Result Kept ReadFault). IfOk r (λ k. k ≡ Same reply)) (sym same ∙ is) refl in
    let parts = kept_same sound.1 sound.2 body reply (sym sound.4 ∙ kept_is) in
    (sound.0, sound.3 ∙ (λ i. stored_cells sound.0 (parts.0 i) (parts.1 i)))

pub first_there : (rows : List Row) (row : Row) → Some row ≡ slice_get rows 0 → (rest : List Row) × (rows ≡ row ∷ rest)
first_there [] row is = absurd (let no = is in cc)
first_there (r ∷ rows) row is =
    let same : r ≡ row = let it = is in cc in
    (rows, ap (λ x. x ∷ rows) same)

-- a row of receipts with this body and this reply
has_stored : List ℕ → ℕ → Row → Bool
has_stored body reply (Text key ∷ Text stored ∷ Int (pos number) ∷ []) = bytes_eq stored body && (number == reply)
has_stored body reply other = false

is_stored : (key body : List ℕ) (reply : ℕ) (row : Row) → has_key (0 ∷ []) (Text key ∷ []) row ≡ true → has_stored body reply row ≡ true → row ≡ stored_cells key body reply
unfolding has_stored
is_stored key body reply (Text k ∷ Text stored ∷ Int (pos number) ∷ []) keyed is =
    let parts = and_parts (bytes_eq stored body) (number == reply) is in
    let same : k ≡ key = (bytes_eq-Decides k key).0 (sym (equal_text k key) ∙ sym (and_yes _) ∙ keyed) in
    let whole = (bytes_eq-Decides stored body).0 parts.0 in
    let count = eqb-true number reply parts.1 in
    λ i. stored_cells (same i) (whole i) (count i)
is_stored key body reply other keyed is = absurd (false≢true is)

stored_passes : (key body : List ℕ) (reply : ℕ) → has_stored body reply (stored_cells key body reply) ≡ true
unfolding has_stored
stored_passes key body reply = ap (λ b. b && (reply == reply)) ((bytes_eq-Decides body body).1 refl) ∙ eq-eqb reply reply refl

-- one that passes both tests stands among the rows

further : (r x : Row) (rows : List Row) → Contains rows x → Contains (r ∷ rows) x
further r x rows later = (suc later.0, omega (arith, later.1), later.2)

module _ (passes test : Row → Bool) (x : Row) (is : (r : Row) → passes r ≡ true → test r ≡ true → r ≡ x) where
  among_more : (r : Row) (rows : List Row) → (list_any test (filter passes rows) ≡ true → Contains rows x) → (p t : Bool) → passes r ≡ p → test r ≡ t
      → list_any test (cond p (r ∷ filter passes rows) (filter passes rows)) ≡ true → Contains (r ∷ rows) x
  among_more r rows more true true passed one any = (0, omega arith, is r passed one)
  among_more r rows more true false passed one any = further r x rows (more (sym (ap (λ b. b || list_any test (filter passes rows)) one) ∙ any))
  among_more r rows more false t passed one any = further r x rows (more any)

  among : (rows : List Row) → list_any test (filter passes rows) ≡ true → Contains rows x
  among [] found = absurd (false≢true found)
  among (r ∷ rows) found = among_more r rows (among rows) (passes r) (test r) refl refl found

-- the receipt that answers for a key
pub receipt_found : (key body : List ℕ) (reply : ℕ) (all found : List Row) → IsAnswer ask.Receipt (Text key ∷ []) all found
    → (other : List ℕ) × (rest : List Row) × (found ≡ stored_cells other body reply ∷ rest) → Contains all (stored_cells key body reply)
receipt_found key body reply all found answer it =
    among (has_key (0 ∷ []) (Text key ∷ [])) (has_stored body reply) (stored_cells key body reply) (is_stored key body reply) all
    (∥∥₁_elim answer (Coded-set coded_bool _ _) (λ a.
    list_any-IsPermutation (has_stored body reply) _ a.whole a.same
    ∙ ap (list_any (has_stored body reply)) (sym a.first ∙ it.2) ∙ ap (λ b. b || list_any (has_stored body reply) it.1) (stored_passes it.0 body reply)))
