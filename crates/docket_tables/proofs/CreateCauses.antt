-- A CREATE of a table is not refused where the tables before it stand.
use Rattle.std.proofs.Common.{◌≡◌, ◌⊎◌, inl, inr, ◌∙◌, ◌+◌, ◌*◌, ◌^◌, ◌≤◌, ℕ, suc, Bool, not, nat_lt, List, [], ◌∷◌, length, map, codes, IsUtf8, IsAscii, zero, true, false, None, Some, Option, Ok, Err, Result, refl, sym, ap, subst, arith}
use Rattle.std.specs.List.{list_any, list_all}
use Rattle.std.proofs.lemmas.Bool.{and_parts, ltb-true, not-false, or_parts, true≢false}
use Rattle.std.proofs.lemmas.Str.{IsUtf8-from_ascii}
use Rattle.sqlite.specs.declared.types.Value.TheVariants.{Text}
use Rattle.sqlite.specs.Change.{created, next_tree, is_used, is_reserved, automatics}
use Rattle.sqlite.specs.Command.TheVariants.{CreateTable}
use Rattle.sqlite.specs.Compile.{table_defined_by}
use Rattle.sqlite.specs.Does.{Does, MakesTable, MakesSequence, Defines as Redefining, lacks_sequence}
use Rattle.sqlite.specs.Effect.{Database}
use Rattle.sqlite.specs.Listing.{understood}
use Rattle.sqlite.specs.Rows.{Then}
use Rattle.sqlite.specs.State.{State, mode_of, ExecutesInside}
use Rattle.sqlite.specs.Table.{Table as Shape}
use Rattle.sqlite.specs.declared.error.Error.{Error}
use Rattle.sqlite.specs.declared.run.Mode.{Mode}
use Rattle.sqlite.proofs.Callers.{statement_of}
use Rattle.sqlite_catalog.specs.Calls.{RefusesTable, IsLongTable}
use Rattle.sqlite_catalog.specs.Listing.{is_fit, is_formed}
use Rattle.sqlite_catalog.specs.declared.error.Refusal.{Refusal}
use Rattle.sqlite_catalog.specs.declared.error.Refusal.TheVariants.{Invalid, NameTaken, BadName, TooBig, BadKey, BadText, Violates}
use Rattle.sqlite_resolve.specs.declared.error.CompileError.{CompileError}
use Rattle.sqlite_rules.specs.Lists.{Has}
use Rattle.sqlite_schema.specs.Rules.{table_reals, index_reals}
use Rattle.sqlite_tied.specs.Compute.{everything}
use Rattle.sqlite_trees.specs.Sound.{fits_kind, is_free_name, begins}
use Rattle.sqlite_trees.specs.Sound as tree
use Rattle.sqlite_value.specs.Order.{value_cmp}
use Rattle.docket_tables.specs.Causes.{HasMakingCause}
use Rattle.docket_tables.specs.Schema.{made, definition_of}
use Rattle.docket_tables.specs.Tables.{layout_of, tables}
use Rattle.docket_tables.specs.Texts.{create_text}
use Rattle.docket_tables.specs.declared.table.Table.{Table}
use Rattle.docket_tables.proofs.CreateLemmas.{Defines, before, create_read, defines}
use Rattle.docket_tables.proofs.EachLemmas.{each_table}
use Rattle.docket_tables.proofs.MakingCauses.{IsOne, write_caused}
use Rattle.docket_tables.proofs.TextLemmas.{read_one}

abbrev are_ascii : List ℕ → Bool
are_ascii = list_all (λ b. nat_lt b 128)

ascii : (text : List ℕ) → are_ascii text ≡ true → IsAscii text
ascii [] all i = omega arith
ascii (b ∷ text) all zero = let parts = and_parts _ _ all in ltb-true _ _ parts.0
ascii (b ∷ text) all (suc i) = ascii text (and_parts _ _ all).1 i

-- the table can be made when the first n stand: its text, its name and its keys are as they have to be
pub record IsMakeable (n : ℕ) (sql : List ℕ) (table : Shape) : Type 0 where
  pub one : IsOne sql 0 CreateTable (understood (made n) sql)
  pub text : Defines n sql table
  pub spelled : are_ascii sql ≡ true
  pub name_spelled : are_ascii table.name ≡ true
  pub free : is_used (made n) table.name ≡ false
  pub keys_free : list_any (λ i. is_used (made n) i.name) (automatics table 0 0 table.uniques) ≡ false
  pub unreserved : is_reserved table.name ≡ false
  pub few : nat_lt (next_tree (made n) + length table.uniques) 65536 ≡ true
  pub narrow : nat_lt (table_reals table) (2 ^ 64) ≡ true
  pub keys_narrow : list_any (λ key. not (nat_lt (index_reals (table_reals table) key) (2 ^ 64))) table.uniques ≡ false
  pub formed : is_formed table ≡ true
  pub fit : is_fit (Text (codes "table")) (Text table.name) (Text table.name) (Text sql) ≡ true
  pub short : nat_lt (2 * length table.name + length sql + 200) (10 ^ 9) ≡ true

-- what the test answers of all tables, it answers of each
tested : (answer : Bool) (test : Table → Bool) → map test tables ≡ map (λ t. answer) tables → (table : Table) → test table ≡ answer
tested answer test = each_table test (λ t. answer)

makeable : (table : Table) → IsMakeable (layout_of table).at (create_text table) (definition_of table)
unfolding everything fits_kind is_free_name begins tree.same_name value_cmp lib.Ieee.is_nan lib.Ieee.lt
makeable table = record {
  one = read_one (create_read table) 0 refl;
  text = defines table;
  spelled = tested true (λ t. are_ascii (create_text t)) refl table;
  name_spelled = tested true (λ t. are_ascii (definition_of t).name) refl table;
  free = tested false (λ t. is_used (before t) (definition_of t).name) refl table;
  keys_free = tested false (λ t. list_any (λ i. is_used (before t) i.name) (automatics (definition_of t) 0 0 (definition_of t).uniques)) refl table;
  unreserved = tested false (λ t. is_reserved (definition_of t).name) refl table;
  few = tested true (λ t. nat_lt (next_tree (before t) + length (definition_of t).uniques) 65536) refl table;
  narrow = tested true (λ t. nat_lt (table_reals (definition_of t)) (2 ^ 64)) refl table;
  keys_narrow = tested false (λ t. list_any (λ key. not (nat_lt (index_reals (table_reals (definition_of t)) key) (2 ^ 64))) (definition_of t).uniques) refl table;
  formed = tested true (λ t. is_formed (definition_of t)) refl table;
  fit = tested true (λ t. is_fit (Text (codes "table")) (Text (definition_of t).name) (Text (definition_of t).name) (Text (create_text t))) refl table;
  short = tested true (λ t. nat_lt (2 * length (definition_of t).name + length (create_text t) + 200) (10 ^ 9)) refl table;
}

pub none_has : {X : Type 0} (P : X → Bool) (xs : List X) (x : X) → list_any P xs ≡ false → Has xs x → P x ≡ false
none_has P [] x none has = absurd has
none_has P (y ∷ ys) x none (inl is) = subst (λ z. P z ≡ false) (sym is) (or_parts _ _ none).0
none_has P (y ∷ ys) x none (inr more) = none_has P ys x (or_parts _ _ none).1 more

never : {b : Bool} → b ≡ true → b ≡ false → ⊥
never on off = true≢false (sym on ∙ off)

module _ (n : ℕ) (sql : List ℕ) (table : Shape) (it : IsMakeable n sql table) where
  same : (other : Shape) → table_defined_by sql ≡ Ok other → other ≡ table
  same other is = let both : ◌≡◌ {A = Result Shape CompileError} (Ok other) (Ok table) = sym is ∙ it.text.defined in cc

  unrefused : (why : Refusal) → RefusesTable (made n) sql why → ⊥
  unrefused (Invalid e) is = absurd (let both = sym is ∙ it.text.defined in cc)
  unrefused NameTaken (other, is, inl used) = never (subst (λ t. is_used (made n) t.name ≡ true) (same other is) used) it.free
  unrefused NameTaken (other, is, inr (index, has, used)) =
      never used (none_has (λ i. is_used (made n) i.name) (automatics table 0 0 table.uniques) index it.keys_free (subst (λ t. Has (automatics t 0 0 t.uniques) index) (same other is) has))
  unrefused BadName (other, is, inl odd) = odd (subst (λ t. IsUtf8 t.name) (sym (same other is)) (IsUtf8-from_ascii table.name (ascii table.name it.name_spelled)))
  unrefused BadName (other, is, inr reserved) = never (subst (λ t. is_reserved t.name ≡ true) (same other is) reserved.0) it.unreserved
  unrefused TooBig (other, is, big) = elim (subst (λ t. (65536 ≤ next_tree (made n) + length t.uniques) ⊎ ((2 ^ 64 ≤ table_reals t) ⊎ ((key : List ℕ) × Has t.uniques key × (2 ^ 64 ≤ index_reals (table_reals t) key)))) (same other is) big) [
    | inl many ↦ let few = ltb-true _ _ it.few in omega (arith, many, few)
    | inr (inl wide) ↦ let narrow = ltb-true _ _ it.narrow in omega (arith, wide, narrow)
    | inr (inr (key, has, wide)) ↦
        let narrow = ltb-true _ _ (not-false _ (none_has (λ k. not (nat_lt (index_reals (table_reals table) k) (2 ^ 64))) table.uniques key it.keys_narrow has)) in omega (arith, wide, narrow)
  ]
  unrefused BadKey (other, is, odd) = never it.formed (subst (λ t. is_formed t ≡ false) (same other is) odd)
  unrefused BadText (other, is, odd) = never it.fit (subst (λ t. is_fit (Text (codes "table")) (Text t.name) (Text t.name) (Text sql) ≡ false) (same other is) odd)
  unrefused (Violates rule) none = none

  not_long : IsLongTable sql → ⊥
  not_long (other, is, long) =
      let big = subst (λ t. 10 ^ 9 ≤ 2 * length t.name + length sql + 200) (same other is) long in
      let short = ltb-true _ _ it.short in
      omega (arith, big, short)

  no_table : (db : Database) (stop : Option Error) → db.schema ≡ made n → MakesTable sql db (Err stop) → ⊥
  no_table db None has long = not_long long
  no_table db (Some e) has (inl odd) = odd.0 (IsUtf8-from_ascii sql (ascii sql it.spelled))
  no_table db (Some e) has (inr (why, refused, is)) = unrefused why (subst (λ s. RefusesTable s sql why) has refused)

  no_stop : (db : Database) (mode : Mode) (stop : Option Error) → db.schema ≡ made n → Redefining mode (Then (MakesTable sql db) MakesSequence) (Err stop) → ⊥
  no_stop db mode stop has (inl (first, inl (second, none, is), also)) = no_table db second has none
  no_stop db mode stop has (inl (first, inr (after, made_one, next), also)) =
      let schema : after.schema ≡ made (suc n) = made_one.is ∙ ap (λ s. created s made_one.table) has ∙ ap (created (made n)) (same made_one.table made_one.defined) ∙ sym it.text.next in
      let gives : Err first ≡ Ok after = rw (ap lacks_sequence schema ∙ it.text.uncounted) at next in
      absurd (let no = gives in cc)
  no_stop db mode stop has (inr (after, made_one, gives)) = absurd (let no = gives in cc)

-- the making of a table fails only for a cause
pub create_caused : (table : Table) (old new : State) (e : Error) → old.now.schema ≡ made (layout_of table).at → ExecutesInside 0 (create_text table) [] old new (Err e) → HasMakingCause old new e
create_caused table old new e has ran =
    let n : ℕ = (layout_of table).at in
    let sql : List ℕ = create_text table in
    let it : IsMakeable n sql (definition_of table) = makeable table in
    let one = subst (λ s. IsOne sql 0 CreateTable (understood s sql)) (sym has) it.one in
    let words : statement_of sql (understood old.now.schema sql) ≡ sql = ap (λ s. statement_of sql (understood s sql)) has ∙ it.text.words in
    let stops : (stop : Option Error) → Does old.step_limit (mode_of old) [] old.now (statement_of sql (understood old.now.schema sql)) None CreateTable (Err stop) → ⊥ =
    λ stop h. no_stop n sql (definition_of table) it old.now (mode_of old) stop has (subst (λ text. Redefining (mode_of old) (Then (MakesTable text old.now) MakesSequence) (Err stop)) words h) in
    write_caused sql CreateTable [] old new e one tt (λ h. absurd (stops (Some e) h)) (stops None) ran
