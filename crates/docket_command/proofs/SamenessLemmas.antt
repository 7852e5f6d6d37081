-- Commands are equal where their fields are.
use Rattle.std.proofs.Common.{◌≡◌, ℕ, Bool, true, false, List, [], ◌∷◌, Option, Some, None, refl, ap, sym, subst, ◌∙◌}
use Rattle.std.specs.Bool.{Decides}
use Rattle.std.specs.Cmp.Lexicographic.{pointwise}
use Rattle.std.proofs.lemmas.Bool.Decides.{Decides-and, Decides-like, Decides-eqb}
use Rattle.std.proofs.lemmas.Slice.Eq.{bytes_eq-Decides, slice_eq-Decides}
use Rattle.docket_command.specs.Words.{day_kind_word, day_kind_named, basis_word, basis_named, direction_word, direction_named, motion_kind_word, motion_kind_named, period_unit_word, period_unit_named, pleading_kind_word, pleading_kind_named, role_word, role_named, ruling_word, ruling_named, service_method_word, service_method_named, sovereign_word, sovereign_named, way_word, way_named}
use Rattle.docket_command.specs.Names.{command_word, command_named, name_of}
use Rattle.docket_command.specs.FieldTypes.{FieldType, ValueOf}
use Rattle.docket_command.specs.FieldTypes as of
use Rattle.docket_command.specs.Schema.{FieldSpec, must, may, ValueIn, Values, fields_of, values_of}
use Rattle.docket_command.specs.Sameness.{Plain, absent, a_number, a_flag, a_text, some_days, plain, plain_in, plains, plains_of, is_same_plain, is_same_word, is_same_flag, is_same_new_day, are_same_new_days, is_same_action, is_same_command}
use Rattle.docket_command.specs.declared.command.Command.{Command}
use Rattle.docket_command.specs.declared.command.Action.{Action}
use Rattle.docket_command.specs.declared.command_name.CommandName.{CommandName}
use Rattle.docket_command.specs.declared.new_day.NewDay.{NewDay}
use Rattle.docket_command.proofs.SchemaLemmas.{made, is_made}
use Rattle.docket_command.proofs.WordLemmas.{command_name_back, day_kind_back, basis_back, direction_back, motion_kind_back, period_unit_back, pleading_kind_back, role_back, ruling_back, service_method_back, sovereign_back, way_back}

-- ---- single values

one_word : {A : Type 0} (word : A → List ℕ) (named : List ℕ → Option A) → ((x : A) → named (word x) ≡ Some x) → (x y : A) → word x ≡ word y → x ≡ y
one_word word named back x y e = let both : Some x ≡ Some y = sym (back x) ∙ ap named e ∙ back y in cc

same_word : {A : Type 0} (word : A → List ℕ) (named : List ℕ → Option A) → ((x : A) → named (word x) ≡ Some x) → (x y : A) → Decides (is_same_word word x y) (x ≡ y)
same_word word named back x y = Decides-like _ (one_word word named back x y) (ap word) (bytes_eq-Decides (word x) (word y))

same_flag : (x y : Bool) → Decides (is_same_flag x y) (x ≡ y)
same_flag true true = (λ e. refl, λ e. refl)
same_flag true false = (λ e. sym e, λ e. sym e)
same_flag false true = (λ e. e, λ e. e)
same_flag false false = (λ e. refl, λ e. refl)

same_new_day : (x y : NewDay) → Decides (is_same_new_day x y) (x ≡ y)
same_new_day x y =
    Decides-like _ (λ p i. record { kind = p.0 i; day = p.1.0 i; name = p.1.1 i }) (λ e. (ap (λ v. v.kind) e, (ap (λ v. v.day) e, ap (λ v. v.name) e)))
    (Decides-and _ _ (same_word day_kind_word day_kind_named day_kind_back x.kind y.kind) (Decides-and _ _ (Decides-eqb x.day y.day) (bytes_eq-Decides x.name y.name)))

same_new_days : (xs ys : List NewDay) → Decides (are_same_new_days xs ys) (xs ≡ ys)
same_new_days xs ys = slice_eq-Decides same_new_day xs ys _ refl

same_plain : (p q : Plain) → Decides (is_same_plain p q) (p ≡ q)
same_plain absent absent = (λ e. refl, λ e. refl)
same_plain (a_number x) (a_number y) = Decides-like _ (ap a_number) (λ e. cc) (Decides-eqb x y)
same_plain (a_flag x) (a_flag y) = Decides-like _ (ap a_flag) (λ e. cc) (same_flag x y)
same_plain (a_text x) (a_text y) = Decides-like _ (ap a_text) (λ e. cc) (bytes_eq-Decides x y)
same_plain (some_days x) (some_days y) = Decides-like _ (ap some_days) (λ e. cc) (same_new_days x y)
same_plain _ _ = (λ e. absurd cc, λ e. absurd cc)

-- ---- different values have different plain values

plain_one : (t : FieldType) (x y : ValueOf t) → plain t x ≡ plain t y → x ≡ y
plain_one of.Number x y e = cc
plain_one of.Day x y e = cc
plain_one of.Moment x y e = cc
plain_one of.TimeOfDay x y e = cc
plain_one of.Flag x y e = cc
plain_one of.Text x y e = cc
plain_one of.Rows x y e = cc
plain_one of.Basis x y e = one_word basis_word basis_named basis_back x y cc
plain_one of.Direction x y e = one_word direction_word direction_named direction_back x y cc
plain_one of.MotionKind x y e = one_word motion_kind_word motion_kind_named motion_kind_back x y cc
plain_one of.PeriodUnit x y e = one_word period_unit_word period_unit_named period_unit_back x y cc
plain_one of.PleadingKind x y e = one_word pleading_kind_word pleading_kind_named pleading_kind_back x y cc
plain_one of.Role x y e = one_word role_word role_named role_back x y cc
plain_one of.Ruling x y e = one_word ruling_word ruling_named ruling_back x y cc
plain_one of.ServiceMethod x y e = one_word service_method_word service_method_named service_method_back x y cc
plain_one of.Sovereign x y e = one_word sovereign_word sovereign_named sovereign_back x y cc
plain_one of.Way x y e = one_word way_word way_named way_back x y cc

not_absent : (t : FieldType) (x : ValueOf t) → absent ≡ plain t x → ⊥
not_absent of.Number x e = cc
not_absent _ x e = cc

plain_in_one : (s : FieldSpec) (x y : ValueIn s) → plain_in s x ≡ plain_in s y → x ≡ y
plain_in_one (must f t) x y e = plain_one t x y e
plain_in_one (may f t) None None e = refl
plain_in_one (may f t) None (Some y) e = absurd (not_absent t y e)
plain_in_one (may f t) (Some x) None e = absurd (not_absent t x (sym e))
plain_in_one (may f t) (Some x) (Some y) e = ap Some (plain_one t x y e)

heads : (p q : Plain) (ps qs : List Plain) → (p ∷ ps) ≡ (q ∷ qs) → (p ≡ q) × (ps ≡ qs)
heads p q ps qs e = (cc, cc)

plains_one : (ss : List FieldSpec) (x y : Values ss) → plains ss x ≡ plains ss y → x ≡ y
plains_one [] x y e = refl
plains_one (s ∷ ss) x y e =
    let p = heads _ _ _ _ e in
    let first = plain_in_one s x.0 y.0 p.0 in
    let others = plains_one ss x.1 y.1 p.1 in
    λ i. (first i, others i)

-- ---- the whole

made_one : (k l : CommandName) → k ≡ l → (x : Values (fields_of k)) (y : Values (fields_of l)) → plains (fields_of k) x ≡ plains (fields_of l) y → made k x ≡ made l y
made_one k l same x = subst (λ m. (y : Values (fields_of m)) → plains (fields_of k) x ≡ plains (fields_of m) y → made k x ≡ made m y) same (λ y e. ap (made k) (plains_one (fields_of k) x y e))

same_name : (k l : CommandName) → Decides (is_same_word command_word k l) (k ≡ l)
same_name = same_word command_word command_named command_name_back

same_plains : (ps qs : List Plain) → Decides (pointwise is_same_plain ps qs) (ps ≡ qs)
same_plains ps qs = slice_eq-Decides same_plain ps qs _ refl

pub same_action : (a b : Action) → Decides (is_same_action a b) (a ≡ b)
unfolding is_same_action
same_action a b =
    Decides-like _
    (λ p. sym (is_made a) ∙ made_one (name_of a) (name_of b) p.0 (values_of a) (values_of b) p.1 ∙ is_made b)
    (λ e. (ap name_of e, ap plains_of e))
    (Decides-and _ _ (same_name (name_of a) (name_of b)) (same_plains (plains_of a) (plains_of b)))

pub other_kinds : (a b : Action) → is_same_word command_word (name_of a) (name_of b) ≡ false → false ≡ is_same_action a b
unfolding is_same_action
other_kinds a b e = rw e refl

pub same_command : (c d : Command) → Decides (is_same_command c d) (c ≡ d)
same_command c d =
    Decides-like _ (λ p i. record { key = p.0 i; action = p.1 i }) (λ e. (ap (λ v. v.key) e, ap (λ v. v.action) e))
    (Decides-and _ _ (bytes_eq-Decides c.key d.key) (same_action c.action d.action))
