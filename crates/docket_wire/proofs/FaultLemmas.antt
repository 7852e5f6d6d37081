-- A text that is read as no command has the fault that is reported.
use Rattle.std.proofs.Common.{◌≡◌, ◌↔◌, ℕ, Bool, true, false, List, [], ◌∷◌, Option, Some, None, option_map, is_none, Result, Ok, Err, refl, ap, sym, ◌∙◌, cond}
use Rattle.std.specs.Prelude.{find, not, is_some, IsSome}
use Rattle.std.specs.Option.{option_map_or}
use Rattle.serde_json.specs.Data.{Data, Members}
use Rattle.serde_json.specs.Find.{as_str, as_object}
use Rattle.docket_command.specs.declared.field.Field.{Field}
use Rattle.docket_command.specs.declared.field.Field.TheVariants as field
use Rattle.docket_command.specs.declared.command_name.CommandName.{CommandName}
use Rattle.docket_command.specs.declared.command.Command.{Command}
use Rattle.docket_command.specs.declared.command.Action.{Action}
use Rattle.docket_wire.specs.declared.fault.WireFault.{WireFault}
use Rattle.docket_wire.specs.declared.fault.WireFault.TheVariants.{NotJson, NotAnObject, UnknownCommand, MissingField, WrongField, UnknownField}
use Rattle.docket_wire.specs.FirstFaults.{is_wrong, first_wrong, HasFault, not_json, not_an_object, unknown_command, missing_field, wrong_field, unknown_field}
use Rattle.docket_wire.specs.Members.{◌>>=◌, or_fault, present, required, optional, optional_of}
use Rattle.docket_command.specs.FieldTypes as of
use Rattle.docket_command.specs.Schema.{FieldSpec, must, may, field_of, ValueIn, Makes, fields_of, made_of}
use Rattle.docket_wire.specs.Reading.{json_of, command_in, command_of, action_at, meaning_of, read_field, read_fields, first_missing, no_missing, no_other, only_known, name_of_object}
use Rattle.docket_wire.specs.Tables.{that_must, all_fields, required_fields, known_fields}
use Rattle.docket_wire.proofs.SpellsLemmas.{after_ok, said, may_said, there_is}

-- ---- one step

abbrev err : {A : Type 0} → WireFault → Result A WireFault
err e = Err e

err_is : {A : Type 0} (d e : WireFault) → err {A = A} d ≡ err e → d ≡ e
err_is d e h = cc

-- a step that fails, or one that returns a value, before a fault
on_err : {A B : Type 0} (r : Result A WireFault) (g : A → Result B WireFault) (e : WireFault) (P : Type 0) → (r >>= g) ≡ Err e → (r ≡ Err e → P) → ((x : A) → r ≡ Ok x → g x ≡ Err e → P) → P
on_err (Ok x) g e P h bad good = good x refl h
on_err (Err d) g e P h bad good = bad (ap Err (err_is d e h))

none_is : {A : Type 0} (fault : WireFault) (o : Option A) (e : WireFault) → or_fault fault o ≡ Err e → (e ≡ fault) × (o ≡ None)
none_is fault None e h = (sym (err_is fault e h), refl)
none_is fault (Some x) e h = absurd cc

-- ---- fields that are there

abbrev IsThere : Field → Data → Type 0
IsThere f d = (v : Data) × (present f d ≡ Some v)

abbrev AllThere : List Field → Data → Type 0
AllThere [] d = Unit {0}
AllThere (f ∷ fs) d = IsThere f d × AllThere fs d

all_there : (fields : List Field) (d : Data) → first_missing fields d ≡ None → AllThere fields d
all_there [] d h = tt
all_there (f ∷ fs) d h = from (λ k. all_there fs d k) (present f d) refl h
  where
    from : (first_missing fs d ≡ None → AllThere fs d) → (o : Option Data) → present f d ≡ o → cond (is_none o) (Some f) (find (λ g. is_none (present g d)) fs) ≡ None → IsThere f d × AllThere fs d
    from rest None p k = absurd cc
    from rest (Some v) p k = ((v, p), rest k)

-- ---- one field

fine_said : {A : Type 0} (meaning : Data → Option A) (f : Field) (d : Data) (x : A) → required meaning f d ≡ Ok x → option_map_or (λ v. not (is_some (meaning v))) (present f d) false ≡ false
fine_said meaning f d x e = let s = said meaning f d x e in rw (s.1, s.2) refl

fine_may : {A : Type 0} (meaning : Data → Option A) (f : Field) (d : Data) (o : Option A) → optional meaning f d ≡ Ok o → option_map_or (λ v. not (is_some (meaning v))) (present f d) false ≡ false
fine_may meaning f d None e = let s = may_said meaning f d None e in rw s refl
fine_may meaning f d (Some x) e = let s = may_said meaning f d (Some x) e in rw (s.1, s.2) refl

fine : (s : FieldSpec) (d : Data) (x : ValueIn s) → read_field s d ≡ Ok x → is_wrong d s ≡ false
unfolding is_wrong
fine (must f t) d x e = fine_said (meaning_of t) f d x e
fine (may f t) d x e = fine_may (meaning_of t) f d x e

wrong_said : {A : Type 0} (meaning : Data → Option A) (f : Field) (d : Data) (e : WireFault) → IsThere f d → required meaning f d ≡ Err e → (e ≡ WrongField f) × (option_map_or (λ v. not (is_some (meaning v))) (present f d) false ≡ true)
wrong_said meaning f d e there h =
    let at_value : or_fault (WrongField f) (meaning there.0) ≡ Err e = rw there.1 at h in
    let none = none_is (WrongField f) (meaning there.0) e at_value in
    (none.0, rw (there.1, none.1) refl)

wrong_may : {A : Type 0} (meaning : Data → Option A) (f : Field) (d : Data) (e : WireFault) → optional meaning f d ≡ Err e → (e ≡ WrongField f) × (option_map_or (λ v. not (is_some (meaning v))) (present f d) false ≡ true)
wrong_may {A = A} meaning f d e h = from (present f d) refl h
  where
    with_value : (v : Data) (m : Option A) → present f d ≡ Some v → meaning v ≡ m → or_fault (WrongField f) (option_map Some m) ≡ Err e → (e ≡ WrongField f) × (option_map_or (λ v. not (is_some (meaning v))) (present f d) false ≡ true)
    with_value v None p q k = (sym (err_is (WrongField f) e k), rw (p, q) refl)
    with_value v (Some x) p q k = absurd cc

    from : (o : Option Data) → present f d ≡ o → optional_of meaning f o ≡ Err e → (e ≡ WrongField f) × (option_map_or (λ v. not (is_some (meaning v))) (present f d) false ≡ true)
    from None p k = absurd cc
    from (Some v) p k = with_value v (meaning v) p refl k

-- ---- the fields of an action

-- the first of the fields that is wrong
abbrev wrong_in : List FieldSpec → Data → Option Field
wrong_in ss d = option_map field_of (find (is_wrong d) ss)

abbrev IsWrongIn : List FieldSpec → Data → WireFault → Type 0
IsWrongIn ss d e = (f : Field) × (e ≡ WrongField f) × (wrong_in ss d ≡ Some f)

first_is : (s : FieldSpec) (ss : List FieldSpec) (d : Data) (e : WireFault) → AllThere (that_must (s ∷ ss)) d → read_field s d ≡ Err e → IsWrongIn (s ∷ ss) d e
unfolding is_wrong
first_is (must f t) ss d e there h = let w = wrong_said (meaning_of t) f d e there.0 h in (f, w.0, rw (w.1) refl)
first_is (may f t) ss d e there h = let w = wrong_may (meaning_of t) f d e h in (f, w.0, rw (w.1) refl)

rest_there : (s : FieldSpec) (ss : List FieldSpec) (d : Data) → AllThere (that_must (s ∷ ss)) d → AllThere (that_must ss) d
rest_there (must f t) ss d there = there.1
rest_there (may f t) ss d there = there

fields_wrong : (ss : List FieldSpec) (make : Makes ss) (d : Data) (e : WireFault) → AllThere (that_must ss) d → read_fields ss make d ≡ Err e → IsWrongIn ss d e
fields_wrong [] made d e there h = absurd cc
fields_wrong (s ∷ ss) make d e there h =
    on_err (read_field s d) (λ x. read_fields ss (make x) d) e (IsWrongIn (s ∷ ss) d e) h
    (first_is s ss d e there)
    (λ x e0 h1. let w = fields_wrong ss (make x) d e (rest_there s ss d there) h1 in (w.0, w.1, rw (fine s d x e0) w.2))

fields_fine : (ss : List FieldSpec) (make : Makes ss) (d : Data) (a : Action) → read_fields ss make d ≡ Ok a → wrong_in ss d ≡ None
fields_fine [] made d a h = refl
fields_fine (s ∷ ss) make d a h =
    after_ok (read_field s d) (λ x. read_fields ss (make x) d) a (wrong_in (s ∷ ss) d ≡ None) h
    (λ x e0 h1. rw (fine s d x e0) (fields_fine ss (make x) d a h1))

-- ---- with the key before them

abbrev IsWrong : CommandName → Data → WireFault → Type 0
IsWrong kind d e = IsWrongIn (all_fields kind) d e

abbrev key_spec : FieldSpec
key_spec = must field.Key of.Text

key_wrong : (kind : CommandName) (d : Data) (e : WireFault) → AllThere (required_fields kind) d → required as_str field.Key d ≡ Err e → IsWrong kind d e
key_wrong kind d e there h = first_is key_spec (fields_of kind) d e there h

action_wrong : (kind : CommandName) (d : Data) (e : WireFault) (key : List ℕ) → AllThere (required_fields kind) d → required as_str field.Key d ≡ Ok key → action_at kind d ≡ Err e → IsWrong kind d e
unfolding action_at
action_wrong kind d e key there k h = let w = fields_wrong (fields_of kind) (made_of kind) d e there.1 h in (w.0, w.1, rw (fine key_spec d key k) w.2)

action_fine : (kind : CommandName) (d : Data) (a : Action) (key : List ℕ) → required as_str field.Key d ≡ Ok key → action_at kind d ≡ Ok a → first_wrong kind d ≡ None
unfolding action_at
action_fine kind d a key k h = rw (fine key_spec d key k) (fields_fine (fields_of kind) (made_of kind) d a h)

-- ---- the whole

missing_is : (fields : List Field) (d : Data) (e : WireFault) → no_missing fields d ≡ Err e → (f : Field) × (e ≡ MissingField f) × (first_missing fields d ≡ Some f)
missing_is fields d e h = from (first_missing fields d) refl
  where
    from : (o : Option Field) → first_missing fields d ≡ o → (f : Field) × (e ≡ MissingField f) × (first_missing fields d ≡ Some f)
    from None p = let good = rw p at h in absurd cc
    from (Some f) p = let bad : err {A = Bool} (MissingField f) ≡ err e = rw p at h in (f, sym (err_is (MissingField f) e bad), p)

nothing_missing : (fields : List Field) (d : Data) (b : Bool) → no_missing fields d ≡ Ok b → first_missing fields d ≡ None
nothing_missing fields d b h = from (first_missing fields d) refl
  where
    from : (o : Option Field) → first_missing fields d ≡ o → first_missing fields d ≡ None
    from None p = p
    from (Some f) p = let bad = rw p at h in absurd cc

other_is : (fields : List Field) (d : Data) (e : WireFault) → no_other fields d ≡ Err e → (e ≡ UnknownField) × (only_known fields d ≡ false)
other_is fields d e h = from (only_known fields d) refl
  where
    from : (t : Bool) → only_known fields d ≡ t → (e ≡ UnknownField) × (only_known fields d ≡ false)
    from true p = let good = rw p at h in absurd cc
    from false p = let bad : err {A = Bool} UnknownField ≡ err e = rw p at h in (sym (err_is UnknownField e bad), p)

some_is : (d : Data) (ms : Members) → as_object d ≡ Some ms → IsSome (as_object d)
some_is d ms e = rw e refl

object_fault : (bytes : List ℕ) (d : Data) (e : WireFault) → json_of bytes ≡ Some d → command_of d ≡ Err e → HasFault bytes e
unfolding command_of
object_fault bytes d e json h =
    on_err _ _ _ _ h (λ b. let n = none_is NotAnObject (as_object d) e b in not_an_object d n.0 json n.1) (λ members e0 h.
    let object = some_is d members (there_is NotAnObject (as_object d) members e0) in
    on_err _ _ _ _ h (λ b. let n = none_is UnknownCommand (name_of_object d) e b in unknown_command d n.0 json object n.1) (λ kind e1 h.
    let named = there_is UnknownCommand (name_of_object d) kind e1 in
    on_err _ _ _ _ h (λ b. let m = missing_is (required_fields kind) d e b in missing_field d kind m.0 m.1 json (object, named) m.2) (λ all e2 h.
    let here = nothing_missing (required_fields kind) d all e2 in
    let there = all_there (required_fields kind) d here in
    on_err _ _ _ _ h (λ b. let w = key_wrong kind d e there b in wrong_field d kind w.0 w.1 json (object, named) here w.2) (λ key e3 h.
    on_err _ _ _ _ h (λ b. let w = action_wrong kind d e key there e3 b in wrong_field d kind w.0 w.1 json (object, named) here w.2) (λ a e4 h.
    on_err _ _ _ _ h (λ b. let u = other_is (known_fields kind) d e b in unknown_field d kind u.0 json (object, named) here (action_fine kind d a key e3 e4) u.1) (λ known e5 h. absurd cc))))))

pub has_fault : (bytes : List ℕ) (e : WireFault) → command_in bytes ≡ Err e → HasFault bytes e
unfolding command_in
has_fault bytes e h =
    on_err _ _ _ _ h (λ b. let n = none_is NotJson (json_of bytes) e b in not_json n.0 n.1) (λ d e0 h. object_fault bytes d e (there_is NotJson (json_of bytes) d e0) h)

-- ---- and the other way

abbrev rest : CommandName → Data → Result Command WireFault
rest kind d =
    required as_str field.Key d >>= (λ key. action_at kind d >>= (λ a. no_other (known_fields kind) d >>= (λ known. Ok (record { key = key; action = a }))))

read_of : (bytes : List ℕ) (d : Data) → json_of bytes ≡ Some d → command_in bytes ≡ command_of d
unfolding command_in
read_of bytes d json = rw json refl

steps : (d : Data) (ms : Members) (kind : CommandName) → as_object d ≡ Some ms → name_of_object d ≡ Some kind → first_missing (required_fields kind) d ≡ None → command_of d ≡ rest kind d
unfolding command_of
steps d ms kind object named here = rw (object, named, here) refl

object_is : (d : Data) → IsSome (as_object d) → (ms : Members) × (as_object d ≡ Some ms)
object_is d h = from (as_object d) refl
  where
    from : (o : Option Members) → as_object d ≡ o → (ms : Members) × (as_object d ≡ Some ms)
    from None p = let bad : IsSome {T = Members} None = rw p at h in absurd cc
    from (Some ms) p = (ms, p)

wrong_back : (kind : CommandName) (d : Data) (f : Field) → first_missing (required_fields kind) d ≡ None → first_wrong kind d ≡ Some f → rest kind d ≡ Err (WrongField f)
wrong_back kind d f here wrong = from (all_there (required_fields kind) d here) (required as_str field.Key d) (action_at kind d) refl refl
  where
    from : AllThere (required_fields kind) d → (r : Result (List ℕ) WireFault) (s : Result Action WireFault) → required as_str field.Key d ≡ r → action_at kind d ≡ s → rest kind d ≡ Err (WrongField f)
    from there (Err e) s p q =
        let w = key_wrong kind d e there p in
        let same : Some w.0 ≡ Some f = sym w.2 ∙ wrong in
        let is : e ≡ WrongField f = w.1 ∙ ap WrongField (cc) in
        rw (p, is) refl
    from there (Ok key) (Err e) p q =
        let w = action_wrong kind d e key there p q in
        let same : Some w.0 ≡ Some f = sym w.2 ∙ wrong in
        let is : e ≡ WrongField f = w.1 ∙ ap WrongField (cc) in
        rw (p, q, is) refl
    from there (Ok key) (Ok a) p q = let bad : None ≡ Some f = sym (action_fine kind d a key p q) ∙ wrong in absurd cc

unknown_back : (kind : CommandName) (d : Data) → first_missing (required_fields kind) d ≡ None → first_wrong kind d ≡ None → only_known (known_fields kind) d ≡ false → rest kind d ≡ Err UnknownField
unknown_back kind d here fine other = from (all_there (required_fields kind) d here) (required as_str field.Key d) (action_at kind d) refl refl
  where
    from : AllThere (required_fields kind) d → (r : Result (List ℕ) WireFault) (s : Result Action WireFault) → required as_str field.Key d ≡ r → action_at kind d ≡ s → rest kind d ≡ Err UnknownField
    from there (Err e) s p q =
        let w = key_wrong kind d e there p in
        let bad : Some w.0 ≡ None = sym w.2 ∙ fine in absurd cc
    from there (Ok key) (Err e) p q =
        let w = action_wrong kind d e key there p q in
        let bad : Some w.0 ≡ None = sym w.2 ∙ fine in absurd cc
    from there (Ok key) (Ok a) p q = rw (p, q, other) refl

fault_from : (bytes : List ℕ) (e : WireFault) → HasFault bytes e → command_in bytes ≡ Err e
unfolding command_in command_of
fault_from bytes e (not_json is none) = rw (none, is) refl
fault_from bytes e (not_an_object d is json none) = rw (json, none, is) refl
fault_from bytes e (unknown_command d is json object none) = let o = object_is d object in rw (json, o.1, none, is) refl
fault_from bytes e (missing_field d kind f is json k lacks) = let o = object_is d k.0 in rw (json, o.1, k.1, lacks, is) refl
fault_from bytes e (wrong_field d kind f is json k here wrong) =
    let o = object_is d k.0 in read_of bytes d json ∙ steps d o.0 kind o.1 k.1 here ∙ wrong_back kind d f here wrong ∙ ap Err (sym is)
fault_from bytes e (unknown_field d kind is json k here fine other) =
    let o = object_is d k.0 in read_of bytes d json ∙ steps d o.0 kind o.1 k.1 here ∙ unknown_back kind d here fine other ∙ ap Err (sym is)

pub told_in_order : (bytes : List ℕ) (e : WireFault) → (command_in bytes ≡ Err e) ↔ HasFault bytes e
told_in_order bytes e = (has_fault bytes e, fault_from bytes e)
