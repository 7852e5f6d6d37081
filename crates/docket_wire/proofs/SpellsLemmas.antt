-- A text is read as a command where, and only where, it spells that command.
use Rattle.std.proofs.Common.{◌≡◌, ◌↔◌, ℕ, Bool, true, false, List, [], ◌∷◌, Option, Some, None, option_map, Result, Ok, Err, refl, ap, sym, subst, ◌∙◌}
use Rattle.serde_json.specs.Data.{Data, Members}
use Rattle.serde_json.specs.Find.{as_str, as_object}
use Rattle.docket_command.specs.declared.field.Field.{Field}
use Rattle.docket_command.specs.declared.field.Field.TheVariants as field
use Rattle.docket_command.specs.declared.command_name.CommandName.{CommandName}
use Rattle.docket_command.specs.declared.command.Command.{Command}
use Rattle.docket_command.specs.declared.command.Action.{Action}
use Rattle.docket_command.specs.Names.{name_of}
use Rattle.docket_wire.specs.declared.fault.WireFault.{WireFault}
use Rattle.docket_wire.specs.declared.fault.WireFault.TheVariants.{NotJson, NotAnObject, UnknownCommand, MissingField, WrongField}
use Rattle.docket_wire.specs.Members.{◌>>=◌, or_fault, present, required, optional, optional_of}
use Rattle.docket_command.specs.Schema.{FieldSpec, must, may, ValueIn, Values, Makes, fields_of, values_of, made_of}
use Rattle.docket_wire.specs.Reading.{json_of, command_in, command_of, action_at, meaning_of, read_field, read_fields, first_missing, refuse, no_missing, no_other, all_known, only_known, name_of_object}
use Rattle.docket_wire.specs.Tables.{that_must, all_fields, required_fields, known_fields}
use Rattle.docket_wire.specs.Spells.{Says, MaySay, SaysField, SaysFields, HasFields, IsCommandObject, Spells}
use Rattle.docket_command.proofs.SchemaLemmas.{applied, is_made, of_made}

-- ---- one step

-- a step that did not fail, with its value as a variable
pub after_ok : {A B : Type 0} (r : Result A WireFault) (f : A → Result B WireFault) (y : B) (P : Type 0) → (r >>= f) ≡ Ok y → ((x : A) → r ≡ Ok x → f x ≡ Ok y → P) → P
after_ok (Ok x) f y P e use_it = use_it x refl e
after_ok (Err d) f y P e use_it = absurd cc

abbrev given : {A : Type 0} → A → Result A WireFault
given x = Ok x

given_is : {A : Type 0} (x y : A) → given x ≡ given y → x ≡ y
given_is x y e = cc

pub there_is : {A : Type 0} (fault : WireFault) (o : Option A) (x : A) → or_fault fault o ≡ Ok x → o ≡ Some x
there_is fault None x e = absurd cc
there_is fault (Some y) x e = ap Some (given_is y x e)

-- ---- one field

pub said : {A : Type 0} (meaning : Data → Option A) (f : Field) (d : Data) (x : A) → required meaning f d ≡ Ok x → Says meaning f d x
said meaning f d x e = from (present f d) refl e
  where
    from : (o : Option Data) → present f d ≡ o → (or_fault (MissingField f) o >>= (λ v. or_fault (WrongField f) (meaning v))) ≡ Ok x → Says meaning f d x
    from None p k = absurd cc
    from (Some v) p k = (v, p, there_is (WrongField f) (meaning v) x k)

read_said : {A : Type 0} (meaning : Data → Option A) (f : Field) (d : Data) (x : A) → Says meaning f d x → required meaning f d ≡ Ok x
read_said meaning f d x s = rw (s.1, s.2) refl

pub may_said : {A : Type 0} (meaning : Data → Option A) (f : Field) (d : Data) (o : Option A) → optional meaning f d ≡ Ok o → MaySay meaning f d o
may_said {A = A} meaning f d o e = from (present f d) refl e
  where
    with_value : (v : Data) (m : Option A) → present f d ≡ Some v → meaning v ≡ m → or_fault (WrongField f) (option_map Some m) ≡ Ok o → MaySay meaning f d o
    with_value v None p q k = absurd cc
    with_value v (Some x) p q k = subst (MaySay meaning f d) (given_is (Some x) o k) (v, p, q)

    from : (p : Option Data) → present f d ≡ p → optional_of meaning f p ≡ Ok o → MaySay meaning f d o
    from None p k = subst (MaySay meaning f d) (given_is None o k) p
    from (Some v) p k = with_value v (meaning v) p refl k

read_may : {A : Type 0} (meaning : Data → Option A) (f : Field) (d : Data) (o : Option A) → MaySay meaning f d o → optional meaning f d ≡ Ok o
read_may meaning f d None s = rw s refl
read_may meaning f d (Some x) s = rw (s.1, s.2) refl

-- ---- the fields of an action

field_to : (s : FieldSpec) (d : Data) (x : ValueIn s) → read_field s d ≡ Ok x → SaysField d s x
field_to (must f t) d x e = said (meaning_of t) f d x e
field_to (may f t) d x e = may_said (meaning_of t) f d x e

field_from : (s : FieldSpec) (d : Data) (x : ValueIn s) → SaysField d s x → read_field s d ≡ Ok x
field_from (must f t) d x h = read_said (meaning_of t) f d x h
field_from (may f t) d x h = read_may (meaning_of t) f d x h

fields_to : (ss : List FieldSpec) (make : Makes ss) (d : Data) (a : Action) → read_fields ss make d ≡ Ok a → (x : Values ss) × (SaysFields d ss x) × (applied ss make x ≡ a)
fields_to [] made d a e = (tt, tt, given_is made a e)
fields_to (s ∷ ss) make d a e =
    after_ok (read_field s d) (λ x. read_fields ss (make x) d) a ((x : Values (s ∷ ss)) × (SaysFields d (s ∷ ss) x) × (applied (s ∷ ss) make x ≡ a)) e
    (λ x e0 e1. let rest = fields_to ss (make x) d a e1 in ((x, rest.0), (field_to s d x e0, rest.1), rest.2))

fields_from : (ss : List FieldSpec) (make : Makes ss) (d : Data) (x : Values ss) → SaysFields d ss x → read_fields ss make d ≡ Ok (applied ss make x)
fields_from [] made d x h = refl
fields_from (s ∷ ss) make d x h = rw (field_from s d x.0 h.0) (fields_from ss (make x.0) d x.1 h.1)

abbrev Made : Data → CommandName → Action → Type 0
Made d kind a = (name_of a ≡ kind) × HasFields d a

action_to : (kind : CommandName) (d : Data) (a : Action) → action_at kind d ≡ Ok a → Made d kind a
unfolding action_at
action_to kind d a e =
    let read = fields_to (fields_of kind) (made_of kind) d a e in
    subst (Made d kind) read.2 (of_made (λ k x. (k ≡ kind) × SaysFields d (fields_of k) x) kind read.0 (refl, read.1))

action_from : (d : Data) (a : Action) → HasFields d a → action_at (name_of a) d ≡ Ok a
unfolding action_at
action_from d a h = fields_from (fields_of (name_of a)) (made_of (name_of a)) d (values_of a) h ∙ ap Ok (is_made a)

none_missing : (ss : List FieldSpec) (d : Data) (x : Values ss) → SaysFields d ss x → first_missing (that_must ss) d ≡ None
none_missing [] d x h = refl
none_missing (must f t ∷ ss) d x h = rw (h.0.1) (none_missing ss d x.1 h.1)
none_missing (may f t ∷ ss) d x h = none_missing ss d x.1 h.1

fields_there : (d : Data) (key : List ℕ) (a : Action) → Says as_str field.Key d key → HasFields d a → no_missing (required_fields (name_of a)) d ≡ Ok true
fields_there d key a k h = ap (λ o. refuse (option_map MissingField o)) (none_missing (all_fields (name_of a)) d (key, values_of a) (k, h))

-- ---- the whole

no_other_is : (fields : List Field) (d : Data) (b : Bool) → no_other fields d ≡ Ok b → only_known fields d ≡ true
no_other_is fields d b e = from (only_known fields d) refl
  where
    from : (t : Bool) → only_known fields d ≡ t → only_known fields d ≡ true
    from true p = p
    from false p = let wrong = rw p at e in absurd cc

object_of : (d : Data) (members : Members) (kind : CommandName) (key : List ℕ) (a : Action) → as_object d ≡ Some members → name_of_object d ≡ Some kind
    → Says as_str field.Key d key → Made d kind a → only_known (known_fields kind) d ≡ true → IsCommandObject d (record { key = key; action = a })
object_of d members kind key a is named said_key made only =
    record {
      members = members;
      is_object = is;
      is_named = named ∙ ap Some (sym made.0);
      has_key = said_key;
      has_fields = made.1;
      has_no_other = subst (λ k. only_known (known_fields k) d ≡ true) (sym made.0) only;
    }

object_to : (d : Data) (c : Command) → command_of d ≡ Ok c → IsCommandObject d c
unfolding command_of
object_to d c e =
    after_ok _ _ _ _ e (λ members e0 e. after_ok _ _ _ _ e (λ kind e1 e. after_ok _ _ _ _ e (λ there e2 e. after_ok _ _ _ _ e (λ key e3 e. after_ok _ _ _ _ e (λ a e4 e. after_ok _ _ _ _ e (λ known e5 e.
    subst (IsCommandObject d) (given_is _ _ e)
    (object_of d members kind key a (there_is NotAnObject (as_object d) members e0) (there_is UnknownCommand (name_of_object d) kind e1) (said as_str field.Key d key e3) (action_to kind d a e4) (no_other_is (known_fields kind) d known e5))))))))

pub object_from : (d : Data) (c : Command) → IsCommandObject d c → command_of d ≡ Ok c
unfolding command_of
object_from d c h =
    let only : all_known (known_fields (name_of c.action)) h.members ≡ true = rw h.is_object at h.has_no_other in
    rw (h.is_object, h.is_named, fields_there d c.key c.action h.has_key h.has_fields, read_said as_str field.Key d c.key h.has_key, action_from d c.action h.has_fields, only) refl

spells_from : (bytes : List ℕ) (c : Command) → Spells bytes c → command_in bytes ≡ Ok c
unfolding command_in
spells_from bytes c s = rw s.1 (object_from s.0 c s.2)

spells_to : (bytes : List ℕ) (c : Command) → command_in bytes ≡ Ok c → Spells bytes c
unfolding command_in
spells_to bytes c e = after_ok _ _ _ _ e (λ d e0 e. (d, there_is NotJson (json_of bytes) d e0, object_to d c e))

pub read_as_spelled : (bytes : List ℕ) (c : Command) → (command_in bytes ≡ Ok c) ↔ Spells bytes c
read_as_spelled bytes c = (spells_to bytes c, spells_from bytes c)

pub only_one : (bytes : List ℕ) (c d : Command) → command_in bytes ≡ Ok c → Spells bytes d → d ≡ c
only_one bytes c d e s = given_is d c (sym (spells_from bytes d s) ∙ e)
