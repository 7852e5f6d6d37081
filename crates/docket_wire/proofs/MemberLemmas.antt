-- What holds of each member of an object holds after a put, and what is found there.
use Rattle.std.proofs.Common.{◌≡◌, ℕ, true, List, [], ◌∷◌, Option, Some, None, option_map, Ordering, Less, Equal, Greater, refl, ap, sym, ◌∙◌}
use Rattle.std.specs.Ordering.{nat_cmp, match_ordering, ordering_reverse}
use Rattle.std.specs.Cmp.Lexicographic.{slice_cmp}
use Rattle.std.specs.List.{list_all}
use Rattle.std.proofs.lemmas.Bool.{and_parts}
use Rattle.std.proofs.lemmas.Cmp.{nat_list_cmp_total}
use Rattle.serde_json.specs.Data.{Data, Members, no_members, member, put}
use Rattle.serde_json.specs.Find.{get_member}
use Rattle.docket_command.specs.declared.field.Field.{Field}
use Rattle.docket_command.specs.Fields.{field_name}
use Rattle.docket_wire.specs.Reading.{is_known, all_known}
use Rattle.docket_wire.specs.Writing.{put_some, put_all}

abbrev pub name_cmp : List ℕ → List ℕ → Ordering
name_cmp = slice_cmp nat_cmp

pub by_order : (P : Members → Type 0) (o : Ordering) (a b c : Members) → (o ≡ Less → P a) → (o ≡ Equal → P b) → (o ≡ Greater → P c) → P (match_ordering o a b c)
by_order P Less a b c p q r = p refl
by_order P Equal a b c p q r = q refl
by_order P Greater a b c p q r = r refl

-- ---- a fact of each member

abbrev pub AllMembers : (List ℕ → Data → Type 0) → Members → Type 0
AllMembers P no_members = Unit {0}
AllMembers P (member k d ms) = P k d × AllMembers P ms

-- where the name is there already, it stays, with the new value
pub AllMembers-put : (P : List ℕ → Data → Type 0) (k : List ℕ) (d : Data) (ms : Members) → ((l : List ℕ) (e : Data) → name_cmp k l ≡ Equal → P k d → P l e → P l d) → P k d → AllMembers P ms → AllMembers P (put k d ms)
AllMembers-put P k d no_members same p h = (p, tt)
AllMembers-put P k d (member l e ms) same p h =
    by_order (AllMembers P) (name_cmp k l) (member k d (member l e ms)) (member l d ms) (member l e (put k d ms)) (λ _. (p, h)) (λ eq. (same l e eq p h.0, h.1)) (λ _. (h.0, AllMembers-put P k d ms same p h.1))

pub AllMembers-weaker : (P Q : List ℕ → Data → Type 0) (ms : Members) → ((k : List ℕ) (d : Data) → P k d → Q k d) → AllMembers P ms → AllMembers Q ms
AllMembers-weaker P Q no_members f h = tt
AllMembers-weaker P Q (member k d ms) f h = (f k d h.0, AllMembers-weaker P Q ms f h.1)

abbrev pub IfThere : (Data → Type 0) → Option Data → Type 0
IfThere P None = Unit {0}
IfThere P (Some d) = P d

abbrev pub EachValue : (Data → Type 0) → List (Field × Option Data) → Type 0
EachValue P [] = Unit {0}
EachValue P (e ∷ es) = IfThere P e.1 × EachValue P es

pub IfThere-map : {A : Type 0} (P : Data → Type 0) (f : A → Data) (o : Option A) → ((x : A) → P (f x)) → IfThere P (option_map f o)
IfThere-map P f None h = tt
IfThere-map P f (Some x) h = h x

abbrev pub ValueOnly : (Data → Type 0) → List ℕ → Data → Type 0
ValueOnly P k d = P d

values_put_some : (P : Data → Type 0) (f : Field) (o : Option Data) (ms : Members) → IfThere P o → AllMembers (ValueOnly P) ms → AllMembers (ValueOnly P) (put_some f o ms)
values_put_some P f None ms p h = h
values_put_some P f (Some d) ms p h = AllMembers-put (ValueOnly P) (field_name f) d ms (λ _ _ _ q _. q) p h

pub values_put_all : (P : Data → Type 0) (es : List (Field × Option Data)) (ms : Members) → EachValue P es → AllMembers (ValueOnly P) ms → AllMembers (ValueOnly P) (put_all es ms)
values_put_all P [] ms each h = h
values_put_all P (e ∷ es) ms each h = values_put_all P es (put_some e.0 e.1 ms) each.1 (values_put_some P e.0 e.1 ms each.0 h)

-- ---- any property that a put keeps

pub kept_by_all : (P : Members → Type 0) → ((f : Field) (d : Data) (ms : Members) → P ms → P (put (field_name f) d ms)) → (es : List (Field × Option Data)) (ms : Members) → P ms → P (put_all es ms)
kept_by_all P keep [] ms h = h
kept_by_all P keep (e ∷ es) ms h = kept_by_all P keep es (put_some e.0 e.1 ms) (kept_by_some P keep e.0 e.1 ms h)
  where
    kept_by_some : (P : Members → Type 0) → ((f : Field) (d : Data) (ms : Members) → P ms → P (put (field_name f) d ms)) → (f : Field) (o : Option Data) (ms : Members) → P ms → P (put_some f o ms)
    kept_by_some P keep f None ms h = h
    kept_by_some P keep f (Some d) ms h = keep f d ms h

-- ---- the order of the names

abbrev pub IsSorted : Members → Type 0
IsSorted no_members = Unit {0}
IsSorted (member k d ms) = AllMembers (λ l _. name_cmp k l ≡ Less) ms × IsSorted ms

turned : (k l : List ℕ) (o : Ordering) → name_cmp k l ≡ o → name_cmp l k ≡ ordering_reverse o
turned k l o e = nat_list_cmp_total.antisymm l k ∙ ap ordering_reverse e

pub less_turned : (k l : List ℕ) → name_cmp k l ≡ Less → name_cmp l k ≡ Greater
less_turned k l e = turned k l Less e

pub greater_turned : (k l : List ℕ) → name_cmp k l ≡ Greater → name_cmp l k ≡ Less
greater_turned k l e = turned k l Greater e

-- equal names have the same order to a third
pub equal_right : (k l m : List ℕ) → name_cmp k l ≡ Equal → name_cmp m k ≡ name_cmp m l
equal_right k l m e = nat_list_cmp_total.antisymm m k ∙ ap ordering_reverse (nat_list_cmp_total.congr k l m e) ∙ sym (nat_list_cmp_total.antisymm m l)

pub IsSorted-put : (k : List ℕ) (d : Data) (ms : Members) → IsSorted ms → IsSorted (put k d ms)
IsSorted-put k d no_members h = (tt, tt)
IsSorted-put k d (member l e ms) h =
    by_order IsSorted (name_cmp k l) (member k d (member l e ms)) (member l d ms) (member l e (put k d ms))
    (λ less. ((less, AllMembers-weaker (λ m _. name_cmp l m ≡ Less) (λ m _. name_cmp k m ≡ Less) ms (λ m _ q. nat_list_cmp_total.trans k l m less q) h.0), h))
    (λ _. h)
    (λ greater. (AllMembers-put (λ m _. name_cmp l m ≡ Less) k d ms (λ m _ eq _ q. q) (greater_turned k l greater) h.0, IsSorted-put k d ms h.1))

pub IsSorted-put_all : (es : List (Field × Option Data)) → IsSorted (put_all es no_members)
IsSorted-put_all es = kept_by_all IsSorted (λ f d ms h. IsSorted-put (field_name f) d ms h) es no_members tt

-- ---- what is found

abbrev pub found_at : Ordering → Option Data → Option Data → Option Data
found_at Less o rest = rest
found_at Equal None rest = rest
found_at Equal (Some d) rest = Some d
found_at Greater o rest = rest

-- the last of the entries that has the name and a value
abbrev pub looked_up : List ℕ → List (Field × Option Data) → Option Data → Option Data
looked_up k [] rest = rest
looked_up k (e ∷ es) rest = looked_up k es (found_at (name_cmp k (field_name e.0)) e.1 rest)

in_place : (k l m : List ℕ) (v e : Data) (g : Option Data) (o : Ordering) → o ≡ name_cmp k m → match_ordering o g (Some v) g ≡ found_at o (Some v) (match_ordering o g (Some e) g)
in_place k l m v e g Less h = refl
in_place k l m v e g Equal h = refl
in_place k l m v e g Greater h = refl

past : (v e : Data) (g : Option Data) (o p : Ordering) → (o ≡ Equal → p ≡ Equal → ⊥) → match_ordering p (found_at o (Some v) g) (Some e) (found_at o (Some v) g) ≡ found_at o (Some v) (match_ordering p g (Some e) g)
past v e g Less Less h = refl
past v e g Less Equal h = refl
past v e g Less Greater h = refl
past v e g Equal Less h = refl
past v e g Equal Equal h = absurd (h refl refl)
past v e g Equal Greater h = refl
past v e g Greater Less h = refl
past v e g Greater Equal h = refl
past v e g Greater Greater h = refl

none_else : (o : Ordering) (v : Data) → match_ordering o None (Some v) None ≡ found_at o (Some v) None
none_else Less v = refl
none_else Equal v = refl
none_else Greater v = refl

first_else : (o : Ordering) (v : Data) (g : Option Data) → match_ordering o g (Some v) g ≡ found_at o (Some v) g
first_else Less v g = refl
first_else Equal v g = refl
first_else Greater v g = refl

pub get_member-put : (k l : List ℕ) (v : Data) (ms : Members) → get_member k (put l v ms) ≡ found_at (name_cmp k l) (Some v) (get_member k ms)
get_member-put k l v no_members = none_else (name_cmp k l) v
get_member-put k l v (member m e ms) =
    by_order (λ xs. get_member k xs ≡ found_at (name_cmp k l) (Some v) (get_member k (member m e ms))) (name_cmp l m) (member l v (member m e ms)) (member m v ms) (member m e (put l v ms))
    (λ _. first_else (name_cmp k l) v (get_member k (member m e ms)))
    (λ eq. in_place k l m v e (get_member k ms) (name_cmp k m) refl ∙ ap (λ o. found_at o (Some v) (get_member k (member m e ms))) (sym (equal_right l m k eq)))
    (λ greater. ap (λ g. match_ordering (name_cmp k m) g (Some e) g) (get_member-put k l v ms) ∙ past v e (get_member k ms) (name_cmp k l) (name_cmp k m) (λ a b. apart k l m greater a b))
  where
    apart : (k l m : List ℕ) → name_cmp l m ≡ Greater → name_cmp k l ≡ Equal → name_cmp k m ≡ Equal → ⊥
    apart k l m g a b = let e : name_cmp k m ≡ name_cmp l m = nat_list_cmp_total.congr k l m a in cc

get_member-put_some : (k : List ℕ) (f : Field) (o : Option Data) (ms : Members) → get_member k (put_some f o ms) ≡ found_at (name_cmp k (field_name f)) o (get_member k ms)
get_member-put_some k f (Some d) ms = get_member-put k (field_name f) d ms
get_member-put_some k f None ms = nothing (name_cmp k (field_name f)) (get_member k ms)
  where
    nothing : (o : Ordering) (g : Option Data) → g ≡ found_at o None g
    nothing Less g = refl
    nothing Equal g = refl
    nothing Greater g = refl

pub get_member-put_all : (k : List ℕ) (es : List (Field × Option Data)) (ms : Members) → get_member k (put_all es ms) ≡ looked_up k es (get_member k ms)
get_member-put_all k [] ms = refl
get_member-put_all k (e ∷ es) ms = get_member-put_all k es (put_some e.0 e.1 ms) ∙ ap (looked_up k es) (get_member-put_some k e.0 e.1 ms)

-- ---- no other members

all_known-put : (fields : List Field) (k : List ℕ) (d : Data) (ms : Members) → is_known fields k ≡ true → all_known fields ms ≡ true → all_known fields (put k d ms) ≡ true
all_known-put fields k d no_members e h = rw e
all_known-put fields k d (member l f ms) e h =
    let p = and_parts (is_known fields l) _ h in
    by_order (λ xs. all_known fields xs ≡ true) (name_cmp k l) (member k d (member l f ms)) (member l d ms) (member l f (put k d ms))
    (λ _. rw (e, h)) (λ _. h) (λ _. rw p.0 (all_known-put fields k d ms e p.1))

all_known-put_some : (fields : List Field) (f : Field) (o : Option Data) (ms : Members) → is_known fields (field_name f) ≡ true → all_known fields ms ≡ true → all_known fields (put_some f o ms) ≡ true
all_known-put_some fields f None ms e h = h
all_known-put_some fields f (Some d) ms e h = all_known-put fields (field_name f) d ms e h

pub all_known-put_all : (fields : List Field) (es : List (Field × Option Data)) (ms : Members) → list_all (λ e. is_known fields (field_name e.0)) es ≡ true → all_known fields ms ≡ true → all_known fields (put_all es ms) ≡ true
all_known-put_all fields [] ms e h = h
all_known-put_all fields (x ∷ es) ms e h =
    let p = and_parts (is_known fields (field_name x.0)) _ e in
    all_known-put_all fields es (put_some x.0 x.1 ms) p.1 (all_known-put_some fields x.0 x.1 ms p.0 h)
