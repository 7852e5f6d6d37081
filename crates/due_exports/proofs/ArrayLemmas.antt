-- A whole export in JSON, as it is read.
use Rattle.std.proofs.Common.{◌≡◌, ℕ, ◌+◌, ◌≤◌, Bool, true, false, List, [], ◌∷◌, ◌++◌, ℤ, Some, option_map, refl, sym, ap, ◌∙◌, append_assoc, arith}
use Rattle.std.proofs.lemmas.Bool.{ne_eqb}
use Rattle.std.specs.List.{AllByRecursion}
use Rattle.court_days.specs.Court.{CourtSettings}
use Rattle.json.specs.Json as json
use Rattle.json.specs.Lex.{comma, lex, between, token, tokens, fresh, punctuate}
use Rattle.json.specs.Print.{ends}
use Rattle.json.specs.Token.{Token, begin_array}
use Rattle.json.specs.Tree as tree
use Rattle.json.specs.Word.{ends_word}
use Rattle.json.proofs.Printed.Trees.{ArePrintable-json_tokens}
use Rattle.serde_json.specs.Data.{array}
use Rattle.serde_json.specs.Read.{read, of_items}
use Rattle.serde_json.specs.Written.{compact_text, outline, items_outline}
use Rattle.serde_json.proofs.Texts.{print-outline}
use Rattle.due_exports.specs.Objects.{due_object, before_object}
use Rattle.due_exports.specs.Texts.{Told, IsNumbered, entries_text, export_text, objects_of}
use Rattle.due_exports.specs.declared.form.Form.TheVariants.{Json}
use Rattle.due_exports.proofs.LexLemmas.{lexemes, ended_by, lexemes-append, lex-printed, punctuated}
use Rattle.due_exports.proofs.ObjectLemmas.{reads_by_tokens, due-reads}

-- an object's tokens end a value
ended-append : (ended : Bool) (ts us : List Token) → ended_by ended (ts ++ us) ≡ ended_by (ended_by ended ts) us
ended-append ended [] us = refl
ended-append ended (t ∷ ts) us = ended-append (ends t) ts us

members-end : (ended : Bool) (ms : json.Members) → ended_by ended (tree.members_tokens ms) ≡ true
members-end ended json.no_members = refl
members-end ended (json.member k j ms) = ended-append false (tree.json_tokens j) (tree.members_tokens ms) ∙ members-end (ended_by false (tree.json_tokens j)) ms

abbrev object_tokens : CourtSettings → Told → List Token
object_tokens court t = tree.json_tokens (outline (due_object court t.0 t.1))

abbrev items_tokens : CourtSettings → List Told → List Token
items_tokens court told = tree.items_tokens (items_outline (objects_of court told))

abbrev members_in : json.Json → json.Members
members_in json.null = json.no_members
members_in (json.boolean b) = json.no_members
members_in (json.number s) = json.no_members
members_in (json.string s) = json.no_members
members_in (json.array js) = json.no_members
members_in (json.object ms) = ms

object-ends : (court : CourtSettings) (t : Told) → ended_by false (object_tokens court t) ≡ true
object-ends court t = members-end false (members_in (outline (due_object court t.0 t.1)))

-- the text behind the entries
abbrev foot : List ℕ
foot = 10 ∷ 93 ∷ 10 ∷ []

before-later : (place : ℕ) → 1 ≤ place → before_object place ≡ 44 ∷ 10 ∷ []
before-later place later = let other = ne_eqb place 0 (λ e. absurd (omega (arith, e, later))) in rw other refl

later-ends : (court : CourtSettings) (stamp : ℤ) (place : ℕ) (told : List Told) → 1 ≤ place → ends_word (entries_text Json court stamp place told ++ foot) ≡ true
later-ends court stamp place [] later = refl
later-ends court stamp place (t ∷ told) later = let before = before-later place later in rw before refl

object-lexed : (court : CourtSettings) (t : Told) (r : List ℕ) → IsNumbered t → ends_word r ≡ true
    → lex between (compact_text (due_object court t.0 t.1) ++ r) ≡ lexemes false (object_tokens court t) ++ lex between r
object-lexed court t r n clear =
    let d = due_object court t.0 t.1 in
    ap (λ l. lex between (l ++ r)) (sym (print-outline d))
    ∙ lex-printed false (object_tokens court t) r (ArePrintable-json_tokens (outline d) (due-reads court t.0 t.1 n.0 n.1 n.2).numbers) clear

-- an object, and the entries behind it
next-lexed : (court : CourtSettings) (t : Told) (told : List Told) (rest : List ℕ) → IsNumbered t → ends_word rest ≡ true
    → lex between rest ≡ lexemes true (items_tokens court told)
    → lex between (compact_text (due_object court t.0 t.1) ++ rest) ≡ lexemes false (items_tokens court (t ∷ told))
next-lexed court t told rest n clear more =
    let ts = object_tokens court t in
    object-lexed court t rest n clear
    ∙ ap (λ l. lexemes false ts ++ l) more
    ∙ ap (λ b. lexemes false ts ++ lexemes b (items_tokens court told)) (sym (object-ends court t))
    ∙ sym (lexemes-append false ts (items_tokens court told))

later-lexed : (court : CourtSettings) (stamp : ℤ) (place : ℕ) (told : List Told) → 1 ≤ place → AllByRecursion IsNumbered told
    → lex between (entries_text Json court stamp place told ++ foot) ≡ lexemes true (items_tokens court told)
unfolding lex
later-lexed court stamp place [] later h = refl
later-lexed court stamp place (t ∷ told) later h =
    let text = compact_text (due_object court t.0 t.1) in
    let rest = entries_text Json court stamp (place + 1) told in
    let next : 1 ≤ place + 1 = omega arith in
    ap (λ l. lex between (((l ++ text) ++ rest) ++ foot)) (before-later place later)
    ∙ ap (λ l. lex between (44 ∷ 10 ∷ l)) (append_assoc text rest foot)
    ∙ ap (λ l. comma ∷ l) (next-lexed court t told (rest ++ foot) h.0 (later-ends court stamp (place + 1) told next) (later-lexed court stamp (place + 1) told next h.1))

entries-lexed : (court : CourtSettings) (stamp : ℤ) (told : List Told) → AllByRecursion IsNumbered told
    → lex between (entries_text Json court stamp 0 told ++ foot) ≡ lexemes false (items_tokens court told)
unfolding lex
entries-lexed court stamp [] h = refl
entries-lexed court stamp (t ∷ told) h =
    let text = compact_text (due_object court t.0 t.1) in
    let rest = entries_text Json court stamp 1 told in
    let next : 1 ≤ 1 = omega arith in
    ap (lex between) (append_assoc text rest foot)
    ∙ next-lexed court t told (rest ++ foot) h.0 (later-ends court stamp 1 told next) (later-lexed court stamp 1 told next h.1)

-- the array, with the numbers of its objects, and how deep it nests
back : (court : CourtSettings) (told : List Told) → AllByRecursion IsNumbered told → of_items (items_outline (objects_of court told)) ≡ Some (objects_of court told)
back court [] h = refl
back court (t ∷ told) h = rw ((due-reads court t.0 t.1 h.0.0 h.0.1 h.0.2).back, back court told h.1) refl

numbers : (court : CourtSettings) (told : List Told) → AllByRecursion IsNumbered told → tree.ItemsHaveNumbers (items_outline (objects_of court told))
numbers court [] h = tt
numbers court (t ∷ told) h = ((due-reads court t.0 t.1 h.0.0 h.0.1 h.0.2).numbers, numbers court told h.1)

shallow : (court : CourtSettings) (told : List Told) → AllByRecursion IsNumbered told → tree.items_depth (items_outline (objects_of court told)) ≤ 1
shallow court [] h = omega arith
shallow court (t ∷ told) h = omega (arith, (due-reads court t.0 t.1 h.0.0 h.0.1 h.0.2).shallow, shallow court told h.1)

array-tokens : (court : CourtSettings) (stamp : ℤ) (from to : ℕ) (told : List Told) → AllByRecursion IsNumbered told
    → tokens (export_text Json court stamp from to told) ≡ tree.json_tokens (outline (array (objects_of court told)))
unfolding lex
array-tokens court stamp from to told h =
    let all = array (objects_of court told) in
    ap (λ l. punctuate fresh (token begin_array ∷ l)) (entries-lexed court stamp told h)
    ∙ punctuated false (tree.json_tokens (outline all)) (ArePrintable-json_tokens (outline all) (numbers court told h))

pub array-read : (court : CourtSettings) (stamp : ℤ) (from to : ℕ) (told : List Told) → AllByRecursion IsNumbered told
    → read (export_text Json court stamp from to told) ≡ Some (array (objects_of court told))
array-read court stamp from to told h =
    reads_by_tokens (export_text Json court stamp from to told) (array (objects_of court told)) (array-tokens court stamp from to told h)
    (omega (arith, shallow court told h)) (ap (option_map array) (back court told h))
