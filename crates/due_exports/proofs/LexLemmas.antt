-- The lexemes of printed tokens before another text, and their tokens again.
use Rattle.std.proofs.Common.{◌≡◌, ℕ, Bool, true, false, cond, ◌&&◌, List, [], ◌∷◌, ◌++◌, fold, refl, sym, ap, ap₂, ◌∙◌, append_assoc}
use Rattle.json.specs.Token.{Token, begin_object, end_object, begin_array, end_array, key, string, number, boolean, null, bad}
use Rattle.json.specs.Word.{ends_word, word}
use Rattle.json.specs.Lex.{Lexeme, token, comma, colon, string_token, lex, between, Place, fresh, after_value, begins_colon, punctuate}
use Rattle.json.specs.Print.{escape, quoted, token_text, begins, ends, separator, print_from, IsPrintable, ArePrintable}
use Rattle.json.proofs.Printed.Strings.{content-escape, lex-escape}
use Rattle.json.proofs.Printed.Numbers.{lex-number, in_word-ended}

abbrev pub token_lexemes : Token → List Lexeme
token_lexemes begin_object = token begin_object ∷ []
token_lexemes end_object = token end_object ∷ []
token_lexemes begin_array = token begin_array ∷ []
token_lexemes end_array = token end_array ∷ []
token_lexemes (key s) = token (string s) ∷ colon ∷ []
token_lexemes (string s) = token (string s) ∷ []
token_lexemes (number s) = token (number s) ∷ []
token_lexemes (boolean b) = token (boolean b) ∷ []
token_lexemes null = token null ∷ []
token_lexemes bad = []

-- the lexemes of tokens, behind the end of a value or not
abbrev pub lexemes : Bool → List Token → List Lexeme
lexemes ended [] = []
lexemes ended (t ∷ ts) = cond (ended && begins t) (comma ∷ []) [] ++ (token_lexemes t ++ lexemes (ends t) ts)

-- whether tokens end a value
abbrev pub ended_by : Bool → List Token → Bool
ended_by ended ts = fold (λ _ u. ends u) ended ts

pub lexemes-append : (ended : Bool) (ts us : List Token) → lexemes ended (ts ++ us) ≡ lexemes ended ts ++ lexemes (ended_by ended ts) us
lexemes-append ended [] us = refl
lexemes-append ended (t ∷ ts) us =
    let first = cond (ended && begins t) (comma ∷ []) [] in
    ap (λ l. first ++ (token_lexemes t ++ l)) (lexemes-append (ends t) ts us)
    ∙ ap (λ l. first ++ l) (sym (append_assoc (token_lexemes t) (lexemes (ends t) ts) (lexemes (ended_by (ends t) ts) us)))
    ∙ sym (append_assoc first (token_lexemes t ++ lexemes (ends t) ts) (lexemes (ended_by (ends t) ts) us))

-- behind a value comes a comma, a closing bracket, or what follows the tokens
value_ends : (ts : List Token) (r : List ℕ) → ends_word r ≡ true → ends_word (print_from true ts ++ r) ≡ true
unfolding print_from
value_ends [] r h = h
value_ends (begin_object ∷ ts) r h = refl
value_ends (end_object ∷ ts) r h = refl
value_ends (begin_array ∷ ts) r h = refl
value_ends (end_array ∷ ts) r h = refl
value_ends (key s ∷ ts) r h = refl
value_ends (string s ∷ ts) r h = refl
value_ends (number s ∷ ts) r h = refl
value_ends (boolean b ∷ ts) r h = refl
value_ends (null ∷ ts) r h = refl
value_ends (bad ∷ ts) r h = refl

lex-quoted : (s r : List ℕ) → lex between (quoted s ++ r) ≡ token (string s) ∷ lex between r
unfolding lex
lex-quoted s r =
    let e = append_assoc (escape s) (34 ∷ []) r in
    ap (λ l. lex between (34 ∷ l)) e ∙ ap₂ (λ o l. token (string_token o) ∷ l) (content-escape s r) (lex-escape s r)

lex-token_text : (t : Token) (r : List ℕ) → IsPrintable t → (ends t ≡ true → ends_word r ≡ true) → lex between (token_text t ++ r) ≡ token_lexemes t ++ lex between r
unfolding lex word
lex-token_text begin_object r h ended = refl
lex-token_text end_object r h ended = refl
lex-token_text begin_array r h ended = refl
lex-token_text end_array r h ended = refl
lex-token_text (key s) r h ended = ap (lex between) (append_assoc (quoted s) (58 ∷ []) r) ∙ lex-quoted s (58 ∷ r)
lex-token_text (string s) r h ended = lex-quoted s r
lex-token_text (number s) r h ended = lex-number s r h (ended refl)
lex-token_text (boolean true) r h ended = ap₂ (λ b l. token (cond b (boolean true) bad) ∷ l) (ended refl) (in_word-ended r (ended refl))
lex-token_text (boolean false) r h ended = ap₂ (λ b l. token (cond b (boolean false) bad) ∷ l) (ended refl) (in_word-ended r (ended refl))
lex-token_text null r h ended = ap₂ (λ b l. token (cond b null bad) ∷ l) (ended refl) (in_word-ended r (ended refl))
lex-token_text bad r h ended = absurd h

lex-separator : (b : Bool) (r : List ℕ) → lex between (cond b (44 ∷ []) [] ++ r) ≡ cond b (comma ∷ []) [] ++ lex between r
unfolding lex
lex-separator true r = refl
lex-separator false r = refl

pub lex-printed : (ended : Bool) (ts : List Token) (r : List ℕ) → ArePrintable ts → ends_word r ≡ true
    → lex between (print_from ended ts ++ r) ≡ lexemes ended ts ++ lex between r
unfolding print_from ArePrintable
lex-printed ended [] r h clear = refl
lex-printed ended (t ∷ ts) r h clear =
    let first = cond (ended && begins t) (comma ∷ []) [] in
    let rest = print_from (ends t) ts in
    ap (lex between) (append_assoc (separator ended t) (token_text t ++ rest) r ∙ ap (λ l. separator ended t ++ l) (append_assoc (token_text t) rest r))
    ∙ lex-separator (ended && begins t) (token_text t ++ (rest ++ r))
    ∙ ap (λ l. first ++ l)
    (lex-token_text t (rest ++ r) h.0 (λ e. ap (λ b. ends_word (print_from b ts ++ r)) e ∙ value_ends ts r clear)
    ∙ ap (λ l. token_lexemes t ++ l) (lex-printed (ends t) ts r h.1 clear)
    ∙ sym (append_assoc (token_lexemes t) (lexemes (ends t) ts) (lex between r)))
    ∙ sym (append_assoc first (token_lexemes t ++ lexemes (ends t) ts) (lex between r))

no_colon : (ts : List Token) → begins_colon (lexemes true ts) ≡ false
no_colon [] = refl
no_colon (begin_object ∷ ts) = refl
no_colon (end_object ∷ ts) = refl
no_colon (begin_array ∷ ts) = refl
no_colon (end_array ∷ ts) = refl
no_colon (key s ∷ ts) = refl
no_colon (string s ∷ ts) = refl
no_colon (number s ∷ ts) = refl
no_colon (boolean b ∷ ts) = refl
no_colon (null ∷ ts) = refl
no_colon (bad ∷ ts) = refl

abbrev place : Bool → Place
place ended = cond ended after_value fresh

pub punctuated : (ended : Bool) (ts : List Token) → ArePrintable ts → punctuate (place ended) (lexemes ended ts) ≡ ts
unfolding punctuate ArePrintable
punctuated true [] h = refl
punctuated false [] h = refl
punctuated true (begin_object ∷ ts) h = ap (λ l. begin_object ∷ l) (punctuated false ts h.1)
punctuated true (end_object ∷ ts) h = ap (λ l. end_object ∷ l) (punctuated true ts h.1)
punctuated true (begin_array ∷ ts) h = ap (λ l. begin_array ∷ l) (punctuated false ts h.1)
punctuated true (end_array ∷ ts) h = ap (λ l. end_array ∷ l) (punctuated true ts h.1)
punctuated true (key s ∷ ts) h = ap (λ l. key s ∷ l) (punctuated false ts h.1)
punctuated true (number s ∷ ts) h = ap (λ l. number s ∷ l) (punctuated true ts h.1)
punctuated true (boolean b ∷ ts) h = ap (λ l. boolean b ∷ l) (punctuated true ts h.1)
punctuated true (null ∷ ts) h = ap (λ l. null ∷ l) (punctuated true ts h.1)
punctuated true (string s ∷ ts) h = rw (no_colon ts) (ap (λ l. string s ∷ l) (punctuated true ts h.1))
punctuated true (bad ∷ ts) h = absurd h.0
punctuated false (begin_object ∷ ts) h = ap (λ l. begin_object ∷ l) (punctuated false ts h.1)
punctuated false (end_object ∷ ts) h = ap (λ l. end_object ∷ l) (punctuated true ts h.1)
punctuated false (begin_array ∷ ts) h = ap (λ l. begin_array ∷ l) (punctuated false ts h.1)
punctuated false (end_array ∷ ts) h = ap (λ l. end_array ∷ l) (punctuated true ts h.1)
punctuated false (key s ∷ ts) h = ap (λ l. key s ∷ l) (punctuated false ts h.1)
punctuated false (number s ∷ ts) h = ap (λ l. number s ∷ l) (punctuated true ts h.1)
punctuated false (boolean b ∷ ts) h = ap (λ l. boolean b ∷ l) (punctuated true ts h.1)
punctuated false (null ∷ ts) h = ap (λ l. null ∷ l) (punctuated true ts h.1)
punctuated false (string s ∷ ts) h = rw (no_colon ts) (ap (λ l. string s ∷ l) (punctuated true ts h.1))
punctuated false (bad ∷ ts) h = absurd h.0
