-- What the parameters of the route that the router finds took of the path.
use Rattle.std.proofs.Common.{◌≡◌, ℕ, ◌+◌, ◌-◌, ◌<◌, ◌≤◌, List, [], ◌∷◌, ◌++◌, length, take, drop, take_at, drop_at, get_or, length-append, append_assoc, append-nil, codes, Option, Some, None, suc, ◌==◌, cond, leb, ltb, ◌&&◌, Bool, true, false, refl, ap, ap₂, add-zero, sym, subst, ◌∙◌, le-leb, lt-ltb, eqb-true, arith}
use Rattle.std.proofs.Math.Seq.{get_or-append_seam}
use Rattle.std.specs.Str.{IsUtf8}
use Rattle.std.proofs.lemmas.Bool.{ne_eqb}
use Rattle.std.proofs.lemmas.Str.{IsUtf8-take, IsUtf8-drop, IsCharBoundary-before_ascii, IsCharBoundary-after_ascii}
use lib.Utf8.{encode}
use Rattle.matchit.specs.Rows.{RowsOf, param_token}
use Rattle.matchit.specs.Router.{RouteOf}
use Rattle.matchit.specs.Seek.{first, segment}
use Rattle.matchit.specs.Params.{walk, part_of, next_at, wild_from, wild_stop, after_token, AllText, named}
use Rattle.http_request.specs.declared.route.Route.{Route}
use Rattle.http_request.specs.declared.route.Route.TheVariants.{Commands, Case, Deadlines, Calendar, Holidays}
use Rattle.http_request.specs.Rows.{route_rows}
use Rattle.http_request.specs.Path.{behind, at_slash, Place, word_place, part_place, calendar_place, deadlines_place, case_place, holidays_place, where_behind, first_of, place_of}
use Rattle.http_request.specs.Values.{HasValues}
use Rattle.http_request.proofs.SeekLemmas.{segment-cut, whole_by, whole-at}
use Rattle.http_request.proofs.RouteLemmas.{IsPlain, entry, entry_of, route-found}

-- bytes hold no wildcard
pub plain-from : (text : List ℕ) → ((i : ℕ) → get_or text i 0 < 256) → IsPlain text
plain-from [] h = tt
plain-from (b ∷ text) h = let below : b < 256 = h 0 in (ne_eqb param_token b (λ e. omega arith), plain-from text (λ i. h (suc i)))

-- a text is the word, and what is left behind it
behind-is_cond : (x b : ℕ) (word text rest : List ℕ) (v : Bool) → (x == b) ≡ v → (behind word text ≡ Some rest → text ≡ word ++ rest)
    → cond v (behind word text) None ≡ Some rest → b ∷ text ≡ x ∷ word ++ rest
behind-is_cond x b word text rest true e ih h = ap (λ y. y ∷ text) (sym (eqb-true x b e)) ∙ ap (λ t. x ∷ t) (ih h)
behind-is_cond x b word text rest false e ih h = absurd (cc)

pub behind-is : (word text rest : List ℕ) → behind word text ≡ Some rest → text ≡ word ++ rest
behind-is [] text rest h = cc
behind-is (x ∷ word) [] rest h = absurd (cc)
behind-is (x ∷ word) (b ∷ text) rest h = behind-is_cond x b word text rest (x == b) refl (behind-is word text rest) h

-- a part between two places
part-between : (bytes : List ℕ) (start end : ℕ) → start ≤ end → end ≤ length bytes → part_of bytes start end ≡ take (end - start) (drop start bytes)
part-between bytes start end a b =
    ap (λ v. cond (v && leb end (length bytes)) (take (end - start) (drop start bytes)) []) (le-leb start end a)
    ∙ ap (λ v. cond (true && v) (take (end - start) (drop start bytes)) []) (le-leb end (length bytes) b)

-- the part behind a front, up to what follows it
part-behind : (bytes front part tail : List ℕ) (start end : ℕ) → bytes ≡ front ++ (part ++ tail) → start ≡ length front → end ≡ start + length part
    → part_of bytes start end ≡ part
part-behind bytes front part tail start end whole at stop =
    let all : length bytes ≡ length front + length (part ++ tail) = ap length whole ∙ length-append front (part ++ tail) in
    let more : length (part ++ tail) ≡ length part + length tail = length-append part tail in
    let size : end - start ≡ length part = omega (arith, stop) in
    part-between bytes start end (omega (arith, stop)) (omega (arith, stop, at, all, more))
    ∙ ap (λ n. take n (drop start bytes)) size
    ∙ ap (λ xs. take (length part) (drop start xs)) whole
    ∙ ap (λ xs. take (length part) xs) (drop_at front (part ++ tail) start (sym at))
    ∙ take_at part tail (length part) refl

-- both sides of a slash are texts
slash-part : (text part rest : List ℕ) → text ≡ part ++ 47 ∷ rest → IsUtf8 text → IsUtf8 part
slash-part text part rest whole utf8 =
    let size : length text ≡ length part + suc (length rest) = ap length whole ∙ length-append part (47 ∷ rest) in
    let here : get_or text (length part) 0 ≡ 47 = ap (λ xs. get_or xs (length part) 0) whole ∙ get_or-append_seam part 47 rest 0 in
    subst IsUtf8 (ap (λ xs. take (length part) xs) whole ∙ take_at part (47 ∷ rest) (length part) refl)
    (IsUtf8-take text (length part) utf8 (IsCharBoundary-before_ascii text (length part) (omega (arith, size)) (omega (arith, here))))

slash-rest : (text part rest : List ℕ) → text ≡ part ++ 47 ∷ rest → IsUtf8 text → IsUtf8 rest
slash-rest text part rest whole utf8 =
    let size : length text ≡ length part + suc (length rest) = ap length whole ∙ length-append part (47 ∷ rest) in
    let here : get_or text (length part) 0 ≡ 47 = ap (λ xs. get_or xs (length part) 0) whole ∙ get_or-append_seam part 47 rest 0 in
    let split : text ≡ (part ++ 47 ∷ []) ++ rest = whole ∙ sym (append_assoc part (47 ∷ []) rest) in
    subst IsUtf8 (ap (λ xs. drop (length part + 1) xs) split ∙ drop_at (part ++ 47 ∷ []) rest (length part + 1) (length-append part (47 ∷ [])))
    (IsUtf8-drop text (length part + 1) utf8 (IsCharBoundary-after_ascii text (length part) utf8 (omega (arith, size)) (omega (arith, here))))

-- no byte of the word is a wildcard
abbrev pub is_word : List ℕ → Bool
is_word [] = true
is_word (x ∷ word) = cond (ltb x param_token) (is_word word) false

word-step : (v w : Bool) → cond v w false ≡ true → (v ≡ true) × (w ≡ true)
word-step true w h = (refl, h)
word-step false w h = absurd (cc)

-- where a parameter's part starts, behind a byte
next-below : (len at : ℕ) → at < len → next_at len at ≡ at + 1
next-below len at below = ap (λ v. cond v (at + 1) at) (lt-ltb at len below)

-- the next parameter behind a word
wild-word : (word : List ℕ) (t : List ℕ) (len token at : ℕ) → is_word word ≡ true → at + length word ≤ len
    → wild_from (word ++ param_token ∷ t) len token at ≡ (token + length word, at + length word)
wild-word [] t len token at lit below = ap₂ (λ a b. (a, b)) (sym (add-zero token)) (sym (add-zero at))
wild-word (x ∷ word) t len token at lit below =
    let one = word-step (ltb x param_token) (is_word word) lit in
    let more : at < len = omega (arith, below) in
    let shift : (n : ℕ) → (n + 1) + length word ≡ n + suc (length word) = λ n. omega arith in
    ap (λ v. cond v (wild_from (word ++ param_token ∷ t) len (token + 1) (next_at len at)) (token, at)) one.0
    ∙ ap (λ n. wild_from (word ++ param_token ∷ t) len (token + 1) n) (next-below len at more)
    ∙ wild-word word t len (token + 1) (at + 1) one.1 (omega (arith, below))
    ∙ ap₂ (λ a b. (a, b)) (shift token) (shift at)

-- up to the end of its segment, without the slash
segment-end : (text part rest : List ℕ) (at : ℕ) → at_slash text ≡ (part, Some rest) → at + length (segment text) - 1 ≡ at + length part
segment-end text part rest at cut =
    let size : length (segment text) ≡ length part + 1 = ap length (segment-cut text (part, Some rest) cut) ∙ length-append part (47 ∷ []) in
    omega (arith, size)

whole-cut : (text : List ℕ) (p : List ℕ × Option (List ℕ)) → at_slash text ≡ p → text ≡ whole_by p
whole-cut text p cut = whole-at text ∙ ap whole_by cut

-- what the parameters of a place's route took of the path
abbrev pub taken : Route → List ℕ → List (List ℕ × List ℕ)
taken route path = walk (entry route).pattern (entry route).text path (entry route).names 0 0

abbrev pub Walks : List ℕ → Option Place → Type 0
Walks path None = Unit {0}
Walks path (Some p) = HasValues p (taken p.route path)

walks-first : (path : List ℕ) (a b : Option Place) → Walks path a → Walks path b → Walks path (first_of a b)
walks-first path None b h k = k
walks-first path (Some p) b h k = h

-- the place holds behind the word
walks-behind : (word path : List ℕ) (f : List ℕ → Option Place) (o : Option (List ℕ)) → behind word path ≡ o
    → ((rest : List ℕ) → path ≡ word ++ rest → Walks (word ++ rest) (f rest)) → Walks path (where_behind f o)
walks-behind word path f None h g = tt
walks-behind word path f (Some rest) h g =
    let whole = behind-is word path rest h in
    subst (λ p. Walks p (f rest)) (sym whole) (g rest whole)

number : IsUtf8 (codes "number")
unfolding encode
number = (codes "number", (refl, refl))

year : IsUtf8 (codes "year")
unfolding encode
year = (codes "year", (refl, refl))

from : IsUtf8 (codes "from")
unfolding encode
from = (codes "from", (refl, refl))

to : IsUtf8 (codes "to")
unfolding encode
to = (codes "to", (refl, refl))

-- one name with its text
abbrev pub IsNamed : List ℕ → List ℕ → List (List ℕ × List ℕ) → Type 0
IsNamed name text pairs = AllText pairs × (named name pairs ≡ Some text)

one-number : (part text : List ℕ) → part ≡ text → IsUtf8 text → IsNamed (codes "number") text ((codes "number", part) ∷ [])
one-number part text same utf8 = ((number, subst IsUtf8 (sym same) utf8, tt), ap (λ t. Some t) same)

one-year : (part text : List ℕ) → part ≡ text → IsUtf8 text → IsNamed (codes "year") text ((codes "year", part) ∷ [])
one-year part text same utf8 = ((year, subst IsUtf8 (sym same) utf8, tt), ap (λ t. Some t) same)

-- the part is all that stands behind the word
rest-part : (word rest : List ℕ) (start : ℕ) → start ≡ length word → part_of (word ++ rest) start (length (word ++ rest)) ≡ rest
rest-part word rest start at =
    part-behind (word ++ rest) word rest [] start (length (word ++ rest)) (ap (λ xs. word ++ xs) (sym (append-nil rest))) at
    (length-append word rest ∙ ap (λ n. n + length rest) (sym at))

behind-word : (word rest : List ℕ) → 0 + length word ≤ length (word ++ rest)
behind-word word rest = omega (arith, length-append word rest)

case-taken : (rest : List ℕ) → taken Case (codes "/cases/" ++ rest) ≡ (codes "number", part_of (codes "/cases/" ++ rest) 7 (length (codes "/cases/" ++ rest))) ∷ []
case-taken rest =
    let path : List ℕ = codes "/cases/" ++ rest in
    ap (λ (w : ℕ × ℕ). (codes "number", part_of path w.1 (wild_stop (entry Case).pattern w.0 path w.1)) ∷ [])
    (wild-word (codes "/cases/") [] (length path) 0 0 refl (behind-word (codes "/cases/") rest))

deadlines-taken : (rest : List ℕ) → taken Deadlines (codes "/cases/" ++ rest) ≡ (codes "number", part_of (codes "/cases/" ++ rest) 7 (7 + length (segment rest) - 1)) ∷ []
deadlines-taken rest =
    let path : List ℕ = codes "/cases/" ++ rest in
    ap (λ (w : ℕ × ℕ). (codes "number", part_of path w.1 (wild_stop (entry Deadlines).pattern w.0 path w.1)) ∷ [])
    (wild-word (codes "/cases/") (codes "/deadlines") (length path) 0 0 refl (behind-word (codes "/cases/") rest))

holidays-taken : (rest : List ℕ) → taken Holidays (codes "/holidays/" ++ rest) ≡ (codes "year", part_of (codes "/holidays/" ++ rest) 10 (length (codes "/holidays/" ++ rest))) ∷ []
holidays-taken rest =
    let path : List ℕ = codes "/holidays/" ++ rest in
    ap (λ (w : ℕ × ℕ). (codes "year", part_of path w.1 (wild_stop (entry Holidays).pattern w.0 path w.1)) ∷ [])
    (wild-word (codes "/holidays/") [] (length path) 0 0 refl (behind-word (codes "/holidays/") rest))

case-walks : (rest : List ℕ) (p : List ℕ × Option (List ℕ)) → IsUtf8 rest → at_slash rest ≡ p → Walks (codes "/cases/" ++ rest) (case_place p)
case-walks rest ([], tail) utf8 cut = tt
case-walks rest (b ∷ part, None) utf8 cut =
    let whole : rest ≡ b ∷ part = whole-cut rest (b ∷ part, None) cut in
    let pair = one-number (part_of (codes "/cases/" ++ rest) 7 (length (codes "/cases/" ++ rest))) (b ∷ part) (rest-part (codes "/cases/") rest 7 refl ∙ whole) (subst IsUtf8 whole utf8) in
    subst (λ pairs. HasValues (record { route = Case; first = b ∷ part; second = [] }) pairs) (sym (case-taken rest)) (pair.0, (pair.1, refl))
case-walks rest (b ∷ part, Some tail) utf8 cut = deadlines-walks (behind (codes "deadlines") tail)
  where
    whole : rest ≡ (b ∷ part) ++ 47 ∷ tail
    whole = whole-cut rest (b ∷ part, Some tail) cut

    pair : IsNamed (codes "number") (b ∷ part) ((codes "number", part_of (codes "/cases/" ++ rest) 7 (7 + length (segment rest) - 1)) ∷ [])
    pair = one-number (part_of (codes "/cases/" ++ rest) 7 (7 + length (segment rest) - 1)) (b ∷ part)
        (part-behind (codes "/cases/" ++ rest) (codes "/cases/") (b ∷ part) (47 ∷ tail) 7 (7 + length (segment rest) - 1) (ap (λ xs. codes "/cases/" ++ xs) whole) refl (segment-end rest (b ∷ part) tail 7 cut))
        (slash-part rest (b ∷ part) tail whole utf8)

    deadlines-walks : (o : Option (List ℕ)) → Walks (codes "/cases/" ++ rest) (deadlines_place (b ∷ part) o)
    deadlines-walks None = tt
    deadlines-walks (Some []) =
        subst (λ pairs. HasValues (record { route = Deadlines; first = b ∷ part; second = [] }) pairs) (sym (deadlines-taken rest)) (pair.0, (pair.1, refl))
    deadlines-walks (Some (c ∷ more)) = tt

holidays-walks : (rest : List ℕ) (p : List ℕ × Option (List ℕ)) → IsUtf8 rest → at_slash rest ≡ p → Walks (codes "/holidays/" ++ rest) (holidays_place p)
holidays-walks rest ([], tail) utf8 cut = tt
holidays-walks rest (b ∷ part, Some tail) utf8 cut = tt
holidays-walks rest (b ∷ part, None) utf8 cut =
    let whole : rest ≡ b ∷ part = whole-cut rest (b ∷ part, None) cut in
    let pair = one-year (part_of (codes "/holidays/" ++ rest) 10 (length (codes "/holidays/" ++ rest))) (b ∷ part) (rest-part (codes "/holidays/") rest 10 refl ∙ whole) (subst IsUtf8 whole utf8) in
    subst (λ pairs. HasValues (record { route = Holidays; first = b ∷ part; second = [] }) pairs) (sym (holidays-taken rest)) (pair.0, (pair.1, refl))

-- two names with their texts
two-texts : (one other part last : List ℕ) → one ≡ part → other ≡ last → IsUtf8 part → IsUtf8 last
    → AllText ((codes "from", one) ∷ (codes "to", other) ∷ [])
    × ((named (codes "from") ((codes "from", one) ∷ (codes "to", other) ∷ []) ≡ Some part) × (named (codes "to") ((codes "from", one) ∷ (codes "to", other) ∷ []) ≡ Some last))
two-texts one other part last same same_too utf8 utf8_too =
    ((from, subst IsUtf8 (sym same) utf8, (to, subst IsUtf8 (sym same_too) utf8_too, tt)), (ap (λ t. Some t) same, ap (λ t. Some t) same_too))

calendar-walks : (rest : List ℕ) (p : List ℕ × Option (List ℕ)) → IsUtf8 rest → at_slash rest ≡ p → Walks (codes "/calendar/" ++ rest) (calendar_place p)
calendar-walks rest ([], tail) utf8 cut = tt
calendar-walks rest (b ∷ part, None) utf8 cut = tt
calendar-walks rest (b ∷ part, Some tail) utf8 cut = last-walks (at_slash tail) refl
  where
    path : List ℕ
    path = codes "/calendar/" ++ rest

    stop : ℕ
    stop = 10 + length (segment rest) - 1

    whole : rest ≡ (b ∷ part) ++ 47 ∷ tail
    whole = whole-cut rest (b ∷ part, Some tail) cut

    stops : stop ≡ 10 + length (b ∷ part)
    stops = segment-end rest (b ∷ part) tail 10 cut

    size : length path ≡ 10 + (length (b ∷ part) + (length tail + 1))
    size = let all : length rest ≡ length (b ∷ part) + suc (length tail) = ap length whole ∙ length-append (b ∷ part) (47 ∷ tail) in omega (arith, all)

    before : path ≡ (codes "/calendar/" ++ ((b ∷ part) ++ 47 ∷ [])) ++ tail
    before = ap (λ xs. codes "/calendar/" ++ xs) (whole ∙ sym (append_assoc (b ∷ part) (47 ∷ []) tail))

    one : part_of path 10 stop ≡ b ∷ part
    one = part-behind path (codes "/calendar/") (b ∷ part) (47 ∷ tail) 10 stop (ap (λ xs. codes "/calendar/" ++ xs) whole) refl stops

    at : stop + 1 ≡ length (codes "/calendar/" ++ ((b ∷ part) ++ 47 ∷ []))
    at = let front : length ((b ∷ part) ++ 47 ∷ []) ≡ length (b ∷ part) + 1 = length-append (b ∷ part) (47 ∷ []) in omega (arith, stops, front)

    other : part_of path (stop + 1) (length path) ≡ tail
    other = part-behind path (codes "/calendar/" ++ ((b ∷ part) ++ 47 ∷ [])) tail [] (stop + 1) (length path)
        (before ∙ ap (λ xs. (codes "/calendar/" ++ ((b ∷ part) ++ 47 ∷ [])) ++ xs) (sym (append-nil tail))) at
        (ap length before ∙ length-append (codes "/calendar/" ++ ((b ∷ part) ++ 47 ∷ [])) tail ∙ ap (λ n. n + length tail) (sym at))

    pattern : List ℕ
    pattern = codes "/calendar/" ++ param_token ∷ 47 ∷ param_token ∷ []

    first-taken : taken Calendar path ≡ (codes "from", part_of path 10 stop) ∷ walk pattern (codes "/calendar/{from}/{to}") path ((18, 20) ∷ []) 11 stop
    first-taken = ap (λ (w : ℕ × ℕ). (codes "from", part_of path w.1 (wild_stop pattern w.0 path w.1))
        ∷ walk pattern (codes "/calendar/{from}/{to}") path ((18, 20) ∷ []) (after_token w.0) (wild_stop pattern w.0 path w.1))
        (wild-word (codes "/calendar/") (47 ∷ param_token ∷ []) (length path) 0 0 refl (behind-word (codes "/calendar/") rest))

    all-taken : taken Calendar path ≡ (codes "from", part_of path 10 stop) ∷ (codes "to", part_of path (stop + 1) (length path)) ∷ []
    all-taken = first-taken
        ∙ ap (λ (w : ℕ × ℕ). (codes "from", part_of path 10 stop) ∷ (codes "to", part_of path w.1 (wild_stop pattern w.0 path w.1)) ∷ [])
        (wild-word (47 ∷ []) [] (length path) 11 stop refl (omega (arith, stops, size)))

    last-walks : (q : List ℕ × Option (List ℕ)) → at_slash tail ≡ q
        → Walks path (part_place (λ to. record { route = Calendar; first = b ∷ part; second = to }) q)
    last-walks ([], more) cut_too = tt
    last-walks (c ∷ last, Some more) cut_too = tt
    last-walks (c ∷ last, None) cut_too =
        let all : tail ≡ c ∷ last = whole-cut tail (c ∷ last, None) cut_too in
        subst (λ pairs. HasValues (record { route = Calendar; first = b ∷ part; second = c ∷ last }) pairs) (sym all-taken)
        (two-texts (part_of path 10 stop) (part_of path (stop + 1) (length path)) (b ∷ part) (c ∷ last) one (other ∙ all)
        (slash-part rest (b ∷ part) tail whole utf8) (subst IsUtf8 all (slash-rest rest (b ∷ part) tail whole utf8)))

commands-walks : (rest : List ℕ) → Walks (codes "/commands" ++ rest) (word_place Commands rest)
commands-walks [] = (tt, (refl, refl))
commands-walks (b ∷ rest) = tt

-- behind a word that ends with a slash the path is a text
utf8-behind : (word : List ℕ) (path rest : List ℕ) → path ≡ (word ++ 47 ∷ []) ++ rest → IsUtf8 path → IsUtf8 rest
utf8-behind word path rest whole utf8 = slash-rest path word rest (whole ∙ append_assoc word (47 ∷ []) rest) utf8

-- the place of a path has the texts that its route's parameters take
pub place-walks : (path : List ℕ) → IsUtf8 path → Walks path (place_of path)
place-walks path utf8 =
    walks-first path _ _
    (walks-behind (codes "/calendar/") path (λ rest. calendar_place (at_slash rest)) (behind (codes "/calendar/") path) refl
    (λ rest whole. calendar-walks rest (at_slash rest) (utf8-behind (codes "/calendar") path rest whole utf8) refl))
    (walks-first path _ _
    (walks-behind (codes "/cases/") path (λ rest. case_place (at_slash rest)) (behind (codes "/cases/") path) refl
    (λ rest whole. case-walks rest (at_slash rest) (utf8-behind (codes "/cases") path rest whole utf8) refl))
    (walks-first path _ _
    (walks-behind (codes "/commands") path (word_place Commands) (behind (codes "/commands") path) refl (λ rest whole. commands-walks rest))
    (walks-behind (codes "/holidays/") path (λ rest. holidays_place (at_slash rest)) (behind (codes "/holidays/") path) refl
    (λ rest whole. holidays-walks rest (at_slash rest) (utf8-behind (codes "/holidays") path rest whole utf8) refl))))

none-of : (o : Option Place) → entry_of o ≡ None → o ≡ None
none-of None e = refl
none-of (Some p) e = absurd (cc)

pub no-place : (rows : RowsOf (RouteOf Route)) (path : List ℕ) → rows ≡ route_rows → ((i : ℕ) → get_or path i 0 < 256) → first rows path ≡ None → place_of path ≡ None
no-place rows path same bytes none =
    none-of (place_of path) (sym (route-found path (plain-from path bytes)) ∙ ap (λ r. first r path) (sym same) ∙ none)

entry-value : (route : Route) → (entry route).value ≡ route
entry-value Commands = refl
entry-value Case = refl
entry-value Deadlines = refl
entry-value Calendar = refl
entry-value Holidays = refl

-- a place of the path whose route's row is this
pub record IsAt (path : List ℕ) (found : RouteOf Route) : Type 0 where
  pub place : Place
  pub is : place_of path ≡ Some place
  pub route : place.route ≡ found.value
  pub values : HasValues place (walk found.pattern found.text path found.names 0 0)

at-by : (path : List ℕ) (found : RouteOf Route) (o : Option Place) → place_of path ≡ o → Walks path o → entry_of o ≡ Some found → IsAt path found
at-by path found None is walks e = absurd (cc)
at-by path found (Some p) is walks e =
    let same : entry p.route ≡ found = cc in
    record {
      place = p;
      is = is;
      route = sym (entry-value p.route) ∙ ap (λ r. r.value) same;
      values = subst (λ r. HasValues p (walk r.pattern r.text path r.names 0 0)) same walks;
    }

pub place-found : (rows : RowsOf (RouteOf Route)) (path : List ℕ) (found : RouteOf Route) → rows ≡ route_rows → ((i : ℕ) → get_or path i 0 < 256) → IsUtf8 path
    → first rows path ≡ Some found → IsAt path found
place-found rows path found same bytes utf8 is =
    at-by path found (place_of path) refl (place-walks path utf8)
    (sym (route-found path (plain-from path bytes)) ∙ ap (λ r. first r path) (sym same) ∙ is)

pub place-parts : (p : Place) (route : Route) (one other : List ℕ) → route ≡ p.route → one ≡ p.first → other ≡ p.second
    → Some p ≡ Some (record { route = route; first = one; second = other })
place-parts p route one other a b c =
    ap (λ r. Some (record { route = r; first = p.first; second = p.second })) (sym a)
    ∙ ap (λ t. Some (record { route = route; first = t; second = p.second })) (sym b)
    ∙ ap (λ t. Some (record { route = route; first = one; second = t })) (sym c)
