-- What the router of the five routes finds is the place that the path's text has.
use Rattle.std.proofs.Common.{◌≡◌, ℕ, List, [], ◌∷◌, ◌++◌, refl, ap, sym, subst, ◌∙◌, append_assoc, Option, Some, None, Bool, true, false, cond, ◌==◌, codes}
use Rattle.matchit.specs.Rows.{RowsOf, param_token}
use Rattle.matchit.specs.Router.{RouteOf}
use Rattle.matchit.specs.Seek.{seek, first, or_else}
use Rattle.http_request.specs.declared.route.Route.{Route}
use Rattle.http_request.specs.declared.route.Route.TheVariants.{Commands, Case, Deadlines, Calendar, Holidays}
use Rattle.http_request.specs.Rows.{row, route_rows}
use Rattle.http_request.specs.Path.{behind, at_slash, Place, word_place, part_place, calendar_place, deadlines_place, case_place, holidays_place, where_behind, first_of, place_of}
use Rattle.http_request.proofs.SeekLemmas.{under, seek_behind, seek-under, seek-apart, seek-nothing, seek-literal, one_by, more_by, whole_by, whole-at, seek-one, seek-two, seek-three, is_literal}

-- no byte is a wildcard
abbrev pub IsPlain : List ℕ → Type 0
IsPlain [] = Unit {0}
IsPlain (b ∷ text) = (param_token == b ≡ false) × IsPlain text

-- what the router keeps of a route
abbrev pub entry : Route → RouteOf Route
entry Commands = (row (codes "/commands") (codes "/commands") [] Commands).1
entry Case = (row (codes "/cases/" ++ param_token ∷ []) (codes "/cases/{number}") ((8, 14) ∷ []) Case).1
entry Deadlines = (row (codes "/cases/" ++ param_token ∷ codes "/deadlines") (codes "/cases/{number}/deadlines") ((8, 14) ∷ []) Deadlines).1
entry Calendar = (row (codes "/calendar/" ++ param_token ∷ 47 ∷ param_token ∷ []) (codes "/calendar/{from}/{to}") ((11, 15) ∷ (18, 20) ∷ []) Calendar).1
entry Holidays = (row (codes "/holidays/" ++ param_token ∷ []) (codes "/holidays/{year}") ((11, 15) ∷ []) Holidays).1

abbrev pub entry_of : Option Place → Option (RouteOf Route)
entry_of None = None
entry_of (Some place) = Some (entry place.route)

entry_of-first : (a b : Option Place) → entry_of (first_of a b) ≡ or_else (entry_of a) (entry_of b)
entry_of-first None b = refl
entry_of-first (Some p) b = refl

grouped : route_rows ≡ under (codes "/calendar/") ((param_token ∷ 47 ∷ param_token ∷ [], entry Calendar) ∷ [])
    ++ (under (codes "/cases/") ((param_token ∷ codes "/deadlines", entry Deadlines) ∷ (param_token ∷ [], entry Case) ∷ [])
    ++ (under (codes "/commands") (([], entry Commands) ∷ []) ++ under (codes "/holidays/") ((param_token ∷ [], entry Holidays) ∷ [])))
grouped = refl

plain-append : (a b : List ℕ) → IsPlain (a ++ b) → IsPlain b
plain-append [] b h = h
plain-append (x ∷ a) b h = plain-append a b h.1

-- the text after a slash, and the text behind a prefix
plain-rest : (text part rest : List ℕ) → IsPlain text → at_slash text ≡ (part, Some rest) → IsPlain rest
plain-rest text part rest h cut =
    let whole : text ≡ (part ++ 47 ∷ []) ++ rest = whole-at text ∙ ap whole_by cut ∙ sym (append_assoc part (47 ∷ []) rest) in
    plain-append (part ++ 47 ∷ []) rest (subst IsPlain whole h)

behind-cond : (v : Bool) (o : Option (List ℕ)) (rest : List ℕ) → cond v o None ≡ Some rest → o ≡ Some rest
behind-cond true o rest e = e
behind-cond false o rest e = absurd (cc)

plain-behind : (word text rest : List ℕ) → IsPlain text → behind word text ≡ Some rest → IsPlain rest
plain-behind [] text rest h e = let same : text ≡ rest = cc in subst IsPlain same h
plain-behind (x ∷ word) [] rest h e = absurd (cc)
plain-behind (x ∷ word) (b ∷ text) rest h e = plain-behind word text rest h.1 (behind-cond (x == b) (behind word text) rest e)

-- one part
part-by : (f : List ℕ → Place) (e : RouteOf Route) (p : List ℕ × Option (List ℕ)) → ((x : List ℕ) → entry (f x).route ≡ e)
    → one_by e p ≡ entry_of (part_place f p)
part-by f e ([], rest) same = refl
part-by f e (c ∷ part, None) same = ap (λ x. Some x) (sym (same (c ∷ part)))
part-by f e (c ∷ part, Some rest) same = refl

part-found : (f : List ℕ → Place) (e : RouteOf Route) (rest : List ℕ) → ((x : List ℕ) → entry (f x).route ≡ e) → IsPlain rest
    → seek 0 ((param_token ∷ [], e) ∷ []) rest ≡ entry_of (part_place f (at_slash rest))
unfolding seek
part-found f e [] same h = refl
part-found f e (b ∷ path) same h = seek-one b path e (at_slash (b ∷ path)) h.0 refl ∙ part-by f e (at_slash (b ∷ path)) same

-- two parts
calendar-by : (text : List ℕ) (p : List ℕ × Option (List ℕ)) → IsPlain text → at_slash text ≡ p
    → more_by None (λ rest. seek 0 ((param_token ∷ [], entry Calendar) ∷ []) rest) p ≡ entry_of (calendar_place p)
calendar-by text ([], rest) h cut = refl
calendar-by text (c ∷ part, None) h cut = refl
calendar-by text (c ∷ part, Some rest) h cut =
    part-found (λ to. record { route = Calendar; first = c ∷ part; second = to }) (entry Calendar) rest (λ x. refl) (plain-rest text (c ∷ part) rest h cut)

calendar-found : (rest : List ℕ) → IsPlain rest
    → seek 0 ((param_token ∷ 47 ∷ param_token ∷ [], entry Calendar) ∷ []) rest ≡ entry_of (calendar_place (at_slash rest))
unfolding seek
calendar-found [] h = refl
calendar-found (b ∷ path) h =
    seek-two b path (param_token ∷ []) (entry Calendar) (at_slash (b ∷ path)) h.0 refl ∙ calendar-by (b ∷ path) (at_slash (b ∷ path)) h refl

-- nothing is left
end-found : (e : RouteOf Route) (b : ℕ) (path : List ℕ) → seek 0 (([], e) ∷ []) (b ∷ path) ≡ None
end-found e b path = seek-literal b path (([], e) ∷ []) refl refl ∙ seek-nothing 0 path

deadlines-by : (number : List ℕ) (o : Option (List ℕ)) → seek_behind (([], entry Deadlines) ∷ []) o ≡ entry_of (deadlines_place number o)
unfolding seek
deadlines-by number None = refl
deadlines-by number (Some []) = refl
deadlines-by number (Some (b ∷ path)) = end-found (entry Deadlines) b path

case-by : (p : List ℕ × Option (List ℕ)) → more_by (Some (entry Case)) (λ rest. seek 0 ((codes "deadlines", entry Deadlines) ∷ []) rest) p ≡ entry_of (case_place p)
case-by ([], rest) = refl
case-by (c ∷ part, None) = refl
case-by (c ∷ part, Some rest) =
    seek-under (codes "deadlines") (([], entry Deadlines) ∷ []) rest refl ∙ deadlines-by (c ∷ part) (behind (codes "deadlines") rest)

case-found : (rest : List ℕ) → IsPlain rest
    → seek 0 ((param_token ∷ codes "/deadlines", entry Deadlines) ∷ (param_token ∷ [], entry Case) ∷ []) rest ≡ entry_of (case_place (at_slash rest))
unfolding seek
case-found [] h = refl
case-found (b ∷ path) h =
    seek-three b path (codes "deadlines") (entry Deadlines) (entry Case) (at_slash (b ∷ path)) h.0 refl ∙ case-by (at_slash (b ∷ path))

-- behind a prefix
behind-found : (A : RowsOf (RouteOf Route)) (f : List ℕ → Option Place) (word path : List ℕ) (o : Option (List ℕ)) → IsPlain path → behind word path ≡ o
    → ((rest : List ℕ) → IsPlain rest → seek 0 A rest ≡ entry_of (f rest)) → seek_behind A o ≡ entry_of (where_behind f o)
behind-found A f word path None h e g = refl
behind-found A f word path (Some rest) h e g = g rest (plain-behind word path rest h e)

commands-found : (rest : List ℕ) → seek 0 (([], entry Commands) ∷ []) rest ≡ entry_of (word_place Commands rest)
unfolding seek
commands-found [] = refl
commands-found (b ∷ path) = end-found (entry Commands) b path

group-found : (A : RowsOf (RouteOf Route)) (f : List ℕ → Option Place) (word path : List ℕ) → is_literal word ≡ true → IsPlain path
    → ((rest : List ℕ) → IsPlain rest → seek 0 A rest ≡ entry_of (f rest)) → seek 0 (under word A) path ≡ entry_of (where_behind f (behind word path))
group-found A f word path w h g = seek-under word A path w ∙ behind-found A f word path (behind word path) h refl g

join : (a b : Option (RouteOf Route)) (x y : Option Place) → a ≡ entry_of x → b ≡ entry_of y → or_else a b ≡ entry_of (first_of x y)
join a b x y p q = ap (λ o. or_else o b) p ∙ ap (λ o. or_else (entry_of x) o) q ∙ sym (entry_of-first x y)

-- the router finds the place that the path has
pub route-found : (path : List ℕ) → IsPlain path → first route_rows path ≡ entry_of (place_of path)
route-found path h =
    let A : RowsOf (RouteOf Route) = (param_token ∷ 47 ∷ param_token ∷ [], entry Calendar) ∷ [] in
    let B : RowsOf (RouteOf Route) = (param_token ∷ codes "/deadlines", entry Deadlines) ∷ (param_token ∷ [], entry Case) ∷ [] in
    let C : RowsOf (RouteOf Route) = ([], entry Commands) ∷ [] in
    let D : RowsOf (RouteOf Route) = (param_token ∷ [], entry Holidays) ∷ [] in
    let a = group-found A (λ rest. calendar_place (at_slash rest)) (codes "/calendar/") path refl h calendar-found in
    let b = group-found B (λ rest. case_place (at_slash rest)) (codes "/cases/") path refl h case-found in
    let c = group-found C (word_place Commands) (codes "/commands") path refl h (λ rest p. commands-found rest) in
    let d = group-found D (λ rest. holidays_place (at_slash rest)) (codes "/holidays/") path refl h
    (λ rest p. part-found (λ year. record { route = Holidays; first = year; second = [] }) (entry Holidays) rest (λ x. refl) p) in
    ap (λ r. seek 0 r path) grouped
    ∙ seek-apart (codes "/calendar/") A (under (codes "/cases/") B ++ (under (codes "/commands") C ++ under (codes "/holidays/") D)) path refl refl
    ∙ join _ _ _ _ a
    (seek-apart (codes "/cases/") B (under (codes "/commands") C ++ under (codes "/holidays/") D) path refl refl
    ∙ join _ _ _ _ b (seek-apart (codes "/commands") C (under (codes "/holidays/") D) path refl refl ∙ join _ _ _ _ c d))
