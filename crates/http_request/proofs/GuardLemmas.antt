-- The guard let through each request that asks for something.
use Rattle.std.proofs.Common.{Option, codes, ◌++◌, nat_eq, ◌≡◌, inl, inr, ℕ, Bool, true, false, ◌||◌, ◌&&◌, true≢false, cond, not, List, [], ◌∷◌, map, refl, ap, sym, ◌∙◌}
use Rattle.std.specs.Char.{to_ascii_lowercase}
use Rattle.std.specs.Cmp.Lexicographic.{pointwise}
use Rattle.std.specs.List.{list_any, AllByRecursion}
use Rattle.std.proofs.lemmas.Bool.{eq-eqb}
use Rattle.httparse.specs.Spans.{name_and_value}
use Rattle.http_request.specs.declared.fields.Rejection.{Rejection}
use Rattle.http_request.specs.declared.fields.Rejection.TheVariants.{Foreign}
use Rattle.http_request.specs.declared.head.HeadSearch.{HeadSearch}
use Rattle.http_request.specs.declared.head.HeadSearch.TheVariants.{More, Head, TooLong}
use Rattle.http_request.specs.declared.page.Routes.{Routes}
use Rattle.http_request.specs.declared.wish.Wish.{Wish}
use Rattle.http_request.specs.declared.wish.Wish.TheVariants.{Reject}
use Rattle.http_request.specs.Head.{head_of}
use Rattle.http_request.specs.Fields.{same_name, values_of}
use Rattle.http_request.specs.Guard.{is_at, is_cross_site, is_foreign, is_let_through, lets_through}
use Rattle.http_request.specs.Origins.{host_at, listed, origin_at, origins_at, own_names}
use Rattle.http_request.specs.Request.{IsRequestBy, IsLetThrough, is_refused}

pub any_of_map : {A B : Type 0} (p : B → Bool) (f : A → B) (xs : List A) → list_any (λ x. p (f x)) xs ≡ list_any p (map f xs)
any_of_map p f [] = refl
any_of_map p f (x ∷ xs) = ap (λ b. p (f x) || b) (any_of_map p f xs)

-- a request of one host, and from no page
pub from_no_page : (origins hosts pages : List (List ℕ)) (host : List ℕ) (result : Bool) → hosts ≡ host ∷ [] → pages ≡ []
    → result ≡ list_any (λ origin. is_at host origin) origins → result ≡ is_let_through origins hosts pages
from_no_page origins hosts pages host result one none is =
    is ∙ sym (ap (λ h. is_let_through origins h pages) one ∙ ap (λ p. is_let_through origins (host ∷ []) p) none)

-- a request of one host, and from a page
pub from_page : (origins hosts pages : List (List ℕ)) (host page : List ℕ) (result : Bool) → hosts ≡ host ∷ [] → pages ≡ page ∷ []
    → result ≡ list_any (λ origin. is_at host origin && same_name page origin) origins → result ≡ is_let_through origins hosts pages
from_page origins hosts pages host page result one own is =
    is ∙ sym (ap (λ h. is_let_through origins h pages) one ∙ ap (λ p. is_let_through origins (host ∷ []) p) own)

not_refused : (wish : Wish) (r : Rejection) → wish ≡ Reject r → is_refused wish ≡ false → ⊥
not_refused wish r is asked = true≢false (sym (ap is_refused is) ∙ asked)

-- a wish that is no refusal passed the guard
through : (foreign : Bool) (wish other : Wish) → wish ≡ cond foreign (Reject Foreign) other → is_refused wish ≡ false → foreign ≡ false
through true wish other is asked = absurd (not_refused wish Foreign is asked)
through false wish other is asked = refl

pub let_through_by : (routes : Routes) (fresh : ℕ) (found : HeadSearch) (input : List ℕ) (wish : Wish) (body : List ℕ) → head_of input ≡ found
    → IsRequestBy routes fresh found input wish body → is_refused wish ≡ false → IsLetThrough routes input
let_through_by routes fresh (More scan) input wish body e is asked = absurd is
let_through_by routes fresh TooLong input wish body e is asked = absurd (not_refused wish _ is.0 asked)
let_through_by routes fresh (Head n) input wish body e (inl read, fits, body_is) asked =
    record {
      len = n;
      head = read.0;
      ends = e;
      reads = read.1;
      through = through (is_foreign routes read.0.method (map name_and_value read.0.fields)) wish _ read.3 asked;
    }
let_through_by routes fresh (Head n) input wish body e (inr bad, fits, body_is) asked = absurd (not_refused wish _ bad.1 asked)

same_bytes : (bytes : List ℕ) → pointwise nat_eq bytes bytes ≡ true
same_bytes [] = refl
same_bytes (b ∷ bytes) = ap (λ t. t && pointwise nat_eq bytes bytes) (eq-eqb b b refl) ∙ same_bytes bytes

-- an origin by HTTP is at its host
at_own : (host : List ℕ) → is_at host (codes "http://" ++ host) ≡ true
at_own host = same_bytes (map to_ascii_lowercase host)

or_true : (b : Bool) → (b || true) ≡ true
or_true true = refl
or_true false = refl

any_here : {A : Type 0} (p : A → Bool) (x : A) (xs : List A) → p x ≡ true → list_any p (x ∷ xs) ≡ true
any_here p x xs is = ap (λ b. b || list_any p xs) is

any_behind : {A : Type 0} (p : A → Bool) (x : A) (xs : List A) → list_any p xs ≡ true → list_any p (x ∷ xs) ≡ true
any_behind p x xs is = ap (λ b. p x || b) is ∙ or_true (p x)

-- a request to one of the names of this machine that sends no origin
own_name : (port : ℕ) (other : Option (List ℕ)) → AllByRecursion (λ name. is_let_through (origins_at port other) (host_at name port ∷ []) [] ≡ true) own_names
own_name port other =
    let first : List ℕ = origin_at (codes "127.0.0.1") port in
    let second : List ℕ = origin_at (codes "localhost") port in
    let third : List ℕ = origin_at (codes "[::1]") port in
    let more : List (List ℕ) = listed other in
    let at : List ℕ → List ℕ → Bool = λ name origin. is_at (host_at name port) origin in (
      any_here (at (codes "127.0.0.1")) first (second ∷ third ∷ more) (at_own (host_at (codes "127.0.0.1") port)),
      (
        any_behind (at (codes "localhost")) first (second ∷ third ∷ more) (any_here (at (codes "localhost")) second (third ∷ more) (at_own (host_at (codes "localhost") port))),
        (
          any_behind (at (codes "[::1]")) first (second ∷ third ∷ more) (any_behind (at (codes "[::1]")) second (third ∷ more) (any_here (at (codes "[::1]")) third more (at_own (host_at (codes "[::1]") port)))),
          tt,
        ),
      ),
    )

-- with one host and neither an origin nor a mark of a browser
unmarked : (origins : List (List ℕ)) (method host : List ℕ) (fields : List (List ℕ × List ℕ)) → values_of (codes "origin") fields ≡ []
    → values_of (codes "sec-fetch-site") fields ≡ [] → is_let_through origins (host ∷ []) [] ≡ true → values_of (codes "host") fields ≡ host ∷ []
    → lets_through origins method fields ≡ true
unmarked origins method host fields none unsited is one =
    ap (λ hosts. is_let_through origins hosts (values_of (codes "origin") fields) && not (is_cross_site method (values_of (codes "sec-fetch-site") fields) (values_of (codes "sec-fetch-mode") fields))) one
    ∙ ap (λ pages. is_let_through origins (host ∷ []) pages && not (is_cross_site method (values_of (codes "sec-fetch-site") fields) (values_of (codes "sec-fetch-mode") fields))) none
    ∙ ap (λ sites. is_let_through origins (host ∷ []) [] && not (is_cross_site method sites (values_of (codes "sec-fetch-mode") fields))) unsited
    ∙ ap (λ b. b && true) is

pub own_request : (port : ℕ) (other : Option (List ℕ)) (method : List ℕ) (fields : List (List ℕ × List ℕ)) → values_of (codes "origin") fields ≡ []
    → values_of (codes "sec-fetch-site") fields ≡ []
    → AllByRecursion (λ name. values_of (codes "host") fields ≡ host_at name port ∷ [] → lets_through (origins_at port other) method fields ≡ true) own_names
own_request port other method fields none unsited =
    let own = own_name port other in
    let origins : List (List ℕ) = origins_at port other in (
      unmarked origins method (host_at (codes "127.0.0.1") port) fields none unsited own.0,
      (
        unmarked origins method (host_at (codes "localhost") port) fields none unsited own.1.0,
        (unmarked origins method (host_at (codes "[::1]") port) fields none unsited own.1.1.0, tt),
      ),
    )
