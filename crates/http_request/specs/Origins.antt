-- The origins at which a docket is served (RFC 6454, section 6.2).
use Rattle.std.specs.Prelude.{◌≡◌, ℕ, List, [], ◌∷◌, ◌++◌, ◌==◌, map, Option, Some, None, if◌then◌else◌, codes, decimal, string_bytes}
use Rattle.http_request.specs.declared.page.Routes.{Routes}
use Rattle.http_request.specs.declared.page.Routes.TheVariants.{Docket, Guarded, WithPages}

-- the host with the port behind it, but for 80, the port of HTTP, which is left out
abbrev pub host_at : List ℕ → ℕ → List ℕ
host_at name port = if port == 80 then name else name ++ (codes ":" ++ decimal port)

abbrev pub origin_at : List ℕ → ℕ → List ℕ
origin_at name port = codes "http://" ++ host_at name port

-- the names of this machine
abbrev pub own_names : List (List ℕ)
own_names = codes "127.0.0.1" ∷ codes "localhost" ∷ codes "[::1]" ∷ []

abbrev pub listed : Option (List ℕ) → List (List ℕ)
listed None = []
listed (Some origin) = origin ∷ []

-- those at a port of this machine, and another one where it is given, as that of a proxy
abbrev pub origins_at : ℕ → Option (List ℕ) → List (List ℕ)
origins_at port other =
    origin_at (codes "127.0.0.1") port ∷ origin_at (codes "localhost") port ∷ origin_at (codes "[::1]") port ∷ listed other

-- the routes of the docket are served at these origins alone
abbrev pub AreGuardedAt : ℕ → Option (List ℕ) → Routes → Type 0
AreGuardedAt port other Docket = ⊥
AreGuardedAt port other (Guarded origins) = map string_bytes origins.items ≡ origins_at port other
AreGuardedAt port other (WithPages origins) = ⊥

-- and the pages are shown at these
abbrev pub AreShownAt : ℕ → Option (List ℕ) → Routes → Type 0
AreShownAt port other Docket = ⊥
AreShownAt port other (Guarded origins) = ⊥
AreShownAt port other (WithPages origins) = map string_bytes origins.items ≡ origins_at port other
