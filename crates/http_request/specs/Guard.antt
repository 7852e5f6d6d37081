-- The guard. The fields of a request give the host that it is sent to and, if a page of a browser sends it, that page's origin (RFC 9110, section
-- 7.2; RFC 6454, section 7). They also give whether the page is of another site (Fetch Metadata Request Headers, sections 2.2 and 2.3). A request
-- to another host, or from a page from elsewhere, is foreign.
use Rattle.std.specs.Prelude.{ℕ, List, [], ◌∷◌, map, Option, Some, None, Bool, true, false, not, ◌&&◌, bytes_eq, codes, string_bytes}
use Rattle.std.specs.List.{list_any}
use Rattle.std.specs.Option.{option_map_or}
use Rattle.http_request.specs.declared.page.Routes.{Routes}
use Rattle.http_request.specs.declared.page.Routes.TheVariants.{Docket, Guarded, WithPages}
use Rattle.http_request.specs.Fields.{same_name, values_of}
use Rattle.http_request.specs.Path.{behind}

abbrev pub or_else : Option (List ℕ) → Option (List ℕ) → Option (List ℕ)
or_else None other = other
or_else (Some text) other = Some text

-- the host of an origin, with its port where that is not the scheme's own
abbrev pub host_of : List ℕ → Option (List ℕ)
host_of origin = or_else (behind (codes "http://") origin) (behind (codes "https://") origin)

-- the origin is at this host, without regard to ASCII case
abbrev pub is_at : List ℕ → List ℕ → Bool
is_at host origin = option_map_or (λ named. same_name host named) (host_of origin) false

-- the request names one host, at which one of the origins is, and its own origin, if it has one, is that one
abbrev pub is_let_through : List (List ℕ) → List (List ℕ) → List (List ℕ) → Bool
is_let_through origins [] from = false
is_let_through origins (host ∷ other ∷ hosts) from = false
is_let_through origins (host ∷ []) [] = list_any (λ origin. is_at host origin) origins
is_let_through origins (host ∷ []) (page ∷ []) = list_any (λ origin. is_at host origin && same_name page origin) origins
is_let_through origins (host ∷ []) (page ∷ other ∷ from) = false

-- a plain navigation: what a browser gets to show it in place of the page that leads there, as by a link
abbrev pub is_navigation : List ℕ → List (List ℕ) → Bool
is_navigation method [] = false
is_navigation method (mode ∷ []) = bytes_eq method (codes "GET") && bytes_eq mode (codes "navigate")
is_navigation method (mode ∷ other ∷ modes) = false

-- a browser marks the request as one from another site, and it is no plain navigation; several marks count as this one
abbrev pub is_cross_site : List ℕ → List (List ℕ) → List (List ℕ) → Bool
is_cross_site method [] modes = false
is_cross_site method (site ∷ []) modes = bytes_eq site (codes "cross-site") && not (is_navigation method modes)
is_cross_site method (site ∷ other ∷ sites) modes = true

-- by its method and its fields the request is to one of these origins, from a page of that origin or from no page, and not across sites
abbrev pub lets_through : List (List ℕ) → List ℕ → List (List ℕ × List ℕ) → Bool
lets_through origins method fields =
    is_let_through origins (values_of (codes "host") fields) (values_of (codes "origin") fields)
    && not (is_cross_site method (values_of (codes "sec-fetch-site") fields) (values_of (codes "sec-fetch-mode") fields))

-- a request with this method and these fields is refused; if no origins are guarded, none is
abbrev pub is_foreign : Routes → List ℕ → List (List ℕ × List ℕ) → Bool
is_foreign Docket method fields = false
is_foreign (Guarded origins) method fields = not (lets_through (map string_bytes origins.items) method fields)
is_foreign (WithPages origins) method fields = not (lets_through (map string_bytes origins.items) method fields)
