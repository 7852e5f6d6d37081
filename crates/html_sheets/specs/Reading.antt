-- How HTML reads a text: each reference becomes its character (HTML Living Standard, 13.2.5.72 to 13.2.5.80), for the
-- references that texts here have.
use Rattle.std.specs.Prelude.{ℕ, Bool, ◌==◌, nat_eq, if◌then◌else◌, List, [], ◌∷◌, ◌++◌, codes, Option, Some, None}
use Rattle.std.specs.List.{list_any, starts_with}
use Rattle.std.specs.Str.{bytes_eq}

-- the references
abbrev pub references : List (List ℕ)
references = codes "&lt;" ∷ codes "&gt;" ∷ codes "&amp;" ∷ codes "&quot;" ∷ codes "&#39;" ∷ []

-- one of them begins here
abbrev pub begins_reference : List ℕ → Bool
begins_reference bytes = list_any (starts_with nat_eq bytes) references

-- the name between `&` and `;`, and the character of the reference; any other name is left as it is
abbrev pub referred : List ℕ → List ℕ
referred name =
    if bytes_eq name (codes "lt") then 60 ∷ []
    else (if bytes_eq name (codes "gt") then 62 ∷ []
    else (if bytes_eq name (codes "amp") then 38 ∷ []
    else (if bytes_eq name (codes "quot") then 34 ∷ []
    else (if bytes_eq name (codes "#39") then 39 ∷ []
    else (38 ∷ name) ++ 59 ∷ []))))

-- what is read: `name` are the bytes behind an `&` whose `;` is still to come
abbrev pub read_from : Option (List ℕ) → List ℕ → List ℕ
read_from None [] = []
read_from None (byte ∷ bytes) = if byte == 38 then read_from (Some []) bytes else byte ∷ read_from None bytes
read_from (Some name) [] = 38 ∷ name
read_from (Some name) (byte ∷ bytes) =
    if byte == 59 then referred name ++ read_from None bytes else read_from (Some (name ++ byte ∷ [])) bytes

abbrev pub read_text : List ℕ → List ℕ
read_text bytes = read_from None bytes
