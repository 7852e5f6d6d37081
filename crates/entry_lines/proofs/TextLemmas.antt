-- A text without a line with which it begins.
use Rattle.std.proofs.Common.{◌≡◌, ◌∙◌, ℕ, List, Bool, None, true, false, drop, length, if◌then◌else◌, ap, subst, sym}
use Rattle.std.specs.Str.{IsCharBoundary}
use Rattle.std.specs.Str.Pattern.{FindsTextPrefix, StripsPrefix}
use Rattle.std.proofs.lemmas.Str.Pattern.{starts_text}
use Rattle.entry_lines.specs.Saying.{without}

-- it does not begin with it
pub kept_whole : (line text : List ℕ) → FindsTextPrefix line text None → text ≡ without line text
kept_whole line text lacks = ap (λ (b : Bool). if b then drop (length line) text else text) (starts_text false line text lacks)

-- it does, and this is left of it
pub stripped : (line text rest : List ℕ) → StripsPrefix (FindsTextPrefix line) text rest → rest ≡ without line text
stripped line text rest (n, found, is, size) =
    is ∙ ap (λ (k : ℕ). drop k text) found.0
    ∙ ap (λ (b : Bool). if b then drop (length line) text else text) (starts_text true line text (n, found, subst (λ (k : ℕ). IsCharBoundary text k) (sym found.0) found.2))
