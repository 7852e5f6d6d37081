-- What was taken, piece after piece.
use Rattle.std.proofs.Common.{◌≡◌, ℕ, ◌+◌, ◌-◌, ◌<◌, List, [], ◌++◌, length, take, drop, ap, sym, ◌∙◌, append_assoc, length-append, length-drop, Option, rules, arith}
use Rattle.std.proofs.Math.Seq.{drop-append_seam}
use Rattle.http_request.specs.declared.head.Scan.{Scan}
use Rattle.http_request.specs.declared.head.HeadSearch.{HeadSearch}
use Rattle.http_request.specs.declared.head.HeadSearch.TheVariants.{More}
use Rattle.std.proofs.lemmas.Grind.{common_steps}
use Rattle.http_request.specs.Head.{head_of, found_over, start}
use Rattle.http_request.proofs.HeadLemmas.{found_over-more}
use Rattle.std.proofs.KnownBytes.{Consumes-nil, Consumes-trans}
use Rattle.http_request.specs.Input.{Takes}

pub Takes-none : (a : Option (List ℕ)) (x : List ℕ) → Takes a a x x
Takes-none a x = record { piece = []; grows = search rules; consumes = Consumes-nil a }

pub Takes-then : (a b c : Option (List ℕ)) (x y z : List ℕ) → Takes a b x y → Takes b c y z → Takes a c x z
Takes-then a b c x y z h k = record {
  piece = h.piece ++ k.piece;
  grows = k.grows ∙ ap (λ s. s ++ k.piece) h.grows ∙ append_assoc x h.piece k.piece;
  consumes = Consumes-trans a b c h.piece k.piece h.consumes k.consumes;
}

-- what a slice from a place to the end holds
pub slice_from : (xs : List ℕ) (at : ℕ) → take (length xs - at) (drop at xs) ≡ drop at xs
slice_from xs at = grind (arith, common_steps)

-- a search goes on with what came since
pub head_of-on : (old new piece view : List ℕ) (s : Scan) (found : HeadSearch) → new ≡ old ++ piece → view ≡ new
    → head_of old ≡ More s → s.len ≡ length old → found ≡ found_over s (take (length view - s.len) (drop s.len view))
    → head_of new ≡ found
head_of-on old new piece view s found grows same so_far len is =
    let rest : drop s.len new ≡ piece = ap (λ n. drop n new) len ∙ ap (λ xs. drop (length old) xs) grows ∙ drop-append_seam old piece in
    ap head_of grows ∙ found_over-more old start s piece so_far ∙ ap (λ xs. found_over s xs) (sym rest)
    ∙ ap (λ xs. found_over s (drop s.len xs)) (sym same) ∙ ap (λ xs. found_over s xs) (sym (slice_from view s.len)) ∙ sym is

-- how far a search has come that needs more
pub len-on : (old new piece view : List ℕ) (at next : ℕ) → new ≡ old ++ piece → view ≡ new → at ≡ length old
    → next ≡ at + length (take (length view - at) (drop at view)) → next ≡ length new
len-on old new piece view at next grows same len is =
    let a : length new ≡ length old + length piece = ap length grows ∙ length-append old piece in
    let b : length view ≡ length new = ap length same in
    let d : length (take (length view - at) (drop at view)) ≡ length view - at = ap length (slice_from view at) ∙ length-drop at view in
    omega (arith, a, b, d, len, is)

-- what is left to a limit falls by a piece
pub less-left : (old new : List ℕ) (at next was is n most : ℕ) → at ≡ length old → next ≡ length new → was ≡ length old → is ≡ length new → is ≡ was + n → ¬ (n ≡ 0)
    → at < most → most - next < most - at
less-left old new at next was is n most a b d e grows some below = omega arith
