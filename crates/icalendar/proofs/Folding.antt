-- How a character is folded.
use Rattle.std.proofs.Common.{◌≡◌, ℕ, ◌+◌, ◌<◌, ◌≤◌, List, [], ◌∷◌, ◌++◌, length, nat_le, sym, ap, ◌∙◌, append_assoc, arith}
use Rattle.std.proofs.lemmas.Bool.{le-leb, lt-leb, cond-true, cond-false}
use Rattle.std.proofs.lemmas.Str.{length-encode, len_utf8_bounds}
use Rattle.std.specs.Char.{len_utf8}
use Rattle.std.specs.List.{AllByRecursion}
use lib.Utf8.{encode}
use Rattle.icalendar.specs.ContentLines.{octets_from, folded_from}
use Rattle.icalendar.proofs.Characters.{IsWithin, octets_one, octets}

pub folded_stays : (at b : ℕ) (bytes : List ℕ) → at + octets_from b ≤ 75 → folded_from at (b ∷ bytes) ≡ b ∷ folded_from (at + 1) bytes
folded_stays at b bytes h = cond-true (nat_le (at + octets_from b) 75) _ _ (le-leb _ _ h)

pub folded_moves : (at b : ℕ) (bytes : List ℕ) → 75 < at + octets_from b → folded_from at (b ∷ bytes) ≡ 13 ∷ 10 ∷ 32 ∷ b ∷ folded_from 2 bytes
folded_moves at b bytes h = cond-false (nat_le (at + octets_from b) 75) _ _ (lt-leb _ _ h)

-- an octet within a character stays on its line
folded_within : (at : ℕ) (rest tail : List ℕ) → AllByRecursion IsWithin rest → at + length rest ≤ 75 → folded_from at (rest ++ tail) ≡ rest ++ folded_from (at + length rest) tail
folded_within at [] tail within h = ap (λ n. folded_from n tail) (omega arith)
folded_within at (b ∷ rest) tail within h =
    let one = octets_one b within.0.1 in
    let first = folded_stays at b (rest ++ tail) (omega arith) in
    let rest_stays = folded_within (at + 1) rest tail within.1 (omega arith) in
    let same : at + 1 + length rest ≡ at + length (b ∷ rest) = omega arith in
    first ∙ ap (λ l. b ∷ l) (rest_stays ∙ ap (λ n. rest ++ folded_from n tail) same)

pub char_stays : (at c : ℕ) (tail : List ℕ) → at + len_utf8 c ≤ 75 → folded_from at (encode c ++ tail) ≡ encode c ++ folded_from (at + len_utf8 c) tail
char_stays at c tail h =
    let o = octets c in
    let count : length o.rest + 1 ≡ len_utf8 c = omega (arith, length-encode c, ap length o.whole) in
    let first = folded_stays at o.first (o.rest ++ tail) (omega (arith, o.count, count)) in
    let rest_stays = folded_within (at + 1) o.rest tail o.within (omega (arith, count)) in
    let same : at + 1 + length o.rest ≡ at + len_utf8 c = omega (arith, count) in
    rw o.whole (first ∙ ap (λ l. o.first ∷ l) (rest_stays ∙ ap (λ n. o.rest ++ folded_from n tail) same))

pub char_moves : (at c : ℕ) (tail : List ℕ) → 75 < at + len_utf8 c → folded_from at (encode c ++ tail) ≡ 13 ∷ 10 ∷ 32 ∷ (encode c ++ folded_from (1 + len_utf8 c) tail)
char_moves at c tail h =
    let o = octets c in
    let count : length o.rest + 1 ≡ len_utf8 c = omega (arith, length-encode c, ap length o.whole) in
    let most = len_utf8_bounds c in
    let first = folded_moves at o.first (o.rest ++ tail) (omega (arith, o.count, count)) in
    let rest_stays = folded_within 2 o.rest tail o.within (omega (arith, count)) in
    let same : 2 + length o.rest ≡ 1 + len_utf8 c = omega (arith, count) in
    rw o.whole (first ∙ ap (λ l. 13 ∷ 10 ∷ 32 ∷ o.first ∷ l) (rest_stays ∙ ap (λ n. o.rest ++ folded_from n tail) same))

-- the texts that a character is added to
pub stayed : (old new : List ℕ) (at c n : ℕ) → new ≡ old ++ encode c → n ≡ len_utf8 c → at + n ≤ 75 → (rest : List ℕ) → new ++ folded_from (at + n) rest ≡ old ++ folded_from at (encode c ++ rest)
stayed old new at c n added octets h rest =
    rw (added, octets) (append_assoc old (encode c) _ ∙ ap (λ l. old ++ l) (sym (char_stays at c rest (omega (arith, octets)))))

pub moved : (old mid new : List ℕ) (at c n : ℕ) → mid ≡ old ++ 13 ∷ 10 ∷ 32 ∷ [] → new ≡ mid ++ encode c → n ≡ len_utf8 c → 75 < at + n → (rest : List ℕ) → new ++ folded_from (1 + n) rest ≡ old ++ folded_from at (encode c ++ rest)
moved old mid new at c n begun added octets h rest =
    rw (added, begun, octets)
    (append_assoc (old ++ 13 ∷ 10 ∷ 32 ∷ []) (encode c) _ ∙ append_assoc old (13 ∷ 10 ∷ 32 ∷ []) _
    ∙ ap (λ l. old ++ l) (sym (char_moves at c rest (omega (arith, octets)))))
