use Rattle.std.proofs.Common.{◌≡◌, ◌++◌, length, map}
use Rattle.form_urlencoded.specs.Parse.{owned_pairs_left}
use Rattle.command_forms.specs.Forms.{text_of, pairs_in, texts_of}
use Rattle.command_forms.proofs.pair.read_pairs.Given as goal

-- the pairs so far, before those that are still to be decoded
abbrev pub invariant-left : goal.invariant-left
invariant-left l = texts_of l.pairs.items ++ map (λ pair. (text_of pair.0, text_of pair.1)) (owned_pairs_left l.left) ≡ pairs_in l.form

abbrev pub decreases-left : goal.decreases-left
decreases-left l = length (owned_pairs_left l.left)
