use Rattle.std.proofs.Common.{ℕ, ap, take}
use Rattle.docket_questions.proofs.WordLemmas.{begins-is}
use Rattle.docket_questions.proofs.words.begins.Goals as goal

pub returns : goal.returns
returns c =
    begins-is c.eq_ignore_ascii_case.result c.args.text.now c.args.words.now (take c.min-most.result c.args.text.now)
    (ap (λ (n : ℕ). take n c.args.text.now) c.min-most.ensures) c.eq_ignore_ascii_case.ensures.test
