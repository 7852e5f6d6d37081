use Rattle.std.proofs.Common.{rules, ◌≡◌, ◌∙◌, ℕ, arith, ap, length, get_or, replicate}
use Rattle.std.proofs.lemmas.List.{length-replicate}
use Rattle.docket_sound.proofs.NumberLemmas.{none_numbered, none_counted}
use Rattle.docket_sound.proofs.numbering.Numbering.alike.Goals as goal

pub returns-clause-none : goal.returns-clause-none
returns-clause-none c keys has =
    let zeros : c.in_ok-counts.counts.items ≡ replicate {A = ℕ} (length c.args.other.now.counts.items) 0 = search rules in
    let long : length c.in_ok-counts.counts.items ≡ length c.args.other.now.counts.items = ap length zeros ∙ length-replicate (length c.args.other.now.counts.items) 0 in
    record {
      made = omega (arith, long, has.made);
      numbered = none_numbered _ _;
      counted = λ k. ap (λ l. get_or l k 0) zeros ∙ none_counted (length c.args.other.now.counts.items) k;
    }

pub returns-clause-cases : goal.returns-clause-cases
returns-clause-cases c =
    let zeros : c.in_ok-counts.counts.items ≡ replicate {A = ℕ} (length c.args.other.now.counts.items) 0 = search rules in
    let long : length c.in_ok-counts.counts.items ≡ length c.args.other.now.counts.items = ap length zeros ∙ length-replicate (length c.args.other.now.counts.items) 0 in
    omega (arith, long)
