use Rattle.std.proofs.Common.{◌≡◌, ◌∙◌, ◌≤◌, ℕ, ap, arith, length, option_copied, refl, subst, sym}
use Rattle.docket_history.specs.Histories.{case_rows}
use Rattle.docket_questions.proofs.NewestLemmas.{all_of, enough, no_gap, one_more, so_far}
use Rattle.docket_questions.proofs.TellLemmas.{clean_before, none_told, passed_asks, passed_told, same_told, then_told}
use Rattle.docket_questions.proofs.newest.newest_cases.Goals as goal

pub cases-init : goal.cases-init
cases-init g c =
    let none : length c.new-found.result.items ≡ 0 = ap length c.new-found.ensures.items in
    record {
      only = λ serves. none_told g.S.Store _ _ 0 refl serves;
      told = λ h stands. (stands, λ clean less. (c.new-found.ensures.items, omega (arith, none)));
    }

pub returns-then-len-most : goal.returns-then-len-most
returns-then-len-most g c =
    let known = c.cases.invariant in
    let full : length c.cases.found.items ≡ c.args.most = sym c.cases.found.ok.0 ∙ sym c.len.ensures ∙ c.if-len-most.true in
    record {
      answer = λ h stands.
          let found = known.told h stands in
          (found.0, λ clean less. enough h (option_copied c.args.words) c.args.last c.cases.newer c.args.most c.cases.found.items (found.1 clean less).0 full);
      only = λ serves. same_told g.S.Store _ _ 0 _ (known.only serves);
    }

pub returns-in_err-case : goal.returns-in_err-case
returns-in_err-case g c =
    let fault = c.in_err-case.field-0.0 in
    let result = c.from_residual.result in
    let told = c.from_residual.ensures.1 in
    let known = c.cases.invariant in
    let failed = c.in_err-case.ensures in
    record {
      answer = λ h stands. passed_asks g.S.Store c.case_row.new.self h _ fault result told (failed.answer h (known.told h stands).0);
      only = λ serves. then_told g.S.Store _ _ _ 0 result (known.only serves) (λ _. passed_told g.S.Store _ _ fault result told failed.only);
    }

pub returns-in_err-push_wanted-in-Some : goal.returns-in_err-push_wanted-in-Some
returns-in_err-push_wanted-in-Some g c =
    let fault = c.in_err-push_wanted-in-Some.field-0.0 in
    let result = c.from_residual-in_err-push_wanted-in-Some.result in
    let told = c.from_residual-in_err-push_wanted-in-Some.ensures.1 in
    let known = c.cases.invariant in
    let asked = c.in_ok-case.ensures in
    let failed = c.in_err-push_wanted-in-Some.ensures in
    record {
      answer = λ h stands. passed_asks g.S.Store c.push_wanted.new.docket h _ fault result told (failed.answer h (asked.answer h (known.told h stands).0).0);
      only = λ serves. then_told g.S.Store _ _ _ 0 result (known.only serves) (λ _. then_told g.S.Store _ _ _ _ result asked.only (λ still. passed_told g.S.Store _ _ fault result told (failed.only still)));
    }

pub returns-in-None : goal.returns-in-None
returns-in-None g c =
    let known = c.cases.invariant in
    let asked = c.in_ok-case.ensures in
    record {
      answer = λ h stands.
          let next = asked.answer h (known.told h stands).0 in
          (next.0, λ clean less. no_gap (case_rows h) c.args.last c.cases.newer less c.cases-test.true (sym (next.1 clean) ∙ c.in-None.is));
      only = λ serves. then_told g.S.Store _ _ _ 0 _ (known.only serves) (λ _. same_told g.S.Store _ _ _ _ asked.only);
    }

pub cases-preserved : goal.cases-preserved
cases-preserved g c =
    let known = c.cases.invariant in
    let asked = c.in_ok-case.ensures in
    let pushed = c.in_ok-push_wanted-in-Some.ensures in
    record {
      only = λ serves. then_told g.S.Store _ _ _ 0 _ (known.only serves) (λ _. then_told g.S.Store _ _ _ _ _ asked.only (λ still. same_told g.S.Store _ _ _ 0 (pushed.only still)));
      told = λ h stands.
          let found = known.told h stands in
          let next = asked.answer h found.0 in
          let more = pushed.answer h next.0 in (
            more.0,
            λ clean less.
                let seen = clean_before _ _ (pushed.only next.0.serves).clean clean in
                one_more h (option_copied c.args.words) c.args.last c.cases.newer c.args.most c.in-Some.case c.cases.found.items c.push_wanted.new.found.items less c.cases-test.true
                (sym (next.1 seen) ∙ c.in-Some.is) (found.1 (clean_before _ _ asked.only.clean seen) less)
                (λ full. c.if-len-most.false (c.len.ensures ∙ c.cases.found.ok.0 ∙ full)) (more.1 clean),
          );
    }

pub returns : goal.returns
returns g c =
    let known = c.cases.invariant in
    let all : c.cases.newer ≡ c.args.last = omega (arith, c.cases-test.false, c.cases.auto.newer-end) in
    let words = option_copied c.args.words in
    record {
      answer = λ h stands.
          let found = known.told h stands in (
            found.0,
            λ clean less.
                all_of h words c.args.last c.args.most c.cases.found.items less
                (subst (λ (n : ℕ). (c.cases.found.items ≡ so_far h words c.args.last n) × (length c.cases.found.items ≤ c.args.most)) all (found.1 clean less)),
          );
      only = λ serves. same_told g.S.Store _ _ 0 _ (known.only serves);
    }
