-- Vectors that hold the tables of a history.
use Rattle.std.proofs.Common.{◌≡◌, List, [], ◌∷◌, ◌++◌, length, map, reverse, refl, sym, ap, subst, ◌∙◌, arith}
use Rattle.std.proofs.lemmas.List.{map-append, reverse-append}
use Rattle.court_days.specs.Court.{CourtSettings}
use Rattle.docket_decisions.proofs.LimitsKept.{within_limits}
use Rattle.docket_history.specs.Histories.{History, parties_of_case, entries_of_case, deadlines_of_case}
use Rattle.docket_decisions.specs.Outcomes.{receipts, IsHistory}
use Rattle.docket_decisions.specs.Tables.{rows_of}
use Rattle.docket_history.specs.declared.row.Receipt.{Receipt}
use Rattle.docket_plain.specs.Dockets.{history_of, IsDocket}
use Rattle.docket_plain.specs.Vectors.{lists_of, AreSmall}
use Rattle.docket_plain.specs.declared.vectors.Vectors.{Vectors}

history_of-push : (rs : List Receipt) (r : Receipt) → history_of (rs ++ r ∷ []) ≡ r.command ∷ history_of rs
history_of-push rs r = ap reverse (map-append (λ x. x.command) rs (r ∷ [])) ∙ reverse-append (map (λ x. x.command) rs) (r.command ∷ [])

-- the receipts of a history give back its commands
history_of-receipts : (court : CourtSettings) (h : History) → history_of (receipts court h) ≡ h
history_of-receipts court [] = refl
history_of-receipts court (c ∷ h) = history_of-push (receipts court h) _ ∙ ap (λ before. c ∷ before) (history_of-receipts court h)

module _ (court : CourtSettings) (h : History) (v : Vectors) (holds : lists_of v ≡ rows_of court h) where
  pub history_told : history_of v.receipts.items ≡ h
  history_told = ap (λ t. history_of t.receipts) holds ∙ history_of-receipts court h

  pub is_docket : IsHistory court h → IsDocket court v
  is_docket accepted = record {
    same = holds ∙ ap (rows_of court) (sym history_told);
    accepted = subst (IsHistory court) (sym history_told) accepted;
  }

pub small : (court : CourtSettings) (v : Vectors) → IsDocket court v → AreSmall v
small court v is =
    let limits = within_limits court (history_of v.receipts.items) is.accepted in
    record {
      next_row = omega (arith, limits.next_row, ap (λ t. t.next_row) is.same);
      cases = omega (arith, limits.cases, ap (λ t. length t.cases) is.same, v.cases.ok.0);
      parties = λ k. omega (arith, limits.parties k, ap (λ t. length (parties_of_case k t.parties)) is.same);
      entries = λ k. omega (arith, limits.entries k, ap (λ t. length (entries_of_case k t.entries)) is.same);
      deadlines = λ k. omega (arith, limits.deadlines k, ap (λ t. length (deadlines_of_case k t.deadlines)) is.same);
      local_rules = omega (arith, limits.local_rules, ap (λ t. length t.local_rules) is.same, v.local_rules.ok.0);
    }
