use Rattle.std.proofs.Common.{rules, ◌≡◌, ◌∙◌, true, false, nat_eq, length, [], ◌∷◌, ◌++◌, append-nil, ap, cond, sym}
use Rattle.court_days.specs.Court.{zone_of}
use Rattle.court_rules.specs.Standings.{standing}
use Rattle.docket_sound.specs.Standings.{counts_of_standings, last_standings}
use Rattle.docket_sound.proofs.ActLemmas.{all_standings}
use Rattle.docket_sound.proofs.act.ActCheck.standings.Goals as goal

pub returns-then-is_empty-clause-some : goal.returns-then-is_empty-clause-some
returns-then-is_empty-clause-some c rows has few =
    let self = c.args.self.now in
    let empty : nat_eq (length self.acts.items) 0 ≡ true = search rules in
    let none : last_standings self ≡ [] =
    ap (λ b. cond b [] (standing (zone_of self.court) self.calendar self.acts.items ∷ [])) empty in
    all_standings self rows has few self.standings (λ l is short. is ∙ ap counts_of_standings (sym (append-nil l) ∙ ap (λ m. l ++ m) (sym none)))

pub returns-clause-some : goal.returns-clause-some
returns-clause-some c rows has few =
    let self = c.args.self.now in
    let some : nat_eq (length self.acts.items) 0 ≡ false = search rules in
    let stands : c.deadline_standing-standing.result ≡ standing (zone_of self.court) self.calendar self.acts.items =
    c.deadline_standing-standing.ensures.value ∙ ap (standing (zone_of self.court) self.calendar) c.as_slice.ensures.value in
    let one : last_standings self ≡ c.deadline_standing-standing.result ∷ [] =
    ap (λ b. cond b [] (standing (zone_of self.court) self.calendar self.acts.items ∷ [])) some
    ∙ ap (λ s. s ∷ []) (sym stands) in
    all_standings self rows has few c.count.new.self (λ l is short. c.count.ensures l is short ∙ ap (λ m. counts_of_standings (l ++ m)) (sym one))
