-- A run of commands goes on by one.
use Rattle.std.proofs.Common.{◌≡◌, List, [], ◌∷◌, ◌++◌, refl, ap}
use Rattle.court_days.specs.Court.{CourtSettings}
use Rattle.docket_command.specs.declared.command.Command.{Command}
use Rattle.docket_history.specs.Histories.{History}
use Rattle.docket_decisions.specs.Outcomes.{outcome, after, run, answers}

module _ (court : CourtSettings) where
  pub run-push : (h : History) (cs : List Command) (c : Command) → run court h (cs ++ c ∷ []) ≡ after court (run court h cs) c
  run-push h [] c = refl
  run-push h (x ∷ xs) c = run-push (after court h x) xs c

  pub answers-push : (h : History) (cs : List Command) (c : Command) → answers court h (cs ++ c ∷ []) ≡ answers court h cs ++ outcome court (run court h cs) c ∷ []
  answers-push h [] c = refl
  answers-push h (x ∷ xs) c = ap (λ rest. outcome court h x ∷ rest) (answers-push (after court h x) xs c)
