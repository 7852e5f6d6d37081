-- The histories through which connections lead a docket.
use Rattle.std.specs.Prelude.{◌≡◌, ◌⊎◌, true, false, List, [], ◌∷◌, Err}
use Rattle.court_days.specs.Court.{CourtSettings}
use Rattle.docket_history.specs.Histories.{History}
use Rattle.docket_http.specs.declared.fault.ServeFault.TheVariants.{WriteFailed}
use Rattle.http_request.specs.declared.page.Routes.{Routes}
use Rattle.docket_serving.specs.Exchanges.{Exchange, tells_failure}
use Rattle.docket_serving.specs.Serving.{AreToldClosed, IsNext}

module _ (routes : Routes) (court : CourtSettings) where
  -- Each connection leads from one history to the next, up to `last`. Where the database fails under one, it may have led to `next`, and those
  -- behind it get that the docket is closed; else `next` is `last`.
  abbrev pub LeadsTo : History → List Exchange → History → History → Type 0
  LeadsTo h [] last next = (last ≡ h) × (next ≡ h)
  LeadsTo h (e ∷ rest) last next =
      ((then : History) × IsNext routes court h e then × (tells_failure e.end ≡ false) × LeadsTo then rest last next)
      ⊎ ((last ≡ h) × IsNext routes court h e next × ((tells_failure e.end ≡ true) ⊎ (e.end ≡ Err WriteFailed)) × AreToldClosed routes rest)
