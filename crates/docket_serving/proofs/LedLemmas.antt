-- Where connections leave a docket.
use Rattle.std.proofs.Common.{◌≡◌, ◌⊎◌, inl, inr, List, [], ◌∷◌, refl, sym, ap, subst, ◌∙◌}
use Rattle.sqlite.specs.Held.{Held, state}
use Rattle.sqlite.specs.State.{HasCleanDisk}
use Rattle.sqlite.specs.Store.{Ghosts}
use Rattle.court_days.specs.Court.{CourtSettings}
use Rattle.docket_history.specs.Histories.{History}
use Rattle.docket_tables.specs.Stands.{LastsAsEither}
use Rattle.docket_applying.specs.Applying.{IsDocket, Stands, StandsFor, docket_rows}
use Rattle.docket_applying.specs.Dockets.{Docket}
use Rattle.http_request.specs.declared.page.Routes.{Routes}
use Rattle.docket_serving.specs.Exchanges.{Exchange}
use Rattle.docket_serving.specs.Led.{LeadsTo}
use Rattle.docket_serving.specs.Serving.{IsNext, ServesEach}
use Rattle.docket_serving.proofs.RunLemmas.{each_clean, each_closed, was_clean}
use Rattle.docket_serving.proofs.StepLemmas.{Leaves, leaves}

module _ {S : Type 0} (g : Ghosts S) (routes : Routes) (court : CourtSettings) where
  -- a connection holds the docket of the last history, or lasts as that or the next one
  abbrev pub HoldsLed : Held S → History → History → Type 0
  HoldsLed conn last next = (StandsFor g conn court last × (next ≡ last)) ⊎ LastsAsEither g conn (docket_rows court last) (docket_rows court next)

  -- where connections led the docket from a history
  pub record IsLed (h : History) (all : List Exchange) (conn : Held S) : Type 0 where
    pub last : History
    pub next : History
    pub docket : IsDocket court last
    pub leads : LeadsTo routes court h all last next
    pub holds : HoldsLed conn last next

  led_none : (d : Docket S) (h : History) → d.court ≡ court → Stands g d h → IsLed h [] d.conn
  led_none d h same stands = record {
    last = h;
    next = h;
    docket = subst (λ (c : CourtSettings). IsDocket c h) same stands.docket;
    leads = (refl, refl);
    holds = inl (subst (λ (c : CourtSettings). StandsFor g d.conn c h) same stands.rows, refl);
  }

  -- one that leaves the docket of a history, and those behind it
  led_on : (left new : Docket S) (h : History) (e : Exchange) (rest : List Exchange) → left.court ≡ court → IsDocket court h
      → ServesEach g routes left rest new → ((next : History) → Stands g left next → IsLed next rest new.conn)
      → Leaves g routes h e left → IsLed h (e ∷ rest) new.conn
  led_on left new h e rest same is each more (inl stays) =
      let found = more stays.0 stays.1.stands in
      record {
        last = found.last;
        next = found.next;
        docket = found.docket;
        leads = inl (stays.0, subst (λ (c : CourtSettings). IsNext routes c h e stays.0) same stays.1.is, stays.1.told, found.leads);
        holds = found.holds;
      }
  led_on left new h e rest same is each more (inr fell) =
      let shut = each_closed g routes rest left new each fell.closed in
      let lasts = subst (λ (c : CourtSettings). LastsAsEither g left.conn (docket_rows c h) (docket_rows c fell.next)) same fell.lasts in
      record {
        last = h;
        next = fell.next;
        docket = is;
        leads = inr (refl, subst (λ (c : CourtSettings). IsNext routes c h e fell.next) same fell.is, fell.told, shut.1);
        holds = inr (subst (λ (d : Docket S). LastsAsEither g d.conn (docket_rows court h) (docket_rows court fell.next)) (sym shut.0) lasts);
      }

  pub each_led : (all : List Exchange) (old new : Docket S) (h : History) → old.court ≡ court → ServesEach g routes old all new → Stands g old h
      → HasCleanDisk (state g new.conn) → IsLed h all new.conn
  each_led [] old new h same each stands clean =
      led_none new h (ap (λ (d : Docket S). d.court) each ∙ same) (subst (λ (d : Docket S). Stands g d h) (sym each) stands)
  each_led (e ∷ rest) old new h same each stands clean =
      let left = each.0 in
      let now : HasCleanDisk (state g left.conn) = was_clean g routes _ _ (each_clean g routes rest left new each.2) clean in
      let court_now = each.1.court ∙ same in
      led_on left new h e rest court_now (subst (λ (c : CourtSettings). IsDocket c h) same stands.docket) each.2
      (λ next here. each_led rest left new next court_now each.2 here clean)
      (leaves g routes old left h e stands (each.1.answers h stands now))
