use Rattle.std.proofs.Common.{None, refl, sym, subst, arith}
use Rattle.sqlite.specs.Held.{state}
use Rattle.court_days.specs.Court.{CourtSettings}
use Rattle.docket_applying.specs.Applying.{Stands}
use Rattle.docket_applying.specs.Dockets.{serving}
use Rattle.docket_store.proofs.SoundLemmas.{sound_rows}
use Rattle.docket_store.proofs.docket.Docket.adopt_watched.Goals as goal

pub returns-in-Ok-clause-adopted : goal.returns-in-Ok-clause-adopted
returns-in-Ok-clause-adopted g c court h is stands clean =
    let found = c.in-Ok.ensures.found court h is stands in
    let conn = c.adopt_from.new.conn in
    let same = (found.1 clean).0 in
    let adopted : Stands g.S.Store (serving conn court None) h = record { docket = is; serves = refl; rows = found.0; calendar = λ _. tt } in
    (subst (λ (s : CourtSettings). Stands g.S.Store (serving conn s None) h) (sym same) adopted, same)

pub returns-in-Ok-clause-counted : goal.returns-in-Ok-clause-counted
returns-in-Ok-clause-counted g c court h is stands clean = ((c.in-Ok.ensures.found court h is stands).1 clean).1

pub returns-in-Ok-clause-rows : goal.returns-in-Ok-clause-rows
returns-in-Ok-clause-rows g c rows holds clean =
    let told = c.in-Ok.ensures.told clean in
    let settled = holds.1 (omega (arith, c.adopt_from.ensures.clean, clean)) in
    sound_rows (state g.S.Store c.args.conn) rows settled.shows _ told.0 told.1.1
