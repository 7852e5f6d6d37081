use Rattle.std.proofs.Common.{◌≡◌, rules}
use Rattle.sqlite.specs.Held.{state}
use Rattle.docket_scan.specs.declared.fault.AdoptFault.TheVariants.{NoMemory}
use Rattle.docket_applying.specs.Applying.{docket_rows}
use Rattle.docket_store.proofs.OpeningLemmas.{failed_opening, found_docket, lacks_memory, not_found, short_opening}
use Rattle.docket_store.proofs.JudgedLemmas.{rejected_preserves, short_lasts, short_rejected, taken_preserves}
use Rattle.docket_store.proofs.adopting.judged_docket.Goals as goal

pub returns-in-Ok-clause-found : goal.returns-in-Ok-clause-found
returns-in-Ok-clause-found g c court h is stands =
    let told = c.in-Ok.ensures in
    found_docket g.S.Store c.args.conn.now c.find_docket.new.conn court h told.writes_nothing (told.mode c.requires) stands c.in-Ok.found told.told
    (λ clean. told.docket clean court h is.settings is.zone is.history is.commands tt stands)

pub returns-in-Err-NoMemory-clause-found : goal.returns-in-Err-NoMemory-clause-found
returns-in-Err-NoMemory-clause-found g c court h is stands =
    let told = c.in-Err-NoMemory.ensures in
    let short : c.in-Err-NoMemory.field-0 ≡ NoMemory = search rules in
    c.want_of_memory.ensures.left (docket_rows court h)
    (lacks_memory g.S.Store c.args.conn.now c.find_docket.new.conn court h told.writes_nothing (told.mode c.requires) stands c.in-Err-NoMemory.field-0 short told.told)

pub returns-in-Err-clause-found : goal.returns-in-Err-clause-found
returns-in-Err-clause-found g c court h is stands =
    let told = c.in-Err.ensures in
    let other : c.in-Err.fault ≡ NoMemory → ⊥ = search rules in
    not_found g.S.Store c.args.conn.now c.find_docket.new.conn court h told.writes_nothing (told.mode c.requires) stands c.in-Err.fault other told.told
    (λ clean. told.docket clean court h is.settings is.zone is.history is.commands tt stands)

pub returns-in-Ok-clause-stays : goal.returns-in-Ok-clause-stays
returns-in-Ok-clause-stays g c rows holds =
    taken_preserves g.S.Store c.args.conn.now c.find_docket.new.conn rows c.in-Ok.ensures.writes_nothing (c.in-Ok.ensures.mode c.requires) holds c.in-Ok.found c.in-Ok.ensures.told

pub returns-in-Err-NoMemory-clause-stays : goal.returns-in-Err-NoMemory-clause-stays
returns-in-Err-NoMemory-clause-stays g c rows holds =
    let told = c.in-Err-NoMemory.ensures in
    let short : c.in-Err-NoMemory.field-0 ≡ NoMemory = search rules in
    short_rejected g.S.Store c.want_of_memory.new.conn rows c.want_of_memory.result c.want_of_memory.ensures.fault
    (c.want_of_memory.ensures.left rows (short_lasts g.S.Store c.args.conn.now c.find_docket.new.conn rows told.writes_nothing (told.mode c.requires) holds c.in-Err-NoMemory.field-0 short told.told))

pub returns-in-Err-clause-stays : goal.returns-in-Err-clause-stays
returns-in-Err-clause-stays g c rows holds =
    let told = c.in-Err.ensures in
    let other : c.in-Err.fault ≡ NoMemory → ⊥ = search rules in
    rejected_preserves g.S.Store c.args.conn.now c.find_docket.new.conn rows told.writes_nothing (told.mode c.requires) holds c.in-Err.fault other told.told

pub returns-in-Err-NoMemory-clause-cause : goal.returns-in-Err-NoMemory-clause-cause
returns-in-Err-NoMemory-clause-cause g c clean =
    short_opening (state g.S.Store c.args.conn.now) (state g.S.Store c.want_of_memory.new.conn) c.want_of_memory.new.failure c.want_of_memory.result c.want_of_memory.ensures.short

pub returns-in-Err-clause-cause : goal.returns-in-Err-clause-cause
returns-in-Err-clause-cause g c clean =
    failed_opening (state g.S.Store c.args.conn.now) (state g.S.Store c.find_docket.new.conn) c.args.failure.now c.in-Err.fault (c.in-Err.ensures.cause clean)
