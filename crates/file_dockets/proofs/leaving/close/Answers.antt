use Rattle.std.proofs.Common.{arith}
use Rattle.sqlite.specs.Files.{over_files}
use Rattle.sqlite.specs.Held.{state}
use Rattle.sqlite.specs.State.{HasCleanDisk}
use Rattle.sqlite_store.specs.FileStore.{view}
use Rattle.file_dockets.proofs.KeepLemmas.{clean_of, closed_leaves}
use Rattle.file_dockets.proofs.leaving.close.Goals as goal

pub returns-in-Ok-clause-left : goal.returns-in-Ok-clause-left
returns-in-Ok-clause-left g c rows next holds clean = closed_leaves c.args.conn c.in-Ok.files rows next holds (c.in-Ok.ensures.copied clean)

pub returns-in-Err-clause-trust : goal.returns-in-Err-clause-trust
returns-in-Err-clause-trust g c is =
    let clean = clean_of (view c.in-Err.store).is_clean is in
    omega (arith, c.in-Err.ensures.err.0.quiet.clean, clean)

pub returns-in-Err-clause-left : goal.returns-in-Err-clause-left
returns-in-Err-clause-left g c rows next holds is db may =
    let quiet = c.in-Err.ensures.err.0.quiet in
    let clean = clean_of (view c.in-Err.store).is_clean is in
    let was : HasCleanDisk (state over_files c.args.conn) = omega (arith, quiet.clean, clean) in
    (holds was).images db (quiet.outcomes db may)
