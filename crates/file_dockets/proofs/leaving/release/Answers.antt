use Rattle.std.proofs.Common.{arith}
use Rattle.sqlite.specs.Files.{over_files}
use Rattle.sqlite.specs.Held.{state}
use Rattle.sqlite.specs.State.{HasCleanDisk}
use Rattle.sqlite_store.specs.FileStore.{view}
use Rattle.file_dockets.proofs.KeepLemmas.{clean_of}
use Rattle.file_dockets.proofs.leaving.release.Goals as goal

pub returns-clause-trust : goal.returns-clause-trust
returns-clause-trust g c is =
    let clean = clean_of (view c.into_store.result).is_clean is in
    omega (arith, c.into_store.ensures.quiet.clean, clean)

pub returns-clause-left : goal.returns-clause-left
returns-clause-left g c rows next holds is db may =
    let quiet = c.into_store.ensures.quiet in
    let clean = clean_of (view c.into_store.result).is_clean is in
    let was : HasCleanDisk (state over_files c.args.conn) = omega (arith, quiet.clean, clean) in
    (holds was).images db (quiet.outcomes db may)

pub returns-clause-images : goal.returns-clause-images
returns-clause-images g c db may = c.into_store.ensures.quiet.outcomes db may
