use Rattle.std.proofs.Common.{arith}
use Rattle.sqlite.specs.Files.{file_state}
use Rattle.sqlite.specs.State.{HasCleanDisk}
use Rattle.docket_copies.proofs.CopyLemmas.{same_database, sound_file}
use Rattle.docket_copies.proofs.copying.merged.Goals as goal

pub returns-in-Ok-close_files-clause-same : goal.returns-in-Ok-close_files-clause-same
returns-in-Ok-close_files-clause-same g c db holds clean =
    let copied = c.in-Ok-close_files.ensures.copied clean in
    let was : HasCleanDisk (file_state c.in-Ok.conn) = omega (arith, c.in_ok-conn.ensures.clean, copied.was_clean) in
    let judged = c.in_ok-conn.ensures.sound copied.was_clean in
    let opened = c.in-Ok.ensures.opened was in
    same_database (g.D.Disk.seen c.in-Ok-close_files.left.db) (file_state c.in-Ok.conn) (file_state c.in_ok-conn.conn) opened.0 opened.1 judged.2.0 db
    ((c.in-Ok.ensures.found was).holds db holds) copied.seen.alone

pub returns-in-Ok-close_files-clause-sound : goal.returns-in-Ok-close_files-clause-sound
returns-in-Ok-close_files-clause-sound g c clean =
    let copied = c.in-Ok-close_files.ensures.copied clean in
    let was : HasCleanDisk (file_state c.in-Ok.conn) = omega (arith, c.in_ok-conn.ensures.clean, copied.was_clean) in
    let judged = c.in_ok-conn.ensures.sound copied.was_clean in
    let opened = c.in-Ok.ensures.opened was in
    sound_file (g.D.Disk.seen c.in-Ok-close_files.left.db) (file_state c.in-Ok.conn) (file_state c.in_ok-conn.conn) opened.0 opened.1 judged.2.0
    judged.0 judged.1 judged.2.1 copied.seen.alone
