use Rattle.std.proofs.Common.{refl}
use Rattle.memory_file.specs.Files.{bytes_of}
use Rattle.docket_copies.specs.Copies.{with_log}
use Rattle.docket_copies.proofs.CopyLemmas.{holds_docket}
use Rattle.docket_copies.proofs.copying.sound_copy.Goals as goal

pub returns-clause-same : goal.returns-clause-same
returns-clause-same c db holds = c.in_ok-left.ensures.same db holds refl

pub returns-clause-docket : goal.returns-clause-docket
returns-clause-docket c court h holds =
    holds_docket (with_log (bytes_of c.args.files.db) (bytes_of c.args.files.log)) (bytes_of c.in_ok-left.left.db) court h
    (λ db held. c.in_ok-left.ensures.same db held refl) holds

pub returns-clause-sound : goal.returns-clause-sound
returns-clause-sound c = c.in_ok-left.ensures.sound refl
