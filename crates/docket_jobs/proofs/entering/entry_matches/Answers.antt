use Rattle.std.proofs.Common.{map, string_bytes, subst}
use Rattle.std.proofs.lemmas.Result.{IfOk-weaker}
use Rattle.clap.specs.Faults.{fault_of}
use Rattle.clap.specs.Kinds.{FailsBy}
use Rattle.clap.specs.Simple.{App}
use Rattle.docket_jobs.proofs.EntryLemmas.{entry_found, free_entry}
use Rattle.docket_jobs.proofs.entering.entry_matches.Goals as goal

pub returns-clause-found : goal.returns-clause-found
returns-clause-found c =
    IfOk-weaker c.try_get_matches_from_mut.result _ _ (λ m has. entry_found _ c.args.kind _ m c.in_ok-command.ensures.0 has.2) c.try_get_matches_from_mut.ensures.ok

pub returns-clause-fault : goal.returns-clause-fault
returns-clause-fault c =
    let P : App → Type 0 = λ line. FailsBy (fault_of line (map string_bytes c.args.words.now)) c.try_get_matches_from_mut.result in
    subst P c.in_ok-command.ensures.0 (c.try_get_matches_from_mut.ensures.kinds (free_entry _ c.args.kind c.in_ok-command.ensures.0))
