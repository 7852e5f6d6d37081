use Rattle.std.proofs.Common.{◌≡◌, ◌∙◌, map, string_bytes, sym, true}
use Rattle.docket_jobs.specs.Jobs.{asked_behind, asked_of, faults_behind, faults_of, is_entry}
use Rattle.docket_jobs.proofs.EntryLemmas.{asked_there, faults_same, faults_there, job_same}
use Rattle.docket_jobs.proofs.job.read_job.Goals as goal

pub returns-then-is_entry-clause-job : goal.returns-then-is_entry-clause-job
returns-then-is_entry-clause-job c =
    let there : is_entry (map string_bytes c.args.words.now) ≡ true = sym c.is_entry.ensures ∙ c.if-is_entry.true in
    job_same (asked_of (map string_bytes c.args.words.now)) (asked_behind c.word_at.result.now (map string_bytes c.behind_two.result.now)) c.read_entry.result
    (asked_there c.args.words.now c.behind_two.result.now c.word_at.result.now there c.word_at.ensures c.behind_two.ensures) c.read_entry.ensures.job

pub returns-then-is_entry-clause-fault : goal.returns-then-is_entry-clause-fault
returns-then-is_entry-clause-fault c =
    let there : is_entry (map string_bytes c.args.words.now) ≡ true = sym c.is_entry.ensures ∙ c.if-is_entry.true in
    faults_same (faults_of (map string_bytes c.args.words.now)) (faults_behind c.word_at.result.now (map string_bytes c.behind_two.result.now))
    (asked_of (map string_bytes c.args.words.now)) (asked_behind c.word_at.result.now (map string_bytes c.behind_two.result.now)) c.read_entry.result
    (faults_there c.args.words.now c.behind_two.result.now c.word_at.result.now there c.word_at.ensures c.behind_two.ensures)
    (asked_there c.args.words.now c.behind_two.result.now c.word_at.result.now there c.word_at.ensures c.behind_two.ensures) c.read_entry.ensures.fault
