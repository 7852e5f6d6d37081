use Rattle.std.proofs.Common.{refl}
use Rattle.sqlite.specs.View.{doubt}
use Rattle.sqlite_pool.specs.Pool.{state}
use Rattle.job_runs.proofs.command.run_in_memory.Goals as goal

pub returns : goal.returns
unfolding doubt state
returns g c = record { runs = c.answer_in_files.ensures.runs (λ held. refl) }
