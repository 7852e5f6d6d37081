use Rattle.std.proofs.Common.{inl, inr}
use Rattle.std.proofs.Math.Logic.{∥∥₁_map}
use Rattle.sqlite.specs.Files.{over_files}
use Rattle.docket_store.specs.Reopening.{IsEither, IsNotOpened, IsNotRecovered}
use Rattle.docket_store.specs.declared.recovering.RecoverFault.TheVariants.{NotOpened, NotAdopted}
use Rattle.docket_store.proofs.ReopeningLemmas.{err_told, match_told}
use Rattle.docket_store.proofs.recovering.recover.Goals as goal

pub returns-clause-either : goal.returns-clause-either
returns-clause-either g c it court h next was is leaves may clean =
    ∥∥₁_map (c.in_ok-conn.ensures.either it court h next leaves may) (λ one. elim one [
      | inl before ↦ let adopted = c.in_ok-docket.ensures.adopted court h was before clean in (inl adopted.0, adopted.1)
      | inr later ↦ let adopted = c.in_ok-docket.ensures.adopted court next is later clean in (inr adopted.0, adopted.1)
    ])

pub returns-in_err-conn-clause-opened : goal.returns-in_err-conn-clause-opened
returns-in_err-conn-clause-opened g c =
    let e = c.in_err-conn.field-0.0 in
    err_told (IsNotOpened c.args.files) c.from_residual.result (NotOpened e.0 e.1) c.from_residual.ensures.1
    (λ clean. (c.in_err-conn.ensures.cause clean, c.in_err-conn.ensures.unharmed clean))

pub returns-in_err-docket-clause-either : goal.returns-in_err-docket-clause-either
returns-in_err-docket-clause-either g c it court h next was is leaves may =
    match_told (λ docket. IsEither over_files docket court h next) (IsNotRecovered court h next) c.from_residual-in_err-docket.result
    (NotAdopted c.in_err-docket.field-0.0) c.from_residual-in_err-docket.ensures.1
    (∥∥₁_map (c.in_ok-conn.ensures.either it court h next leaves may) (λ one. elim one [
      | inl before ↦ inl (c.in_err-docket.ensures.adopted court h was before)
      | inr later ↦ inr (c.in_err-docket.ensures.adopted court next is later)
    ]))
