use Rattle.std.proofs.Common.{◌≡◌, [], Result, Ok, Err, IsErr, ap, refl, subst, sym}
use Rattle.std.proofs.lemmas.Result.{IfOk-weaker}
use Rattle.std.specs.Cow.{cow_str_bytes}
use Rattle.sqlite_wal.specs.Files.{image_at}
use Rattle.sqlite.specs.Files.{IsCleanLeft}
use Rattle.docket_applying.specs.Applying.{IsDocket, docket_rows}
use Rattle.docket_columns.specs.declared.version.Version.{Version}
use Rattle.docket_store.specs.Left.{Leaves, LeavesRows}
use Rattle.docket_store.specs.Reopening.{HoldRows}
use Rattle.docket_store.specs.declared.creating.CreateFault.TheVariants.{NotEmpty}
use Rattle.docket_tables.specs.Layouts.{Rows}
use Rattle.docket_tables.specs.Stands.{IsImageIn}
use Rattle.job_runs.specs.Jobs.{Makes}
use Rattle.job_runs.specs.Spares.{TellsMade}
use Rattle.job_runs.proofs.EndLemmas.{for_all, gives, made_left, of_both, undone, unopened_told}
use Rattle.job_runs.proofs.ToldLemmas.{unmade_told}
use Rattle.job_runs.proofs.create.create_docket.Goals as goal

never : {X F : Type 0} (r : Result X F) (x : X) (f : F) → r ≡ Ok x → r ≡ Err f → ⊥
never r x f done failed = cc

pub returns-in-Ok-done_on_docket : goal.returns-in-Ok-done_on_docket
returns-in-Ok-done_on_docket g c = record {
  made = λ clean.
      let rows = docket_rows c.args.court [] in
      let ended = c.create_on_file in
      let made = made_left ended.result (λ it. it.left) IsCleanLeft (λ it. it.outcome) (λ left. IsDocket c.args.court [] × LeavesRows left rows rows) _ c.in-Ok-done_on_docket.left
      ended.ensures.made c.in-Ok-done_on_docket.ensures.done clean in (
        refl,
        made.0,
        made.1,
        λ v held files.
            let full = gives ended.result (λ it. it.left) IsCleanLeft (λ it. it.outcome) (λ left outcome. (outcome ≡ Err NotEmpty) × Leaves left (IsImageIn v held)) _ c.in-Ok-done_on_docket.left
            (ended.ensures.stays v held files) c.in-Ok-done_on_docket.ensures.done clean in
            never _ _ NotEmpty refl full.0,
      );
  unopened = tt;
  told = λ clean. ap g.E.Write.contents c.in-Ok-done_on_docket.ensures.silent;
}

pub returns-in-Err-done_on_docket : goal.returns-in-Err-done_on_docket
returns-in-Err-done_on_docket g c = record {
  made =
      let told = c.in-Err-done_on_docket.ensures.done in
      let end = c.in-Err-done_on_docket.end in
      let files = image_at g.S.Start in
      undone c.create_on_file.result (λ it. it.left) IsCleanLeft _ (λ left. Makes files c.args.court left (cow_str_bytes end.text) end.status) _ end.left
      (IfOk-weaker c.create_on_file.result _ _ (λ it stays clean failed.
      subst (Makes files c.args.court it.left (cow_str_bytes end.text)) (sym told.0.0) (told.0.1, λ v rows held. (stays (v, rows, held) clean).1))
      (for_all {I = (v : Version) × (rows : Rows) × HoldRows v files rows} c.create_on_file.result _ (λ of. c.create_on_file.ensures.stays of.0 of.1 of.2))) told.1 told.0;
  unopened = unopened_told c.create_on_file.result (λ it. it.left) _ _ _ c.done_on_docket.ensures.unopened c.in-Err-done_on_docket.ensures.done.1;
  told =
      let told = c.in-Err-done_on_docket.ensures.done in
      let end = c.in-Err-done_on_docket.end in
      let files = image_at g.S.Start in
      let before = g.E.Write.contents c.args.e.now in
      let after = g.E.Write.contents c.done_on_docket.new.e in
      undone c.create_on_file.result (λ it. it.left) IsCleanLeft (λ it. IsErr it.outcome) (λ left. TellsMade c.args.path.now files before after end.status) _ end.left
      (of_both c.create_on_file.result _ _ _ (λ it said stays clean failed.
      unmade_told c.args.path.now files before after end.status it.outcome told.0.0 said (λ v rows held. (stays (v, rows, held) clean).0) failed)
      c.done_on_docket.ensures.said
      (for_all {I = (v : Version) × (rows : Rows) × HoldRows v files rows} c.create_on_file.result _ (λ of. c.create_on_file.ensures.stays of.0 of.1 of.2))) told.1 told.0;
}
