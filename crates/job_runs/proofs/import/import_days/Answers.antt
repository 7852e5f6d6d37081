use Rattle.std.proofs.Common.{◌≡◌, List, IfSome, ap, subst}
use Rattle.std.specs.Cow.{cow_str_bytes}
use Rattle.sqlite_wal.specs.Files.{image_at}
use Rattle.sqlite.specs.Files.{IsCleanLeft}
use Rattle.docket_store.specs.Left.{LeavesRows}
use Rattle.file_changes.proofs.RunLemmas.{some_all, some_map}
use Rattle.docket_command.specs.declared.new_day.NewDay.{NewDay}
use Rattle.day_tables.specs.CalendarCsv.{IsTable}
use Rattle.job_runs.specs.Jobs.{Applies, FailsOr, import_command}
use Rattle.job_runs.specs.Spares.{IsWhole}
use Rattle.job_runs.proofs.ImportLemmas.{answers_last, entered, refused, spared_import, unentered}
use Rattle.job_runs.proofs.import.import_days.Goals as goal

pub returns-in-Ok : goal.returns-in-Ok
returns-in-Ok g c = record {
  last =
      answers_last (g.R.Read.remaining c.args.r.now) (g.W.Write.contents c.args.w.now) (g.W.Write.contents c.read_import.new.w) c.import_by.result.left
      (cow_str_bytes c.import_by.result.text) c.import_by.result.status (ap g.W.Write.contents c.in-Ok.ensures.silent.0) c.import_by.ensures.unopened;
  entered = λ docket is files.
      some_map (g.R.Read.remaining c.args.r.now) _ _ (λ input read.
      entered c.import_by.result.left IsCleanLeft (λ left command. Applies (LeavesRows left) docket command (cow_str_bytes c.import_by.result.text) c.import_by.result.status)
      _ c.in-Ok.command input c.args.key.now read (c.import_by.ensures.applied docket is files)) c.in-Ok.ensures.read;
  spared =
      let after = g.E.Write.contents c.import_by.new.e in
      spared_import c.import_by.result.left IsCleanLeft (λ left command. IsWhole c.args.path.now (image_at g.S.Start) (g.E.Write.contents c.args.e.now) after c.import_by.result command left) _ c.in-Ok.command
      (λ command. IfSome (g.R.Read.remaining c.args.r.now) (λ bytes. (days : List NewDay) × IsTable bytes days × (command ≡ import_command c.args.key.now days)))
      c.in-Ok.ensures.read
      (subst (λ before. FailsOr c.import_by.result (IsWhole c.args.path.now (image_at g.S.Start) before after c.import_by.result c.in-Ok.command)) (ap g.E.Write.contents c.in-Ok.ensures.silent.1) c.import_by.ensures.spared);
}

pub returns-in-Err : goal.returns-in-Err
returns-in-Err g c = record {
  last =
      refused (g.R.Read.remaining c.args.r.now) (g.W.Write.contents c.args.w.now) (g.W.Write.contents c.read_import.new.w) c.of.result.left
      (cow_str_bytes c.of.result.text) c.of.result.status c.in-Err.status c.of.ensures.left c.of.ensures.text c.of.ensures.status c.in-Err.ensures.refused;
  entered = λ docket is files. some_all (g.R.Read.remaining c.args.r.now) _ (λ input. unentered c.of.result.left _ c.of.ensures.left);
  spared = unentered c.of.result.left _ c.of.ensures.left;
}
