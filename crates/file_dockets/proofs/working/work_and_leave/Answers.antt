use Rattle.std.proofs.Common.{◌≡◌, IfErr, sym, subst, subst₂}
use Rattle.sqlite.specs.Files.{over_files}
use Rattle.sqlite.specs.Held.{state}
use Rattle.docket_store.specs.Left.{Leaves}
use Rattle.file_dockets.proofs.working.work_and_leave.Goals as goal

pub returns-clause-done : goal.returns-clause-done
returns-clause-done g c start holds =
    let told = sym c.leave.ensures.outcome in
    record {
      opened = c.args.conn;
      back = c.work.result.connection;
      comes = subst₂ (g.J.Work.Comes c.args.job over_files c.args.conn c.work.result.connection c.args.reader.now c.work.new.reader c.args.writer.now c.work.new.writer)
          (sym c.leave.ensures.failure) told c.work.ensures.comes;
      holds = holds;
      trust = c.leave.ensures.trust;
      left = c.leave.ensures.left;
      images = subst (λ outcome. IfErr outcome (λ _. Leaves c.leave.result.left (state over_files c.work.result.connection).may_leave)) told c.leave.ensures.images;
    }

pub returns-clause-unread : goal.returns-clause-unread
returns-clause-unread g c =
    subst (λ outcome. IfErr outcome (λ _. (c.work.new.reader ≡ c.args.reader.now) × (c.work.new.writer ≡ c.args.writer.now))) (sym c.leave.ensures.outcome) c.work.ensures.unread
