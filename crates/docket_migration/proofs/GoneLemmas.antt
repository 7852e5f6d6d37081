-- The result of the change, and of reading after it.
use Rattle.std.proofs.Common.{◌≡◌, ◌⊎◌, ◌∙◌, inl, inr, ℕ, [], drop, length, false, true, refl, sym, ap, subst, arith}
use Rattle.std.specs.List.{AllByRecursion}
use Rattle.sqlite_schema.specs.declared.schema.Table.{Table as Shape}
use Rattle.sqlite.specs.Effect.{Database, IsDatabase}
use Rattle.sqlite.specs.State.{State, HasCleanDisk, IsUnchanged, Survives, Shows as Turns}
use Rattle.sqlite.specs.Tree.{Trees}
use Rattle.docket_columns.specs.declared.court.CourtRow.{CourtRow}
use Rattle.docket_columns.specs.declared.version.Version.TheVariants.{First, Second}
use Rattle.docket_tables.specs.Layouts.{Rows, AreRowsIn}
use Rattle.docket_tables.specs.Schema.{made}
use Rattle.docket_tables.specs.Stands.{Sees}
use Rattle.docket_tables.specs.Tables.{first_tables}
use Rattle.docket_tables.proofs.CommitLemmas.{LeavesCommit, shows_again}
use Rattle.docket_scan.specs.Shapes.{has_table}
use Rattle.docket_migration.specs.Growing.{IsGrown}
use Rattle.docket_migration.specs.Keeping.{AreNewEmpty, HasGone, HoldsCourt, IsCommitted, IsImageOfGone, KeepsTables, is_court_apart, seeing}
use Rattle.docket_scan.specs.Scans.{AreRowsOf}
use Rattle.docket_tables.specs.declared.table.Table.TheVariants.{Court, ShortDays, LocalRules}
use Rattle.docket_migration.proofs.ReadLemmas.{rows_again}

pub both_empty : (old mid : State) → AreRowsOf ShortDays old [] × IsUnchanged old mid → AreRowsOf LocalRules mid [] → AreNewEmpty old
both_empty old mid short local ShortDays lacks = short.0
both_empty old mid short local LocalRules lacks = rows_again LocalRules mid old [] (sym short.1.0.now_is) local
both_empty old mid short local table lacks = absurd (lacks tt)

-- the same between databases that are as they were
pub gone_between : (a b s u : State) → b.now ≡ a.now → u.now ≡ s.now → HasGone a s → HasGone b u
gone_between a b s u start end it = record {
  court = it.court;
  was = rows_again Court a b _ start it.was;
  is = rows_again Court s u _ end it.is;
  tables = subst (λ (d : Database). KeepsTables d u.now) (sym start) (subst (λ (d : Database). KeepsTables a.now d) (sym end) it.tables);
  empty = λ table lacks. rows_again table s u [] end (it.empty table lacks);
}

-- the court was read, then all was changed, and then it was read
pub gone : (old read changed new : State) (court : CourtRow) → HoldsCourt First court old → IsUnchanged old read → KeepsTables read.now changed.now
    → HoldsCourt Second court changed → AreNewEmpty changed → IsUnchanged changed new → HasGone old new
gone old read changed new court was early tables is empty late =
    gone_between read old changed new (sym early.0.now_is) late.0.now_is
    (record { court = court; was = rows_again Court old read _ early.0.now_is was; is = is; tables = tables; empty = empty })

-- what was seen before a reading is seen behind it

pub grown_still : (old new : State) (rows : Rows) (n : ℕ) → IsUnchanged old new → IsGrown rows n old → IsGrown rows n new
grown_still old new rows n same was = record {
  begun = same.0.mode ∙ was.begun;
  is_open = same.0.is_open;
  schema = ap (λ (d : Database). d.schema) same.0.now_is ∙ was.schema;
  live = subst IsDatabase (sym same.0.now_is) was.live;
  holds = subst (λ (d : Database). AreRowsIn First rows d.trees) (sym same.0.now_is) was.holds;
  empty = subst (λ (d : Database). AllByRecursion (λ (t : Shape). d.trees t.tree ≡ []) (drop (length first_tables) (made n).tables)) (sym same.0.now_is) was.empty;
}

pub sees_same : (old new : State) (rows : Rows) → IsUnchanged old new → Sees old rows → Sees new rows
sees_same old new rows same sees = record { begun = same.0.mode ∙ sees.begun; shows = shows_again old new rows same.0.now_is same.0.is_open sees.shows }

-- a transaction begins on the same database, and its end leaves what it made, or what was there

module _ (start begun : State) (begins : begun ≡ record start { in_transaction = true }) where
  pub has_begun : has_table start.now.schema Court ≡ true → has_table begun.now.schema Court ≡ true
  has_begun = subst (λ (s : State). has_table s.now.schema Court ≡ true) (sym begins)

  pub apart_begun : is_court_apart start.now.schema ≡ true → is_court_apart begun.now.schema ≡ true
  apart_begun = subst (λ (s : State). is_court_apart s.now.schema ≡ true) (sym begins)

  same_start : start.now ≡ begun.now
  same_start = sym (ap (λ (s : State). s.now) begins)

module _ (start begun last end : State) (begins : begun ≡ record start { in_transaction = true }) where
  pub gone_and_kept : HasGone begun last → Turns last end last.now last.now false → LeavesCommit end → HasGone start end × IsCommitted end
  gone_and_kept it turns law = (
    gone_between begun start last end (same_start start begun begins) turns.now_is it,
    λ db may. law db turns.is_open may ∙ ap (λ (d : Database). d.trees) (turns.committed_is ∙ sym turns.now_is),
  )

  pub may_have_gone : Survives begun last (λ _. ⊥) → HasGone begun last → HasCleanDisk end → Survives last end (λ db. db ≡ last.now.trees) → (db : Trees) → end.may_leave db
      → start.may_leave db ⊎ IsImageOfGone start db
  may_have_gone inside it clean after db may = elim (after.crash clean db may) [
    | inl before ↦ inl (earlier (omega (arith, after.clean, clean)) before)
    | inr wrote ↦ inr (last.now, gone_between begun start last (seeing start last.now) (same_start start begun begins) refl it, wrote)
  ]
    where
      earlier : HasCleanDisk last → last.may_leave db → start.may_leave db
      earlier last_clean before =
          let early : Survives (record start { in_transaction = true }) last (λ _. ⊥) = subst (λ s. Survives s last (λ _. ⊥)) begins inside in
          elim (early.crash last_clean db before) [ inl there ↦ there | inr none ↦ absurd none ]
