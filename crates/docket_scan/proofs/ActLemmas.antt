-- The table of acts, behind those before it.
use Rattle.std.proofs.Common.{◌≡◌, ◌∙◌, ◌<◌, ◌^◌, ℕ, List, ap, arith, inr, length, map, subst, sym}
use Rattle.sqlite.specs.State.{State, IsUnchanged}
use Rattle.sqlite.proofs.Callers.{unchanged_then}
use Rattle.court_days.specs.Court.{CourtSettings, zone_of}
use Rattle.docket_history.specs.CalendarItems.{calendar_of}
use Rattle.docket_history.specs.Histories.{items_of}
use Rattle.docket_history.specs.declared.row.ActRow.{ActRow}
use Rattle.docket_columns.specs.Cells.{act_cells}
use Rattle.docket_columns.specs.Fits.{IsActRow}
use Rattle.docket_columns.specs.declared.version.Version.{Version}
use Rattle.docket_sound.specs.Acts.{AreSoundActs, HasTakenActs}
use Rattle.docket_sound.specs.Counted.{cases_of, counts_of}
use Rattle.docket_sound.specs.Deadlines.{deadline_key}
use Rattle.docket_sound.specs.Dues.{dues_of}
use Rattle.docket_sound.specs.Standings.{counts_of_standings, standings_of}
use Rattle.docket_sound.specs.declared.act.ActCheck.{ActCheck}
use Rattle.docket_sound.specs.declared.standings.Standings.{Standings}
use Rattle.docket_tables.specs.declared.table.Table.TheVariants as table
use Rattle.docket_scan.specs.Judging.{FailsAt, Holds, IsSoundIn, Rows, before}
use Rattle.docket_scan.specs.Reading.{AreRead, IsReady, SaysActs, SaysEnds}
use Rattle.docket_scan.specs.Records.{count_in}
use Rattle.docket_scan.specs.Scans.{OfSoMany}
use Rattle.docket_scan.specs.Taken.{ActContext, IsRead, act_context}
use Rattle.docket_scan.specs.declared.fault.AdoptFault.TheVariants.{Damaged}
use Rattle.docket_scan.specs.declared.reading.EndsRead.{EndsRead}
use Rattle.docket_scan.specs.declared.reading.ActsRead.{ActsRead}
use Rattle.docket_scan.proofs.CountLemmas.{counted}
use Rattle.docket_scan.proofs.JudgingLemmas.{all_more, each_has, read_rows, so_many}
use Rattle.docket_scan.proofs.RecordLemmas.{all_read}

-- what the check of acts uses, after the tables before them
abbrev pub context_after : CourtSettings → Rows → ActContext
context_after court r = (court, length r.cases, count_in (map deadline_key r.deadlines), calendar_of (items_of r.calendar))

-- the check was made of what was read
pub begun : (court : CourtSettings) (r : Rows) (read : ActsRead) (check : ActCheck) (next : ℕ) → SaysActs court next r read
    → check.court ≡ read.court → check.deadlines ≡ read.deadlines → check.calendar ≡ read.calendar → act_context check ≡ context_after court r
begun court r read check next said of_court of_deadlines of_calendar =
    let keys = map deadline_key r.deadlines in
    let sized : cases_of check.deadlines ≡ length r.cases = ap cases_of of_deadlines ∙ said.cases in
    let counts : counts_of check.deadlines ≡ count_in keys = ap counts_of of_deadlines ∙ counted read.deadlines keys said.deadlines in
    λ i. ((of_court ∙ said.court) i, sized i, counts i, (of_calendar ∙ said.calendar) i)

module _ (v : Version) (court : CourtSettings) (next : ℕ) (first old new : State) (read : ActsRead) (prior : AreRead v table.Acts first court next old (λ r. SaysActs court next r read))
    (check : ActCheck) (n : ℕ) (given : act_context check ≡ context_after court prior.rows) (later : IsUnchanged old new) (held : IsSoundIn table.Acts first (OfSoMany n (IsRead IsActRow act_cells (HasTakenActs check)))) where
  abbrev acts : List ActRow
  acts = held.3.1.records

  -- the acts that were taken are sound, and give the ends and the standings that are returned
  pub acts_told : (now : EndsRead) (stand : Standings) → now.held ≡ record read.held { standings = stand } → now.short_days ≡ read.short_days → n < 2 ^ 64
      → AreSoundActs check.court (cases_of check.deadlines) (counts_of check.deadlines) acts
      → now.ends.items ≡ dues_of (zone_of check.court) check.calendar acts
      → (length acts < 2 ^ 64 → stand ≡ counts_of_standings (standings_of (zone_of check.court) check.calendar acts))
      → AreRead v table.Receipts first court next new (λ r. SaysEnds court next r now)
  acts_told now stand kept passed limit sound due stands =
      let few : length acts < 2 ^ 64 = omega (arith, limit, so_many table.Acts first IsActRow act_cells (HasTakenActs check) n held) in
      let stood = stands few ∙ ap (λ (k : ActContext). counts_of_standings (standings_of (zone_of k.0) k.3 acts)) given in
      let rows = record prior.rows { acts = acts } in
      record {
        same = unchanged_then first old new prior.same later;
        rows = rows;
        named = prior.named;
        sound = all_more (Holds v first court next rows) (before table.Acts) table.Acts prior.sound
            (read_rows table.Acts first IsActRow act_cells (HasTakenActs check) n held (AreSoundActs court (length prior.rows.cases) (count_in (map deadline_key prior.rows.deadlines)))
            (subst (λ (k : ActContext). AreSoundActs k.0 k.1 k.2 acts) given sound));
        said = record {
          short_days = subst (IsReady court next prior.rows.calendar prior.rows.short_days) (sym passed) prior.said.short_days;
          unread = prior.said.unread;
          ends = due ∙ ap (λ (k : ActContext). dues_of (zone_of k.0) k.3 acts) given;
          held = kept ∙ (λ i. record (prior.said.held i) { standings = stood i });
        };
      }

  -- or the table is unsound
  pub acts_refused : (AreSoundActs check.court (cases_of check.deadlines) (counts_of check.deadlines) acts → ⊥) → FailsAt v court next first new (Damaged table.Acts)
  acts_refused never = (
    each_has v table.Acts tt,
    λ opened. unchanged_then first old new prior.same later,
    prior.rows,
    prior.named,
    prior.sound,
    inr (inr (inr (
      held.1,
      held.2,
      λ whole.
          (let sound = all_read IsActRow act_cells (HasTakenActs check) (AreSoundActs court (length prior.rows.cases) (count_in (map deadline_key prior.rows.deadlines))) held.1 held.3.1 whole in
          never (subst (λ (k : ActContext). AreSoundActs k.0 k.1 k.2 acts) (sym given) sound)),
    ))),
  )
