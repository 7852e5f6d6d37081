-- The connection of a docket holds its rows.
use Rattle.std.proofs.Common.{◌≡◌, ◌∙◌, true, [], Result, Ok, Err, IfErr, IsTrue, OnOk, ap, refl, subst, sym}
use Rattle.std.proofs.lemmas.Bool.{false≢true}
use Rattle.std.proofs.lemmas.Result.{on_ok_weaker}
use Rattle.sqlite_schema.specs.Names.{same_name}
use Rattle.sqlite_disk.specs.declared.Disk.{Ghosts as Disk}
use Rattle.sqlite_wal.specs.Recovery.{Image}
use Rattle.sqlite.specs.Files.{IsCleanLeft, over_files}
use Rattle.sqlite.specs.declared.file.Leftover.{Leftover}
use Rattle.docket_columns.specs.declared.version.Version.{Version}
use Rattle.docket_columns.specs.declared.version.Version.TheVariants.{First, Second}
use Rattle.docket_tables.specs.Layouts.{Rows}
use Rattle.docket_tables.specs.Recognition.{has_docket_table}
use Rattle.docket_tables.specs.Schema.{schema_of}
use Rattle.docket_tables.specs.Stands.{HoldsRowsIn, IsImageIn}
use Rattle.docket_store.specs.Left.{Leaves, LeavesRows}
use Rattle.docket_store.specs.Opening.{IsNotMade}
use Rattle.docket_store.specs.Reopening.{HoldRows}
use Rattle.docket_store.specs.declared.creating.CreateFault.{CreateFault}
use Rattle.docket_store.specs.declared.creating.CreateFault.TheVariants as create
use Rattle.docket_applying.specs.Applying.{IsDocket, docket_rows}
use Rattle.file_dockets.specs.Working.{IsDoneOn}
use Rattle.file_changes.specs.Works.{CreatesOver}
use Rattle.sqlite.specs.Store.{Ghosts}
use Rattle.sqlite.specs.Held.{Held, state}
use Rattle.sqlite.specs.State.{HasCleanDisk}
use Rattle.court_days.specs.Court.{CourtSettings}
use Rattle.docket_applying.specs.Dockets.{Docket as Stored}
use Rattle.docket_applying.specs.CourtDockets.{CourtDocket as Docket, StandsAs}
use Rattle.file_dockets.specs.Keeping.{HoldsBetween, Keeps}
use Rattle.file_dockets.proofs.KeepLemmas.{held, leaves_map}

module _ {S : Type 0} (g : Ghosts S) where
  -- the connection of the docket holds its rows
  pub keeps_held : (stored : Stored S) (docket : Docket) → StandsAs g stored docket → Keeps (HoldsBetween g stored.conn) docket
  keeps_held stored docket is =
      subst (λ (court : CourtSettings). Keeps (HoldsBetween g stored.conn) (record { court = court; history = docket.history })) is.court
      (is.stands.docket, held g stored.conn _ is.stands.rows)

  -- and so does the connection that comes back
  pub keeps_closed : (stored : Stored S) (conn : Held S) (docket : Docket) → conn ≡ stored.conn → StandsAs g stored docket → Keeps (HoldsBetween g conn) docket
  keeps_closed stored conn docket same is = subst (λ (c : Held S). Keeps (HoldsBetween g c) docket) (sym same) (keeps_held stored docket is)

-- none was made, by the connection that comes back
pub not_created : {S : Type 0} (g : Ghosts S) (old new now : Held S) (court : CourtSettings) (fault : CreateFault) (outcome : Result (Unit {0}) CreateFault)
    → now ≡ new → outcome ≡ Err fault → (IsTrue (has_docket_table old.schema) → fault ≡ create.NotEmpty) → IsNotMade g old new court fault
    → (HasCleanDisk (state g new) → HasCleanDisk (state g old)) → CreatesOver g old now court outcome
not_created {S} g old new now court fault outcome same is full left trust =
    subst (CreatesOver g old now court) (sym is) (subst (λ (conn : Held S). CreatesOver g old conn court (Err fault)) (sym same) (record {
      made = tt;
      empty = tt;
      full = full;
      not_made = left;
      trust = trust;
    }))

-- the tables of each version are a docket's
recognized : (v : Version) → has_docket_table (schema_of v) ≡ true
unfolding same_name
recognized First = refl
recognized Second = refl

module _ {S D : Type 0} {d : Disk D} (g : Ghosts S) (court : CourtSettings) (v : Version) (rows : Rows) (old new : Held S) (holds : HoldsRowsIn g v old rows)
    (clean : HasCleanDisk (state g new)) (rest : Leftover D d) where
  there : (outcome : Result (Unit {0}) CreateFault) → CreatesOver g old new court outcome → has_docket_table old.schema ≡ true
  there outcome creates = ap has_docket_table (holds.1 (creates.trust clean)).shows.schema ∙ recognized v

  -- a docket that is there is reported, and left as it was
  found : (outcome : Result (Unit {0}) CreateFault) → CreatesOver g old new court outcome → IfErr outcome (λ _. Leaves rest (state g new).may_leave)
      → (outcome ≡ Err create.NotEmpty) × Leaves rest (IsImageIn v rows)
  found (Ok done) creates images = absurd (false≢true (sym creates.empty ∙ there (Ok done) creates))
  found (Err fault) creates images =
      let is : fault ≡ create.NotEmpty = creates.full (there (Err fault) creates) in
      let left = subst (IsNotMade g old new court) is creates.not_made in
      let now : HoldsRowsIn g v new rows = subst (λ (conn : Held S). HoldsRowsIn g v conn rows) (sym left.1) holds in
      (ap Err is, leaves_map rest (state g new).may_leave (IsImageIn v rows) (λ db may. (now.1 clean).images db may) images)

module _ {D : Type 0} {g : Disk D} (start : Image) (court : CourtSettings) where
  -- a docket that was made, from its connection to the files that it leaves
  pub made_on : (outcome : Result (Unit {0}) CreateFault) (rest : Leftover D g)
      → IsDoneOn start (λ old new. CreatesOver over_files old new court) outcome rest → IsCleanLeft rest
      → OnOk outcome (IsDocket court [] × LeavesRows rest (docket_rows court []) (docket_rows court []))
  made_on outcome rest done clean = on_ok_weaker outcome (λ made. (made.0, done.left _ _ made.1 clean)) done.comes.made

  -- and one that was there
  pub found_on : (v : Version) (rows : Rows) (outcome : Result (Unit {0}) CreateFault) (rest : Leftover D g)
      → IsDoneOn start (λ old new. CreatesOver over_files old new court) outcome rest → HoldRows v start rows → IsCleanLeft rest
      → (outcome ≡ Err create.NotEmpty) × Leaves rest (IsImageIn v rows)
  found_on v rows outcome rest done files clean =
      found over_files court v rows done.opened done.back (done.holds v rows files) (done.trust clean) rest outcome done.comes done.images
