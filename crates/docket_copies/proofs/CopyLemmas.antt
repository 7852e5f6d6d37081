-- From what a close leaves to what a copy holds.
use Rattle.std.proofs.Common.{◌≡◌, ◌∙◌, ℕ, List, sym, ap, subst}
use Rattle.std.proofs.Math.Logic.{∥∥₁_elim, ∥∥₁_map}
use Rattle.sqlite_wal.specs.Recovery.{Image}
use Rattle.sqlite.specs.Effect.{Database}
use Rattle.sqlite.specs.Files.{HoldsDatabase}
use Rattle.sqlite.specs.State.{State, IsLive, IsUnchanged, Opens}
use Rattle.sqlite.specs.Tree.{Trees}
use Rattle.court_days.specs.Court.{CourtSettings}
use Rattle.docket_columns.specs.declared.version.Version.TheVariants.{Second}
use Rattle.docket_history.specs.Histories.{History}
use Rattle.docket_scan.specs.Finding.{AreSound}
use Rattle.docket_scan.specs.Judging.{Rows}
use Rattle.docket_store.specs.Reopening.{HoldDocket}
use Rattle.docket_copies.specs.Copies.{IsSoundFile, alone, seeing}

-- the check of a database depends on what a connection sees of it, and on nothing else
sound_seeing : (s : State) (court : CourtSettings) (rows : Rows) → AreSound Second s court rows → AreSound Second (seeing s.now) court rows
sound_seeing s court rows is = record {
  next_row = is.next_row;
  has_court = is.has_court;
  only = is.only;
  named = is.named;
  behind = is.behind;
}

-- what holds the same database holds the same docket
pub holds_docket : (files : Image) (bytes : List ℕ) (court : CourtSettings) (h : History)
    → ((db : Trees) → HoldsDatabase files db → ∥ HoldsDatabase (alone bytes) db ∥₁) → HoldDocket files court h → HoldDocket (alone bytes) court h
holds_docket files bytes court h same holds =
    ∥∥₁_elim holds squash₁ (λ found. ∥∥₁_map (same found.0 found.1) (λ held. (found.0, held, found.2)))

module _ (bytes : List ℕ) (old new : State) (opens : Opens old) (live : IsLive old) (unchanged : IsUnchanged old new) where
  -- what was committed before is what the connection saw as it was opened
  same_trees : new.committed.trees ≡ old.now.trees
  same_trees = ap (λ (d : Database). d.trees) (unchanged.0.committed_is ∙ sym opens.clean)

  held_now : ∥ HoldsDatabase (alone bytes) new.committed.trees ∥₁ → ∥ HoldsDatabase (alone bytes) old.now.trees ∥₁
  held_now held = subst (λ (db : Trees). ∥ HoldsDatabase (alone bytes) db ∥₁) same_trees held

  pub sound_file : (court : CourtSettings) (rows : Rows) → AreSound Second old court rows → ∥ HoldsDatabase (alone bytes) new.committed.trees ∥₁ → IsSoundFile bytes
  sound_file court rows sound held = record {
    db = old.now;
    is = (live opens.is_open).0;
    held = held_now held;
    court = court;
    rows = rows;
    sound = sound_seeing old court rows sound;
  }

  -- the copy holds the database that was opened
  pub same_database : (db : Trees) → old.committed.trees ≡ db → ∥ HoldsDatabase (alone bytes) new.committed.trees ∥₁ → ∥ HoldsDatabase (alone bytes) db ∥₁
  same_database db is held =
      subst (λ (x : Trees). ∥ HoldsDatabase (alone bytes) x ∥₁) (ap (λ (d : Database). d.trees) unchanged.0.committed_is ∙ is) held
