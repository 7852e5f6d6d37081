-- A docket as its court and its commands define it, and when one in a database is that docket.
use Rattle.std.specs.Prelude.{◌≡◌}
use Rattle.sqlite.specs.Store.{Ghosts}
use Rattle.court_days.specs.Court.{CourtSettings}
use Rattle.docket_history.specs.Histories.{History}
use Rattle.docket_applying.specs.Applying.{Stands}
use Rattle.docket_applying.specs.Dockets.{Docket}

-- what a docket is: its court, and the commands that were accepted
pub record CourtDocket : Type 0 where
  pub court : CourtSettings
  pub history : History

module _ {S : Type 0} (g : Ghosts S) where
  -- the docket in the database is this one: it has this court and this history
  pub record StandsAs (stored : Docket S) (docket : CourtDocket) : Type 0 where
    pub court : stored.court ≡ docket.court
    pub stands : Stands g stored docket.history
