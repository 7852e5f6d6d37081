-- A court.
use Rattle.std.specs.Prelude.{ℕ, List, pos, None, unwrap_or}
use Rattle.civil_time.specs.Zone.{ZoneRules}
use Rattle.civil_time.specs.ZoneText.{zone_at}

-- the text of its zone, and the minute of the day at which the clerk's office closes
pub record CourtSettings : Type 0 where
  pub zone_text : List ℕ
  pub close_minute : ℕ

-- the time of Greenwich, without summer time
abbrev pub greenwich : ZoneRules
greenwich = record { hours_west = pos 0; summer = None }

-- the zone of a court is the one that its text spells; the text of a court always spells one
unfoldable pub zone_of : CourtSettings → ZoneRules
zone_of court = unwrap_or (zone_at court.zone_text) greenwich
