use Rattle.docket_command.proofs.WordLemmas.{command_name_back, basis_back, day_kind_back, direction_back, service_method_back, motion_kind_back, pleading_kind_back, role_back, ruling_back, sovereign_back, period_unit_back, way_back}
use Rattle.docket_command.proofs.laws.words_are_read_back.Goals as goal

pub returns : goal.returns
returns c =
    record {
      commands = command_name_back;
      bases = basis_back;
      day_kinds = day_kind_back;
      directions = direction_back;
      methods = service_method_back;
      motions = motion_kind_back;
      pleadings = pleading_kind_back;
      roles = role_back;
      rulings = ruling_back;
      sovereigns = sovereign_back;
      units = period_unit_back;
      ways = way_back;
    }
