-- What an argument of the program is to clap.
use Rattle.clap.specs.Walk.{Rule}
use Rattle.docket_jobs.specs.declared.argument.Argument.{Argument}
use Rattle.docket_jobs.specs.declared.argument.Argument.TheVariants.{May, Must, Or, Flag, Place, MayPlace}
use Rattle.docket_jobs.specs.CommandLine.{flag_rule, option_rule, optional_place, place_rule, required, with_default}

abbrev pub rule_read : Argument → Rule
rule_read (May name value help) = option_rule name.now
rule_read (Must name value help) = required (option_rule name.now)
rule_read (Or name value help other) = with_default other.now (option_rule name.now)
rule_read (Flag name help) = flag_rule name.now
rule_read (Place name value help) = place_rule name.now
rule_read (MayPlace name value help) = optional_place name.now
