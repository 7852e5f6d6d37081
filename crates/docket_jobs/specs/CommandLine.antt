-- The command line of docketctl as clap reads it: each subcommand with its options, which take one value each, its flags, which
-- take none, and its places.
use Rattle.std.specs.Prelude.{◌≡◌, List, [], ◌∷◌, fold, map, Some, true, false, codes}
use Rattle.clap.specs.Walk.{Rule, Text}
use Rattle.clap.specs.Simple.{App, app_of, new_app, new_rule, on_top, with_rule, with_subcommand}
use Rattle.clap.specs.declared.builder.action.ArgAction.TheVariants.{Set, SetTrue}
use Rattle.clap.specs.declared.builder.command.Command.{Command}
use Rattle.clap.specs.declared.builder.command.Command.TheViews.{out-Command as fields_of}
use Rattle.docket_jobs.specs.Verbs.{verb_word, verbs}
use Rattle.docket_jobs.specs.declared.verb.Verb.{Verb}
use Rattle.docket_jobs.specs.declared.verb.Verb.TheVariants.{Count, Create, Run, Enter, Commands, Import, Case, Cases, Calendar, Export, Explain, Check, Backup, Migrate, Serve, Rules, Holidays}

-- --NAME VALUE
abbrev pub option_rule : Text → Rule
option_rule name = record (new_rule name) { long = Some name; action = Some Set; value_names = 1 }

-- --NAME
abbrev pub flag_rule : Text → Rule
flag_rule name = record (new_rule name) { long = Some name; action = Some SetTrue }

-- it has to be there
abbrev pub required : Rule → Rule
required rule = record rule { required = true }

-- that value counts where none is given
abbrev pub with_default : Text → Rule → Rule
with_default value rule = record rule { defaults = value ∷ [] }

-- a value that stands alone, and has to be there
abbrev pub place_rule : Text → Rule
place_rule name = record (new_rule name) { action = Some Set; value_names = 1; required = true }

-- it may be left out
abbrev pub optional : Rule → Rule
optional rule = record rule { required = false }

abbrev pub file_rule : Rule
file_rule = option_rule (codes "db")

abbrev pub zone_rule : Rule
zone_rule = option_rule (codes "zone")

abbrev pub close_rule : Rule
close_rule = option_rule (codes "close")

abbrev pub optional_place : Text → Rule
optional_place name = optional (place_rule name)

-- a command with these rules more
abbrev pub with_rules : App → List Rule → App
with_rules line rules = fold with_rule line rules

-- the rules of a subcommand; what follows a kind behind `enter` is read by the line of that kind (`entry_line`)
abbrev pub rules_of : Verb → List Rule
rules_of Count = []
rules_of Create = required file_rule ∷ required zone_rule ∷ required close_rule ∷ []
rules_of Run = file_rule ∷ with_default (codes "UTC0") zone_rule ∷ with_default (codes "17:00") close_rule ∷ []
rules_of Enter = optional_place (codes "kind") ∷ []
rules_of Commands = optional_place (codes "kind") ∷ []
rules_of Import = required file_rule ∷ required (option_rule (codes "key")) ∷ []
rules_of Case = required file_rule ∷ place_rule (codes "number") ∷ []
rules_of Cases = required file_rule ∷ option_rule (codes "label") ∷ option_rule (codes "party") ∷ option_rule (codes "find") ∷ []
rules_of Calendar =
    required file_rule ∷ flag_rule (codes "today") ∷ flag_rule (codes "week") ∷ flag_rule (codes "overdue") ∷ flag_rule (codes "long") ∷ optional_place (codes "from") ∷ optional_place (codes "to") ∷ []
rules_of Export =
    required file_rule ∷ required (option_rule (codes "as")) ∷ option_rule (codes "case") ∷ optional_place (codes "from") ∷ optional_place (codes "to") ∷ []
rules_of Explain = file_rule ∷ optional_place (codes "case") ∷ optional_place (codes "deadline") ∷ []
rules_of Check = required file_rule ∷ []
rules_of Backup = required file_rule ∷ required (option_rule (codes "to")) ∷ []
rules_of Migrate = required file_rule ∷ []
rules_of Serve =
    required file_rule ∷ option_rule (codes "port") ∷ option_rule (codes "socket") ∷ option_rule (codes "count") ∷ flag_rule (codes "endless") ∷ flag_rule (codes "pages") ∷ flag_rule (codes "guard") ∷ option_rule (codes "origin") ∷ []
rules_of Rules = file_rule ∷ []
rules_of Holidays = file_rule ∷ place_rule (codes "year") ∷ optional_place (codes "to") ∷ []

unfoldable pub line_of : Verb → App
line_of verb = with_rules (new_app (verb_word verb)) (rules_of verb)

-- a command with that subcommand more
abbrev pub with_line : App → App → App
with_line app line = with_subcommand app line.top

-- docketctl with `--version` and without a subcommand yet
unfoldable pub bare_line : App
bare_line = on_top (λ top. record top { has_version = true }) (new_app (codes "docketctl"))

unfoldable pub docketctl : App
docketctl = fold with_line bare_line (map line_of verbs)

-- the command has this line, and no option for its subcommands too
abbrev pub HasLine : App → Command → Type 0
HasLine line command = (app_of command ≡ line) × ((fields_of command).has_globals ≡ false)
