-- The subcommands and their words.
use Rattle.std.specs.Prelude.{List, [], ◌∷◌, codes, Option}
use Rattle.clap.specs.Walk.{Text}
use Rattle.docket_command.specs.Words.{named_in}
use Rattle.docket_jobs.specs.declared.verb.Verb.{Verb}
use Rattle.docket_jobs.specs.declared.verb.Verb.TheVariants.{Count, Create, Run, Enter, Commands, Import, Case, Cases, Calendar, Export, Explain, Check, Backup, Migrate, Serve, Rules, Holidays}

abbrev pub verb_word : Verb → Text
verb_word Count = codes "count"
verb_word Create = codes "create"
verb_word Run = codes "run"
verb_word Enter = codes "enter"
verb_word Commands = codes "commands"
verb_word Import = codes "import"
verb_word Case = codes "case"
verb_word Cases = codes "cases"
verb_word Calendar = codes "calendar"
verb_word Export = codes "export"
verb_word Explain = codes "explain"
verb_word Check = codes "check"
verb_word Backup = codes "backup"
verb_word Migrate = codes "migrate"
verb_word Serve = codes "serve"
verb_word Rules = codes "rules"
verb_word Holidays = codes "holidays"

-- all of them, in the order in which help lists them
abbrev pub verbs : List Verb
verbs = Count ∷ Create ∷ Run ∷ Enter ∷ Commands ∷ Import ∷ Case ∷ Cases ∷ Calendar ∷ Export ∷ Explain ∷ Check ∷ Backup ∷ Migrate ∷ Serve ∷ Rules ∷ Holidays ∷ []

-- the subcommand with that word
abbrev pub verb_named : Text → Option Verb
verb_named = named_in verb_word verbs
