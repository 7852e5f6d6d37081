-- What a command's line is after options, places and subcommands are added one by one.
use Rattle.std.proofs.Common.{◌≡◌, ℕ, ◌+◌, ◌<◌, ◌∙◌, ◌||◌, Bool, true, false, List, ◌∷◌, add-one, ap, drop, drop-cons, get_or, length, map, refl, sym}
use Rattle.std.specs.Prelude.{fold}
use Rattle.clap.specs.Built.{AddsArg, AddsSubcommand}
use Rattle.clap.specs.Simple.{App, Shape, app_of, with_rule, with_subcommand}
use Rattle.clap.specs.Walk.{Rule, rule_of}
use Rattle.clap.specs.declared.builder.arg.Arg.{Arg}
use Rattle.clap.specs.declared.builder.command.Command.{Command}
use Rattle.docket_jobs.specs.CommandLine.{HasLine, with_line}

-- one more item, before those that are left
pub one_added : {A B : Type 0} (step : App → B → App) (g : A → B) (xs : List A) (i : ℕ) (d : A) (old new all : App) → i < length xs
    → fold step old (map g (drop i xs)) ≡ all → new ≡ step old (g (get_or xs i d)) → fold step new (map g (drop (i + 1) xs)) ≡ all
one_added step g xs i d old new all below so_far is =
    let left : map g (drop i xs) ≡ g (get_or xs i d) ∷ map g (drop (i + 1) xs) = rw (add-one, drop-cons xs i d below) refl in
    ap (λ line. fold step line (map g (drop (i + 1) xs))) is ∙ (ap (fold step old) (sym left) ∙ so_far)

pub argument_added : (rule : Rule) (old new : Command) (arg : Arg) → rule_of arg ≡ rule → arg.global ≡ false → AddsArg old arg new → app_of new ≡ with_rule (app_of old) rule
argument_added rule old new arg is local adds = adds.shape local ∙ ap (with_rule (app_of old)) is

top_of : App → Shape
top_of line = line.top

pub line_added : (line : App) (old sub new : Command) → HasLine line sub → AddsSubcommand old sub new → app_of new ≡ with_line (app_of old) line
unfolding top_of
line_added line old sub new has adds = adds.shape has.1 ∙ ap (with_subcommand (app_of old)) (ap top_of has.0)

or_false : (b : Bool) → (b || false) ≡ b
or_false true = refl
or_false false = refl

pub still_local : (old other new : Bool) → new ≡ (old || other) → other ≡ false → new ≡ old
still_local old other new is none = is ∙ ap (λ b. old || b) none ∙ or_false old
