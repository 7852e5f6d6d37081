-- What a parse of the words returns, and which faults it reports.
use Rattle.std.proofs.Common.{◌≡◌, List, [], ◌∷◌, Option, Some, None, is_some, if◌then◌else◌, true, refl, sym, ap, subst, ◌∙◌, inl, inr}
use Rattle.clap.specs.Faults.{fault_of, is_simple_and_free}
use Rattle.clap.specs.Kinds.{HasKind, Kinds, or_else}
use Rattle.clap.specs.Simple.{App, HasMatchesOf, is_simple, subcommand_of, subcommand_rows_of}
use Rattle.clap.specs.Values.{kind_of}
use Rattle.clap.specs.Walk.{Text}
use Rattle.clap.specs.declared.error.Error.{Error}
use Rattle.clap.specs.declared.error.kind.ErrorKind.TheVariants.{ValueValidation}
use Rattle.clap.specs.declared.parser.matches.ArgMatches.{ArgMatches}
use Rattle.docket_jobs.specs.CommandLine.{bare_line, docketctl, line_of}
use Rattle.docket_jobs.specs.Jobs.{Asked, asked_in, line_asked, or_bad_value}

is_free : is_simple_and_free docketctl ≡ true
unfolding docketctl bare_line line_of
is_free = refl

is_plain : is_simple docketctl ≡ true
unfolding docketctl bare_line line_of
is_plain = refl

pub free_line : (line : App) → line ≡ docketctl → is_simple_and_free line ≡ true
free_line line is = ap is_simple_and_free is ∙ is_free

pub rows_found : (line : App) (words : List Text) (m : ArgMatches) → line ≡ docketctl → HasMatchesOf line words m → asked_in (subcommand_rows_of m) ≡ line_asked words
rows_found line words m is matches = ap asked_in ((matches (ap is_simple is ∙ is_plain)).1 ∙ ap (λ l. subcommand_of l words) is)

wanted : Option Asked → Kinds
wanted (Some job) = []
wanted None = ValueValidation ∷ []

both_none : (kinds : Kinds) (found : Option Asked) (job : Asked) → kinds ≡ [] → found ≡ Some job → or_else kinds (wanted found) ≡ []
unfolding wanted
both_none kinds found job none is = rw (none, is)

first_has : (kinds more : Kinds) (e : Error) → HasKind kinds e → HasKind (or_else kinds more) e
first_has [] more e (inl memory) = inl memory
first_has [] more e (inr h) = absurd h
first_has (k ∷ ks) more e h = h

same_wanted : (found : Option Asked) → (if is_some found then [] else ValueValidation ∷ []) ≡ wanted found
unfolding wanted
same_wanted (Some job) = refl
same_wanted None = refl

pub line_taken : (words : List Text) (job : Asked) → fault_of docketctl words ≡ [] → line_asked words ≡ Some job → or_bad_value (fault_of docketctl words) (line_asked words) ≡ []
line_taken words job none found = ap (or_else (fault_of docketctl words)) (same_wanted (line_asked words)) ∙ both_none _ _ job none found

pub line_refused : (words : List Text) (e : Error) → HasKind (fault_of docketctl words) e → HasKind (or_bad_value (fault_of docketctl words) (line_asked words)) e
line_refused words e has = first_has _ _ e has

second_has : (kinds : Kinds) (found : Option Asked) (e : Error) → kinds ≡ [] → found ≡ None → kind_of e ≡ ValueValidation → HasKind (or_else kinds (wanted found)) e
unfolding wanted
second_has kinds found e none missing kind = rw (none, missing) (inr (inl kind))

pub value_refused : (words : List Text) (e : Error) → fault_of docketctl words ≡ [] → line_asked words ≡ None → kind_of e ≡ ValueValidation → HasKind (or_bad_value (fault_of docketctl words) (line_asked words)) e
value_refused words e none missing kind =
    let P : Kinds → Type 0 = λ more. HasKind (or_else (fault_of docketctl words) more) e in
    subst P (sym (same_wanted (line_asked words))) (second_has _ _ e none missing kind)
