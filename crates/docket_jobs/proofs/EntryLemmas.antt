-- The command lines of the kinds of commands, and the texts that are found for fields.
use Rattle.std.proofs.Common.{◌≡◌, ℕ, ◌+◌, ◌<◌, ◌++◌, ◌∙◌, List, [], ◌∷◌, Option, Some, None, Result, String, Global, add-one, append-nil, append_assoc, ap, drop, drop-cons, get_or, length, map, refl, string_bytes, subst, sym, true, if◌then◌else◌, ap₂, IfOk}
use Rattle.std.proofs.lemmas.List.{drop-map}
use Rattle.clap.specs.Faults.{fault_of, is_simple_and_free}
use Rattle.clap.specs.Kinds.{FailsBy, Kinds, or_else}
use Rattle.clap.specs.Matches.{found_of}
use Rattle.clap.specs.Simple.{App, HasMatchesOf, is_simple, matches_of}
use Rattle.clap.specs.Walk.{Row, Text, first_of, rows_of}
use Rattle.clap.specs.declared.error.Error.{Error}
use Rattle.clap.specs.declared.parser.matches.ArgMatches.{ArgMatches}
use Rattle.docket_command.specs.declared.command_name.CommandName.{CommandName}
use Rattle.docket_command.specs.declared.command_name.CommandName.TheVariants as name
use Rattle.docket_command.specs.declared.field.Field.{Field}
use Rattle.docket_command.specs.Fields.{field_name}
use Rattle.docket_command.specs.Schema.{field_of, fields_of}
use Rattle.command_forms.specs.declared.entered.Entered.{Entered}
use Rattle.command_forms.specs.Entered.{spec_of}
use Rattle.docket_jobs.specs.declared.job.Job.{Job}
use Rattle.docket_jobs.specs.CommandLine.{docketctl, with_rules}
use Rattle.docket_jobs.specs.EntryLine.{bare_entry_line, entry_line, field_rule}
use Rattle.docket_jobs.specs.Jobs.{Asked, asked, asked_behind, asked_of, faults_behind, faults_of, is_entry, kind_entered, line_asked, or_bad_value, text_before, texts_found, word_at}

-- ---- the line of a kind

entry_free : (kind : CommandName) → is_simple_and_free (entry_line kind) ≡ true
unfolding entry_line
entry_free name.DeclareDay = refl
entry_free _ = refl

entry_plain : (kind : CommandName) → is_simple (entry_line kind) ≡ true
unfolding entry_line
entry_plain name.DeclareDay = refl
entry_plain _ = refl

rules_of_specs : (fields : List Entered) → map (λ entered. field_rule (spec_of entered)) fields ≡ map field_rule (map spec_of fields)
rules_of_specs [] = refl
rules_of_specs (field ∷ fields) = ap (λ rules. field_rule (spec_of field) ∷ rules) (rules_of_specs fields)

pub entry_whole : (kind : CommandName) (fields : List Entered) → map spec_of fields ≡ fields_of kind → with_rules (bare_entry_line kind) (map (λ entered. field_rule (spec_of entered)) fields) ≡ entry_line kind
unfolding entry_line
entry_whole kind fields is = ap (with_rules (bare_entry_line kind)) (rules_of_specs fields ∙ ap (map field_rule) is)

-- ---- the texts of fields

text_added : (before : List (Field × Text)) (f : Field) (found : Option Text) (after : List (Field × Text)) → (before ++ text_before f found []) ++ after ≡ before ++ text_before f found after
text_added before f None after = ap (λ xs. xs ++ after) (append-nil before)
text_added before f (Some text) after = append_assoc before _ after

-- a field without a text adds none, and one with a text adds that
pub text_absent : (texts : List (Field × Text)) (f : Field) (rows : List Row) (id : Text) → id ≡ field_name f → None ≡ first_of id rows → texts ≡ texts ++ text_before f (first_of (field_name f) rows) []
text_absent texts f rows id named none = sym (append-nil texts) ∙ ap (λ o. texts ++ text_before f o []) (none ∙ ap (λ i. first_of i rows) named)

pub text_present : (texts new : List (Field × Text)) (f : Field) (rows : List Row) (id text : Text) → id ≡ field_name f → Some text ≡ first_of id rows → new ≡ texts ++ (f, text) ∷ [] → new ≡ texts ++ text_before f (first_of (field_name f) rows) []
text_present texts new f rows id text named some is = is ∙ ap (λ o. texts ++ text_before f o []) (some ∙ ap (λ i. first_of i rows) named)

-- one more text, before those of the fields that are left
pub texts_added : (xs : List Entered) (i : ℕ) (d : Entered) (rows : List Row) (f : Field) (old new all : List (Field × Text)) → i < length xs → f ≡ field_of (spec_of (get_or xs i d))
    → old ++ texts_found (map spec_of (drop i xs)) rows ≡ all → new ≡ old ++ text_before f (first_of (field_name f) rows) [] → new ++ texts_found (map spec_of (drop (i + 1) xs)) rows ≡ all
texts_added xs i d rows f old new all below its so_far is =
    let rest = texts_found (map spec_of (drop (i + 1) xs)) rows in
    let spec : List (Field × Text) = text_before (field_of (spec_of (get_or xs i d))) (first_of (field_name (field_of (spec_of (get_or xs i d)))) rows) rest in
    let step : texts_found (map spec_of (drop i xs)) rows ≡ spec = rw (add-one, drop-cons xs i d below) refl in
    let own : text_before f (first_of (field_name f) rows) rest ≡ spec = ap (λ g. text_before g (first_of (field_name g) rows) rest) its in
    ap (λ t. t ++ rest) is ∙ (text_added old f (first_of (field_name f) rows) rest ∙ (ap (λ t. old ++ t) (own ∙ sym step) ∙ so_far))

-- ---- what a parse by the line of a kind returns

pub entry_found : (line : App) (kind : CommandName) (words : List Text) (m : ArgMatches) → line ≡ entry_line kind → HasMatchesOf line words m → rows_of (found_of m) ≡ matches_of (entry_line kind) words
entry_found line kind words m is matches = (matches (ap is_simple is ∙ entry_plain kind)).0 ∙ ap (λ l. matches_of l words) is

pub free_entry : (line : App) (kind : CommandName) → line ≡ entry_line kind → is_simple_and_free line ≡ true
free_entry line kind is = ap is_simple_and_free is ∙ entry_free kind

or_nothing : (kinds : Kinds) → or_else kinds [] ≡ kinds
or_nothing [] = refl
or_nothing (k ∷ ks) = refl

-- a word that names a kind leaves the faults to the line of the kind
pub kind_faults : (word : Text) (kind : CommandName) (words : List Text) (r : Result Job Error) → kind_entered word ≡ Some kind → FailsBy (fault_of (entry_line kind) words) r
    → FailsBy (or_bad_value (faults_behind word words) (asked_behind word words)) r
kind_faults word kind words r is fails =
    let P : Kinds → Type 0 = λ kinds. FailsBy kinds r in
    rw is (subst P (sym (or_nothing (fault_of (entry_line kind) words))) fails)

-- ---- the words of an entry, and all others

words_behind : (words : List (String Global)) → map string_bytes (drop 2 words) ≡ drop 2 (map string_bytes words)
words_behind words = sym (drop-map string_bytes 2 words)

pub asked_there : (words rest : List (String Global)) (word : Text) → is_entry (map string_bytes words) ≡ true → word ≡ word_at 2 (map string_bytes words) → rest ≡ drop 2 words → asked_of (map string_bytes words) ≡ asked_behind word (map string_bytes rest)
asked_there words rest word is its behind =
    let all = map string_bytes words in
    ap (λ b. if b then asked_behind (word_at 2 all) (drop 2 all) else line_asked all) is ∙ ap₂ (λ w ws. asked_behind w ws) (sym its) (sym (words_behind words) ∙ ap (map string_bytes) (sym behind))

pub faults_there : (words rest : List (String Global)) (word : Text) → is_entry (map string_bytes words) ≡ true → word ≡ word_at 2 (map string_bytes words) → rest ≡ drop 2 words → faults_of (map string_bytes words) ≡ faults_behind word (map string_bytes rest)
faults_there words rest word is its behind =
    let all = map string_bytes words in
    ap (λ b. if b then faults_behind (word_at 2 all) (drop 2 all) else fault_of docketctl all) is ∙ ap₂ (λ w ws. faults_behind w ws) (sym its) (sym (words_behind words) ∙ ap (map string_bytes) (sym behind))

-- a job that other words ask for, and errors that they give, where both are the same for these
pub job_same : (asks found : Option Asked) (r : Result Job Error) → asks ≡ found → IfOk r (λ job. found ≡ Some (asked job)) → IfOk r (λ job. asks ≡ Some (asked job))
job_same asks found r is holds =
    let P : Option Asked → Type 0 = λ o. IfOk r (λ job. o ≡ Some (asked job)) in
    subst P (sym is) holds

pub faults_same : (faults kinds : Kinds) (asks found : Option Asked) (r : Result Job Error) → faults ≡ kinds → asks ≡ found → FailsBy (or_bad_value kinds found) r → FailsBy (or_bad_value faults asks) r
faults_same faults kinds asks found r same is fails =
    let P : Kinds → Type 0 = λ all. FailsBy all r in
    subst P (sym (ap₂ (λ k o. or_bad_value k o) same is)) fails
