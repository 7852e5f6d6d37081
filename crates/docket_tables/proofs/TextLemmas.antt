-- What is known of a text that is read as one statement.
use Rattle.std.proofs.Common.{◌≡◌, ◌∙◌, ◌-◌, if◌then◌else◌, ℕ, false, List, [], length, take, Ok, None, refl, sym, ap, subst, arith}
use Rattle.std.proofs.lemmas.List.{take_all}
use Rattle.sqlite.specs.Command.{Command}
use Rattle.sqlite.specs.Listing.{understood, reads_listing, misses_table, if_select, listing_schema}
use Rattle.sqlite.specs.Schema.{Schema}
use Rattle.sqlite.proofs.Callers.{IsPlain, command_of, statement_of}
use Rattle.sqlite_resolve.specs.Compile.{compiled}
use Rattle.sqlite_resolve.specs.declared.compiled.Compiled.{Compiled}
use Rattle.docket_tables.proofs.MakingCauses.{IsOne}

-- the whole text is this command, which takes parameters of these names and gives no rows back
abbrev pub whole_text : List ℕ → Command → List (List ℕ) → Compiled
whole_text sql command names = record { command = command; returning = None; names = names; formats = []; start = 0; end = length sql; tail = length sql }

pub record IsRead (schema : Schema) (sql : List ℕ) (command : Command) (names : List (List ℕ)) : Type 0 where
  pub known : understood schema sql ≡ Ok (whole_text sql command names)
  pub unlisted : reads_listing schema sql ≡ false

pub is_read : {schema : Schema} {sql : List ℕ} {command : Command} {names : List (List ℕ)} → compiled schema sql ≡ Ok (whole_text sql command names) → IsRead schema sql command names
unfolding understood
is_read {sql = sql} is = record {
  known = ap (λ r. if misses_table r then if_select (compiled listing_schema sql) else r) is;
  unlisted = ap misses_table is;
}

module _ {schema : Schema} {sql : List ℕ} {command : Command} {names : List (List ℕ)} (it : IsRead schema sql command names) where
  pub read_command : command_of (understood schema sql) ≡ command
  read_command = ap command_of it.known

  pub read_plain : IsPlain (understood schema sql)
  read_plain = subst IsPlain (sym it.known) (refl, refl)

  pub read_one : (n : ℕ) → length names ≡ n → IsOne sql n command (understood schema sql)
  read_one n many = subst (IsOne sql n command) (sym it.known) (refl, many, refl, (refl, refl))

  pub read_words : statement_of sql (understood schema sql) ≡ sql
  read_words = let size : length sql - 0 ≡ length sql = omega arith in ap (statement_of sql) it.known ∙ ap (λ n. take n sql) size ∙ take_all (length sql) sql (omega arith)
