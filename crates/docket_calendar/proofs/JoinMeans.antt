-- What the question means over the schema of a docket.
use Rattle.std.proofs.Common.{◌≡◌, ◌∙◌, ℕ, List, [], ◌∷◌, pos, negsuc, codes, ap, refl, true, false, None}
use Rattle.sqlite.specs.declared.types.Value.TheVariants.{Int}
use Rattle.sqlite.specs.Collation.TheVariants.{Binary}
use Rattle.sqlite_value.specs.declared.keys.Key.{Key}
use Rattle.sqlite.specs.Term.{Term, lit, col, op2}
use Rattle.sqlite.specs.Query.{Query, inner, end}
use Rattle.sqlite.specs.Command.TheVariants.{Select}
use Rattle.sqlite_sql.specs.declared.ops.BinaryOp.TheVariants.{Compare}
use Rattle.sqlite_sql.specs.declared.ops.CompareOp.TheVariants.{Eq, Le, Ge}
use Rattle.sqlite.specs.Listing.{understood, reads_listing}
use Rattle.sqlite.specs.Given.{IsPlain}
use Rattle.sqlite.specs.Order.{Row}
use Rattle.sqlite.specs.State.{CommitsShowing, State, Survives}
use Rattle.sqlite_tied.specs.Compute.{everything}
use Rattle.docket_calendar.specs.Asked.{command_of}
use Rattle.docket_tables.specs.Schema.{docket_schema, places_of}
use Rattle.docket_tables.specs.declared.table.Table.TheVariants.{Deadlines, Due}
use Rattle.docket_tables.proofs.NothingLemmas.{is_select_text, select_writes_nothing}
use Rattle.docket_calendar.specs.Question.{question}

-- where the columns of the two tables stand in a stored row
abbrev pub due_places : List ℕ
due_places = places_of Due

abbrev pub deadline_places : List ℕ
deadline_places = places_of Deadlines

abbrev pub by_number : Key
by_number = record { collation = Binary; descending = false }

-- the deadline is the one of the due row, and the day lies in the range
abbrev pub tests : List Term
tests =
    op2 (Compare Eq Binary) (col 2 1) (col 1 1) ∷ op2 (Compare Eq Binary) (col 2 2) (col 1 2)
    ∷ op2 (Compare Ge Binary) (col 1 3) (col 0 0) ∷ op2 (Compare Le Binary) (col 1 3) (col 0 1) ∷ []

abbrev pub asked : Query
asked = record {
  from = inner 15 (inner 9 end);
  filter = tests;
  group = None;
  project = col 1 3 ∷ col 1 4 ∷ col 1 1 ∷ col 1 2 ∷ col 2 3 ∷ col 2 4 ∷ [];
  distinct = false;
  collations = [];
  order = (col 1 3, by_number) ∷ (col 1 4, by_number) ∷ (col 1 1, by_number) ∷ (col 1 2, by_number) ∷ [];
  limit = lit (Int (negsuc 0));
  offset = lit (Int (pos 0));
}

abbrev pub names : List (List ℕ)
names = codes "day" ∷ codes "moment" ∷ codes "case_no" ∷ codes "deadline_no" ∷ codes "party" ∷ codes "rule" ∷ []

pub asks : command_of (understood docket_schema question) ≡ Select (record { lets = []; body = asked }) names
unfolding understood everything
asks = refl

pub asks_plainly : IsPlain (understood docket_schema question)
unfolding understood everything
asks_plainly = (refl, refl)

pub asks_no_listing : reads_listing docket_schema question ≡ false
unfolding understood everything
asks_no_listing = refl

asks_select : is_select_text question ≡ true
unfolding everything
asks_select = refl

-- under any schema it writes nothing
pub days_write_nothing : (sql : List ℕ) (params : Row) (old new : State) → sql ≡ question → Survives old new (CommitsShowing sql params old) → Survives old new (λ _. ⊥)
days_write_nothing sql params old new is = select_writes_nothing sql params old new (ap is_select_text is ∙ asks_select)
