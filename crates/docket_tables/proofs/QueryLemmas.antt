-- What each question means, and what answers it.
use Rattle.std.proofs.Common.{◌≡◌, ℕ, suc, List, [], ◌∷◌, pos, negsuc, map, get_or, if◌then◌else◌, Result, Ok, refl}
use Rattle.std.proofs.Math.Logic.{∥∥₁_map}
use Rattle.sqlite.specs.declared.types.Value.TheVariants.{Int}
use Rattle.sqlite.specs.Collation.TheVariants.{Binary}
use Rattle.sqlite.specs.Order.{Row}
use Rattle.sqlite.specs.Command.{Command}
use Rattle.sqlite.specs.Command.TheVariants.{Select}
use Rattle.sqlite.specs.Query.{Query as Sql, as_count}
use Rattle.sqlite.specs.Term.{Term, lit, col, op2, eval, eval_all, holds}
use Rattle.sqlite_resolve.specs.Compile.{compiled}
use Rattle.sqlite_resolve.specs.declared.compiled.Compiled.{Compiled}
use Rattle.sqlite_resolve.specs.declared.error.CompileError.{CompileError}
use Rattle.std.specs.List.{list_all}
use Rattle.sqlite_sql.specs.declared.ops.BinaryOp.TheVariants.{Compare}
use Rattle.sqlite_sql.specs.declared.ops.CompareOp.TheVariants.{Eq}
use Rattle.sqlite_value.specs.declared.keys.Key.{Key}
use Rattle.sqlite.specs.State.{State, Shown}
use Rattle.sqlite_tied.specs.Compute.{everything}
use Rattle.docket_tables.specs.declared.query.Query.{Query}
use Rattle.docket_tables.specs.declared.query.Query.TheVariants as ask
use Rattle.docket_tables.specs.declared.table.Table.{Table}
use Rattle.docket_tables.specs.Holds.{cells, has_key, plain_query}
use Rattle.docket_tables.specs.Layouts.{Rows, AreRows}
use Rattle.docket_tables.specs.Queries.{Question, question_of, select_text, table_of, keys_of, picks, directions, most_of, IsAnswer}
use Rattle.docket_tables.specs.Schema.{docket_schema, tree_of, places_of}
use Rattle.docket_tables.specs.Tables.{layout_of}
use Rattle.docket_tables.specs.Texts.{counted, names_in, parameter}
use Rattle.docket_tables.proofs.EachLemmas.{queries, each_query}
use Rattle.docket_tables.proofs.SelectLemmas.{SelectsFrom, selects, answered_as}
use Rattle.docket_tables.proofs.TextLemmas.{IsRead, whole_text, is_read, read_command, read_plain}

abbrev pub has : ℕ → ℕ → Term
has place parameter = op2 (Compare Eq Binary) (col 1 place) (col 0 parameter)

abbrev pub keeps_from : Table → ℕ → List ℕ → List Term
keeps_from table n [] = []
keeps_from table n (key ∷ more) = has (get_or (places_of table) key 0) n ∷ keeps_from table (suc n) more

abbrev pub shows_of : Table → List Term
shows_of table = map (col 1) (places_of table)

abbrev pub order_in : Question → List (Term × Key)
order_in q = map (λ key. (col 1 (get_or (places_of q.table) key 0), record { collation = Binary; descending = q.is_last })) q.order

abbrev pub limit_in : Question → Term
limit_in q = if q.is_last then lit (Int (pos 1)) else lit (Int (negsuc 0))

abbrev pub query_of : Query → Sql
query_of q = plain_query (tree_of (table_of q)) (keeps_from (table_of q) 0 (keys_of q)) (shows_of (table_of q)) [] (order_in (question_of q)) (limit_in (question_of q))

abbrev pub command_for : Query → Command
command_for q = Select (record { lets = []; body = query_of q }) (names_in (layout_of (table_of q)))

abbrev pub parameters_of : Query → List (List ℕ)
parameters_of q = map parameter (counted 1 (keys_of q))

-- what the text of a question is read as
abbrev meaning_of : Query → Result Compiled CompileError
meaning_of q = compiled docket_schema (select_text q)

abbrev wanted_of : Query → Result Compiled CompileError
wanted_of q = Ok (whole_text (select_text q) (command_for q) (parameters_of q))

all_read : map meaning_of queries ≡ map wanted_of queries
unfolding everything
all_read = refl

pub query_read : (q : Query) → IsRead docket_schema (select_text q) (command_for q) (parameters_of q)
query_read q = is_read (each_query meaning_of wanted_of all_read q)

-- what it keeps and shows, and in which order

kept : (q : Query) (params row : Row) → list_all (holds (params ∷ row ∷ [])) (keeps_from (table_of q) 0 (keys_of q)) ≡ has_key (keys_of q) params (cells (places_of (table_of q)) row)
kept ask.Court params row = refl
kept q params row = refl

shown : (q : Query) (params row : Row) → eval_all (shows_of (table_of q)) (params ∷ row ∷ []) ≡ cells (places_of (table_of q)) row
shown ask.Court params row = refl
shown q params row = refl

sorted : (q : Query) (params row : Row) → eval_all (map (λ k. k.0) (order_in (question_of q))) (params ∷ row ∷ []) ≡ picks q (cells (places_of (table_of q)) row)
sorted ask.Court params row = refl
sorted q params row = refl

keyed : (q : Query) → map (λ k. k.1) (order_in (question_of q)) ≡ directions q
keyed = each_query (λ q. map (λ k. k.1) (order_in (question_of q))) directions refl

limited_to : (q : Query) (params : Row) → as_count (eval (limit_in (question_of q)) (params ∷ [])) ≡ most_of q
limited_to ask.Court params = refl
limited_to q params = refl

pub select_means : (q : Query) → SelectsFrom docket_schema (select_text q) (tree_of (table_of q)) (places_of (table_of q)) (has_key (keys_of q)) (picks q) (directions q) (most_of q)
select_means q = record {
  keeps = keeps_from (table_of q) 0 (keys_of q);
  shows = shows_of (table_of q);
  collations = [];
  order = order_in (question_of q);
  limit = limit_in (question_of q);
  names = names_in (layout_of (table_of q));
  is = read_command (query_read q);
  plain = read_plain (query_read q);
  unlisted = (query_read q).unlisted;
  kept = kept q;
  shown = shown q;
  sorted = sorted q;
  keyed = keyed q;
  limited_to = limited_to q;
}

-- what a question shows answers it
pub answered : (q : Query) (params : Row) (rows : Rows) (old new : State) (found : List Row) → old.now.schema ≡ docket_schema → AreRows rows old.now.trees
    → Shown (select_text q) params old new found → IsAnswer q params (rows (table_of q)) found
answered q params rows old new found has_schema are shown =
    let t = table_of q in
    let a = selects docket_schema (select_text q) (tree_of t) (places_of t) (has_key (keys_of q)) (picks q) (directions q) (most_of q) (select_means q) params old new found has_schema shown in
    ∥∥₁_map (answered_as (tree_of t) (places_of t) (has_key (keys_of q) params) (picks q) (directions q) (most_of q) (rows t) old.now.trees found (are t) a)
    (λ it. record { whole = it.whole; same = it.same; sorted = it.sorted; first = it.first })
