-- The making of the tables that the first version lacks, one after another.
use Rattle.std.specs.Prelude.{◌≡◌, ℕ, IsTrue, [], drop, length}
use Rattle.std.specs.List.{AllByRecursion}
use Rattle.sqlite.specs.Effect.{IsDatabase}
use Rattle.sqlite.specs.State.{State}
use Rattle.docket_columns.specs.declared.version.Version.TheVariants.{First}
use Rattle.docket_tables.specs.Layouts.{Rows, AreRowsIn}
use Rattle.docket_tables.specs.Schema.{made}
use Rattle.docket_tables.specs.Tables.{IsTableOf, first_tables}
use Rattle.docket_tables.specs.declared.table.Table.{Table}

-- the first version lacks the table
abbrev pub IsNew : Table → Type 0
IsNew table = IsTableOf First table → ⊥

-- inside a transaction, the first n tables stand: those of the first version hold the rows, and the others nothing
pub record IsGrown (rows : Rows) (n : ℕ) (s : State) : Type 0 where
  pub begun : IsTrue s.in_transaction
  pub is_open : IsTrue s.is_open
  pub schema : s.now.schema ≡ made n
  pub live : IsDatabase s.now
  pub holds : AreRowsIn First rows s.now.trees
  pub empty : AllByRecursion (λ t. s.now.trees t.tree ≡ []) (drop (length first_tables) (made n).tables)
