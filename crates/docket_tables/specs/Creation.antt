-- The making of the tables, one after another.
use Rattle.std.specs.Prelude.{◌≡◌, ◌<◌, ℕ, [], IsTrue}
use Rattle.std.specs.List.{AllByRecursion}
use Rattle.sqlite.specs.Effect.{IsDatabase}
use Rattle.sqlite.specs.State.{State}
use Rattle.docket_tables.specs.Layouts.{Rows}
use Rattle.docket_tables.specs.Schema.{made}

-- inside a transaction, the first n tables stand, and hold nothing
pub record IsMade (s : State) (n : ℕ) : Type 0 where
  pub schema : s.now.schema ≡ made n
  pub serves : 0 < n → IsTrue s.is_open × IsTrue s.in_transaction × IsDatabase s.now
  pub empty : AllByRecursion (λ t. s.now.trees t.tree ≡ []) (made n).tables

-- no table holds a row
abbrev pub no_rows : Rows
no_rows table = []
