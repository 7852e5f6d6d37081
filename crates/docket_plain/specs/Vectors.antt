-- The tables as vectors hold them.
use Rattle.std.specs.Prelude.{ℕ, ◌+◌, ◌<◌, ◌≤◌, ◌^◌, [], length, vec_len, vec_capacity}
use Rattle.docket_history.specs.Histories.{parties_of_case, entries_of_case, deadlines_of_case}
use Rattle.docket_decisions.specs.Tables.{Tables}
use Rattle.docket_plain.specs.declared.vectors.Vectors.{Vectors}

-- the rows in the vectors
abbrev pub lists_of : Vectors → Tables
lists_of v = record {
  next_row = v.next_row;
  calendar = v.calendar.items;
  cases = v.cases.items;
  parties = v.parties.items;
  entries = v.entries.items;
  deadlines = v.deadlines.items;
  acts = v.acts.items;
  receipts = v.receipts.items;
  local_rules = v.local_rules.items;
}

-- the tables of a docket without any record
abbrev pub no_rows : Tables
no_rows = record { next_row = 1; calendar = []; cases = []; parties = []; entries = []; deadlines = []; acts = []; receipts = []; local_rules = [] }

-- room for so many rows in each table, and for a receipt
pub record HasRoom (n : ℕ) (v : Vectors) : Type 0 where
  pub calendar : vec_len v.calendar + n ≤ vec_capacity v.calendar
  pub cases : vec_len v.cases + n ≤ vec_capacity v.cases
  pub parties : vec_len v.parties + n ≤ vec_capacity v.parties
  pub entries : vec_len v.entries + n ≤ vec_capacity v.entries
  pub deadlines : vec_len v.deadlines + n ≤ vec_capacity v.deadlines
  pub acts : vec_len v.acts + n ≤ vec_capacity v.acts
  pub receipts : vec_len v.receipts + 1 ≤ vec_capacity v.receipts
  pub local_rules : vec_len v.local_rules + n ≤ vec_capacity v.local_rules

-- the numbers of rows fit
pub record AreSmall (v : Vectors) : Type 0 where
  pub next_row : v.next_row ≤ 2 ^ 32
  pub cases : vec_len v.cases < 2 ^ 31
  pub parties : (k : ℕ) → length (parties_of_case k v.parties.items) < 2 ^ 31
  pub entries : (k : ℕ) → length (entries_of_case k v.entries.items) < 2 ^ 31
  pub deadlines : (k : ℕ) → length (deadlines_of_case k v.deadlines.items) < 2 ^ 31
  pub local_rules : vec_len v.local_rules < 2 ^ 31
