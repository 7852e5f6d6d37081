-- The statement of each table: a SELECT of its columns, in the order of its key.
use Rattle.std.proofs.Common.{◌≡◌, ℕ, List, [], ◌∷◌, Ok, Err, None, refl, take, false}
use Rattle.sqlite_ast.specs.declared.Expr.{Expr, out-Expr}
use Rattle.sqlite_ast.specs.declared.Expr.TheOpen.{Expr-F, Shown-F}
use Rattle.sqlite_ast.specs.declared.Shown.{Shown, out-Shown}
use Rattle.sqlite_ast.specs.declared.Sort.{Sort, out-Sort}
use Rattle.sqlite_ast.specs.declared.Core.{Core, out-Core}
use Rattle.sqlite_ast.specs.declared.Source.{Source, out-Source}
use Rattle.sqlite_ast.specs.declared.Select.{Select, out-Select}
use Rattle.sqlite_ast.specs.declared.Origin.TheVariants as origin
use Rattle.sqlite_ast.specs.declared.Statement.TheVariants as written
use Rattle.sqlite_syntax.specs.declared.statement.Parsed.{Parsed}
use Rattle.sqlite_resolve.specs.Compile.{first}
use Rattle.sqlite_resolve.specs.Lowering.{Checked}
use Rattle.sqlite_tied.specs.Compute.{everything}
use Rattle.docket_scan.specs.Shapes.{columns_of, name_of}
use Rattle.docket_tables.specs.Tables.{layout_of}
use Rattle.docket_tables.specs.Texts.{scan_text}
use Rattle.docket_tables.specs.declared.table.Table.{Table}
use Rattle.docket_tables.specs.declared.table.Table.TheVariants.{Court, Calendar, Cases, Parties, Entries, Deadlines, Acts, Receipts, Due, ShortDays, LocalRules}

abbrev Name : Type 0
Name = List ℕ

-- the key is the first columns
abbrev pub key_width : Table → ℕ
key_width t = (layout_of t).key

abbrev pub keys_of : Table → List Name
keys_of t = take (key_width t) (columns_of t)

abbrev pub IsNamed : Expr → Name → Type 0
IsNamed e name = out-Expr e ≡ Expr-F.Column None name

abbrev pub ShowsNames : List Shown → List Name → Type 0
ShowsNames [] [] = Unit {0}
ShowsNames (s ∷ more) (name ∷ names) = ((e : Expr) × (text : Name) × (out-Shown s ≡ Shown-F.One e None text) × IsNamed e name) × ShowsNames more names
ShowsNames _ _ = ⊥

abbrev pub SortsNames : List Sort → List Name → Type 0
SortsNames [] [] = Unit {0}
SortsNames (s ∷ more) (name ∷ names) = (IsNamed (out-Sort s).key name × ((out-Sort s).descending ≡ false) × ((out-Sort s).nulls_first ≡ None)) × SortsNames more names
SortsNames _ _ = ⊥

pub record IsTextOf (t : Table) (p : Parsed) : Type 0 where
  pub select : Select
  pub statement : p.statement ≡ written.Select select
  pub core : Core
  pub source : Source
  pub items : List Shown
  pub sorts : List Sort
  pub select_is : out-Select select ≡ record { with = []; first = core; others = []; order = sorts; limit = None; offset = None }
  pub core_is : out-Core core ≡ record { distinct = false; shown = items; from = source ∷ []; filter = None; group = []; having = None }
  pub source_is : out-Source source ≡ record { is_left = false; origin = origin.Table (name_of t); alias = None; on = None; using = [] }
  pub shows : ShowsNames items (columns_of t)
  pub orders : SortsNames sorts (keys_of t)

abbrev pub OnParsed : Table → Checked Parsed → Type 0
OnParsed t (Ok p) = (p.formats ≡ []) × IsTextOf t p
OnParsed t (Err e) = ⊥

pub text_is : (t : Table) → OnParsed t (first (scan_text t))
unfolding everything
text_is Court = (
  refl,
  record {
    select = _;
    statement = refl;
    core = _;
    source = _;
    items = _;
    sorts = _;
    select_is = refl;
    core_is = refl;
    source_is = refl;
    shows = ((_, _, refl, refl), ((_, _, refl, refl), ((_, _, refl, refl), ((_, _, refl, refl), ((_, _, refl, refl), ((_, _, refl, refl), tt))))));
    orders = ((refl, refl, refl), tt);
  },
)
text_is Calendar = (
  refl,
  record {
    select = _;
    statement = refl;
    core = _;
    source = _;
    items = _;
    sorts = _;
    select_is = refl;
    core_is = refl;
    source_is = refl;
    shows = ((_, _, refl, refl), ((_, _, refl, refl), ((_, _, refl, refl), ((_, _, refl, refl), ((_, _, refl, refl), tt)))));
    orders = ((refl, refl, refl), tt);
  },
)
text_is Cases = (
  refl,
  record {
    select = _;
    statement = refl;
    core = _;
    source = _;
    items = _;
    sorts = _;
    select_is = refl;
    core_is = refl;
    source_is = refl;
    shows = ((_, _, refl, refl), ((_, _, refl, refl), ((_, _, refl, refl), ((_, _, refl, refl), tt))));
    orders = ((refl, refl, refl), tt);
  },
)
text_is Parties = (
  refl,
  record {
    select = _;
    statement = refl;
    core = _;
    source = _;
    items = _;
    sorts = _;
    select_is = refl;
    core_is = refl;
    source_is = refl;
    shows = ((_, _, refl, refl), ((_, _, refl, refl), ((_, _, refl, refl), ((_, _, refl, refl), tt))));
    orders = ((refl, refl, refl), ((refl, refl, refl), tt));
  },
)
text_is Entries = (
  refl,
  record {
    select = _;
    statement = refl;
    core = _;
    source = _;
    items = _;
    sorts = _;
    select_is = refl;
    core_is = refl;
    source_is = refl;
    shows = ((_, _, refl, refl), ((_, _, refl, refl), ((_, _, refl, refl), ((_, _, refl, refl), tt))));
    orders = ((refl, refl, refl), ((refl, refl, refl), tt));
  },
)
text_is Deadlines = (
  refl,
  record {
    select = _;
    statement = refl;
    core = _;
    source = _;
    items = _;
    sorts = _;
    select_is = refl;
    core_is = refl;
    source_is = refl;
    shows = ((_, _, refl, refl), ((_, _, refl, refl), ((_, _, refl, refl), ((_, _, refl, refl), ((_, _, refl, refl), tt)))));
    orders = ((refl, refl, refl), ((refl, refl, refl), tt));
  },
)
text_is Acts = (
  refl,
  record {
    select = _;
    statement = refl;
    core = _;
    source = _;
    items = _;
    sorts = _;
    select_is = refl;
    core_is = refl;
    source_is = refl;
    shows = ((_, _, refl, refl), ((_, _, refl, refl), ((_, _, refl, refl), ((_, _, refl, refl), ((_, _, refl, refl), ((_, _, refl, refl), ((_, _, refl, refl), ((_, _, refl, refl), ((_, _, refl, refl), tt)))))))));
    orders = ((refl, refl, refl), ((refl, refl, refl), ((refl, refl, refl), tt)));
  },
)
text_is Receipts = (
  refl,
  record {
    select = _;
    statement = refl;
    core = _;
    source = _;
    items = _;
    sorts = _;
    select_is = refl;
    core_is = refl;
    source_is = refl;
    shows = ((_, _, refl, refl), ((_, _, refl, refl), ((_, _, refl, refl), tt)));
    orders = ((refl, refl, refl), tt);
  },
)
text_is Due = (
  refl,
  record {
    select = _;
    statement = refl;
    core = _;
    source = _;
    items = _;
    sorts = _;
    select_is = refl;
    core_is = refl;
    source_is = refl;
    shows = ((_, _, refl, refl), ((_, _, refl, refl), ((_, _, refl, refl), ((_, _, refl, refl), tt))));
    orders = ((refl, refl, refl), ((refl, refl, refl), tt));
  },
)
text_is ShortDays = (
  refl,
  record {
    select = _;
    statement = refl;
    core = _;
    source = _;
    items = _;
    sorts = _;
    select_is = refl;
    core_is = refl;
    source_is = refl;
    shows = ((_, _, refl, refl), ((_, _, refl, refl), ((_, _, refl, refl), ((_, _, refl, refl), tt))));
    orders = ((refl, refl, refl), tt);
  },
)
text_is LocalRules = (
  refl,
  record {
    select = _;
    statement = refl;
    core = _;
    source = _;
    items = _;
    sorts = _;
    select_is = refl;
    core_is = refl;
    source_is = refl;
    shows = ((_, _, refl, refl), ((_, _, refl, refl), ((_, _, refl, refl), ((_, _, refl, refl), ((_, _, refl, refl), ((_, _, refl, refl), tt))))));
    orders = ((refl, refl, refl), tt);
  },
)
