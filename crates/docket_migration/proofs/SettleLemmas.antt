-- What the end of the transaction leaves.
use Rattle.std.proofs.Common.{◌≡◌, ◌≤◌, Err, inl, true, subst, arith}
use Rattle.sqlite.specs.Tree.{Trees}
use Rattle.sqlite.specs.State.{State, Survives}
use Rattle.sqlite.specs.Held.{Held, state}
use Rattle.sqlite.specs.Store.{Ghosts}
use Rattle.sqlite.specs.View.{doubt}
use Rattle.docket_columns.specs.declared.version.Version.TheVariants.{First}
use Rattle.docket_tables.specs.Layouts.{Rows}
use Rattle.docket_tables.specs.Stands.{HoldsRowsIn, MakesNothing}
use Rattle.docket_tables.specs.declared.fault.StoreFault.{StoreFault}
use Rattle.docket_tables.specs.declared.fault.StoreFault.TheVariants.{NoMemory, StoreFailed}
use Rattle.docket_migration.specs.Changing.{Changes}

-- a disk that is clean at the end was so at the start
pub left_clean : (start begun last end : State) (P : Trees → Type 0) → begun ≡ record start { in_transaction = true } → Survives begun last (λ _. ⊥) → Survives last end P
    → doubt start.is_clean ≤ doubt end.is_clean
left_clean start begun last end P begins inside after =
    let early : Survives (record start { in_transaction = true }) last (λ _. ⊥) = subst (λ s. Survives s last (λ _. ⊥)) begins inside in
    omega (arith, early.clean, after.clean)

-- a transaction that left nothing changed nothing, whatever the fault is called
pub nothing_changed : {S : Type 0} (g : Ghosts S) (old new : Held S) (rows next : Rows) (fault : StoreFault) → HoldsRowsIn g First old rows → doubt (state g old).is_clean ≤ doubt (state g new).is_clean
    → MakesNothing g old new → Changes g old new rows next (Err fault)
nothing_changed g old new rows next NoMemory was since it = it
nothing_changed g old new rows next StoreFailed was since it = (it.0, λ clean db may. inl ((was.1 (omega (arith, since, clean))).images db (it.1 clean db may)))
