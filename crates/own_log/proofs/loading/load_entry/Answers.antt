use Rattle.std.proofs.Common.{sym, subst, get_or, []}
use Rattle.std.specs.Prelude.{IfSome}
use Rattle.geo_io.specs.Told.{list_of}
use Rattle.own_log.specs.declared.fault.LoadFault.{LoadFault}
use Rattle.own_log.specs.inner.Faults.{NamesEntry, NamesNoWant}
use Rattle.own_log.proofs.Loaded.{names_told, blamed_no_want}
use Rattle.own_log.proofs.loading.load_entry.Goals as goal

pub returns-clause-fault : goal.returns-clause-fault
returns-clause-fault g c =
    let found = rw c.deref.ensures.value at c.in-Err.ensures.fault in
    subst (λ (e : LoadFault). IfSome (g.L.Keepers.lists c.args.logs.now) (λ all. NamesEntry c.args.schema.now c.args.regions c.args.region c.args.place (get_or (list_of all c.args.region) c.args.place []) e)) (sym c.blamed.ensures)
    (names_told c.args.schema.now c.args.regions c.args.region (g.L.Keepers.lists c.args.logs.now) c.args.place c.in_ok-bytes.bytes.items c.in-Err.fault c.in_ok-bytes.ensures.bytes found)

pub returns-clause-no_want : goal.returns-clause-no_want
returns-clause-no_want g c = subst NamesNoWant (sym c.blamed.ensures) (blamed_no_want _ c.in-Err.fault)
