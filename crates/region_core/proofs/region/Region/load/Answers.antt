use Rattle.std.proofs.Common.{ℕ, IfOk, IfSome, IsErrOf, ◌⊎◌, ap, subst, arith}
use Rattle.geo_base.specs.Results.{Refuses}
use Rattle.geo_io.specs.Told.{list_of}
use Rattle.own_log.specs.declared.fault.EntryFault.{EntryFault}
use Rattle.own_log.specs.declared.fault.LoadFault.TheVariants as load
use Rattle.own_log.specs.Logs.{IsLogFault, IsBadLog, AreOfLog, SpellsLog}
use Rattle.region_core.specs.Region.{RegionValue}
use Rattle.region_core.proofs.region.Region.load.Goals as goal

pub load_log-requires-clause-regions : goal.load_log-requires-clause-regions
load_log-requires-clause-regions g c = c.self.invariant.lawful.stands.few

pub load_log-requires-clause-width : goal.load_log-requires-clause-width
load_log-requires-clause-width g c = omega (arith, c.requires, ap (λ (r : RegionValue). r.standing.number) c.self.view_is)

pub returns-clause-of_log : goal.returns-clause-of_log
returns-clause-of_log g c =
    subst (λ (r : RegionValue). IfOk c.load_log.result (λ batches. AreOfLog r.standing.tables r.standing.regions r.standing.number batches.items)) c.self.view_is c.load_log.ensures.of_log

pub returns-clause-spelled : goal.returns-clause-spelled
returns-clause-spelled g c =
    subst
    (λ (r : RegionValue).
    IfOk c.load_log.result (λ batches. IfSome (g.L.Keepers.lists c.args.logs.now) (λ all. SpellsLog r.standing.tables r.standing.regions r.standing.number (list_of all r.standing.number) batches.items)))
    c.self.view_is c.load_log.ensures.spelled

pub returns-clause-bad : goal.returns-clause-bad
returns-clause-bad g c =
    subst
    (λ (r : RegionValue).
    (entry : ℕ) (fault : EntryFault) → IsErrOf c.load_log.result (load.BadLog entry fault) →
    IfSome (g.L.Keepers.lists c.args.logs.now) (λ all. IsLogFault r.standing.tables r.standing.regions r.standing.number (list_of all r.standing.number) entry fault))
    c.self.view_is c.load_log.ensures.bad

pub returns-clause-refused : goal.returns-clause-refused
returns-clause-refused g c =
    subst
    (λ (r : RegionValue).
    IfSome (g.L.Keepers.lists c.args.logs.now) (λ all. IsErrOf c.load_log.result load.LogFault
    ⊎ Refuses load.NoMemory c.load_log.result (IsBadLog r.standing.tables r.standing.regions r.standing.number (list_of all r.standing.number))))
    c.self.view_is c.load_log.ensures.refused
