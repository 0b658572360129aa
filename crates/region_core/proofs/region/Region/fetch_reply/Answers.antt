use Rattle.region_core.proofs.Fetched.{entry_there, kept_fits, other_bytes}
use Rattle.region_core.proofs.Insides.{view_of}
use Rattle.region_core.proofs.region.Region.fetch_reply.Goals as goal

pub entry-requires-clause-last : goal.entry-requires-clause-last
entry-requires-clause-last g c =
    entry_there (view_of c.self.inside) c.args.self.now c.self.invariant.lawful c.self.view_is c.if-not-self.false (g.L.Keepers.lists c.args.logs.now) c.args.epoch c.requires.keepers
    c.logged.result c.logged.ensures c.is_none.result c.is_none.ensures c.if-is_none.false

pub spell-requires : goal.spell-requires
spell-requires g c =
    kept_fits (view_of c.self.inside) c.args.self.now c.self.invariant.lawful c.self.view_is c.if-not-self.false (g.L.Keepers.lists c.args.logs.now) c.args.epoch c.requires.keepers
    c.logged-2.result c.logged-2.ensures c.unwrap-kept.result c.unwrap-kept.ensures

pub returns-else-branch-clause-refused : goal.returns-else-branch-clause-refused
returns-else-branch-clause-refused g c =
    other_bytes (view_of c.self.inside) c.args.self.now c.self.invariant.lawful c.self.view_is c.if-not-self.false (g.L.Keepers.lists c.args.logs.now) c.args.epoch c.requires.keepers
    c.logged-2.result c.logged-2.ensures c.unwrap-kept.result c.unwrap-kept.ensures
    c.as_slice.result.now c.in-Ok.bytes.items c.in_ok-spell.field-0 c.as_slice.ensures.value c.in_ok-spell.ensures c.if-branch.false c.in-Ok.ensures.bytes
