use Rattle.region_core.proofs.Fetched.{compared_by}
use Rattle.region_core.proofs.Insides.{view_of}
use Rattle.region_core.proofs.region.Region.spell.Goals as goal

pub returns : goal.returns
returns c =
    compared_by (view_of c.self.inside) c.args.self.now c.args.bytes.now c.as_slice.result.now c.in_ok-again.again.items c.as_slice-2.result.now c.in_ok-kept.kept.items c.in-Ok.read c.args.batch.now
    c.eq.result c.self.invariant.lawful c.self.view_is c.in-Ok.ensures.fits c.requires c.in-Ok.ensures.spelled c.in-Ok.ensures.only
    c.as_slice.ensures.value c.in_ok-again.ensures.ok c.as_slice-2.ensures.value c.in_ok-kept.ensures.ok c.eq.ensures
