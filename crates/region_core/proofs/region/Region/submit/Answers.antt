use Rattle.std.proofs.Common.{◌≡◌, None, rules}
use Rattle.region_core.specs.Refusals.{submit_refusal}
use Rattle.region_core.proofs.Insides.{view_of}
use Rattle.region_core.proofs.Submitted.{taken_in}
use Rattle.region_core.proofs.region.Region.submit.Goals as goal

pub invariant_of-self-3 : goal.invariant_of-self-3
invariant_of-self-3 c =
    let none : submit_refusal c.args.candidate c.args.self.now.standing ≡ None = first_of (search rules, cc) in
    taken_in c.self.inside.size c.bytes_of.result c.self.inside.inbox c.self.inside.index (view_of c.self.inside) c.args.self.now c.args.candidate
    c.make_room.new.items.items c.push.new.self.items c.push.result c.unwrap.result
    c.self.invariant c.self.view_is c.make_room.ensures.same c.push.ensures.items c.unwrap.ensures c.bytes_of.ensures.value (c.requires, c.see_candidate.ensures, none)
