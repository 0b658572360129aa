use Rattle.std.proofs.Common.{rules, arith, ◌≡◌, ◌∷◌, ◌++◌, length, ◌≤◌, string_bytes}
use Rattle.geo_base.specs.laws.Texts.{commas-joined}
use Rattle.geo_base.proofs.printed.print_commas.Goals as goal

pub returns : goal.returns
returns g c =
    let whole : c.args.items.now ≡ c.in-Some.first.now ∷ c.in-Some.others.now = search rules in
    let first : string_bytes c.print_to.new.out ≡ string_bytes c.args.out.now ++ g.T.Printed.text c.in-Some.first.now = c.in_ok-print_to.ensures in
    let all : length c.in-Some.others.now ≤ c.loop-item.item-index = omega arith in
    commas-joined g.T.Printed.text _ _ _ _ _ c.loop-item.item-index whole all (rw first at c.loop-item.invariant)
