use Rattle.std.proofs.Common.{◌≡◌, ◌++◌, ◌∷◌, [], string_bytes}
use Rattle.geo_base.specs.laws.Texts.{utf8-after, doubled-more, doubled-last}
use Rattle.geo_base.proofs.printed.print_doubled.Goals as goal

pub loop-before-preserved : goal.loop-before-preserved
loop-before-preserved c = record {
  text = utf8-after 39 c.loop-before.rest.now (c.in-Some.before, c.in-Some.after) c.in-Some.ensures.cases c.loop-before.invariant.text;
  joined =
      let now : string_bytes c.push_str-in-Some.new.self ≡ (string_bytes c.loop-before.out ++ c.in-Some.before.now) ++ 39 ∷ 39 ∷ [] =
      rw (c.in_ok-push_str-2.ensures.bytes, c.in_ok-push_str.ensures.bytes)
      in doubled-more _ _ _ _ (c.in-Some.before, c.in-Some.after) c.in-Some.ensures.cases now c.loop-before.invariant.joined;
}

pub returns : goal.returns
returns c =
    rw c.in_ok-push_str-3.ensures.bytes
    (doubled-last c.loop-before.rest.now (string_bytes c.loop-before.out) _ (c.in_default.ensures.cases) c.loop-before.invariant.joined)
