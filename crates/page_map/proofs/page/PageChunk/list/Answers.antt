use Rattle.std.proofs.Common.{◌≡◌, ◌++◌, map, take, drop, OnOk, ap, sym, ◌∙◌, subst}
use Rattle.std.proofs.lemmas.List.{take_all}
use Rattle.page_map.proofs.page.PageChunk.list.Goals as goal

pub returns-then-count-behind : goal.returns-then-count-behind
returns-then-count-behind g c =
    subst (λ l. OnOk c.add_pairs.result (map (λ pair. (pair.0.now, pair.1.now)) c.add_pairs.new.found.items ≡ map (λ pair. (pair.0.now, pair.1.now)) c.args.found.now.items ++ l))
    (c.split_at-then-count-behind.ensures.front ∙ ap (take c.args.count) (c.split_at.ensures.back ∙ ap (drop c.args.place) c.as_slice.ensures.value)) c.add_pairs.ensures

pub returns : goal.returns
returns g c =
    subst (λ l. OnOk c.add_pairs-2.result (map (λ pair. (pair.0.now, pair.1.now)) c.add_pairs-2.new.found.items ≡ map (λ pair. (pair.0.now, pair.1.now)) c.args.found.now.items ++ l))
    (sym (take_all c.args.count c.split_at.result.1.now c.if-count-behind.false) ∙ ap (take c.args.count) (c.split_at.ensures.back ∙ ap (drop c.args.place) c.as_slice.ensures.value)) c.add_pairs-2.ensures
