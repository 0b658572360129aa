use Rattle.std.proofs.Common.{Some, set, sym, ap, ◌∙◌}
use Rattle.page_map.proofs.Pages.{page_found, page_none, page_set, page_insert}
use Rattle.page_map.proofs.page.PageChunk.set.Goals as goal

pub returns-in-Ok-clause-old : goal.returns-in-Ok-clause-old
returns-in-Ok-clause-old g c =
    ap (λ q. Some q.1) c.replace-old.ensures.value
    ∙ sym (page_found g.K.Ord.cmp c.args.key c.args.self.now.entries.items c.in-Ok.place c.index_mut.result.now c.in-Ok.ensures.found c.index_mut.ensures.value)

pub returns-in-Ok-clause-new : goal.returns-in-Ok-clause-new
returns-in-Ok-clause-new g c =
    ap (λ q. set c.args.self.now.entries.items c.in-Ok.place q) c.replace-old.ensures.after
    ∙ page_set g.K.Ord.cmp c.args.key c.args.self.now.entries.items c.in-Ok.place c.args.value c.index_mut.result.now c.in-Ok.ensures.found c.index_mut.ensures.value

pub returns-in_ok-insert-in-Err-clause-old : goal.returns-in_ok-insert-in-Err-clause-old
returns-in_ok-insert-in-Err-clause-old g c =
    sym (page_none g.K.Ord.cmp c.args.key c.args.self.now.entries.items c.in-Err.place c.in-Err.ensures.gap)

pub returns-in_ok-insert-in-Err-clause-new : goal.returns-in_ok-insert-in-Err-clause-new
returns-in_ok-insert-in-Err-clause-new g c =
    c.in_ok-insert-in-Err.ensures.items
    ∙ page_insert g.K.Ord.cmp c.args.key c.args.self.now.entries.items c.in-Err.place c.args.value c.in-Err.ensures.gap
