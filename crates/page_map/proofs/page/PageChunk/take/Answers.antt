use Rattle.std.proofs.Common.{sym, ◌∙◌}
use Rattle.page_map.proofs.Pages.{page_found, page_none, page_remove, page_kept}
use Rattle.page_map.proofs.page.PageChunk.take.Goals as goal

pub returns-in-Ok-clause-old : goal.returns-in-Ok-clause-old
returns-in-Ok-clause-old g c =
    sym (page_found g.K.Ord.cmp c.args.key.now c.args.self.now.entries.items c.in-Ok.place c.remove-old.result c.in-Ok.ensures.found c.remove-old.ensures.value)

pub returns-in-Ok-clause-new : goal.returns-in-Ok-clause-new
returns-in-Ok-clause-new g c =
    c.remove-old.ensures.items
    ∙ page_remove g.K.Ord.cmp c.args.key.now c.args.self.now.entries.items c.in-Ok.place c.remove-old.result c.in-Ok.ensures.found c.remove-old.ensures.value

pub returns-in-Err-clause-old : goal.returns-in-Err-clause-old
returns-in-Err-clause-old g c =
    sym (page_none g.K.Ord.cmp c.args.key.now c.args.self.now.entries.items c.in-Err.field-0 c.in-Err.ensures.gap)

pub returns-in-Err-clause-new : goal.returns-in-Err-clause-new
returns-in-Err-clause-new g c = page_kept g.K.Ord.cmp c.args.key.now c.args.self.now.entries.items c.in-Err.field-0 c.in-Err.ensures.gap
