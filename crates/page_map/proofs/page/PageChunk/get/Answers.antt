use Rattle.std.proofs.Common.{sym}
use Rattle.page_map.proofs.Pages.{page_found, page_none}
use Rattle.page_map.proofs.page.PageChunk.get.Goals as goal

pub returns-in-Ok : goal.returns-in-Ok
returns-in-Ok g c =
    sym (page_found g.K.Ord.cmp c.args.key.now c.args.self.now.entries.items c.in-Ok.place c.index.result.now c.in-Ok.ensures.found c.index.ensures)

pub returns-in-Err : goal.returns-in-Err
returns-in-Err g c =
    sym (page_none g.K.Ord.cmp c.args.key.now c.args.self.now.entries.items c.in-Err.field-0 c.in-Err.ensures.gap)
