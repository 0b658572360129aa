use Rattle.page_map.specs.laws.Borders.{border_of_key}
use Rattle.page_map.proofs.map.PageMap.place_of.Goals as goal

pub place_where-requires : goal.place_where-requires
place_where-requires g c = border_of_key g.K.Ord.cmp g.met.K.Ord.total c.args.key.now c.args.self.now c.rises.ensures
