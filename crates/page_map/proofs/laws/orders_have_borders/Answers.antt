use Rattle.page_map.specs.laws.Borders.{border_from_order, range_places}
use Rattle.page_map.proofs.laws.orders_have_borders.Goals as goal

pub returns-clause-tests : goal.returns-clause-tests
returns-clause-tests g c = border_from_order

pub returns-clause-keys : goal.returns-clause-keys
returns-clause-keys g c = range_places
