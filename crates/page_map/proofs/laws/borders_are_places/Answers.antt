use Rattle.page_map.specs.laws.Borders.{before_is_front, from_is_rest, between_places}
use Rattle.page_map.proofs.laws.borders_are_places.Goals as goal

pub returns-clause-before : goal.returns-clause-before
returns-clause-before g c = before_is_front

pub returns-clause-rest : goal.returns-clause-rest
returns-clause-rest g c = from_is_rest

pub returns-clause-between : goal.returns-clause-between
returns-clause-between g c = between_places
