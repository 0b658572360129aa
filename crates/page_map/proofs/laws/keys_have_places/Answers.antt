use Rattle.page_map.specs.laws.Places.{place_at, found_stands}
use Rattle.page_map.proofs.laws.keys_have_places.Goals as goal

pub returns-clause-place : goal.returns-clause-place
returns-clause-place g c = place_at

pub returns-clause-found : goal.returns-clause-found
returns-clause-found g c = found_stands
