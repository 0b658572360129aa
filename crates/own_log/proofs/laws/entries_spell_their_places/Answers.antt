use Rattle.own_log.specs.laws.Logs.{spelled_by_place}
use Rattle.own_log.proofs.laws.entries_spell_their_places.Goals as goal

pub returns : goal.returns
returns c = spelled_by_place
