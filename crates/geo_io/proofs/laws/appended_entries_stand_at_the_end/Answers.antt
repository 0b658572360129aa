use Rattle.geo_io.specs.laws.Told.{entry_at_end}
use Rattle.geo_io.proofs.laws.appended_entries_stand_at_the_end.Goals as goal

pub returns : goal.returns
returns c = entry_at_end
