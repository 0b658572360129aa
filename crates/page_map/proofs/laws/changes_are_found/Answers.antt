use Rattle.page_map.specs.laws.Finding.{put_found, put_elsewhere, taken_found, taken_elsewhere}
use Rattle.page_map.proofs.laws.changes_are_found.Goals as goal

pub returns-clause-put : goal.returns-clause-put
returns-clause-put g c = put_found

pub returns-clause-put_elsewhere : goal.returns-clause-put_elsewhere
returns-clause-put_elsewhere g c = put_elsewhere

pub returns-clause-taken : goal.returns-clause-taken
returns-clause-taken g c = taken_found

pub returns-clause-taken_elsewhere : goal.returns-clause-taken_elsewhere
returns-clause-taken_elsewhere g c = taken_elsewhere
