use Rattle.version_store.specs.laws.Listing.{listed_is_read, listed_rises, same_tables, table_is_snapshot}
use Rattle.version_store.proofs.laws.tables_are_snapshots.Goals as goal

pub returns-clause-rises : goal.returns-clause-rises
returns-clause-rises c kept epoch lawful = listed_rises epoch kept.rows lawful.rising

pub returns-clause-read : goal.returns-clause-read
returns-clause-read c kept epoch row lawful = listed_is_read epoch kept.rows row lawful.rising

pub returns-clause-snapshot : goal.returns-clause-snapshot
returns-clause-snapshot c = table_is_snapshot

pub returns-clause-same : goal.returns-clause-same
returns-clause-same c = same_tables
