use Rattle.sql_exec.specs.laws.KeptRows.{deletes_are_there}
use Rattle.sql_exec.proofs.laws.deleted_rows_are_there.Goals as goal

pub returns : goal.returns
returns c = record { there = deletes_are_there }
