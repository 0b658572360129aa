use Rattle.sql_exec.specs.laws.Duplicates.{answers_name_none, deletes_name_none, duplicate_named, duplicate_told, locks_name_none, updates_name_none}
use Rattle.sql_exec.proofs.laws.duplicates_are_of_the_table.Goals as goal

pub returns-clause-insert : goal.returns-clause-insert
returns-clause-insert c = duplicate_named c.bound_values_are_of_their_columns_types.ensures.inserted

pub returns-clause-update : goal.returns-clause-update
returns-clause-update c = updates_name_none

pub returns-clause-delete : goal.returns-clause-delete
returns-clause-delete c = deletes_name_none

pub returns-clause-lock : goal.returns-clause-lock
returns-clause-lock c = locks_name_none

pub returns-clause-answer : goal.returns-clause-answer
returns-clause-answer c = answers_name_none

pub returns-clause-told : goal.returns-clause-told
returns-clause-told c = duplicate_told
