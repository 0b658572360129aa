use Rattle.sql_exec.specs.laws.OwnFaults.{answer_own, delete_own, insert_own, lock_own, refused_apart, update_own}
use Rattle.sql_exec.proofs.laws.faults_are_of_statements.Goals as goal

pub returns-clause-insert : goal.returns-clause-insert
returns-clause-insert c = insert_own c.want_of_memory_is_no_fault.ensures.never

pub returns-clause-update : goal.returns-clause-update
returns-clause-update c = update_own c.want_of_memory_is_no_fault.ensures.never

pub returns-clause-delete : goal.returns-clause-delete
returns-clause-delete c = delete_own c.want_of_memory_is_no_fault.ensures.never

pub returns-clause-lock : goal.returns-clause-lock
returns-clause-lock c = lock_own c.want_of_memory_is_no_fault.ensures.never

pub returns-clause-answer : goal.returns-clause-answer
returns-clause-answer c = answer_own c.want_of_memory_is_no_fault.ensures.never

pub returns-clause-refused : goal.returns-clause-refused
returns-clause-refused c = refused_apart
