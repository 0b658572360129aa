use Rattle.sql_lex.specs.laws.Cuts.{fault_stops, stops_there, stop_is_fault}
use Rattle.sql_lex.proofs.laws.faults_are_where_no_token_begins.Goals as goal

pub returns-clause-place : goal.returns-clause-place
returns-clause-place c = λ text at. (stops_there text at, stop_is_fault text at)

pub returns-clause-alone : goal.returns-clause-alone
returns-clause-alone c = λ text fault e. let stops = fault_stops text fault e in (stops.0, stops.1)
