use Rattle.sql_bind.proofs.Refusals.{never_no_memory}
use Rattle.sql_bind.proofs.laws.want_of_memory_is_no_refusal.Goals as goal

pub returns : goal.returns
returns c = record { never = never_no_memory }
