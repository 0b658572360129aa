use Rattle.sql_bind.proofs.Sound.{is_sound}
use Rattle.sql_bind.proofs.laws.bound_statements_are_sound.Goals as goal

pub returns : goal.returns
returns c = record { sound = is_sound }
