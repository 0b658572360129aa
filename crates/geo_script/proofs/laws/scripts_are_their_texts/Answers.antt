use Rattle.geo_script.proofs.ScriptLines.{script_is, script_read}
use Rattle.geo_script.proofs.laws.scripts_are_their_texts.Goals as goal

pub returns : goal.returns
returns c = λ form bytes script. (script_is form bytes script, script_read form bytes script)
