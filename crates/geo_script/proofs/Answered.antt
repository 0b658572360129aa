-- What an answer says of the text.
use Rattle.std.proofs.Common.{◌≡◌, ◌⊎◌, inl, inr, ℕ, List, Result, Ok, Err, refl}
use Rattle.std.specs.Result.{IfOk, IfErr, MatchResult}
use Rattle.geo_script.specs.declared.fault.ScriptRefusal.{ScriptRefusal}
use Rattle.geo_script.specs.declared.fault.ScriptRefusal.TheVariants as refusal
use Rattle.geo_script.specs.declared.fault.ScriptFault.{ScriptFault}
use Rattle.geo_script.specs.declared.script.Form.{Form}
use Rattle.geo_script.specs.declared.script.Script.{Script}
use Rattle.geo_script.specs.inner.Answers.{Answers}
use Rattle.geo_script.specs.Faults.{IsFault, IsRefusal}
use Rattle.geo_script.specs.inner.Scripts.{script_of}
use Rattle.geo_script.specs.Spelling.{IsScriptText}
use Rattle.geo_script.proofs.FirstBad.{fault_is, fault_read}
use Rattle.geo_script.proofs.ScriptLines.{script_is, script_read}

module _ (form : Form) (bytes : List ℕ) where
  pub spelled : (r : Result Script ScriptRefusal) → Answers (λ script. script) r (script_of form bytes) → IfOk r (λ script. IsScriptText form bytes script)
  spelled (Ok script) is = script_is form bytes script is
  spelled (Err e) is = tt

  pub only : (r : Result Script ScriptRefusal) → Answers (λ script. script) r (script_of form bytes) → (script : Script) → IsScriptText form bytes script →
      MatchResult r (λ found. found ≡ script) (λ e. e ≡ refusal.NoMemory)
  only (Ok found) is script text = cc (script_read form bytes script text)
  only (Err refusal.NoMemory) is script text = refl
  only (Err (refusal.Script fault)) is script text = cc (script_read form bytes script text)

  pub faulty : (r : Result Script ScriptRefusal) → Answers (λ script. script) r (script_of form bytes) → IfErr r (λ e. IsRefusal form bytes e)
  faulty (Ok found) is = tt
  faulty (Err refusal.NoMemory) is = tt
  faulty (Err (refusal.Script fault)) is = fault_is form bytes fault is

  pub only_faults : (r : Result Script ScriptRefusal) → Answers (λ script. script) r (script_of form bytes) → (fault : ScriptFault) → IsFault form bytes fault →
      MatchResult r (λ found. ⊥) (λ e. (e ≡ refusal.NoMemory) ⊎ (e ≡ refusal.Script fault))
  only_faults (Ok found) is fault faulty = let there : script_of form bytes ≡ Err fault = fault_read form bytes fault faulty in cc
  only_faults (Err refusal.NoMemory) is fault faulty = inl refl
  only_faults (Err (refusal.Script other)) is fault faulty = let there : script_of form bytes ≡ Err fault = fault_read form bytes fault faulty in inr cc
