-- A text is that of one script or has one fault.
use Rattle.std.proofs.Common.{◌≡◌, ◌⊎◌, inl, inr, ℕ, List, Ok, Err, refl}
use Rattle.geo_script.specs.declared.fault.ScriptFault.{ScriptFault}
use Rattle.geo_script.specs.declared.script.Form.{Form}
use Rattle.geo_script.specs.declared.script.Script.{Script}
use Rattle.geo_script.specs.Faults.{IsFault}
use Rattle.geo_script.specs.Spelling.{IsScriptText}
use Rattle.geo_script.specs.inner.Scripts.{Checked, script_of}
use Rattle.geo_script.proofs.FirstBad.{fault_is, fault_read}
use Rattle.geo_script.proofs.ScriptLines.{script_is, script_read}

pub script_or_fault : (form : Form) (bytes : List ℕ) → ((script : Script) × IsScriptText form bytes script) ⊎ ((fault : ScriptFault) × IsFault form bytes fault)
script_or_fault form bytes = by (script_of form bytes) refl
  where
    by : (r : Checked Script) → script_of form bytes ≡ r → ((script : Script) × IsScriptText form bytes script) ⊎ ((fault : ScriptFault) × IsFault form bytes fault)
    by (Ok script) is = inl (script, script_is form bytes script is)
    by (Err fault) is = inr (fault, fault_is form bytes fault is)

pub never_both : (form : Form) (bytes : List ℕ) (script : Script) (fault : ScriptFault) → IsScriptText form bytes script → IsFault form bytes fault → ⊥
never_both form bytes script fault text faulty =
    let good : script_of form bytes ≡ Ok script = script_read form bytes script text in
    let bad : script_of form bytes ≡ Err fault = fault_read form bytes fault faulty in
    cc

pub one_script : (form : Form) (bytes : List ℕ) (a b : Script) → IsScriptText form bytes a → IsScriptText form bytes b → a ≡ b
one_script form bytes a b one other =
    let first : script_of form bytes ≡ Ok a = script_read form bytes a one in
    let second : script_of form bytes ≡ Ok b = script_read form bytes b other in
    cc

pub one_fault : (form : Form) (bytes : List ℕ) (a b : ScriptFault) → IsFault form bytes a → IsFault form bytes b → a ≡ b
one_fault form bytes a b one other =
    let first : script_of form bytes ≡ Err a = fault_read form bytes a one in
    let second : script_of form bytes ≡ Err b = fault_read form bytes b other in
    cc
