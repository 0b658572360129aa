-- Inner: what the calls that read parts of a script answer, over the chain by which they read.
use Rattle.std.specs.Prelude.{◌≡◌, ℕ, ◌+◌, List, length, Result, Ok, Err}
use Rattle.geo_script.specs.declared.fault.ScriptRefusal.{ScriptRefusal}
use Rattle.geo_script.specs.declared.fault.ScriptRefusal.TheVariants as refusal
use Rattle.geo_script.specs.declared.reading.lines.Rest.{Rest}
use Rattle.geo_script.specs.Lines.{lines_of, spoken_from}
use Rattle.geo_script.specs.inner.Scripts.{Checked}

-- the call answered the part of a script that there is, or its fault, or found no memory
abbrev pub Answers : {A B : Type 0} → (A → B) → Result A ScriptRefusal → Checked B → Type 0
Answers view (Ok x) part = part ≡ Ok (view x)
Answers view (Err refusal.NoMemory) part = Unit {0}
Answers view (Err (refusal.Script fault)) part = part ≡ Err fault

-- the lines of the rest that say something
abbrev pub spoken : Rest → List (ℕ × List ℕ)
spoken rest = spoken_from rest.number (lines_of rest.bytes.now)

-- the number of the line after the last
abbrev pub number_after : Rest → ℕ
number_after rest = rest.number + length (lines_of rest.bytes.now)
