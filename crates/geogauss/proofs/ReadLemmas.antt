-- What was read of a source, and the script that it spells.
use Rattle.std.proofs.Common.{◌≡◌, ℕ, ◌+◌, ◌<◌, ◌≤◌, List, [], ◌∷◌, ◌++◌, length, get_or, take, zero, suc, refl, ap, sym, ◌∙◌, subst, append-nil, take_all, arith, Option, Some, None, inl, inr}
use Rattle.std.specs.Prelude.{All}
use Rattle.std.proofs.Math.Nat.{eq-or-lt_of_le}
use Rattle.std.proofs.Math.Seq.{take-append_seam}
use Rattle.std.specs.Io.KnownBytes.{Consumes, IsAtEnd}
use Rattle.geo_base.specs.declared.limits.TheConstants.{SCRIPT_BYTES}
use Rattle.world_script.specs.declared.event.Event.{Event}
use Rattle.world_script.specs.declared.script.Script.{Script}
use Rattle.world_script.specs.declared.script.ScriptFault.{ScriptFault}
use Rattle.world_script.specs.declared.script.ReadFault.{ReadFault}
use Rattle.world_script.specs.declared.script.ReadFault.TheVariants as read
use Rattle.world_script.specs.Script.{IsScript, IsWithin, AreLinesOf}
use Rattle.world_script.specs.Fault.{IsFault}
use Rattle.write_set.specs.Isolation.{IsSnapshotIsolated}
use Rattle.geo_world.specs.Play.{world_after}
use Rattle.geo_world.specs.Plays.{LeadTo}
use Rattle.geo_world.specs.World.{World}
use Rattle.geogauss.specs.Playing.{bytes_read, world_of, play_journal}
use Rattle.geogauss.specs.inner.Reading.{IsPlayable, IsReadWhole, IsNoText}

-- bytes that were taken up to a limit are the first of the input
first-bytes : (limit : ℕ) (input bytes : List ℕ) (new : Option (List ℕ)) → Consumes (Some input) new bytes → length bytes ≤ limit + 1 →
    (length bytes ≤ limit → IsAtEnd new) → take (limit + 1) input ≡ bytes
first-bytes limit input bytes None taken few whole = absurd taken
first-bytes limit input bytes (Some rest) taken few whole =
    elim (eq-or-lt_of_le few) [
      | inl full ↦ rw (← full) (rw taken (take-append_seam bytes rest))
      | inr short ↦
          let all : input ≡ bytes = taken ∙ ap (λ r. bytes ++ r) (whole (omega arith)) ∙ append-nil bytes in
          rw all (take_all (limit + 1) bytes few)
    ]

pub bytes-are : (old new : Option (List ℕ)) (input bytes : List ℕ) → old ≡ Some input → Consumes old new bytes → length bytes ≤ SCRIPT_BYTES + 1 →
    (length bytes ≤ SCRIPT_BYTES → IsAtEnd new) → bytes_read input ≡ bytes
unfolding bytes_read
bytes-are old new input bytes told taken few whole = first-bytes SCRIPT_BYTES input bytes new (rw told at taken) few whole

-- a script is read whole
pub script-is : (input bytes : List ℕ) (script : Script) → bytes_read input ≡ bytes → IsScript script input → IsScript script bytes
unfolding bytes_read
script-is input bytes script e spelled =
    let all : bytes_read input ≡ input = take_all (SCRIPT_BYTES + 1) input (omega (arith, spelled.short)) in
    subst (IsScript script) (sym all ∙ e) spelled

-- a script that was read whole is that of all the input
pub read-told : (script : Script) (old new : Option (List ℕ)) (input : List ℕ) → IsReadWhole script old new → old ≡ Some input → IsScript script input
read-told script old new input read told =
    let taken : Consumes (Some input) (Some []) read.bytes = rw told at (rw (read.end input told) at read.taken) in
    let all : input ≡ read.bytes = taken ∙ append-nil read.bytes in
    rw all read.spelled

-- the events of a script are of its regions
events-within : (regions : ℕ) (events : List Event) (lines : List (List ℕ)) → AreLinesOf regions events lines → All (IsWithin regions) events
events-within regions [] lines typed k d within = absurd (omega arith)
events-within regions (event ∷ events) [] typed k d within = absurd typed
events-within regions (event ∷ events) (line ∷ lines) typed zero d within = typed.1
events-within regions (event ∷ events) (line ∷ lines) typed (suc k) d within =
    events-within regions events lines typed.2 k d (omega arith)

pub script-playable : (script : Script) (bytes : List ℕ) → IsScript script bytes → IsPlayable script
script-playable script bytes spelled = record {
  some = spelled.some;
  few = spelled.few;
  within = events-within script.regions script.events spelled.lines spelled.typed;
}

-- what `plays_are_isolated` promises
abbrev pub PlaysAreIsolated : Type 0
PlaysAreIsolated = (regions last : ℕ) (events : List Event) (w : World) → LeadTo regions last events w → IsSnapshotIsolated w.journal

-- a script's play is a snapshot-isolated history
pub play-isolated : PlaysAreIsolated → (last : ℕ) (script : Script) (bytes : List ℕ) → IsScript script bytes → IsSnapshotIsolated (play_journal last script)
play-isolated law last script bytes spelled =
    law script.regions last script.events (world_after (world_of last script) script.events) leads
  where
    leads : LeadTo script.regions last script.events (world_after (world_of last script) script.events)
    leads = record { some = spelled.some; few = spelled.few; within = (script-playable script bytes spelled).within; after = refl }

-- bytes that were taken up to the limit and are no script
pub no-text : (old new : Option (List ℕ)) (bytes : List ℕ) (fault : ScriptFault) → Consumes old new bytes → length bytes ≤ SCRIPT_BYTES + 1
    → (length bytes ≤ SCRIPT_BYTES → IsAtEnd new) → IsFault bytes fault → ((script : Script) → ¬ (IsScript script bytes))
    → IsNoText fault.line fault.kind old new
no-text old new bytes fault taken few whole is none = record {
  fault = λ input told. rw (bytes-are old new input bytes told taken few whole) is;
  unscripted = λ input script told spelled. none script (script-is input bytes script (bytes-are old new input bytes told taken few whole) spelled);
  taken = λ input told. rw (bytes-are old new input bytes told taken few whole) taken;
}

-- a fault of the text is no want of memory
pub not-told : {fault : ScriptFault} (e : ReadFault) → e ≡ read.NoMemory → e ≡ read.Script fault → ⊥
not-told e none is = cc

-- a list of one item
pub one-item : {X : Type 0} (items : List X) (item : X) → length items < 2 → 1 ≤ length items → item ≡ get_or items 0 item → items ≡ item ∷ []
one-item [] item few some is = absurd (omega arith)
one-item (x ∷ []) item few some is = ap (λ y. y ∷ []) (sym is)
one-item (x ∷ y ∷ items) item few some is = absurd (omega arith)
