-- How a play's meaning is put together from what reading, playing and the last flush say.
use Rattle.std.proofs.Common.{◌≡◌, ℕ, ◌+◌, ◌≤◌, List, [], refl, ap, ◌∙◌, append-nil, arith, Option, None, Some, Result, Ok, Err, IfOk, ◌⊎◌, inl, inr}
use Rattle.std.specs.Io.KnownBytes.{Keeps, append_known}
use Rattle.std.proofs.KnownBytes.{Appends-kept, Consumes-nil, Keeps-refl, Keeps-trans}
use Rattle.geo_base.specs.declared.limits.TheConstants.{SCRIPT_BYTES}
use Rattle.geo_io.specs.Causes.{Rose}
use Rattle.geo_io.specs.Told.{LosesAtMost}
use Rattle.world_script.specs.declared.script.Script.{Script}
use Rattle.world_script.specs.Script.{IsScript}
use Rattle.geogauss.specs.declared.status.Status.{Status}
use Rattle.geogauss.specs.declared.status.Status.TheVariants.{Done, Usage, ScriptFault, ReadFault, WriteFault, NoMemory}
use Rattle.geogauss.specs.Status.{IsScriptFault}
use Rattle.geogauss.specs.Playing.{StoppedAfter, world_of}
use Rattle.geogauss.specs.Meaning.{Outside, Gives, GivesNone, Says, IsPlayOf}
use Rattle.geogauss.specs.inner.Reading.{IsReadWhole, IsNotRead}
use Rattle.geogauss.specs.inner.Playing.{IsPlayed}
use Rattle.geogauss.specs.inner.Flushing.{unflushed_status}
use Rattle.geogauss.proofs.ReadLemmas.{PlaysAreIsolated, read-told, play-isolated}
use Rattle.geogauss.proofs.PlayLemmas.{StoppedAfter-all, StoppedAfter-kept, StoppedAfter-none}

-- ---- what follows from what the status says

module _ (last : ℕ) (before after : Outside) where
  says-complete : (status : Status) → Says last before after status → (script : Script) → Gives before script
      → ¬ (Rose before.read_faults after.read_faults) → ¬ (Rose before.write_faults after.write_faults)
      → (status ≡ Done) ⊎ (status ≡ NoMemory)
  says-complete Done says script gives source sink = inl refl
  says-complete Usage says script gives source sink = absurd says
  says-complete (ScriptFault line kind) says script gives source sink = absurd (says.unscripted script gives)
  says-complete ReadFault says script gives source sink = absurd (source says.cause)
  says-complete WriteFault says script gives source sink = absurd (sink says.cause)
  says-complete NoMemory says script gives source sink = inr refl

  says-no-script : (status : Status) → Says last before after status → GivesNone before
      → IsScriptFault status ⊎ ((status ≡ ReadFault) ⊎ (status ≡ NoMemory))
  says-no-script Done says none = absurd (none.none _ (says.read none.input none.told).spelled)
  says-no-script Usage says none = absurd says
  says-no-script (ScriptFault line kind) says none = inl tt
  says-no-script ReadFault says none = inr (inl refl)
  says-no-script WriteFault says none = absurd (none.none _ (says.read none.input none.told).spelled)
  says-no-script NoMemory says none = inr (inr refl)

  pub meant : (status : Status) → Says last before after status → LosesAtMost (SCRIPT_BYTES + 1) before.left after.left
      → before.read_faults ≤ after.read_faults → before.write_faults ≤ after.write_faults → after.logs ≡ before.logs
      → IsPlayOf last before after status
  meant status says taken reads writes logs = record {
    says = says;
    taken = taken;
    reads = reads;
    writes = writes;
    logs = logs;
    complete = says-complete status says;
    no_script = says-no-script status says;
  }

  -- ---- a script was read, and then played

  pub played : PlaysAreIsolated → (status : Status) (found : Script) → IsReadWhole found before.left after.left
      → ((input : List ℕ) (script : Script) → before.left ≡ Some input → IsScript script input → found ≡ script)
      → IsPlayed last found before.written after.written before.write_faults after.write_faults status
      → Says last before after status
  played law Done found whole only told = record {
    read = λ input given. record { end = whole.end input given; script = found; spelled = read-told found _ _ input whole given };
    text = λ script gives. rw (← only gives.input script gives.told gives.spelled) told;
    isolated = λ script gives. play-isolated law last script gives.input gives.spelled;
  }
  played law Usage found whole only told = absurd told
  played law (ScriptFault line kind) found whole only told = absurd told
  played law ReadFault found whole only told = absurd told
  played law WriteFault found whole only told = record {
    cause = told.0;
    read = λ input given. record { end = whole.end input given; script = found; spelled = read-told found _ _ input whole given };
    stopped = λ script gives. rw (← only gives.input script gives.told gives.spelled) told.1;
  }
  played law NoMemory found whole only told = record {
    stopped = λ script gives. rw (← only gives.input script gives.told gives.spelled) told;
    nothing = λ none. absurd (none.none found (read-told found _ _ none.input whole none.told));
  }

  -- ---- no script was read, and nothing was written

  pub unread : (status : Status) → IsNotRead before.left after.left before.read_faults after.read_faults status
      → Keeps before.written after.written
      → ((script : Script) → StoppedAfter (world_of last script) script.events before.written after.written)
      → Says last before after status
  unread Done told kept none = absurd told
  unread Usage told kept none = absurd told
  unread (ScriptFault line kind) told kept none = record {
    fault = told.fault;
    unscripted = λ script gives. told.unscripted gives.input script gives.told gives.spelled;
    taken = told.taken;
    nothing = kept;
  }
  unread ReadFault told kept none = record { cause = told; nothing = kept }
  unread WriteFault told kept none = absurd told
  unread NoMemory told kept none = record { stopped = λ script gives. none script; nothing = λ given. kept }

-- ---- there was no memory to begin

pub never-begun : (last : ℕ) (before after : Outside) (status : Status) → status ≡ NoMemory → after.left ≡ before.left
    → after.read_faults ≡ before.read_faults → after.written ≡ before.written → after.write_faults ≡ before.write_faults
    → after.logs ≡ before.logs → IsPlayOf last before after status
never-begun last before after status short left reads written writes logs = rw short (
    meant last before after NoMemory
    (record { stopped = λ script gives. rw written (StoppedAfter-none _ _ _); nothing = λ none. rw written (Keeps-refl before.written) })
    (rw left (record { taken = []; few = omega arith; consumed = Consumes-nil before.left }))
    (omega (arith, reads)) (omega (arith, writes)) logs)

-- ---- what was held back was handed on, or could not be

module _ (last : ℕ) (before middle after : Outside) (left : after.left ≡ middle.left) (reads : after.read_faults ≡ middle.read_faults)
    (writes : middle.write_faults ≤ after.write_faults) (kept : Keeps middle.written after.written) (logs : after.logs ≡ middle.logs) where
  rose : Rose before.write_faults middle.write_faults → Rose before.write_faults after.write_faults
  rose cause = omega (arith, cause, writes)

  pub says-flushed : (status : Status) → Says last before middle status → Says last before after status
  says-flushed Done says = record {
    read = λ input given. let was = says.read input given in record { end = left ∙ was.end; script = was.script; spelled = was.spelled };
    text = λ script gives. Appends-kept _ _ _ _ (says.text script gives) kept;
    isolated = says.isolated;
  }
  says-flushed Usage says = absurd says
  says-flushed (ScriptFault line kind) says = record {
    fault = says.fault;
    unscripted = says.unscripted;
    taken = λ input given. rw left (says.taken input given);
    nothing = Keeps-trans _ _ _ says.nothing kept;
  }
  says-flushed ReadFault says = record { cause = rw reads says.cause; nothing = Keeps-trans _ _ _ says.nothing kept }
  says-flushed WriteFault says = record {
    cause = rose says.cause;
    read = λ input given. let was = says.read input given in record { end = left ∙ was.end; script = was.script; spelled = was.spelled };
    stopped = λ script gives. StoppedAfter-kept _ _ _ _ _ (says.stopped script gives) kept;
  }
  says-flushed NoMemory says = record {
    stopped = λ script gives. StoppedAfter-kept _ _ _ _ _ (says.stopped script gives) kept;
    nothing = λ none. Keeps-trans _ _ _ (says.nothing none) kept;
  }

  says-unflushed : Rose middle.write_faults after.write_faults → before.write_faults ≤ middle.write_faults → (status : Status)
      → Says last before middle status → Says last before after (unflushed_status status)
  says-unflushed cause later Done says = record {
    cause = omega (arith, cause, later);
    read = λ input given. let was = says.read input given in record { end = left ∙ was.end; script = was.script; spelled = was.spelled };
    stopped = λ script gives. StoppedAfter-all (world_of last script) script.events _ _ (Appends-kept _ _ _ _ (says.text script gives) kept);
  }
  says-unflushed cause later Usage says = absurd says
  says-unflushed cause later (ScriptFault line kind) says = says-flushed (ScriptFault line kind) says
  says-unflushed cause later ReadFault says = says-flushed ReadFault says
  says-unflushed cause later WriteFault says = says-flushed WriteFault says
  says-unflushed cause later NoMemory says = says-flushed NoMemory says

  pub play-flushed : (status : Status) → IsPlayOf last before middle status → IsPlayOf last before after status
  play-flushed status play = meant last before after status (says-flushed status play.says) (rw left play.taken)
      (rw reads play.reads) (omega (arith, play.writes, writes)) (logs ∙ play.logs)

  pub play-unflushed : Rose middle.write_faults after.write_faults → (status : Status) → IsPlayOf last before middle status
      → IsPlayOf last before after (unflushed_status status)
  play-unflushed cause status play = meant last before after (unflushed_status status) (says-unflushed cause play.writes status play.says)
      (rw left play.taken) (rw reads play.reads) (omega (arith, play.writes, writes)) (logs ∙ play.logs)

-- ---- the arguments of a process

pub carried : {X E : Type 0} {A B : X → Type 0} (args : Result X E) → IfOk args A → ((all : X) → A all → B all) → IfOk args B
carried (Ok all) is by = by all is
carried (Err fault) is by = tt

-- a buffer that holds nothing back
pub append_known-nil : (a : Option (List ℕ)) → append_known a [] ≡ a
append_known-nil None = refl
append_known-nil (Some xs) = ap Some (append-nil xs)
