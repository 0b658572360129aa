-- What sources, sinks and keepers in memory hold.
use Rattle.std.specs.Prelude.{ℕ, ◌-◌, ◌++◌, ◌==◌, Bool, true, false, List, [], length, replicate, find, Option, Result, Ok, Err, if◌then◌else◌}
use Rattle.geo_io.specs.Causes.{raised}
use Rattle.geo_io.specs.Told.{Lists}
use Rattle.geo_io.specs.declared.limits.TheConstants.{MAX_WIDTH}
use Rattle.geo_io.specs.declared.fail_plan.Fail.{Fail}
use Rattle.geo_io.specs.declared.fault.IoFault.{IoFault}
use Rattle.geo_io.specs.declared.fault.IoFault.TheVariants.{Failed, NoMemory}

-- bytes that are given out from the front, at most so many at once
pub record Feed : Type 0 where
  pub left : List ℕ
  pub piece : ℕ

-- which calls fail, the number of the next call, and how many have failed; of sources and sinks the fails are numbers
pub record Plan (F : Type 0) : Type 0 where
  pub fails : List F
  pub next : ℕ
  pub faults : ℕ

-- a plan of which no call was made yet
abbrev pub new_plan : {F : Type 0} → List F → Plan F
new_plan fails = record { fails = fails; next = 0; faults = 0 }

-- the plan after a call that failed or didn't
abbrev pub plan_after : {F : Type 0} → Bool → Plan F → Plan F
plan_after failed plan = record { fails = plan.fails; next = raised plan.next; faults = if failed then raised plan.faults else plan.faults }

-- a feed some of whose reads fail
pub record FailingFeed : Type 0 where
  pub feed : Feed
  pub plan : Plan ℕ

-- bytes that were written, where some of the writes fail
pub record FailingPage : Type 0 where
  pub written : List ℕ
  pub plan : Plan ℕ

-- lists of entries, where some of the calls fail
pub record FailingLists : Type 0 where
  pub lists : Lists
  pub plan : Plan Fail

-- how the next call fails, where it does: the first of the fails with its number
abbrev pub next_fail : Plan Fail → Option Fail
next_fail plan = find (λ fail. fail.call == plan.next) plan.fails

-- these lists, and an empty one for each of the eight regions that has none
abbrev pub eight_lists : Lists → Lists
eight_lists given = given ++ replicate (MAX_WIDTH - length given) []

-- the answer is the fault of the object itself, and not want of memory
abbrev pub is_failed : {T : Type 0} → Result T IoFault → Bool
is_failed (Ok x) = false
is_failed (Err Failed) = true
is_failed (Err NoMemory) = false
