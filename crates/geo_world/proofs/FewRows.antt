-- Each candidate of a play changes one row, and there are no more candidates than sessions.
use Rattle.std.proofs.Common.{◌≡◌, ℕ, ◌+◌, ◌*◌, ◌<◌, ◌≤◌, List, [], ◌∷◌, ◌++◌, length, All, sum_by, sym, subst, ⊎_elim, arith, le_trans}
use Rattle.std.proofs.lemmas.Bool.{cases_eq}
use Rattle.std.proofs.lemmas.List.{get_or_default}
use Rattle.std.proofs.lemmas.List.Elements.{All-weaker}
use Rattle.std.proofs.lemmas.List.Sums.{sum_by_push, sum_by-le}
use Rattle.geo_base.specs.declared.limits.TheConstants.{SESSIONS_PER_REGION}
use Rattle.write_set.specs.declared.batch.Batch.{Batch}
use Rattle.write_set.specs.declared.candidate.Candidate.{Candidate}
use Rattle.write_set.specs.Journal.{Journal, log_of}
use Rattle.write_set.specs.Snapshot.{snap_rows}
use Rattle.world_script.specs.declared.event.Event.{Event}
use Rattle.world_script.specs.Script.{IsWithin}
use Rattle.geo_world.specs.World.{World, first_world, region_of, open_epoch, published_epochs, session_of}
use Rattle.geo_world.specs.Step.{step, next_batch, sealed_world}
use Rattle.geo_world.specs.Play.{world_after}
use Rattle.geo_world.specs.Plays.{LeadTo}
use Rattle.geo_world.specs.inner.Sound.{IsSound, IsOpen, is_pending, pending_count}
use Rattle.geo_world.proofs.Counting.{count-below}
use Rattle.geo_world.proofs.Moves.{IsKeptBySeals, step-moves}
use Rattle.geo_world.proofs.SoundSeal.{log-pushed_same, log-pushed_other}
use Rattle.geo_world.proofs.SoundSteps.{log_empty, first_world-sound, step-sound}
use Rattle.geo_world.proofs.Growing.{SameJournal, same_journal-besides}
use Rattle.geo_world.proofs.Played.{along, first_within}
use Rattle.geo_world.proofs.TableSizes.{batch_rows, log_rows, snapshot-rows}

-- how many candidates the region has sealed
abbrev log_items : List Batch → ℕ
log_items log = sum_by (λ b. length b.items) log

-- no region's candidates change more rows than there are candidates
pub HasOneRowEach : World → Type 0
HasOneRowEach w = (region : ℕ) → log_rows (log_of w.journal region) ≤ log_items (log_of w.journal region)

-- ---- steps

abbrev KeepsOneRowEach : World → World → Type 0
KeepsOneRowEach w v = IsSound w → HasOneRowEach w → HasOneRowEach v

same_journal-rows : (w v : World) → SameJournal w v → KeepsOneRowEach w v
unfolding HasOneRowEach
same_journal-rows w v same s h region =
    subst (λ (j : Journal). log_rows (log_of j region) ≤ log_items (log_of j region)) (sym same) (h region)

by_ones : (n m : ℕ) → n ≤ m * 1 → n ≤ m
by_ones n m h = omega arith

open-rows : (epoch : ℕ) (waiting : List Candidate) → All (IsOpen epoch) waiting → sum_by (λ c. length c.set) waiting ≤ length waiting
open-rows epoch waiting all =
    by_ones (sum_by (λ c. length c.set) waiting) (length waiting)
    (sum_by-le (λ (c : Candidate). length c.set) 1 waiting
    (All-weaker (IsOpen epoch) (λ c. length c.set ≤ 1) (λ c o. omega (arith, o.one)) waiting all))

pushed_rows : (a b c d n m : ℕ) → n ≡ a + b → m ≡ c + d → a ≤ c → b ≤ d → n ≤ m
pushed_rows a b c d n m e f h k = omega arith

seal-rows : IsKeptBySeals KeepsOneRowEach
unfolding HasOneRowEach
seal-rows w region l near s h q =
    ⊎_elim
    (λ (e : q ≡ region). subst (λ (r : ℕ). log_rows (log_of v.journal r) ≤ log_items (log_of v.journal r)) (sym e) own)
    (λ (other : q ≡ region → ⊥).
    subst (λ (log : List Batch). log_rows log ≤ log_items log) (sym (log-pushed_other w.journal region q (next_batch w region) other)) (h q))
    (cases_eq q region)
  where
    v : World
    v = sealed_world w region

    own : log_rows (log_of v.journal region) ≤ log_items (log_of v.journal region)
    own =
        subst (λ (log : List Batch). log_rows log ≤ log_items log)
        (sym (log-pushed_same w.journal region (next_batch w region) (subst (λ (n : ℕ). region < n) (sym s.same) l)))
        (pushed_rows (log_rows (log_of w.journal region)) (batch_rows (next_batch w region)) (log_items (log_of w.journal region))
        (length (next_batch w region).items)
        (log_rows (log_of w.journal region ++ next_batch w region ∷ [])) (log_items (log_of w.journal region ++ next_batch w region ∷ []))
        (sum_by_push batch_rows (log_of w.journal region) (next_batch w region))
        (sum_by_push (λ (b : Batch). length b.items) (log_of w.journal region) (next_batch w region))
        (h region) (open-rows (open_epoch w region) (region_of w region).waiting (s.regions region l).waiting))

step-rows : (w : World) (event : Event) → IsWithin (length w.regions) event → KeepsOneRowEach w (step w event).world
step-rows = step-moves SameJournal KeepsOneRowEach same_journal-besides same_journal-rows seal-rows

-- ---- plays

abbrev KeepsBoth : World → World → Type 0
KeepsBoth w v = IsSound w × HasOneRowEach w → IsSound v × HasOneRowEach v

after-both : (events : List Event) (w : World) → All (IsWithin (length w.regions)) events → KeepsBoth w (world_after w events)
after-both =
    along KeepsBoth (λ w both. both) (λ u v w first second both. second (first both))
    (λ w event h both. (step-sound w event both.0 h, step-rows w event h both.0 both.1))

first_world-rows : (regions last : ℕ) → HasOneRowEach (first_world regions last)
unfolding HasOneRowEach
first_world-rows regions last region = subst (λ (log : List Batch). log_rows log ≤ log_items log) (sym (log_empty regions region)) (omega arith)

pub played-rows : (regions last : ℕ) (events : List Event) (w : World) → LeadTo regions last events w → HasOneRowEach w
played-rows regions last events w play =
    subst HasOneRowEach (sym play.after)
    (after-both events (first_world regions last) (first_within regions last events w play)
    (first_world-sound regions last play.some play.few, first_world-rows regions last)).1

-- ---- rows

few_sealed : (rows items waiting pending : ℕ) → rows ≤ items → items + waiting ≤ pending → pending ≤ SESSIONS_PER_REGION → rows ≤ SESSIONS_PER_REGION
few_sealed rows items waiting pending a b c = omega arith

log-few : (w : World) → IsSound w → HasOneRowEach w → (region : ℕ) → region < length w.regions → log_rows (log_of w.journal region) ≤ SESSIONS_PER_REGION
unfolding pending_count HasOneRowEach
log-few w s h region l =
    few_sealed (log_rows (log_of w.journal region)) (log_items (log_of w.journal region)) (length (region_of w region).waiting) (pending_count w region)
    (h region) (s.regions region l).counted (count-below (λ k. is_pending (session_of w region k)) SESSIONS_PER_REGION)

all-few : (w : World) → IsSound w → HasOneRowEach w → All (λ log. log_rows log ≤ SESSIONS_PER_REGION) w.journal
all-few w s h k d l =
    subst (λ (log : List Batch). log_rows log ≤ SESSIONS_PER_REGION) (get_or_default w.journal k [] d l)
    (log-few w s h k (subst (λ (n : ℕ). k < n) s.same l))

-- a region's table has no more rows than all regions have sessions
pub rows-few : (w : World) → IsSound w → HasOneRowEach w → (region : ℕ) →
    length (snap_rows (published_epochs w region)) ≤ length w.regions * SESSIONS_PER_REGION
rows-few w s h region =
    le_trans (snapshot-rows w.journal (region_of w region).published)
    (subst (λ (n : ℕ). sum_by log_rows w.journal ≤ n * SESSIONS_PER_REGION) s.same
    (sum_by-le log_rows SESSIONS_PER_REGION w.journal (all-few w s h)))
