-- What steps add: batches at the ends of lists, one a seal, and published epochs.
use Rattle.std.proofs.Common.{◌≡◌, ℕ, suc, ◌+◌, ◌≤◌, List, [], ◌∷◌, ◌++◌, length, refl, sym, ap, ◌∙◌, subst, arith, append_assoc, append-nil, le_refl, le_of_eq, le_trans, zero, slice_set, slice_index_or}
use Rattle.std.proofs.lemmas.List.{length_push}
use Rattle.write_set.specs.declared.batch.Batch.{Batch}
use Rattle.write_set.specs.Journal.{Journal, IsFront, Extends, log_of}
use Rattle.write_set.specs.laws.Sealing.{with_batch_extends}
use Rattle.world_script.specs.declared.event.Event.{Event}
use Rattle.world_script.specs.Script.{IsWithin}
use Rattle.geo_world.specs.World.{World, RegionState, new_region, region_of, sealed_by}
use Rattle.geo_world.specs.Step.{step, next_batch}
use Rattle.geo_world.proofs.Moves.{IsKeptBesidesSeals, IsKeptBySeals, step-moves}

-- ---- journals

front-itself : (log : List Batch) → IsFront log log
front-itself log = ([], append-nil log)

front-joins : (a b c : List Batch) → IsFront a b → IsFront b c → IsFront a c
front-joins a b c p q = (p.0 ++ q.0, sym (append_assoc a p.0 q.0) ∙ (ap (λ (l : List Batch). l ++ q.0) p.1 ∙ q.1))

pub Extends-itself : (journal : Journal) → Extends journal journal
Extends-itself journal = record { same = refl; fronts = λ region. front-itself (log_of journal region) }

pub Extends-joins : (a b c : Journal) → Extends a b → Extends b c → Extends a c
Extends-joins a b c p q = record {
  same = q.same ∙ p.same;
  fronts = λ region. front-joins (log_of a region) (log_of b region) (log_of c region) (p.fronts region) (q.fronts region);
}

abbrev Grows : World → World → Type 0
Grows w v = Extends w.journal v.journal

grows-besides : IsKeptBesidesSeals Grows
grows-besides = record {
  stays = λ w. Extends-itself w.journal;
  joins = λ u v w p q. Extends-joins u.journal v.journal w.journal p q;
  takes = λ w region session key value h few idle. Extends-itself w.journal;
  arrives = λ w packet to region epoch there. Extends-itself w.journal;
  publishes = λ w region h whole. Extends-itself w.journal;
}

pub step-extends : (w : World) (event : Event) → IsWithin (length w.regions) event → Extends w.journal (step w event).world.journal
step-extends = step-moves Grows Grows grows-besides (λ w v r. r) (λ w region h near. with_batch_extends w.journal region (next_batch w region))

-- ---- how many epochs are sealed

abbrev pub SameJournal : World → World → Type 0
SameJournal w v = v.journal ≡ w.journal

pub same_journal-besides : IsKeptBesidesSeals SameJournal
same_journal-besides = record {
  stays = λ w. refl;
  joins = λ u v w p q. q ∙ p;
  takes = λ w region session key value h few idle. refl;
  arrives = λ w packet to region epoch there. refl;
  publishes = λ w region h whole. refl;
}

-- at most one epoch more of each region
abbrev SealsOne : World → World → Type 0
SealsOne w v = (region : ℕ) → sealed_by v region ≤ sealed_by w region + 1

seals_none : (w v : World) → SameJournal w v → SealsOne w v
seals_none w v same region = subst (λ (j : Journal). length (log_of j region) ≤ sealed_by w region + 1) (sym same) (omega arith)

-- a list that is put in one place has at most one batch more than the one that stood there
one-more : (journal : Journal) (region q : ℕ) (log : List Batch) → length log ≤ length (log_of journal region) + 1 →
    length (log_of (slice_set journal region log) q) ≤ length (log_of journal q) + 1
one-more [] region q log h = omega arith
one-more (own ∷ logs) zero zero log h = h
one-more (own ∷ logs) zero (suc q) log h = omega arith
one-more (own ∷ logs) (suc region) zero log h = omega arith
one-more (own ∷ logs) (suc region) (suc q) log h = one-more logs region q log h

seals_one : IsKeptBySeals SealsOne
seals_one w region h near q =
    one-more w.journal region q (log_of w.journal region ++ next_batch w region ∷ [])
    (le_of_eq (length_push (log_of w.journal region) (next_batch w region)))

pub step-seals_one : (w : World) (event : Event) → IsWithin (length w.regions) event → (region : ℕ) →
    sealed_by (step w event).world region ≤ sealed_by w region + 1
step-seals_one = step-moves SameJournal SealsOne same_journal-besides seals_none seals_one

-- ---- published epochs

-- a state that has published no less than the one that stood in its place
no-less : (regions : List RegionState) (region q : ℕ) (state : RegionState) →
    (slice_index_or regions region new_region).published ≤ state.published →
    (slice_index_or regions q new_region).published ≤ (slice_index_or (slice_set regions region state) q new_region).published
no-less [] region q state h = omega arith
no-less (own ∷ states) zero zero state h = h
no-less (own ∷ states) zero (suc q) state h = omega arith
no-less (own ∷ states) (suc region) zero state h = omega arith
no-less (own ∷ states) (suc region) (suc q) state h = no-less states region q state h

-- no region takes back what it has published
abbrev PublishesOn : World → World → Type 0
PublishesOn w v = (region : ℕ) → (region_of w region).published ≤ (region_of v region).published

publishes_on-besides : IsKeptBesidesSeals PublishesOn
publishes_on-besides = record {
  stays = λ w q. le_refl (region_of w q).published;
  joins = λ u v w first second q. le_trans (first q) (second q);
  takes = λ w region session key value h few idle q. no-less w.regions region q _ (le_refl (region_of w region).published);
  arrives = λ w packet to region epoch there q. no-less w.regions to q _ (le_refl (region_of w to).published);
  publishes = λ w region h whole q. no-less w.regions region q _ (omega arith);
}

pub step-publishes_on : (w : World) (event : Event) → IsWithin (length w.regions) event → (region : ℕ) →
    (region_of w region).published ≤ (region_of (step w event).world region).published
step-publishes_on = step-moves PublishesOn PublishesOn publishes_on-besides (λ w v r. r)
    (λ w region h near q. no-less w.regions region q _ (le_refl (region_of w region).published))
