-- The batches of an epoch, gathered one region after another.
use Rattle.std.proofs.Common.{◌≡◌, ℕ, ◌+◌, ◌-◌, Bool, false, not, ◌&&◌, cond, if◌then◌else◌, ◌==◌, nat_lt, Option, None, List, [], ◌∷◌, ◌++◌, filter_map, slice_get, refl, sym, ap, ap₂, ◌∙◌, arith, add-one}
use Rattle.std.proofs.lemmas.Bool.Decides.{nat_tests}
use Rattle.std.specs.List.{cons_option}
use Rattle.std.proofs.lemmas.List.Elements.{filter_map-append}
use Rattle.write_set.specs.declared.batch.Batch.{Batch}
use Rattle.geo_world.specs.declared.region.Region.{Region}
use Rattle.geo_world.specs.inner.Arrivals.{batch_in}
use Rattle.geo_world.specs.inner.Regions.{Gathers, TakesOut, is_gathered, next_batch_of}
use Rattle.geo_world.specs.Step.{numbers_below}

pub gathered_more : (f : ℕ → Option Batch) (n : ℕ) (now later : List Batch) (o : Option Batch) → now ≡ filter_map f (numbers_below n) → o ≡ f n →
    later ≡ now ++ cons_option o [] → later ≡ filter_map f (numbers_below (n + 1))
gathered_more f n now later o was is more =
    more ∙ (ap₂ (λ (bs : List Batch) (p : Option Batch). bs ++ cons_option p []) was is
    ∙ (sym (filter_map-append f (numbers_below n) (n ∷ []))
    ∙ ap (λ (m : ℕ). filter_map f (numbers_below m)) (sym (add-one n))))

-- the batches of the regions from there on are still there
pub next_same : (start now : Region) (number epoch of : ℕ) → Gathers of number epoch start now →
    next_batch_of now number epoch of ≡ next_batch_of start number epoch of
next_same start now number epoch of kept =
    ap₂ (λ (log : List Batch) (b : Option Batch). cond (of == number) (slice_get log (epoch - 1)) b) kept.log
    (kept.inbox of epoch ∙ ap (λ (b : Bool). cond b None (batch_in start.inbox of epoch)) (not_yet (epoch == epoch) of (of == number)))
  where
    not_yet : (at : Bool) (n : ℕ) (own : Bool) → (at && (nat_lt n n && not own)) ≡ false
    not_yet at n own = grind (arith, nat_tests)

-- no region's batch is gathered yet
pub gathers_none : (region : Region) (number epoch : ℕ) → Gathers 0 number epoch region region
gathers_none region number gathered = record {
  opens = refl;
  log = refl;
  waiting = refl;
  inbox = λ of epoch. ap (λ (b : Bool). cond b None (batch_in region.inbox of epoch)) (sym (none_below (gathered == epoch) of (of == number)));
  plain = refl;
  sessions = refl;
}
  where
    none_below : (at : Bool) (n : ℕ) (own : Bool) → (at && (nat_lt n 0 && not own)) ≡ false
    none_below at n own = grind (arith, nat_tests)

-- one region more is gathered
one_more : (number n gathered of epoch : ℕ) (b : Option Batch) →
    (if n == number
    then (if is_gathered n number gathered of epoch then None else b)
    else (if (n == of) && (gathered == epoch) then None else (if is_gathered n number gathered of epoch then None else b)))
    ≡ (if is_gathered (n + 1) number gathered of epoch then None else b)
one_more number n gathered of epoch b = grind (arith, nat_tests)

pub gathers_more : (start now later : Region) (number gathered n : ℕ) → Gathers n number gathered start now → TakesOut number n gathered now later →
    Gathers (n + 1) number gathered start later
gathers_more start now later number gathered n a b = record {
  opens = b.opens ∙ a.opens;
  log = b.log ∙ a.log;
  waiting = b.waiting ∙ a.waiting;
  inbox = λ of epoch. b.inbox of epoch
      ∙ ap (λ (x : Option Batch). if n == number then x else (if (n == of) && (gathered == epoch) then None else x)) (a.inbox of epoch)
      ∙ one_more number n gathered of epoch (batch_in start.inbox of epoch);
  plain = b.plain ∙ a.plain;
  sessions = b.sessions ∙ a.sessions;
}
