-- Laws: an inbox stays lawful with one more batch, and without those of an epoch; and a batch that is put in and let go again leaves what was held.
use Rattle.std.proofs.Common.{◌≡◌, ℕ, ◌<◌, Bool, true, false, not, cond, List, [], ◌∷◌, map, Option, Some, refl, sym, ◌∙◌, ap, subst}
use Rattle.std.specs.Prelude.{is_some, ◌==◌}
use Rattle.std.specs.List.{AllByRecursion, filter}
use Rattle.std.specs.List.Sorted.{IsStrictlySortedBy}
use Rattle.std.specs.Ordering.{is_eq, nat_cmp, match_ordering, ordering_reverse}
use Rattle.std.specs.Cmp.{IsTotalOrder, nat_cmp_total, on_total, then_total}
use Rattle.std.specs.declared.cmp.Ordering.{Ordering}
use Rattle.std.specs.declared.cmp.Ordering.TheVariants.{Less, Equal, Greater}
use Rattle.write_set.specs.declared.batch.Batch.{Batch}
use Rattle.epoch_inbox.specs.Inbox.{Holding, place_of, place_cmp, is_at, held_at, is_held, others, with_batch, without_batch, IsLawful, DroppedBatchesAreGone}
use Rattle.epoch_inbox.specs.laws.Held.{filter_yes, filter_no, filter_all, all_kept, all_with, at_place, exact_places}

place_cmp_total : IsTotalOrder place_cmp
place_cmp_total = then_total (on_total (λ (p : ℕ × ℕ). p.0) nat_cmp_total) (on_total (λ (p : ℕ × ℕ). p.1) nat_cmp_total)

-- the place is before those of all the batches
abbrev IsBefore : ℕ × ℕ → List Batch → Type 0
IsBefore place held = AllByRecursion (λ p. place_cmp place p ≡ Less) (map place_of held)

-- the places of the batches rise
abbrev Rise : List Batch → Type 0
Rise held = IsStrictlySortedBy place_cmp (map place_of held)

before_all : (a b : ℕ × ℕ) (held : List Batch) → place_cmp a b ≡ Less → IsBefore b held → IsBefore a held
before_all a b [] h all = tt
before_all a b (x ∷ held) h all = (place_cmp_total.trans a b (place_of x) h all.0, before_all a b held h all.1)

turned : (a b : ℕ × ℕ) (o : Ordering) → place_cmp a b ≡ o → place_cmp b a ≡ ordering_reverse o
turned a b o e = place_cmp_total.antisymm b a ∙ ap ordering_reverse e

-- ---- one more

before_with : (a : ℕ × ℕ) (held : List Batch) (batch : Batch) → place_cmp a (place_of batch) ≡ Less → IsBefore a held → IsBefore a (with_batch held batch)
before_with a [] batch h all = (h, tt)
before_with a (x ∷ rest) batch h all = by (place_cmp (place_of batch) (place_of x)) (before_with a rest batch h all.1)
  where
    by : (o : Ordering) → IsBefore a (with_batch rest batch) → IsBefore a (match_ordering o (batch ∷ x ∷ rest) (batch ∷ rest) (x ∷ with_batch rest batch))
    by Less more = (h, all)
    by Equal more = (h, all.1)
    by Greater more = (all.0, more)

rise_with : (held : List Batch) (batch : Batch) → Rise held → Rise (with_batch held batch)
unfolding IsStrictlySortedBy
rise_with [] batch rises = (tt, tt)
rise_with (x ∷ rest) batch rises = by (place_cmp (place_of batch) (place_of x)) refl (rise_with rest batch rises.1)
  where
    by : (o : Ordering) → place_cmp (place_of batch) (place_of x) ≡ o → Rise (with_batch rest batch) → Rise (match_ordering o (batch ∷ x ∷ rest) (batch ∷ rest) (x ∷ with_batch rest batch))
    by Less is more = ((is, before_all (place_of batch) (place_of x) rest is rises.0), rises)
    by Equal is more =
        let same : place_of batch ≡ place_of x = exact_places (place_of batch) (place_of x) is in
        (subst (λ (p : ℕ × ℕ). IsBefore p rest) (sym same) rises.0, rises.1)
    by Greater is more = (before_with (place_of x) rest batch (turned (place_of batch) (place_of x) Greater is) rises.0, more)

-- an inbox with one more batch of a region that there is
pub lawful_with : (inbox : Holding) (batch : Batch) → IsLawful inbox → batch.region < inbox.regions → IsLawful (record { regions = inbox.regions; held = with_batch inbox.held batch })
lawful_with inbox batch lawful there = record {
  rising = rise_with inbox.held batch lawful.rising;
  below = all_with (λ b. b.region < inbox.regions) inbox.held batch lawful.below there;
}

-- ---- fewer

before_kept : (p : Batch → Bool) (a : ℕ × ℕ) (held : List Batch) → IsBefore a held → IsBefore a (filter p held)
before_kept p a [] all = tt
before_kept p a (x ∷ held) all = by (p x) (before_kept p a held all.1)
  where
    by : (b : Bool) → IsBefore a (filter p held) → IsBefore a (cond b (x ∷ filter p held) (filter p held))
    by true rest = (all.0, rest)
    by false rest = rest

rise_kept : (p : Batch → Bool) (held : List Batch) → Rise held → Rise (filter p held)
unfolding IsStrictlySortedBy
rise_kept p [] rises = rises
rise_kept p (x ∷ held) rises = by (p x) (rise_kept p held rises.1)
  where
    by : (b : Bool) → Rise (filter p held) → Rise (cond b (x ∷ filter p held) (filter p held))
    by true rest = (before_kept p (place_of x) held rises.0, rest)
    by false rest = rest

-- an inbox without the batches of an epoch
pub lawful_without : (inbox : Holding) (epoch : ℕ) → IsLawful inbox → IsLawful (record { regions = inbox.regions; held = others inbox.held epoch })
lawful_without inbox epoch lawful = record {
  rising = rise_kept (λ b. not (epoch == b.epoch)) inbox.held lawful.rising;
  below = all_kept (λ b. b.region < inbox.regions) (λ b. not (epoch == b.epoch)) inbox.held lawful.below;
}

-- ---- put in and let go

-- what isn't held at a place stands at another one
apart_from : (epoch region : ℕ) (x : Batch) (held : List Batch) → is_held (x ∷ held) epoch region ≡ false → (is_at epoch region x ≡ false) × (is_held held epoch region ≡ false)
apart_from epoch region x held none = by (is_at epoch region x) refl none
  where
    by : (b : Bool) → is_at epoch region x ≡ b → is_some (cond b (Some x) (held_at held epoch region)) ≡ false → (is_at epoch region x ≡ false) × (is_held held epoch region ≡ false)
    by true is none = absurd (cc)
    by false is none = (is, none)

all_apart : (epoch region : ℕ) (held : List Batch) → is_held held epoch region ≡ false → AllByRecursion (λ b. not (is_at epoch region b) ≡ true) held
all_apart epoch region [] none = tt
all_apart epoch region (x ∷ held) none =
    let apart = apart_from epoch region x held none in
    (ap not apart.0, all_apart epoch region held apart.1)

at_itself : (batch : Batch) → is_at batch.epoch batch.region batch ≡ true
at_itself batch = sym (at_place batch.epoch batch.region batch) ∙ ap is_eq (tied (place_of batch))
  where
    tied : (p : ℕ × ℕ) → place_cmp p p ≡ Equal
    tied p = by (place_cmp p p) (place_cmp_total.antisymm p p)
      where
        by : (o : Ordering) → o ≡ ordering_reverse o → o ≡ Equal
        by Less e = cc
        by Equal e = refl
        by Greater e = cc

dropped_again : (held : List Batch) (batch : Batch) → is_held held batch.epoch batch.region ≡ false → without_batch (with_batch held batch) batch.epoch batch.region ≡ held
dropped_again [] batch none = filter_no (λ b. not (is_at batch.epoch batch.region b)) batch [] (ap not (at_itself batch))
dropped_again (x ∷ rest) batch none = by (place_cmp (place_of batch) (place_of x)) refl (dropped_again rest batch apart.1)
  where
    apart : (is_at batch.epoch batch.region x ≡ false) × (is_held rest batch.epoch batch.region ≡ false)
    apart = apart_from batch.epoch batch.region x rest none

    by : (o : Ordering) → place_cmp (place_of batch) (place_of x) ≡ o → without_batch (with_batch rest batch) batch.epoch batch.region ≡ rest →
        without_batch (match_ordering o (batch ∷ x ∷ rest) (batch ∷ rest) (x ∷ with_batch rest batch)) batch.epoch batch.region ≡ x ∷ rest
    by Less is more =
        filter_no (λ b. not (is_at batch.epoch batch.region b)) batch (x ∷ rest) (ap not (at_itself batch))
        ∙ filter_all (λ b. not (is_at batch.epoch batch.region b)) (x ∷ rest) (all_apart batch.epoch batch.region (x ∷ rest) none)
    by Equal is more =
        let here : is_at batch.epoch batch.region x ≡ true = sym (at_place batch.epoch batch.region x) ∙ ap is_eq is in
        absurd (cc)
    by Greater is more =
        filter_yes (λ b. not (is_at batch.epoch batch.region b)) x (with_batch rest batch) (ap not apart.0) ∙ ap (λ (l : List Batch). x ∷ l) more

pub dropped_gone : DroppedBatchesAreGone
dropped_gone inbox batch lawful none = dropped_again inbox.held batch none
