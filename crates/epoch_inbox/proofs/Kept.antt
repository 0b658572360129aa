-- The entries of a map are the batches by their places.
use Rattle.std.proofs.Common.{◌≡◌, ℕ, ◌+◌, ◌<◌, ◌≤◌, Bool, true, false, not, cond, List, [], ◌∷◌, ◌++◌, length, map, Option, Some, None, refl, sym, ◌∙◌, ap, ap₂, subst, arith, length-append, append-nil}
use denote.Ref.{Bor}
use Rattle.std.proofs.lemmas.List.{map-append}
use Rattle.std.specs.Prelude.{is_some, option_copied}
use Rattle.std.specs.List.{AllByRecursion, filter}
use Rattle.std.specs.List.Sorted.{IsStrictlySortedBy}
use Rattle.std.specs.Map.{keys_of, values_of, lookup, remove_entry}
use Rattle.std.specs.BTreeMap as tree
use Rattle.std.specs.Ordering.{is_eq, match_ordering}
use Rattle.std.specs.declared.cmp.Ordering.{Ordering}
use Rattle.std.specs.declared.cmp.Ordering.TheVariants.{Less, Equal, Greater}
use Rattle.std.proofs.lemmas.Map.Keys.{sorted_head, sorted_tail}
use Rattle.write_set.specs.declared.batch.Batch.{Batch}
use Rattle.epoch_inbox.specs.Inbox.{Holding, place_of, place_cmp, is_at, held_at, is_held, held_of, others, with_batch, IsLawful}
use Rattle.epoch_inbox.specs.inner.Entries.{entries_of, seen, IsKept, held_below, left_from, listed}
use Rattle.epoch_inbox.specs.laws.Held.{filter_all, filter_yes, filter_no, all_kept, all_with, at_place, exact_places, at_true, below_more, below_none, below_all, left_none, left_more, left_all, left_there}

-- ---- entries and batches

pub values_are : (held : List Batch) → values_of (entries_of held) ≡ held
values_are [] = refl
values_are (x ∷ held) = ap (λ (l : List Batch). x ∷ l) (values_are held)

pub keys_are : (held : List Batch) → keys_of (entries_of held) ≡ map place_of held
keys_are [] = refl
keys_are (x ∷ held) = ap (λ (l : List (ℕ × ℕ)). place_of x ∷ l) (keys_are held)

looked_up : (held : List Batch) (epoch region : ℕ) → lookup (tree.is_at (place_cmp (epoch, region))) (entries_of held) ≡ held_at held epoch region
looked_up [] epoch region = refl
looked_up (x ∷ held) epoch region = ap₂ (λ (t : Bool) (o : Option Batch). cond t (Some x) o) (at_place epoch region x) (looked_up held epoch region)

-- a map that is kept finds what is held
pub finds : (regions : ℕ) (entries : List ((ℕ × ℕ) × Batch)) → IsKept regions entries → (epoch region : ℕ) → lookup (tree.is_at (place_cmp (epoch, region))) entries ≡ held_at (values_of entries) epoch region
finds regions entries kept epoch region = ap (lookup (tree.is_at (place_cmp (epoch, region)))) kept.placed ∙ looked_up (values_of entries) epoch region

-- ---- one more

inserted : (held : List Batch) (batch : Batch) → tree.insert_entry place_cmp (entries_of held) (place_of batch) batch ≡ entries_of (with_batch held batch)
inserted [] batch = refl
inserted (x ∷ rest) batch = by (place_cmp (place_of batch) (place_of x)) refl (inserted rest batch)
  where
    by : (o : Ordering) → place_cmp (place_of batch) (place_of x) ≡ o → tree.insert_entry place_cmp (entries_of rest) (place_of batch) batch ≡ entries_of (with_batch rest batch) →
        match_ordering o ((place_of batch, batch) ∷ entries_of (x ∷ rest)) ((place_of x, batch) ∷ entries_of rest) ((place_of x, x) ∷ tree.insert_entry place_cmp (entries_of rest) (place_of batch) batch)
        ≡ entries_of (match_ordering o (batch ∷ x ∷ rest) (batch ∷ rest) (x ∷ with_batch rest batch))
    by Less e later = refl
    by Equal e later = ap (λ (p : ℕ × ℕ). (p, batch) ∷ entries_of rest) (sym (exact_places (place_of batch) (place_of x) e))
    by Greater e later = ap (λ (l : List ((ℕ × ℕ) × Batch)). (place_of x, x) ∷ l) later

-- what a map holds after an insert
pub kept_more : (regions : ℕ) (entries now : List ((ℕ × ℕ) × Batch)) (batch : Batch) → IsKept regions entries → batch.region < regions → now ≡ tree.insert_entry place_cmp entries (place_of batch) batch → IsStrictlySortedBy place_cmp (keys_of now) →
    (values_of now ≡ with_batch (values_of entries) batch) × IsKept regions now
kept_more regions entries now batch kept within is sorted =
    let made : now ≡ entries_of (with_batch (values_of entries) batch) = is ∙ ap (λ (l : List ((ℕ × ℕ) × Batch)). tree.insert_entry place_cmp l (place_of batch) batch) kept.placed ∙ inserted (values_of entries) batch in
    let values : values_of now ≡ with_batch (values_of entries) batch = ap values_of made ∙ values_are (with_batch (values_of entries) batch) in
    let keys : keys_of now ≡ map place_of (values_of now) = ap keys_of made ∙ keys_are (with_batch (values_of entries) batch) ∙ ap (map place_of) (sym values) in (
      values,
      record {
        placed = made ∙ ap entries_of (sym values);
        lawful = record {
          rising = subst (IsStrictlySortedBy place_cmp) keys sorted;
          below = subst (AllByRecursion (λ b. b.region < regions)) (sym values) (all_with (λ b. b.region < regions) (values_of entries) batch kept.lawful.below within);
        };
      },
    )

-- what is seen then
pub seen_more : (inbox : Holding) (regions : ℕ) (entries now : List ((ℕ × ℕ) × Batch)) (batch : Batch) → seen regions entries ≡ inbox → values_of now ≡ with_batch (values_of entries) batch → seen regions now ≡ record { regions = inbox.regions; held = with_batch inbox.held batch }
seen_more inbox regions entries now batch is more =
    let with : Holding → Holding = λ i. record { regions = i.regions; held = with_batch i.held batch } in
    let of : List Batch → Holding = λ l. record { regions = regions; held = l } in
    ap of more ∙ ap with is

-- ---- one less

-- no later batch stands at the place of an earlier one
none_later : (x : Batch) (held : List Batch) (epoch region : ℕ) → IsStrictlySortedBy place_cmp (map place_of (x ∷ held)) → is_at epoch region x ≡ true → AllByRecursion (λ (b : Batch). not (is_at epoch region b) ≡ true) held
none_later x held epoch region rising here = by held (sorted_head place_cmp (place_of x) (map place_of held) rising)
  where
    mine : (epoch ≡ x.epoch) × (region ≡ x.region)
    mine = at_true epoch region x here

    apart : (b : Batch) → place_cmp (place_of x) (place_of b) ≡ Less → is_at epoch region b ≡ false
    apart b less = ap₂ (λ (m n : ℕ). is_at m n b) mine.0 mine.1 ∙ sym (at_place x.epoch x.region b) ∙ ap is_eq less

    by : (l : List Batch) → AllByRecursion (λ p. place_cmp (place_of x) p ≡ Less) (map place_of l) → AllByRecursion (λ (b : Batch). not (is_at epoch region b) ≡ true) l
    by [] h = tt
    by (b ∷ l) h = (ap not (apart b h.0), by l h.1)

removed : (held : List Batch) (epoch region : ℕ) → IsStrictlySortedBy place_cmp (map place_of held) → remove_entry (tree.is_at (place_cmp (epoch, region))) (entries_of held) ≡ entries_of (filter (λ b. not (is_at epoch region b)) held)
removed [] epoch region rising = refl
removed (x ∷ held) epoch region rising = by (is_at epoch region x) refl (removed held epoch region (sorted_tail place_cmp (place_of x) (map place_of held) rising))
  where
    by : (t : Bool) → is_at epoch region x ≡ t → remove_entry (tree.is_at (place_cmp (epoch, region))) (entries_of held) ≡ entries_of (filter (λ b. not (is_at epoch region b)) held) →
        remove_entry (tree.is_at (place_cmp (epoch, region))) (entries_of (x ∷ held)) ≡ entries_of (filter (λ b. not (is_at epoch region b)) (x ∷ held))
    by true here later =
        ap (λ (t : Bool). cond t (entries_of held) ((place_of x, x) ∷ remove_entry (tree.is_at (place_cmp (epoch, region))) (entries_of held))) (at_place epoch region x ∙ here)
        ∙ ap entries_of (sym (filter_no (λ (b : Batch). not (is_at epoch region b)) x held (ap not here) ∙ filter_all (λ (b : Batch). not (is_at epoch region b)) held (none_later x held epoch region rising here)))
    by false apart later =
        ap (λ (t : Bool). cond t (entries_of held) ((place_of x, x) ∷ remove_entry (tree.is_at (place_cmp (epoch, region))) (entries_of held))) (at_place epoch region x ∙ apart)
        ∙ ap (λ (l : List ((ℕ × ℕ) × Batch)). (place_of x, x) ∷ l) later
        ∙ ap entries_of (sym (filter_yes (λ (b : Batch). not (is_at epoch region b)) x held (ap not apart)))

-- what a map holds after a removal
pub kept_less : (regions : ℕ) (entries now : List ((ℕ × ℕ) × Batch)) (epoch region : ℕ) → IsKept regions entries → now ≡ remove_entry (tree.is_at (place_cmp (epoch, region))) entries → IsStrictlySortedBy place_cmp (keys_of now) →
    (values_of now ≡ filter (λ b. not (is_at epoch region b)) (values_of entries)) × IsKept regions now
kept_less regions entries now epoch region kept gone sorted =
    let made : now ≡ entries_of (filter (λ b. not (is_at epoch region b)) (values_of entries)) = gone ∙ ap (remove_entry (tree.is_at (place_cmp (epoch, region)))) kept.placed ∙ removed (values_of entries) epoch region kept.lawful.rising in
    let values : values_of now ≡ filter (λ b. not (is_at epoch region b)) (values_of entries) = ap values_of made ∙ values_are (filter (λ b. not (is_at epoch region b)) (values_of entries)) in
    let keys : keys_of now ≡ map place_of (values_of now) = ap keys_of made ∙ keys_are (filter (λ b. not (is_at epoch region b)) (values_of entries)) ∙ ap (map place_of) (sym values) in (
      values,
      record {
        placed = made ∙ ap entries_of (sym values);
        lawful = record {
          rising = subst (IsStrictlySortedBy place_cmp) keys sorted;
          below = subst (AllByRecursion (λ b. b.region < regions)) (sym values) (all_kept (λ b. b.region < regions) (λ b. not (is_at epoch region b)) (values_of entries) kept.lawful.below);
        };
      },
    )

-- ---- taking an epoch region by region

-- the batches of the regions below this one are taken, and the others left
pub record HasTaken (regions epoch : ℕ) (old : List Batch) (entries : List ((ℕ × ℕ) × Batch)) (region : ℕ) (taken : List Batch) : Type 0 where
  pub kept : IsKept regions entries
  pub left : values_of entries ≡ left_from old epoch region
  pub out : taken ≡ held_below old epoch region
  pub few : length taken ≤ region

pub taken_none : (regions epoch : ℕ) (entries : List ((ℕ × ℕ) × Batch)) (taken : List Batch) → IsKept regions entries → taken ≡ [] → HasTaken regions epoch (values_of entries) entries 0 taken
taken_none regions epoch entries taken kept none = record {
  kept = kept;
  left = sym (left_none (values_of entries) epoch);
  out = none ∙ sym (below_none (values_of entries) epoch);
  few = omega (arith, ap length none);
}

-- the same, where what is taken isn't kept
pub gone_none : (regions epoch : ℕ) (entries : List ((ℕ × ℕ) × Batch)) → IsKept regions entries → HasTaken regions epoch (values_of entries) entries 0 (held_below (values_of entries) epoch 0)
gone_none regions epoch entries kept = taken_none regions epoch entries (held_below (values_of entries) epoch 0) kept (below_none (values_of entries) epoch)

module _ (regions epoch : ℕ) (old : List Batch) (lawful : IsStrictlySortedBy place_cmp (map place_of old)) where
  pub taken_more : (entries now : List ((ℕ × ℕ) × Batch)) (region : ℕ) (taken after : List Batch) → HasTaken regions epoch old entries region taken →
      after ≡ taken ++ listed (lookup (tree.is_at (place_cmp (epoch, region))) entries) → now ≡ remove_entry (tree.is_at (place_cmp (epoch, region))) entries → IsStrictlySortedBy place_cmp (keys_of now) → HasTaken regions epoch old now (region + 1) after
  taken_more entries now region taken after h is gone sorted =
      let less : (values_of now ≡ filter (λ b. not (is_at epoch region b)) (values_of entries)) × IsKept regions now = kept_less regions entries now epoch region h.kept gone sorted in
      let there : lookup (tree.is_at (place_cmp (epoch, region))) entries ≡ held_at old epoch region = finds regions entries h.kept epoch region ∙ ap (λ (l : List Batch). held_at l epoch region) h.left ∙ left_there old epoch region in
      record {
        kept = less.1;
        left = less.0 ∙ ap (filter (λ b. not (is_at epoch region b))) h.left ∙ left_more old epoch region;
        out = is ∙ ap₂ (λ (l : List Batch) (o : Option Batch). l ++ listed o) h.out there ∙ sym (below_more old epoch region lawful);
        few = omega (arith, h.few, ap length is, length-append taken (listed (lookup (tree.is_at (place_cmp (epoch, region))) entries)), one (lookup (tree.is_at (place_cmp (epoch, region))) entries));
      }
    where
      one : (o : Option Batch) → length (listed o) ≤ 1
      one None = omega arith
      one (Some b) = omega arith

  pub gone_more : (entries now : List ((ℕ × ℕ) × Batch)) (region : ℕ) → HasTaken regions epoch old entries region (held_below old epoch region) →
      now ≡ remove_entry (tree.is_at (place_cmp (epoch, region))) entries → IsStrictlySortedBy place_cmp (keys_of now) → HasTaken regions epoch old now (region + 1) (held_below old epoch (region + 1))
  gone_more entries now region h gone sorted =
      let after : List Batch = held_below old epoch region ++ listed (lookup (tree.is_at (place_cmp (epoch, region))) entries) in
      let more : HasTaken regions epoch old now (region + 1) after = taken_more entries now region (held_below old epoch region) after h refl gone sorted in
      subst (HasTaken regions epoch old now (region + 1)) more.out more

  pub taken_all : AllByRecursion (λ b. b.region < regions) old → (entries : List ((ℕ × ℕ) × Batch)) (region : ℕ) (taken : List Batch) → HasTaken regions epoch old entries region taken → region ≡ regions →
      (taken ≡ held_of old epoch) × (values_of entries ≡ others old epoch)
  taken_all below entries region taken h end =
      (h.out ∙ ap (held_below old epoch) end ∙ below_all old epoch regions below, h.left ∙ ap (left_from old epoch) end ∙ left_all old epoch regions below)

-- ---- counting an epoch region by region

-- what is kept is lawful as it is seen
pub lawful_of : (inbox : Holding) (regions : ℕ) (entries : List ((ℕ × ℕ) × Batch)) → IsKept regions entries → seen regions entries ≡ inbox → IsLawful inbox
lawful_of inbox regions entries kept is = subst IsLawful is kept.lawful

module _ (inbox : Holding) (epoch region have : ℕ) (lawful : IsLawful inbox) (counted : have ≡ length (held_below inbox.held epoch region)) where
  have_more : have + length (listed (held_at inbox.held epoch region)) ≡ length (held_below inbox.held epoch (region + 1))
  have_more = omega (arith, counted, length-append (held_below inbox.held epoch region) (listed (held_at inbox.held epoch region)), ap length (below_more inbox.held epoch region lawful.rising))

  -- one more is held
  pub counts_held : (missing : Bool) → missing ≡ not (is_held inbox.held epoch region) → missing ≡ false → have + 1 ≡ length (held_below inbox.held epoch (region + 1))
  counts_held missing is there = by (held_at inbox.held epoch region) (sym is ∙ there) have_more
    where
      by : (o : Option Batch) → not (is_some o) ≡ false → have + length (listed o) ≡ length (held_below inbox.held epoch (region + 1)) → have + 1 ≡ length (held_below inbox.held epoch (region + 1))
      by None e more = absurd cc
      by (Some b) e more = more

  -- one is missing
  pub counts_missing : (missing : Bool) → missing ≡ not (is_held inbox.held epoch region) → missing ≡ true → have ≡ length (held_below inbox.held epoch (region + 1))
  counts_missing missing is gone = by (held_at inbox.held epoch region) (sym is ∙ gone) have_more
    where
      by : (o : Option Batch) → not (is_some o) ≡ true → have + length (listed o) ≡ length (held_below inbox.held epoch (region + 1)) → have ≡ length (held_below inbox.held epoch (region + 1))
      by None e more = omega (arith, more)
      by (Some b) e more = absurd cc

  -- all are counted
  pub counts_all : region ≡ inbox.regions → have ≡ length (held_of inbox.held epoch)
  counts_all end = counted ∙ ap (λ (n : ℕ). length (held_below inbox.held epoch n)) end ∙ ap length (below_all inbox.held epoch inbox.regions lawful.below)

-- ---- lending an epoch region by region

-- the batches behind these loans
abbrev pub lent_of : List (Bor Batch) → List Batch
lent_of lent = map (λ batch. batch.now) lent

module _ (regions : ℕ) (entries : List ((ℕ × ℕ) × Batch)) (kept : IsKept regions entries) (epoch region : ℕ) (lent : List (Bor Batch)) (before : lent_of lent ≡ held_below (values_of entries) epoch region) where
  lends_found : (found : Option (Bor Batch)) → option_copied found ≡ lookup (tree.is_at (place_cmp (epoch, region))) entries → lent_of lent ++ listed (option_copied found) ≡ held_below (values_of entries) epoch (region + 1)
  lends_found found at =
      let here : option_copied found ≡ held_at (values_of entries) epoch region = at ∙ finds regions entries kept epoch region in
      ap₂ (λ (l : List Batch) (o : Option Batch). l ++ listed o) before here ∙ sym (below_more (values_of entries) epoch region kept.lawful.rising)

  -- one more is lent
  pub lends_more : (now : List (Bor Batch)) (found : Option (Bor Batch)) (batch : Bor Batch) → found ≡ Some batch → option_copied found ≡ lookup (tree.is_at (place_cmp (epoch, region))) entries → now ≡ lent ++ batch ∷ [] →
      lent_of now ≡ held_below (values_of entries) epoch (region + 1)
  lends_more now found batch some at is =
      ap lent_of is ∙ map-append (λ (b : Bor Batch). b.now) lent (batch ∷ []) ∙ ap (λ (o : Option (Bor Batch)). lent_of lent ++ listed (option_copied o)) (sym some) ∙ lends_found found at

  -- there is none to lend
  pub lends_none : (found : Option (Bor Batch)) → found ≡ None → option_copied found ≡ lookup (tree.is_at (place_cmp (epoch, region))) entries → lent_of lent ≡ held_below (values_of entries) epoch (region + 1)
  lends_none found none at =
      sym (append-nil (lent_of lent)) ∙ ap (λ (o : Option (Bor Batch)). lent_of lent ++ listed (option_copied o)) (sym none) ∙ lends_found found at
