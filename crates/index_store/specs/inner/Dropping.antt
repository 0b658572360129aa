-- Inner: which of the pairs that were lost are dropped.
use Rattle.std.specs.Prelude.{ℕ, Bool, false, nat_le, nat_lt, Option, None, Some, List, [], ◌∷◌, if◌then◌else◌}
use Rattle.page_map.specs.Pairs.{found_at, without}
use Rattle.index_store.specs.declared.gain.Gain.{Gain}
use Rattle.index_store.specs.declared.pair.IndexPair.{IndexPair}
use Rattle.index_store.specs.Order.{pair_cmp}
use Rattle.index_store.specs.inner.GainsAndLosses.{Loss}

-- the row got the pair before the epoch, and not again since
abbrev pub is_before : ℕ → Option Gain → Bool
is_before epoch None = false
is_before epoch (Some gain) = nat_lt gain.epoch epoch

-- the entries without a pair that was lost in the epoch, unless its row got it again
abbrev pub dropped : ℕ → IndexPair → List (IndexPair × Gain) → List (IndexPair × Gain)
dropped epoch pair entries = if is_before epoch (found_at pair_cmp pair entries) then without pair_cmp pair entries else entries

-- the same of several pairs, one after another
abbrev pub all_dropped : ℕ → List IndexPair → List (IndexPair × Gain) → List (IndexPair × Gain)
all_dropped epoch [] entries = entries
all_dropped epoch (pair ∷ more) entries = all_dropped epoch more (dropped epoch pair entries)

-- the same of what was lost in each epoch up to the horizon
abbrev pub left_at : ℕ → List Loss → List (IndexPair × Gain) → List (IndexPair × Gain)
left_at horizon [] entries = entries
left_at horizon (loss ∷ more) entries =
    left_at horizon more (if nat_le loss.epoch horizon then all_dropped loss.epoch loss.pairs entries else entries)
