-- The keys of the pairs that are found between the edges of a range are the keys in the range.
use Rattle.std.proofs.Common.{◌≡◌, ℕ, Result, Ok, Err, IfOk, List, [], ◌∷◌, map, Contains, refl, sym, ap, ◌∙◌, subst}
use Rattle.std.specs.List.{slice_range}
use Rattle.std.specs.Map.{keys_of}
use denote.Ref.{Bor}
use Rattle.geo_base.specs.declared.cell.Cell.{Cell}
use Rattle.geo_schema.specs.declared.range.KeyRange.{KeyRange}
use Rattle.geo_schema.specs.Schemas.{Tables}
use Rattle.write_set.specs.laws.Among.{among_filtered, filtered_among}
use Rattle.page_map.specs.Borders.{IsBorder, border_in, pairs_between}
use Rattle.page_map.specs.Pairs.{IsRising}
use Rattle.page_map.specs.laws.Borders.{between_places, border_from_order}
use Rattle.index_store.specs.declared.gain.Gain.{Gain}
use Rattle.index_store.specs.declared.pair.IndexPair.{IndexPair}
use Rattle.index_store.specs.Order.{pair_cmp}
use Rattle.index_store.specs.Kept.{KeptImages}
use Rattle.index_store.specs.Ranges.{LiesIn, AreKeysIn}
use Rattle.index_store.specs.Rows.{FindsRows}
use Rattle.index_store.specs.Store.{Stored, pairs_of, IsStoreOf}
use Rattle.index_store.specs.inner.Edges.{is_before_low, is_before_high}
use Rattle.index_store.specs.inner.Keys.{AreRisingOf}
use Rattle.index_store.specs.laws.Finding.{finds_rows}
use Rattle.index_store.specs.laws.Members.{in_map, from_map}
use Rattle.index_store.proofs.Bordering.{is_between, low_back, high_back, between_lies, lies_between}
use Rattle.index_store.proofs.Found.{Entries}

abbrev Found : Type 0
Found = List (Bor IndexPair × Bor Gain)

module _ (table index : ℕ) (range : KeyRange) (entries : Entries) (rising : IsRising pair_cmp entries) where
  pub low_border : IsBorder (is_before_low table index range.low) entries
  low_border = border_from_order pair_cmp (is_before_low table index range.low) (low_back table index range.low) entries rising

  pub high_border : IsBorder (is_before_high table index range.high) entries
  high_border = border_from_order pair_cmp (is_before_high table index range.high) (high_back table index range.high) entries rising

  abbrev between : Entries
  between = pairs_between (is_before_low table index range.low) (is_before_high table index range.high) entries

  keys_now : (found : Found) → map (λ (e : Bor IndexPair × Bor Gain). e.0.now.key) found ≡ map (λ (e : IndexPair × Gain). e.0.key) (map (λ (e : Bor IndexPair × Bor Gain). (e.0.now, e.1.now)) found)
  keys_now [] = refl
  keys_now (e ∷ found) = ap (λ l. e.0.now.key ∷ l) (keys_now found)

  keys_in_between : (keys : List (List Cell)) → AreRisingOf (map (λ (e : IndexPair × Gain). e.0.key) between) keys → AreKeysIn table index range (keys_of entries) keys
  keys_in_between keys are = record {
    rising = are.ordered;
    each = λ pair among lies.
        let (entry, there, same) = from_map (λ (e : IndexPair × Gain). e.0) entries pair among in
        let test = lies_between table index range entry.0 (subst (LiesIn table index range) (sym same) lies) in
        let inside = among_filtered (λ (e : IndexPair × Gain). is_between table index range e.0) entries entry there test in
        subst (λ p. Contains keys p.key) same (are.each entry.0.key (in_map (λ (e : IndexPair × Gain). e.0.key) between entry inside));
    only = λ key c.
        let (entry, inside, same) = from_map (λ (e : IndexPair × Gain). e.0.key) between key (are.only key c) in
        let (there, test) = filtered_among (λ (e : IndexPair × Gain). is_between table index range e.0) entries entry inside in
        (entry.0, in_map (λ (e : IndexPair × Gain). e.0) entries entry there, between_lies table index range entry.0 test, same);
  }

  pub keys_in_range : (found : Found) (keys : List (List Cell)) →
      map (λ (e : Bor IndexPair × Bor Gain). (e.0.now, e.1.now)) found ≡ slice_range entries (border_in (is_before_low table index range.low) entries) (border_in (is_before_high table index range.high) entries) →
      AreRisingOf (map (λ (e : Bor IndexPair × Bor Gain). e.0.now.key) found) keys → AreKeysIn table index range (keys_of entries) keys
  keys_in_range found keys is are =
      keys_in_between keys
      (subst (λ l. AreRisingOf l keys) (keys_now found ∙ ap (map (λ (e : IndexPair × Gain). e.0.key)) (is ∙ sym (between_places (is_before_low table index range.low) (is_before_high table index range.high) entries low_border high_border))) are)

-- the same by what each call of `range` gives
pub keys_call : (table index : ℕ) (range : KeyRange) (inside before : Stored) → IsRising pair_cmp inside.entries → inside ≡ before →
    (first last : ℕ) (found shown : Found) →
    first ≡ border_in (is_before_low table index range.low) inside.entries → last ≡ border_in (is_before_high table index range.high) inside.entries →
    map (λ (e : Bor IndexPair × Bor Gain). (e.0.now, e.1.now)) found ≡ slice_range inside.entries first last → shown ≡ found →
    {V E : Type 0} (seen : V → List (List Cell)) (result : Result V E) →
    IfOk result (λ keys. AreRisingOf (map (λ (e : Bor IndexPair × Bor Gain). e.0.now.key) shown) (seen keys)) →
    IfOk result (λ keys. AreKeysIn table index range (pairs_of before) (seen keys))
keys_call table index range inside before rising same first last found shown from upto is here seen (Ok keys) are =
    subst (λ (s : Stored). AreKeysIn table index range (pairs_of s) (seen keys)) same
    (keys_in_range table index range inside.entries rising found (seen keys)
    (is ∙ ap (λ n. slice_range inside.entries n last) from ∙ ap (slice_range inside.entries (border_in (is_before_low table index range.low) inside.entries)) upto)
    (subst (λ (l : Found). AreRisingOf (map (λ (e : Bor IndexPair × Bor Gain). e.0.now.key) l) (seen keys)) here are))
keys_call table index range inside before rising same first last found shown from upto is here seen (Err e) are = tt

-- and of the rows that are found
pub rows_call : (tables : Tables) (kept : KeptImages) (table index : ℕ) (range : KeyRange) (store : Stored) → IsStoreOf tables kept store →
    {V E : Type 0} (seen : V → List (List Cell)) (result : Result V E) →
    IfOk result (λ keys. AreKeysIn table index range (pairs_of store) (seen keys)) → IfOk result (λ keys. FindsRows tables kept table index range (seen keys))
rows_call tables kept table index range store is seen (Ok keys) are = finds_rows tables kept (pairs_of store) table index range (seen keys) is.index are
rows_call tables kept table index range store is seen (Err e) are = tt
