-- The loop over the places of a key, and that over the columns of a table.
use Rattle.std.proofs.Common.{◌≡◌, ℕ, ◌+◌, ◌-◌, ◌<◌, ◌≤◌, List, [], ◌∷◌, ◌++◌, length, get_or, Ok, subst, arith}
use Rattle.std.proofs.lemmas.List.{length-append}
use Rattle.geo_base.specs.declared.cell.Cell.{Cell}
use Rattle.geo_base.specs.Results.{Read, Fails}
use Rattle.geo_schema.specs.declared.table.TableDef.{TableDef}
use Rattle.row_codec.specs.inner.Things.{things_at, ComesTo}
use Rattle.row_codec.specs.laws.Things.{goes_on, fails, is_done}
use Rattle.set_codec.specs.declared.fault.CodecFault.{CodecFault}
use Rattle.set_codec.specs.inner.Reading.{taken_at}

module _ (table : TableDef) (key : List ℕ) (is : key ≡ table.key) (bytes : List ℕ) (i : ℕ) (front : List Cell) (next : ℕ) (whole : Read CodecFault (List Cell)) where
  abbrev LeftOfKey : Type 0
  LeftOfKey = ComesTo front whole (things_at (λ k. taken_at table (get_or table.key k 0)) (λ k _. k + 1) (length table.key - i) i bytes next)

  pub key_goes_on : (x : Cell) (behind : ℕ) → i < length key → taken_at table (get_or key i 0) bytes next ≡ Ok (x, behind) → LeftOfKey →
      ComesTo (front ++ x ∷ []) whole (things_at (λ k. taken_at table (get_or table.key k 0)) (λ k _. k + 1) (length table.key - (i + 1)) (i + 1) bytes behind)
  key_goes_on x behind lt read so_far =
      goes_on (λ k. taken_at table (get_or table.key k 0)) (λ k _. k + 1) bytes (length table.key) i i front next whole x behind (subst (λ (ks : List ℕ). i < length ks) is lt)
      (subst (λ (ks : List ℕ). taken_at table (get_or ks i 0) bytes next ≡ Ok (x, behind)) is read) so_far

  pub key_fails : (no_memory e : CodecFault) → i < length key → Fails no_memory e (taken_at table (get_or key i 0) bytes next) → LeftOfKey → Fails no_memory e whole
  key_fails no_memory e lt failed so_far =
      fails (λ k. taken_at table (get_or table.key k 0)) (λ k _. k + 1) bytes (length table.key) i i front next whole no_memory e (subst (λ (ks : List ℕ). i < length ks) is lt)
      (subst (λ (ks : List ℕ). Fails no_memory e (taken_at table (get_or ks i 0) bytes next)) is failed) so_far

  pub key_done : length key ≤ i → LeftOfKey → whole ≡ Ok (front, next)
  key_done le so_far = is_done (λ k. taken_at table (get_or table.key k 0)) (λ k _. k + 1) bytes (length table.key) i i front next whole (subst (λ (ks : List ℕ). length ks ≤ i) is le) so_far

-- one more cell
pub one_more : (front : List Cell) (x : Cell) (i : ℕ) → length front ≡ i → length (front ++ x ∷ []) ≡ i + 1
one_more front x i e = omega (arith, length-append front (x ∷ []), e)
