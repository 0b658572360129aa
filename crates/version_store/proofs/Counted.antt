-- How many versions of a row a horizon leaves, which are its first ones, and what becomes of the row.
use Rattle.std.proofs.Common.{◌≡◌, ◌⊎◌, inl, inr, ⊎_elim, ℕ, ◌≤◌, ◌≢◌, Bool, true, false, cond, nat_eq, nat_lt, Some, [], ◌∷◌, length, take, refl, sym, ap, ◌∙◌, arith}
use Rattle.std.specs.Option.{is_some}
use Rattle.std.proofs.lemmas.Bool.Decides.{nat_tests}
use Rattle.geo_base.specs.declared.row_id.RowId.{RowId}
use Rattle.geo_base.specs.Order.{row_cmp}
use Rattle.page_map.specs.Pairs.{found_at, put_in}
use Rattle.version_store.specs.Chains.{Chain, kept_at}
use Rattle.version_store.specs.inner.Writing.{Rows, cut, cut_by, replaced, settled}

pub left_within : (horizon : ℕ) (chain : Chain) → length (kept_at horizon chain) ≤ length chain
left_within horizon [] = omega arith
left_within horizon (version ∷ older) = by (nat_lt horizon version.epoch) (is_some version.image) (left_within horizon older)
  where
    by : (b c : Bool) → length (kept_at horizon older) ≤ length older →
        length (cond b (version ∷ kept_at horizon older) (cond c (version ∷ []) [])) ≤ length (version ∷ older)
    by true c rest = omega (arith, rest)
    by false true rest = omega arith
    by false false rest = omega arith

pub front_left : (horizon : ℕ) (chain : Chain) → take (length (kept_at horizon chain)) chain ≡ kept_at horizon chain
front_left horizon [] = refl
front_left horizon (version ∷ older) = by (nat_lt horizon version.epoch) (is_some version.image) (front_left horizon older)
  where
    by : (b c : Bool) → take (length (kept_at horizon older)) older ≡ kept_at horizon older →
        take (length (cond b (version ∷ kept_at horizon older) (cond c (version ∷ []) []))) (version ∷ older) ≡ cond b (version ∷ kept_at horizon older) (cond c (version ∷ []) [])
    by true c rest = ap (λ chain. version ∷ chain) rest
    by false true rest = refl
    by false false rest = refl

-- where not all are left, or none, what is left takes the place of the row's versions
others_go : (row : RowId) (chain : Chain) (before : ℕ) (rows : Rows) → (length chain ≡ 0) ⊎ (length chain ≢ before) → settled before row chain rows ≡ replaced row chain rows
others_go row [] before rows fewer = refl
others_go row (version ∷ older) before rows fewer = ap (λ b. cond b rows (put_in row_cmp row (version ∷ older) rows)) (⊎_elim none_left other fewer)
  where
    none_left : length (version ∷ older) ≡ 0 → nat_eq (length (version ∷ older)) before ≡ false
    none_left none = absurd (omega (arith, none))

    other : length (version ∷ older) ≢ before → nat_eq (length (version ∷ older)) before ≡ false
    other differs = grind (arith, nat_tests, differs)

-- what is left of the versions that are found takes their place
pub front_replaces : (horizon : ℕ) (row : RowId) (chain left : Chain) (count : ℕ) (rows : Rows) → Some chain ≡ found_at row_cmp row rows →
    count ≡ length (kept_at horizon chain) → left ≡ take count chain → (count ≡ 0) ⊎ (count ≢ length chain) → replaced row left rows ≡ cut horizon row rows
front_replaces horizon row chain left count rows found counted is fewer =
    let left_is : left ≡ kept_at horizon chain = is ∙ (ap (λ n. take n chain) counted ∙ front_left horizon chain) in
    ap (λ versions. replaced row versions rows) left_is
    ∙ (sym (others_go row (kept_at horizon chain) (length chain) rows (⊎_elim (λ none. inl (sym counted ∙ none)) (λ other. inr (λ all. other (counted ∙ all))) fewer))
    ∙ ap (λ held. cut_by horizon row held rows) found)
