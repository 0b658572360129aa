-- Numbers and rows name one another.
use Rattle.std.proofs.Common.{◌≡◌, ◌⊎◌, inl, inr, ⊎_elim, ℕ, zero, suc, Bool, true, false, cond, Some, List, [], ◌∷◌, ◌++◌, length, Contains, refl, sym, ap, ◌∙◌, subst, arith}
use Rattle.std.specs.List.{slice_get, flat_map, list_any}
use Rattle.std.specs.Map.{keys_of}
use Rattle.std.proofs.lemmas.Option.{none-some, same_Some}
use Rattle.indexmap.specs.IndexSet.{insert_key, insert_all}
use Rattle.geo_base.specs.declared.row_id.RowId.{RowId}
use Rattle.geo_base.specs.Order.{row_eq}
use Rattle.geo_base.specs.laws.Orders.{row_eq_equiv}
use Rattle.write_set.specs.Sets.{ChangeOfRow, has_row}
use Rattle.write_set.specs.Journal.{Placed}
use Rattle.write_set.specs.laws.Among.{among_none, among_first, among_later, among_cases, any_found, or_false}
use Rattle.write_set.specs.laws.Rivals.{row_among, row_same}
use Rattle.merge_round.specs.Rounds.{rows_in, number_in}
use Rattle.merge_round.proofs.Numbers.{number_named, row_known, key_among}
use Rattle.merge_round.proofs.Growing.{number_stays}
use Rattle.merge_round.proofs.Deciding.{get_among}

-- ---- a row of a candidate stands at its number

pub row_named : (all : List Placed) (c : Placed) (row : RowId) → Contains all c → has_row row c.set ≡ true → slice_get (rows_in all) (number_in (rows_in all) row) ≡ Some row
row_named all c row among has =
    let found = any_found (λ (p : ChangeOfRow). row_eq row p.0) c.set has in
    let same : row ≡ found.0.0 = row_same row found.0.0 found.2 in
    let key : Contains (keys_of c.set) row = subst (Contains (keys_of c.set)) (sym same) (key_among c.set found.0 found.1) in
    (number_named (rows_in all) row (row_known all c row among key)).1

-- ---- each row has the number of its place

abbrev AreNumbered : List RowId → Type 0
AreNumbered rows = (number : ℕ) (row : RowId) → slice_get rows number ≡ Some row → number_in rows row ≡ number

-- a row that is new among these has the number of the last place
new_number : (rows : List RowId) (row : RowId) → list_any (row_eq row) rows ≡ false → number_in (rows ++ row ∷ []) row ≡ length rows
new_number [] row new = rw (row_eq_equiv.refl row) refl
new_number (x ∷ xs) row new =
    let both = or_false (row_eq row x) (list_any (row_eq row) xs) new in
    let rest : number_in (xs ++ row ∷ []) row ≡ length xs = new_number xs row both.1 in
    rw both.0 (omega arith)

-- what stands in a list with one element more
place_cases : (rows : List RowId) (last row : RowId) (number : ℕ) → slice_get (rows ++ last ∷ []) number ≡ Some row →
    (slice_get rows number ≡ Some row) ⊎ ((number ≡ length rows) × (last ≡ row))
place_cases [] last row zero at = inr (refl, same_Some _ _ at)
place_cases [] last row (suc number) at = absurd (none-some _ at)
place_cases (x ∷ xs) last row zero at = inl at
place_cases (x ∷ xs) last row (suc number) at = ⊎_elim inl (λ (t : (number ≡ length xs) × (last ≡ row)). inr (ap suc t.0, t.1)) (place_cases xs last row number at)

numbered_more : (rows : List RowId) (x : RowId) → AreNumbered rows → AreNumbered (insert_key row_eq rows x)
numbered_more rows x are = by (list_any (row_eq x) rows) refl
  where
    by : (b : Bool) → list_any (row_eq x) rows ≡ b → AreNumbered (cond b rows (rows ++ x ∷ []))
    by true is = are
    by false is = λ number row at. ⊎_elim
        (λ (here : slice_get rows number ≡ Some row). number_stays rows (x ∷ []) row (get_among rows number row here) ∙ are number row here)
        (λ (last : (number ≡ length rows) × (x ≡ row)). ap (number_in (rows ++ x ∷ [])) (sym last.1) ∙ new_number rows x is ∙ sym last.0)
        (place_cases rows x row number at)

all_numbered : (xs rows : List RowId) → AreNumbered rows → AreNumbered (insert_all row_eq rows xs)
all_numbered [] rows are = are
all_numbered (x ∷ xs) rows are = all_numbered xs (insert_key row_eq rows x) (numbered_more rows x are)

pub place_numbered : (all : List Placed) (number : ℕ) (row : RowId) → slice_get (rows_in all) number ≡ Some row → number_in (rows_in all) row ≡ number
place_numbered all = all_numbered (flat_map (λ c. keys_of c.set) all) [] (λ number row at. absurd (none-some _ at))

-- ---- each row is one of a candidate

either_has : {X : Type 0} → (xs ys : List X) (x : X) → Contains (xs ++ ys) x → Contains xs x ⊎ Contains ys x
either_has [] ys x h = inr h
either_has (y ∷ xs) ys x h = ⊎_elim
    (λ same. inl (subst (Contains (y ∷ xs)) same (among_first y xs)))
    (λ later. ⊎_elim (λ here. inl (among_later y x xs here)) (λ there. inr there) (either_has xs ys x later))
    (among_cases y (xs ++ ys) x h)

inserted_only : (xs rows : List RowId) (row : RowId) → Contains (insert_all row_eq rows xs) row → Contains rows row ⊎ Contains xs row
inserted_only [] rows row h = inl h
inserted_only (x ∷ xs) rows row h = ⊎_elim
    (λ here. by (list_any (row_eq x) rows) here)
    (λ later. inr (among_later x row xs later))
    (inserted_only xs (insert_key row_eq rows x) row h)
  where
    by : (b : Bool) → Contains (cond b rows (rows ++ x ∷ [])) row → Contains rows row ⊎ Contains (x ∷ xs) row
    by true here = inl here
    by false here = ⊎_elim (λ old. inl old)
        (λ new. ⊎_elim (λ same. inr (subst (Contains (x ∷ xs)) same (among_first x xs))) (λ none. absurd (among_none row none)) (among_cases x [] row new))
        (either_has rows (x ∷ []) row here)

key_change : (set : List ChangeOfRow) (row : RowId) → Contains (keys_of set) row → has_row row set ≡ true
key_change set row h = let found = change_of set row h in subst (λ (r : RowId). has_row r set ≡ true) found.2 (row_among found.0 set found.1)
  where
    change_of : (ps : List ChangeOfRow) (row : RowId) → Contains (keys_of ps) row → (p : ChangeOfRow) × Contains ps p × (p.0 ≡ row)
    change_of [] row h = absurd (among_none row h)
    change_of (p ∷ ps) row h = ⊎_elim
        (λ same. (p, among_first p ps, same))
        (λ later. let rest = change_of ps row later in (rest.0, among_later p rest.0 ps rest.1, rest.2))
        (among_cases p.0 (keys_of ps) row h)

row_from : (all : List Placed) (row : RowId) → Contains (flat_map (λ c. keys_of c.set) all) row → (c : Placed) × Contains all c × (has_row row c.set ≡ true)
row_from [] row h = absurd (among_none row h)
row_from (c ∷ cs) row h = ⊎_elim
    (λ here. (c, among_first c cs, key_change c.set row here))
    (λ later. let rest = row_from cs row later in (rest.0, among_later c rest.0 cs rest.1, rest.2))
    (either_has (keys_of c.set) (flat_map (λ d. keys_of d.set) cs) row h)

pub row_of_one : (all : List Placed) (row : RowId) → Contains (rows_in all) row → (c : Placed) × Contains all c × (has_row row c.set ≡ true)
row_of_one all row h = ⊎_elim (λ none. absurd (among_none row none)) (λ has. row_from all row has) (inserted_only (flat_map (λ c. keys_of c.set) all) [] row h)
