-- The numbers of rows: each row that the candidates have has one of its own.
use Rattle.std.proofs.Common.{◌≡◌, ◌⊎◌, ⊎_elim, ℕ, suc, ◌+◌, ◌<◌, Bool, true, false, cond, not, Some, List, [], ◌∷◌, ◌++◌, length, Contains, refl, sym, ap, ◌∙◌, subst, arith}
use Rattle.std.specs.List.{slice_get, flat_map, list_any}
use Rattle.std.specs.Map.{keys_of}
use Rattle.std.proofs.lemmas.Bool.{false≢true}
use Rattle.std.proofs.lemmas.List.Elements.{Contains-append_left, Contains-append_right, Contains-push}
use Rattle.indexmap.specs.IndexSet.{insert_key, insert_all}
use Rattle.geo_base.specs.declared.row_id.RowId.{RowId}
use Rattle.geo_base.specs.Order.{row_eq}
use Rattle.geo_base.specs.laws.Orders.{row_eq_equiv}
use Rattle.write_set.specs.Journal.{Placed}
use Rattle.write_set.specs.Sets.{ChangeOfRow}
use Rattle.write_set.specs.laws.Among.{among_none, among_first, among_later, among_cases, any_found}
use Rattle.write_set.specs.laws.Rivals.{row_same}
use Rattle.merge_round.specs.Rounds.{rows_in, number_in}

later_named : (x : RowId) (xs : List RowId) (k : ℕ) (row : RowId) → slice_get xs k ≡ Some row → slice_get (x ∷ xs) (1 + k) ≡ Some row
later_named x xs k row h = let next : 1 + k ≡ suc k = omega arith in rw next h

-- a row that is among the rows has a number
pub number_named : (rows : List RowId) (row : RowId) → Contains rows row → (number_in rows row < length rows) × (slice_get rows (number_in rows row) ≡ Some row)
number_named [] row h = absurd (among_none row h)
number_named (x ∷ xs) row h = by (row_eq row x) refl (among_cases x xs row h) (λ later. number_named xs row later)
  where
    by : (b : Bool) → row_eq row x ≡ b → (x ≡ row) ⊎ Contains xs row → (Contains xs row → (number_in xs row < length xs) × (slice_get xs (number_in xs row) ≡ Some row)) →
        (number_in (x ∷ xs) row < length (x ∷ xs)) × (slice_get (x ∷ xs) (number_in (x ∷ xs) row) ≡ Some row)
    by true is cases rest = rw is (omega arith, ap Some (sym (row_same row x is)))
    by false is cases rest = ⊎_elim
        (λ same. absurd (false≢true (sym is ∙ (ap (row_eq row) same ∙ row_eq_equiv.refl row))))
        (λ later. let tail = rest later in rw is (omega (arith, tail.0), later_named x xs (number_in xs row) row tail.1)) cases

-- and no other row has it
pub number_same : (rows : List RowId) (r row : RowId) → Contains rows r → number_in rows r ≡ number_in rows row → r ≡ row
number_same [] r row h e = absurd (among_none r h)
number_same (x ∷ xs) r row h e = by (row_eq r x) (row_eq row x) refl refl e (among_cases x xs r h) (λ later same. number_same xs r row later same)
  where
    by : (b c : Bool) → row_eq r x ≡ b → row_eq row x ≡ c → cond (not b) (1 + number_in xs r) 0 ≡ cond (not c) (1 + number_in xs row) 0 →
        (x ≡ r) ⊎ Contains xs r → (Contains xs r → number_in xs r ≡ number_in xs row → r ≡ row) → r ≡ row
    by true true rx ox e cases rest = row_same r x rx ∙ sym (row_same row x ox)
    by true false rx ox e cases rest = absurd (omega (arith, e))
    by false true rx ox e cases rest = absurd (omega (arith, e))
    by false false rx ox e cases rest = ⊎_elim
        (λ same. absurd (false≢true (sym rx ∙ (ap (row_eq r) same ∙ row_eq_equiv.refl r))))
        (λ later. rest later (omega (arith, e))) cases

-- ---- which rows are among them

insert_has : (ks : List RowId) (k : RowId) → Contains (insert_key row_eq ks k) k
insert_has ks k = by (list_any (row_eq k) ks) refl
  where
    by : (b : Bool) → list_any (row_eq k) ks ≡ b → Contains (cond b ks (ks ++ k ∷ [])) k
    by true is = let found = any_found (row_eq k) ks is in subst (Contains ks) (sym (row_same k found.0 found.2)) found.1
    by false is = Contains-push ks k

insert_keeps : (ks : List RowId) (k row : RowId) → Contains ks row → Contains (insert_key row_eq ks k) row
insert_keeps ks k row h = by (list_any (row_eq k) ks)
  where
    by : (b : Bool) → Contains (cond b ks (ks ++ k ∷ [])) row
    by true = h
    by false = Contains-append_left ks (k ∷ []) row h

pub inserted_kept : (xs ks : List RowId) (row : RowId) → Contains ks row → Contains (insert_all row_eq ks xs) row
inserted_kept [] ks row h = h
inserted_kept (x ∷ xs) ks row h = inserted_kept xs (insert_key row_eq ks x) row (insert_keeps ks x row h)

pub inserted_has : (xs ks : List RowId) (row : RowId) → Contains xs row → Contains (insert_all row_eq ks xs) row
inserted_has [] ks row h = absurd (among_none row h)
inserted_has (x ∷ xs) ks row h = ⊎_elim
    (λ same. inserted_kept xs (insert_key row_eq ks x) row (subst (Contains (insert_key row_eq ks x)) same (insert_has ks x)))
    (λ later. inserted_has xs (insert_key row_eq ks x) row later)
    (among_cases x xs row h)

pub all_rows : (all : List Placed) (c : Placed) (row : RowId) → Contains all c → Contains (keys_of c.set) row → Contains (flat_map (λ d. keys_of d.set) all) row
all_rows [] c row h k = absurd (among_none c h)
all_rows (d ∷ ds) c row h k = ⊎_elim
    (λ same. Contains-append_left (keys_of d.set) (flat_map (λ x. keys_of x.set) ds) row (subst (λ (x : Placed). Contains (keys_of x.set) row) (sym same) k))
    (λ later. Contains-append_right (keys_of d.set) (flat_map (λ x. keys_of x.set) ds) row (all_rows ds c row later k))
    (among_cases d ds c h)

-- each row of a candidate is one of the round's rows
pub row_known : (all : List Placed) (c : Placed) (row : RowId) → Contains all c → Contains (keys_of c.set) row → Contains (rows_in all) row
row_known all c row h k = inserted_has (flat_map (λ d. keys_of d.set) all) [] row (all_rows all c row h k)

-- the row of a change is one of the set's
pub key_among : (set : List ChangeOfRow) (p : ChangeOfRow) → Contains set p → Contains (keys_of set) p.0
key_among [] p h = absurd (among_none p h)
key_among (q ∷ qs) p h = ⊎_elim
    (λ same. subst (λ (x : ChangeOfRow). Contains (keys_of (q ∷ qs)) x.0) same (among_first q.0 (keys_of qs)))
    (λ later. among_later q.0 p.0 (keys_of qs) (key_among qs p later))
    (among_cases q qs p h)
