-- Rows keep their numbers while others are numbered behind them.
use Rattle.std.proofs.Common.{◌≡◌, ◌⊎◌, ⊎_elim, ℕ, ◌+◌, ◌<◌, ◌≤◌, Bool, true, false, cond, not, ◌||◌, List, [], ◌∷◌, ◌++◌, length, map, take, Contains, refl, sym, ap, ◌∙◌, subst, arith}
use Rattle.std.specs.Prelude.{slice_index_or}
use Rattle.std.specs.List.{flat_map, list_any}
use Rattle.std.specs.Map.{keys_of}
use Rattle.std.proofs.lemmas.Bool.{false≢true}
use Rattle.std.proofs.lemmas.List.{length-append, length-take, take_more, map-append, append_assoc, append-nil}
use Rattle.std.proofs.lemmas.Grind.{flat_map-append}
use Rattle.indexmap.specs.IndexSet.{insert_key, insert_all}
use Rattle.geo_base.specs.declared.row_id.RowId.{RowId}
use Rattle.geo_base.specs.Order.{row_eq}
use Rattle.geo_base.specs.laws.Orders.{row_eq_equiv}
use Rattle.write_set.specs.Sets.{ChangeOfRow}
use Rattle.write_set.specs.declared.candidate.Candidate.{Candidate}
use Rattle.write_set.specs.declared.batch.Batch.{Batch}
use Rattle.write_set.specs.Journal.{Placed, placed_from, candidates_of}
use Rattle.write_set.specs.laws.Among.{among_none, among_cases, among_first, among_later}
use Rattle.merge_round.specs.declared.numbering.Entry.{Entry}
use Rattle.merge_round.specs.declared.numbering.Numbering.{Numbering}
use Rattle.merge_round.specs.Rounds.{number_in}
use Rattle.merge_round.specs.inner.Entries.{entry_of, NumbersRows, GrowsBy}
use Rattle.merge_round.proofs.Numbers.{inserted_has, inserted_kept, all_rows}

-- behind rows that have it, others leave a row its number
pub number_stays : (rows more : List RowId) (row : RowId) → Contains rows row → number_in (rows ++ more) row ≡ number_in rows row
number_stays [] more row h = absurd (among_none row h)
number_stays (x ∷ xs) more row h = by (row_eq row x) refl (among_cases x xs row h) (λ later. number_stays xs more row later)
  where
    by : (b : Bool) → row_eq row x ≡ b → (x ≡ row) ⊎ Contains xs row → (Contains xs row → number_in (xs ++ more) row ≡ number_in xs row) →
        cond (not b) (1 + number_in (xs ++ more) row) 0 ≡ cond (not b) (1 + number_in xs row) 0
    by true is cases rest = refl
    by false is cases rest = ⊎_elim
        (λ same. absurd (false≢true (sym is ∙ (ap (row_eq row) same ∙ row_eq_equiv.refl row))))
        (λ later. ap (λ (n : ℕ). 1 + n) (rest later)) cases

insert_stays : (rows : List RowId) (x row : RowId) → Contains rows row → number_in (insert_key row_eq rows x) row ≡ number_in rows row
insert_stays rows x row h = by (list_any (row_eq x) rows)
  where
    by : (b : Bool) → number_in (cond b rows (rows ++ x ∷ [])) row ≡ number_in rows row
    by true = refl
    by false = number_stays rows (x ∷ []) row h

pub inserted_stays : (xs rows : List RowId) (row : RowId) → Contains rows row → number_in (insert_all row_eq rows xs) row ≡ number_in rows row
inserted_stays [] rows row h = refl
inserted_stays (x ∷ xs) rows row h =
    inserted_stays xs (insert_key row_eq rows x) row (inserted_kept (x ∷ []) rows row h) ∙ insert_stays rows x row h

-- a row that was there or not has the number that the step gave it
pub inserted_number : (rows : List RowId) (x : RowId) → number_in (insert_key row_eq rows x) x ≡ number_in rows x
inserted_number rows x = by (list_any (row_eq x) rows) refl
  where
    at_end : (l : List RowId) → list_any (row_eq x) l ≡ false → number_in (l ++ x ∷ []) x ≡ number_in l x
    at_end [] e = rw (row_eq_equiv.refl x) refl
    at_end (y ∷ ys) e = ap (λ (n : ℕ). cond (not (row_eq x y)) (1 + n) 0) (at_end ys (or_right (row_eq x y) (list_any (row_eq x) ys) e))
      where
        or_right : (a b : Bool) → (a || b) ≡ false → b ≡ false
        or_right true b f = absurd (false≢true (sym f))
        or_right false b f = f

    by : (b : Bool) → list_any (row_eq x) rows ≡ b → number_in (cond b rows (rows ++ x ∷ [])) x ≡ number_in rows x
    by true is = refl
    by false is = at_end rows is

-- ---- lists of rows

insert_all-append : (rows xs ys : List RowId) → insert_all row_eq rows (xs ++ ys) ≡ insert_all row_eq (insert_all row_eq rows xs) ys
insert_all-append rows [] ys = refl
insert_all-append rows (x ∷ xs) ys = insert_all-append (insert_key row_eq rows x) xs ys

numbers_stay : (names xs rows : List RowId) → ((r : RowId) → Contains names r → Contains rows r) → map (number_in (insert_all row_eq rows xs)) names ≡ map (number_in rows) names
numbers_stay [] xs rows known = refl
numbers_stay (n ∷ ns) xs rows known =
    ap (λ (k : ℕ). k ∷ map (number_in (insert_all row_eq rows xs)) ns) (inserted_stays xs rows n (known n (among_first n ns)))
    ∙ ap (λ (l : List ℕ). number_in rows n ∷ l) (numbers_stay ns xs rows (λ r h. known r (among_later n r ns h)))

map_pushed : {A B : Type 0} → (f : A → B) (xs : List A) (x : A) → map f (xs ++ x ∷ []) ≡ map f xs ++ f x ∷ []
map_pushed f [] x = refl
map_pushed {A} {B} f (y ∷ ys) x = ap (λ (l : List B). f y ∷ l) (map_pushed f ys x)

-- one row more
pub rows_pushed : (names old mid new : List RowId) (x : RowId) (numbers : List ℕ) (number : ℕ) → NumbersRows names old mid numbers →
    new ≡ insert_key row_eq mid x → number ≡ number_in mid x → NumbersRows (names ++ x ∷ []) old new (numbers ++ number ∷ [])
rows_pushed names old mid new x numbers number so is at =
    let all : new ≡ insert_all row_eq old (names ++ x ∷ []) = is ∙ ap (λ (l : List RowId). insert_key row_eq l x) so.rows ∙ sym (insert_all-append old names (x ∷ [])) in
    let known : (r : RowId) → Contains names r → Contains mid r = λ r h. subst (λ (l : List RowId). Contains l r) (sym so.rows) (inserted_has names old r h) in
    let before : map (number_in (insert_key row_eq mid x)) names ≡ numbers = numbers_stay names (x ∷ []) mid known ∙ sym so.numbered in
    let here : number_in (insert_key row_eq mid x) x ≡ number = inserted_number mid x ∙ sym at in
    record {
      rows = all;
      numbered = subst (λ (l : List RowId). numbers ++ number ∷ [] ≡ map (number_in l) (names ++ x ∷ [])) (sym is)
          (sym (map_pushed (number_in (insert_key row_eq mid x)) names x ∙ ap (λ (l : List ℕ). l ++ number_in (insert_key row_eq mid x) x ∷ []) before ∙ ap (λ (k : ℕ). numbers ++ k ∷ []) here));
    }

inserted_length : (rows : List RowId) (x : RowId) → length (insert_key row_eq rows x) ≤ length rows + 1
inserted_length rows x = by (list_any (row_eq x) rows)
  where
    by : (b : Bool) → length (cond b rows (rows ++ x ∷ [])) ≤ length rows + 1
    by true = omega arith
    by false = omega (arith, length-append rows (x ∷ []))

pub pushed_length : (mid new : List RowId) (x : RowId) (most : ℕ) → new ≡ insert_key row_eq mid x → length mid ≤ most → length new ≤ most + 1
pushed_length mid new x most is below =
    let more = inserted_length mid x in
    let same : length new ≡ length (insert_key row_eq mid x) = ap length is in
    omega arith

keys_taken : (changes : List ChangeOfRow) (i : ℕ) (p : ChangeOfRow) → i < length changes → p ≡ slice_index_or changes i p → keys_of (take (i + 1) changes) ≡ keys_of (take i changes) ++ p.0 ∷ []
keys_taken changes i p within at =
    ap keys_of (take_more changes i p within) ∙ map_pushed (λ (x : ChangeOfRow). x.0) (take i changes) (slice_index_or changes i p)
    ∙ ap (λ (x : ChangeOfRow). keys_of (take i changes) ++ x.0 ∷ []) (sym at)

-- a turn of the loop
pub next_rows : (changes : List ChangeOfRow) (i : ℕ) (p : ChangeOfRow) (old mid new : List RowId) (copy : RowId) (numbers : List ℕ) (number : ℕ) (numbers' : List ℕ) →
    NumbersRows (keys_of (take i changes)) old mid numbers → length mid ≤ length old + i → i < length changes → p ≡ slice_index_or changes i p → copy ≡ p.0 →
    new ≡ insert_key row_eq mid copy → number ≡ number_in mid copy → numbers' ≡ numbers ++ number ∷ [] →
    NumbersRows (keys_of (take (i + 1) changes)) old new numbers' × (length new ≤ length old + (i + 1))
next_rows changes i p old mid new copy numbers number numbers' so below within at same is number_is pushed = (
  subst (λ (ns : List ℕ). NumbersRows (keys_of (take (i + 1) changes)) old new ns) (sym pushed)
      (subst (λ (l : List RowId). NumbersRows l old new (numbers ++ number ∷ [])) (ap (λ (r : RowId). keys_of (take i changes) ++ r ∷ []) same ∙ sym (keys_taken changes i p within at))
      (rows_pushed (keys_of (take i changes)) old mid new copy numbers number so is number_is)),
  (let most = pushed_length mid new copy (length old + i) is below in omega arith),
)

-- ---- candidates

entries_stay : (cs : List Placed) (xs rows : List RowId) → ((d : Placed) (r : RowId) → Contains cs d → Contains (keys_of d.set) r → Contains rows r) →
    map (entry_of (insert_all row_eq rows xs)) cs ≡ map (entry_of rows) cs
entries_stay [] xs rows known = refl
entries_stay (d ∷ ds) xs rows known =
    ap (λ (l : List ℕ). record { region = d.region; csn = d.csn; start = d.start; rows = l } ∷ map (entry_of (insert_all row_eq rows xs)) ds)
    (numbers_stay (keys_of d.set) xs rows (λ r h. known d r (among_first d ds) h))
    ∙ ap (λ (l : List Entry). entry_of rows d ∷ l) (entries_stay ds xs rows (λ e r h k. known e r (among_later d e ds h) k))

-- candidates behind candidates
pub grows_more : (cs ds : List Placed) (a b c : Numbering) → GrowsBy cs a b → GrowsBy ds b c → GrowsBy (cs ++ ds) a c
grows_more cs ds a b c one two =
    let names : List Placed → List RowId = flat_map (λ d. keys_of d.set) in
    let known : (d : Placed) (r : RowId) → Contains cs d → Contains (keys_of d.set) r → Contains b.rows.keys r =
    λ d r h k. subst (λ (l : List RowId). Contains l r) (sym one.rows) (inserted_has (names cs) a.rows.keys r (all_rows cs d r h k)) in
    let stay : map (entry_of c.rows.keys) cs ≡ map (entry_of b.rows.keys) cs = ap (λ (l : List RowId). map (entry_of l) cs) two.rows ∙ entries_stay cs (names ds) b.rows.keys known in
    record {
      rows = two.rows ∙ ap (λ (l : List RowId). insert_all row_eq l (names ds)) one.rows ∙ sym (insert_all-append a.rows.keys (names cs) (names ds))
          ∙ ap (insert_all row_eq a.rows.keys) (sym (flat_map-append (λ d. keys_of d.set) cs ds));
      entries = two.entries ∙ ap (λ (l : List Entry). l ++ map (entry_of c.rows.keys) ds) (one.entries ∙ ap (λ (l : List Entry). a.entries.items ++ l) (sym stay))
          ∙ append_assoc a.entries.items (map (entry_of c.rows.keys) cs) (map (entry_of c.rows.keys) ds)
          ∙ ap (λ (l : List Entry). a.entries.items ++ l) (sym (map-append (entry_of c.rows.keys) cs ds));
    }

grows_one : (a b : Numbering) (c : Placed) (numbers : List ℕ) → NumbersRows (keys_of c.set) a.rows.keys b.rows.keys numbers →
    b.entries.items ≡ a.entries.items ++ record { region = c.region; csn = c.csn; start = c.start; rows = numbers } ∷ [] → GrowsBy (c ∷ []) a b
grows_one a b c numbers so is = record {
  rows = so.rows ∙ ap (insert_all row_eq a.rows.keys) (sym (append-nil (keys_of c.set)));
  entries = is ∙ ap (λ (l : List ℕ). a.entries.items ++ record { region = c.region; csn = c.csn; start = c.start; rows = l } ∷ []) so.numbered;
}

placed_pushed : (region csn : ℕ) (xs : List Candidate) (x : Candidate) →
    placed_from region csn (xs ++ x ∷ []) ≡ placed_from region csn xs ++ record { region = region; csn = csn + length xs; start = x.start; set = x.set } ∷ []
placed_pushed region csn [] x =
    let same : csn ≡ csn + 0 = omega arith in ap (λ (n : ℕ). record { region = region; csn = n; start = x.start; set = x.set } ∷ []) same
placed_pushed region csn (y ∷ ys) x =
    let same : csn + 1 + length ys ≡ csn + length (y ∷ ys) = omega arith in
    let first : Placed = record { region = region; csn = csn; start = y.start; set = y.set } in
    ap (λ (l : List Placed). first ∷ l) (placed_pushed region (csn + 1) ys x
    ∙ ap (λ (n : ℕ). placed_from region (csn + 1) ys ++ record { region = region; csn = n; start = x.start; set = x.set } ∷ []) same)

candidates_pushed : (bs : List Batch) (b : Batch) → candidates_of (bs ++ b ∷ []) ≡ candidates_of bs ++ placed_from b.region 0 b.items
candidates_pushed [] b = append-nil (placed_from b.region 0 b.items)
candidates_pushed (d ∷ ds) b =
    ap (λ (l : List Placed). placed_from d.region 0 d.items ++ l) (candidates_pushed ds b)
    ∙ sym (append_assoc (placed_from d.region 0 d.items) (candidates_of ds) (placed_from b.region 0 b.items))

-- a turn of the loop over a batch's candidates
pub next_candidate : (region : ℕ) (items : List Candidate) (i : ℕ) (x : Candidate) (a b c : Numbering) (numbers : List ℕ) →
    GrowsBy (placed_from region 0 (take i items)) a b → i < length items → x ≡ slice_index_or items i x → NumbersRows (keys_of x.set) b.rows.keys c.rows.keys numbers →
    c.entries.items ≡ b.entries.items ++ record { region = region; csn = i; start = x.start; rows = numbers } ∷ [] → GrowsBy (placed_from region 0 (take (i + 1) items)) a c
next_candidate region items i x a b c numbers grown within at so is =
    let here : Placed = record { region = region; csn = i; start = x.start; set = x.set } in
    let count : 0 + length (take i items) ≡ i = omega (arith, length-take i items) in
    let more : placed_from region 0 (take (i + 1) items) ≡ placed_from region 0 (take i items) ++ here ∷ [] =
    ap (placed_from region 0) (take_more items i x within ∙ ap (λ (y : Candidate). take i items ++ y ∷ []) (sym at)) ∙ placed_pushed region 0 (take i items) x
    ∙ ap (λ (n : ℕ). placed_from region 0 (take i items) ++ record { region = region; csn = n; start = x.start; set = x.set } ∷ []) count in
    subst (λ (l : List Placed). GrowsBy l a c) (sym more) (grows_more (placed_from region 0 (take i items)) (here ∷ []) a b c grown (grows_one b c here numbers so is))

-- a turn of the loop over the batches
pub next_batch : (batches : List Batch) (i : ℕ) (x : Batch) (a b c : Numbering) → GrowsBy (candidates_of (take i batches)) a b → i < length batches → x ≡ slice_index_or batches i x →
    GrowsBy (placed_from x.region 0 x.items) b c → GrowsBy (candidates_of (take (i + 1) batches)) a c
next_batch batches i x a b c grown within at more =
    let all : candidates_of (take (i + 1) batches) ≡ candidates_of (take i batches) ++ placed_from x.region 0 x.items =
    ap candidates_of (take_more batches i x within ∙ ap (λ (y : Batch). take i batches ++ y ∷ []) (sym at)) ∙ candidates_pushed (take i batches) x in
    subst (λ (l : List Placed). GrowsBy l a c) (sym all) (grows_more (candidates_of (take i batches)) (placed_from x.region 0 x.items) a b c grown more)
