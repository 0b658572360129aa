-- The steps of a search for a border.
use Rattle.std.proofs.Common.{◌≡◌, ℕ, ◌+◌, ◌<◌, ◌≤◌, Bool, true, false, List, [], ◌∷◌, ◌++◌, length, take, drop, get_or, Some, refl, ap, sym, ◌∙◌, subst, arith, length-append}
use Rattle.std.specs.List.{All, flat_map, slice_get}
use Rattle.std.proofs.lemmas.Bool.{both_ways}
use Rattle.std.proofs.lemmas.List.{append-nil, drop_more, take_more, take-append-drop, length-take-le}
use Rattle.std.proofs.lemmas.List.Elements.{All-nil, All-cons, All-head, All-append, filter-append}
use Rattle.page_map.specs.Borders.{IsBorder, pairs_before, border_in}
use Rattle.page_map.specs.inner.Cuts.{IsBordered, IsBorderedIn}
use Rattle.page_map.specs.laws.Lists.{All-left, All-right, filter_all, filter_none, pieces}
use Rattle.page_map.proofs.Flats.{flat_read, flat_from}

module _ {K V : Type 0} (before : K → Bool) where
  abbrev In : K × V → Type 0
  In pair = before pair.0 ≡ true

  abbrev Out : K × V → Type 0
  Out pair = before pair.0 ≡ false

  -- before a pair that stands before the border all pairs do
  first_in : (x p : K × V) (a b : List (K × V)) (t : Bool) → before x.0 ≡ t → (t ≡ false → All Out (a ++ (p ∷ b))) → before p.0 ≡ true → All In a → All In (x ∷ a)
  first_in x p a b true e h f rest = All-cons In x a e rest
  first_in x p a b false e h f rest =
      absurd (both_ways (before p.0) (All-head Out p b (All-right Out a (p ∷ b) (h refl))) f)

  border_front : (a : List (K × V)) (p : K × V) (b : List (K × V)) → IsBorder before (a ++ (p ∷ b)) → before p.0 ≡ true → All In a
  border_front [] p b h f = All-nil In
  border_front (x ∷ a) p b h f = first_in x p a b (before x.0) refl h.0 f (border_front a p b h.1 f)

  border_back : (a b : List (K × V)) → IsBorder before (a ++ b) → IsBorder before b
  border_back [] b h = h
  border_back (x ∷ a) b h = border_back a b h.1

  border_head : (a b : List (K × V)) → IsBorder before (a ++ b) → IsBorder before a
  border_head [] b h = tt
  border_head (x ∷ a) b h = (λ e. All-left Out a b (h.0 e), border_head a b h.1)

  pub border_mid : (a m b : List (K × V)) → IsBorder before (a ++ (m ++ b)) → IsBorder before m
  border_mid a m b h = border_head m b (border_back a (m ++ b) h)

  -- from a pair that doesn't stand before it on none does
  border_rest : (a : List (K × V)) (p : K × V) (b : List (K × V)) → IsBorder before (a ++ (p ∷ b)) → before p.0 ≡ false → All Out (p ∷ b)
  border_rest a p b h f = All-cons Out p b f ((border_back a (p ∷ b) h).0 f)

  -- how many stand before the border, where it is known of the first and of the last pairs
  pub border_framed : (a m b : List (K × V)) → All In a → All Out b → border_in before (a ++ (m ++ b)) ≡ length a + border_in before m
  border_framed a m b f h =
      ap length (filter-append (λ q. before q.0) a (m ++ b)
      ∙ (ap (λ l. l ++ pairs_before before (m ++ b)) (filter_all (λ q. before q.0) a f)
      ∙ ap (λ l. a ++ l) (filter-append (λ q. before q.0) m b ∙ (ap (λ l. pairs_before before m ++ l) (filter_none (λ q. before q.0) b h) ∙ append-nil (pairs_before before m)))))
      ∙ length-append a (pairs_before before m)

  in_step : (p : K × V) (l : List (K × V)) (b : Bool) → before p.0 ≡ b → border_in before l ≤ length l → border_in before (p ∷ l) ≤ length (p ∷ l)
  in_step p l true e h = rw e (omega arith)
  in_step p l false e h = rw e (omega arith)

  pub border_length : (l : List (K × V)) → border_in before l ≤ length l
  border_length [] = omega arith
  border_length (p ∷ l) = in_step p l (before p.0) refl (border_length l)

-- in a page
module _ {K V : Type 0} (before : K → Bool) (l : List (K × V)) (parted : IsBorder before l) where
  read_at : (i : ℕ) (p : K × V) → i < length l → p ≡ get_or l i p → IsBorder before (take i l ++ (p ∷ drop (i + 1) l))
  read_at i p within read =
      subst (IsBorder before) (sym (pieces l i p within) ∙ ap (λ q. take i l ++ (q ∷ drop (i + 1) l)) (sym read)) parted

  pub bordered_up : (low high i : ℕ) (p : K × V) → IsBordered before l low high → i < high → p ≡ get_or l i p → before p.0 ≡ true → IsBordered before l (i + 1) high
  bordered_up low high i p s h read e =
      let within : i < length l = omega (arith, s.within) in
      let same : take (i + 1) l ≡ take i l ++ (p ∷ []) = take_more l i p within ∙ ap (λ q. take i l ++ (q ∷ [])) (sym read) in
      record {
        ordered = omega arith;
        within = s.within;
        front = subst (All (λ (q : K × V). before q.0 ≡ true)) (sym same)
            (All-append (λ q. before q.0 ≡ true) (take i l) (p ∷ []) (border_front before (take i l) p (drop (i + 1) l) (read_at i p within read) e) (All-cons (λ q. before q.0 ≡ true) p [] e (All-nil (λ q. before q.0 ≡ true))));
        rest = s.rest;
      }

  pub bordered_down : (low high i : ℕ) (p : K × V) → IsBordered before l low high → low ≤ i → i < high → p ≡ get_or l i p → before p.0 ≡ false → IsBordered before l low i
  bordered_down low high i p s g h read e =
      let within : i < length l = omega (arith, s.within) in
      let same : drop i l ≡ p ∷ drop (i + 1) l = drop_more l i p within ∙ ap (λ q. q ∷ drop (i + 1) l) (sym read) in
      record {
        ordered = g;
        within = omega arith;
        front = s.front;
        rest = subst (All (λ (q : K × V). before q.0 ≡ false)) (sym same) (border_rest before (take i l) p (drop (i + 1) l) (read_at i p within read) e);
      }

pub bordered_there : {K V : Type 0} (before : K → Bool) (l : List (K × V)) (low high : ℕ) → IsBordered before l low high → high ≤ low → low ≡ border_in before l
bordered_there before l low high s h =
    let same : high ≡ low = omega (arith, s.ordered) in
    let rest : All (λ q. before q.0 ≡ false) (drop low l) = subst (λ n. All (λ q. before q.0 ≡ false) (drop n l)) same s.rest in
    let n : length (take low l) ≡ low = length-take-le low l (omega (arith, s.within)) in
    let m = ap (border_in before) (sym (take-append-drop low l)) ∙ border_framed before (take low l) [] (drop low l) s.front rest in
    omega (arith, m)

-- in a shelf, by the first pairs of its chunks
module _ {K V X : Type 0} (before : K → Bool) (entries : X → List (K × V)) (cs : List X) where
  front_by : (a m b : List (K × V)) (p : K × V) → IsBorder before (a ++ (m ++ b)) → slice_get m 0 ≡ Some p → before p.0 ≡ true → All (λ q. before q.0 ≡ true) a
  front_by a [] b p h at e = absurd (cc)
  front_by a (q ∷ m) b p h at e =
      let same : p ≡ q = cc in
      border_front before a q (m ++ b) h (subst (λ (r : K × V). before r.0 ≡ true) same e)

  rest_by : (a m b : List (K × V)) (p : K × V) → IsBorder before (a ++ (m ++ b)) → slice_get m 0 ≡ Some p → before p.0 ≡ false → All (λ q. before q.0 ≡ false) (m ++ b)
  rest_by a [] b p h at e = absurd (cc)
  rest_by a (q ∷ m) b p h at e =
      let same : p ≡ q = cc in
      border_rest before a q (m ++ b) h (subst (λ (r : K × V). before r.0 ≡ false) same e)

  pub bordered_in_up : (low high i : ℕ) (x : X) (p : K × V) → IsBorder before (flat_map entries cs) → IsBorderedIn before entries cs low high → i < high → x ≡ get_or cs i x → slice_get (entries x) 0 ≡ Some p → before p.0 ≡ true → IsBorderedIn before entries cs i high
  bordered_in_up low high i x p parted s h read at e =
      let within : i < length cs = omega (arith, s.within) in
      record {
        ordered = h;
        within = s.within;
        front = front_by (flat_map entries (take i cs)) (entries x) (flat_map entries (drop (i + 1) cs)) p (subst (IsBorder before) (flat_read entries cs i x within read) parted) at e;
        rest = s.rest;
      }

  pub bordered_in_down : (low high i : ℕ) (x : X) (p : K × V) → IsBorder before (flat_map entries cs) → IsBorderedIn before entries cs low high → low < i → i < high → x ≡ get_or cs i x → slice_get (entries x) 0 ≡ Some p → before p.0 ≡ false → IsBorderedIn before entries cs low i
  bordered_in_down low high i x p parted s g h read at e =
      let within : i < length cs = omega (arith, s.within) in
      record {
        ordered = g;
        within = omega arith;
        front = s.front;
        rest = subst (All (λ q. before q.0 ≡ false)) (sym (flat_from entries cs i x within read))
            (rest_by (flat_map entries (take i cs)) (entries x) (flat_map entries (drop (i + 1) cs)) p (subst (IsBorder before) (flat_read entries cs i x within read) parted) at e);
      }

  -- the border of all pairs by that of a chunk
  pub border_there : (i next : ℕ) (x : X) → IsBorderedIn before entries cs i next → next ≡ i + 1 → x ≡ get_or cs i x → border_in before (flat_map entries cs) ≡ length (flat_map entries (take i cs)) + border_in before (entries x)
  border_there i next x s one read =
      let within : i < length cs = omega (arith, s.ordered, s.within) in
      ap (border_in before) (flat_read entries cs i x within read)
      ∙ border_framed before (flat_map entries (take i cs)) (entries x) (flat_map entries (drop (i + 1) cs)) s.front (subst (λ n. All (λ q. before q.0 ≡ false) (flat_map entries (drop n cs))) one s.rest)

  pub border_of_chunk : (i : ℕ) (x : X) → i < length cs → x ≡ get_or cs i x → IsBorder before (flat_map entries cs) → IsBorder before (entries x)
  border_of_chunk i x within read parted =
      border_mid before (flat_map entries (take i cs)) (entries x) (flat_map entries (drop (i + 1) cs)) (subst (IsBorder before) (flat_read entries cs i x within read) parted)
