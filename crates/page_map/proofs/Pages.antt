-- What a page's search says of the list of its pairs.
use Rattle.std.proofs.Common.{◌≡◌, ℕ, ◌+◌, ◌-◌, ◌<◌, ◌≤◌, List, [], ◌∷◌, ◌++◌, length, take, drop, set, get_or, Some, None, ap, sym, ◌∙◌, subst, add-one, length-drop}
use Rattle.std.specs.List.{insert, remove}
use Rattle.std.specs.declared.cmp.Ordering.{Ordering}
use Rattle.std.specs.declared.cmp.Ordering.TheVariants.{Equal}
use Rattle.std.proofs.lemmas.List.{take-append-drop, set_split, length-take-le}
use Rattle.page_map.specs.Pairs.{found_at, put_in, without}
use Rattle.page_map.specs.inner.Cuts.{IsFoundAt, IsGapAt}
use Rattle.page_map.specs.laws.Lists.{pieces}
use Rattle.page_map.specs.laws.Orders.{put_framed, without_framed, found_framed, put_same, without_same, found_same}

module _ {K V : Type 0} (R : K → K → Ordering) (key : K) (l : List (K × V)) (i : ℕ) where
  whole_at : (p : K × V) → i < length l → p ≡ get_or l i p → l ≡ take i l ++ ((p ∷ []) ++ drop (i + 1) l)
  whole_at p within read = sym (pieces l i p within) ∙ ap (λ q. take i l ++ (q ∷ drop (i + 1) l)) (sym read)

  whole_gap : l ≡ take i l ++ ([] ++ drop i l)
  whole_gap = sym (take-append-drop i l)

  same_key : (p : K × V) → IsFoundAt R key l i → p ≡ get_or l i p → R p.0 key ≡ Equal
  same_key p f read = subst (λ (q : K × V). R q.0 key ≡ Equal) (sym read) (f.same p)

  pub page_found : (p : K × V) → IsFoundAt R key l i → p ≡ get_or l i p → found_at R key l ≡ Some p.1
  page_found p f read =
      ap (found_at R key) (whole_at p f.within read) ∙ (found_framed R key (take i l) (p ∷ []) (drop (i + 1) l) f.cut ∙ found_same R key p (same_key p f read))

  pub page_none : IsGapAt R key l i → found_at R key l ≡ None
  page_none g = ap (found_at R key) whole_gap ∙ found_framed R key (take i l) [] (drop i l) g.cut

  pub page_set : (value : V) (p : K × V) → IsFoundAt R key l i → p ≡ get_or l i p → set l i (key, value) ≡ put_in R key value l
  page_set value p f read =
      set_split l i (key, value) f.within
      ∙ (ap (λ n. take i l ++ ((key, value) ∷ drop n l)) (sym (add-one i))
      ∙ sym (ap (put_in R key value) (whole_at p f.within read)
      ∙ (put_framed R key value (take i l) (p ∷ []) (drop (i + 1) l) f.cut
      ∙ ap (λ m. take i l ++ (m ++ drop (i + 1) l)) (put_same R key value p (same_key p f read)))))

  pub page_insert : (value : V) → IsGapAt R key l i → insert l i (key, value) ≡ put_in R key value l
  page_insert value g =
      sym (ap (put_in R key value) whole_gap ∙ put_framed R key value (take i l) [] (drop i l) g.cut)

  pub page_remove : (p : K × V) → IsFoundAt R key l i → p ≡ get_or l i p → remove l i ≡ without R key l
  page_remove p f read =
      ap (λ n. take i l ++ drop n l) (sym (add-one i))
      ∙ sym (ap (without R key) (whole_at p f.within read)
      ∙ (without_framed R key (take i l) (p ∷ []) (drop (i + 1) l) f.cut
      ∙ ap (λ m. take i l ++ (m ++ drop (i + 1) l)) (without_same R key p (same_key p f read))))

  pub page_kept : IsGapAt R key l i → l ≡ without R key l
  page_kept g = whole_gap ∙ sym (ap (without R key) whole_gap ∙ without_framed R key (take i l) [] (drop i l) g.cut)

-- a page that is halved
module _ {P : Type 0} (pairs : List P) (half : ℕ) (front back first last : List P) (before : front ≡ take half pairs) (behind : back ≡ drop half pairs) (copied_front : first ≡ front) (copied_back : last ≡ back) where
  pub halves_joined : pairs ≡ first ++ last
  halves_joined =
      sym (ap (λ l. l ++ last) (copied_front ∙ before) ∙ (ap (λ l. take half pairs ++ l) (copied_back ∙ behind) ∙ take-append-drop half pairs))

  pub first_length : half ≤ length pairs → length first ≡ half
  first_length within = ap length (copied_front ∙ before) ∙ length-take-le half pairs within

  pub last_length : length last ≡ length pairs - half
  last_length = ap length (copied_back ∙ behind) ∙ length-drop half pairs
