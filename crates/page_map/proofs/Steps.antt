-- The steps of the searches.
use Rattle.std.proofs.Common.{◌≡◌, ℕ, ◌+◌, ◌<◌, ◌≤◌, true, false, List, [], ◌∷◌, ◌++◌, length, take, drop, get_or, Some, ap, sym, ◌∙◌, subst, arith}
use Rattle.std.specs.List.{flat_map, slice_get}
use Rattle.std.specs.Ordering.{is_gt}
use Rattle.std.specs.declared.cmp.Ordering.{Ordering}
use Rattle.std.specs.declared.cmp.Ordering.TheVariants.{Less, Equal, Greater}
use Rattle.std.specs.Cmp.{IsTotalOrder}
use Rattle.std.proofs.lemmas.List.{drop_more, take_more, get_or_read}
use Rattle.std.proofs.lemmas.List.Elements.{All-nil, All-cons, All-append}
use Rattle.page_map.specs.Pairs.{IsRising}
use Rattle.page_map.specs.inner.Cuts.{AllUnder, AllOver, IsSearching, IsNarrowing, IsFoundAt, head_is_over}
use Rattle.page_map.specs.laws.Lists.{pieces}
use Rattle.page_map.specs.laws.Orders.{cut_before, cut_from, cut_after, part_over, part_under}
use Rattle.page_map.proofs.Flats.{flat_read, flat_from}

module _ {K V : Type 0} (R : K → K → Ordering) (total : IsTotalOrder R) (key : K) (l : List (K × V)) (rising : IsRising R l) where
  -- the list around the pair that is read at a place
  around : (i : ℕ) (p : K × V) → i < length l → p ≡ get_or l i p → IsRising R (take i l ++ (p ∷ drop (i + 1) l))
  around i p within read =
      subst (IsRising R) (sym (pieces l i p within) ∙ ap (λ q. take i l ++ (q ∷ drop (i + 1) l)) (sym read)) rising

  step_less : (i : ℕ) (p : K × V) → i < length l → p ≡ get_or l i p → R p.0 key ≡ Less → AllUnder R key (take (i + 1) l)
  step_less i p within read e =
      let front = cut_before R total key (take i l) p (drop (i + 1) l) (around i p within read) (ap is_gt e) in
      let same : take (i + 1) l ≡ take i l ++ (p ∷ []) = take_more l i p within ∙ ap (λ q. take i l ++ (q ∷ [])) (sym read) in
      subst (AllUnder R key) (sym same) (All-append (λ q. R q.0 key ≡ Less) (take i l) (p ∷ []) front (All-cons (λ q. R q.0 key ≡ Less) p [] e (All-nil (λ q. R q.0 key ≡ Less))))

  step_greater : (i : ℕ) (p : K × V) → i < length l → p ≡ get_or l i p → R p.0 key ≡ Greater → AllOver R key (drop i l)
  step_greater i p within read e =
      let same : drop i l ≡ p ∷ drop (i + 1) l = drop_more l i p within ∙ ap (λ q. q ∷ drop (i + 1) l) (sym read) in
      subst (AllOver R key) (sym same) (cut_from R total key (take i l) p (drop (i + 1) l) (around i p within read) e)

  pub searching_less : (low high i : ℕ) (p : K × V) → IsSearching R key l low high → i < high → p ≡ get_or l i p → R p.0 key ≡ Less → IsSearching R key l (i + 1) high
  searching_less low high i p s h read e = record {
    ordered = omega arith;
    within = s.within;
    cut = record { under = step_less i p (omega (arith, s.within)) read e; over = s.cut.over };
  }

  pub searching_greater : (low high i : ℕ) (p : K × V) → IsSearching R key l low high → low ≤ i → i < high → p ≡ get_or l i p → R p.0 key ≡ Greater → IsSearching R key l low i
  searching_greater low high i p s g h read e = record {
    ordered = g;
    within = omega (arith, s.within);
    cut = record { under = s.cut.under; over = step_greater i p (omega (arith, s.within)) read e };
  }

  pub found_there : (i : ℕ) (p : K × V) → i < length l → p ≡ get_or l i p → R p.0 key ≡ Equal → IsFoundAt R key l i
  found_there i p within read e = record {
    within = within;
    cut = record {
      under = cut_before R total key (take i l) p (drop (i + 1) l) (around i p within read) (ap is_gt e);
      over = cut_after R total key (take i l) p (drop (i + 1) l) (around i p within read) e;
    };
    same = λ d. subst (λ (q : K × V). R q.0 key ≡ Equal) (get_or_read l i p within read d) e;
  }

module _ {K V X : Type 0} (R : K → K → Ordering) (total : IsTotalOrder R) (entries : X → List (K × V)) (key : K) (cs : List X) (rising : IsRising R (flat_map entries cs)) where
  pub narrowing_down : (low high i : ℕ) (x : X) → IsNarrowing R entries key cs low high → low < i → i < high → x ≡ get_or cs i x → head_is_over R key (entries x) ≡ true → IsNarrowing R entries key cs low i
  narrowing_down low high i x s g h read e =
      let within : i < length cs = omega (arith, s.within) in
      record {
        ordered = g;
        within = omega (arith, s.within);
        cut = record {
          under = s.cut.under;
          over = subst (AllOver R key) (sym (flat_from entries cs i x within read))
              (part_over R total key (flat_map entries (take i cs)) (entries x) (flat_map entries (drop (i + 1) cs)) (subst (IsRising R) (flat_read entries cs i x within read) rising) e);
        };
      }

  pub narrowing_up : (low high i : ℕ) (x : X) → IsNarrowing R entries key cs low high → i < high → x ≡ get_or cs i x → 0 < length (entries x) → head_is_over R key (entries x) ≡ false → IsNarrowing R entries key cs i high
  narrowing_up low high i x s h read some e =
      let within : i < length cs = omega (arith, s.within) in
      record {
        ordered = h;
        within = s.within;
        cut = record {
          under = part_under R total key (flat_map entries (take i cs)) (entries x) (flat_map entries (drop (i + 1) cs)) (subst (IsRising R) (flat_read entries cs i x within read) rising) some e;
          over = s.cut.over;
        };
      }

-- whether the first pair is above the key, by that pair
pub head_at : {K V : Type 0} (R : K → K → Ordering) (key : K) (l : List (K × V)) (p : K × V) → slice_get l 0 ≡ Some p → is_gt (R p.0 key) ≡ head_is_over R key l
head_at R key [] p at = absurd (cc)
head_at R key (q ∷ l) p at =
    let same : p ≡ q = cc in
    ap (λ r. is_gt (R r.0 key)) same
