-- Laws: what is found in a list of pairs after a pair was put in, or taken out.
use Rattle.std.proofs.Common.{◌≡◌, Bool, true, false, List, [], ◌∷◌, ◌++◌, Some, None, refl, ap, sym, ◌∙◌}
use Rattle.std.specs.List.{All, filter}
use Rattle.std.specs.Ordering.{is_lt, is_eq, is_gt, ordering_reverse}
use Rattle.std.specs.declared.cmp.Ordering.{Ordering}
use Rattle.std.specs.declared.cmp.Ordering.TheVariants.{Less, Equal, Greater}
use Rattle.std.specs.Cmp.{IsTotalOrder}
use Rattle.std.proofs.lemmas.Bool.{true≢false, both_ways, false_from_ne_true}
use Rattle.std.proofs.lemmas.Cmp.{tied_itself}
use Rattle.std.proofs.lemmas.List.Elements.{All-nil, All-cons, All-append, All-weaker, filter_passes}
use Rattle.page_map.specs.Pairs.{below, above, found_at, put_in, without}
use Rattle.page_map.specs.laws.Orders.{found_past, found_nowhere, found_first, is_Greater, below_less}

is_Equal : (o : Ordering) → is_eq o ≡ true → o ≡ Equal
is_Equal Less e = absurd (true≢false (sym e))
is_Equal Equal e = refl
is_Equal Greater e = absurd (true≢false (sym e))

-- a filter that keeps each pair of a key keeps what is found at it
module _ {K V : Type 0} (R : K → K → Ordering) (key : K) (test : K × V → Bool) (keeps : (p : K × V) → is_eq (R p.0 key) ≡ true → test p ≡ true) where
  kept_step : (p : K × V) (l : List (K × V)) (b c : Bool) → is_eq (R p.0 key) ≡ b → test p ≡ c → (b ≡ true → c ≡ true) → found_at R key (filter test l) ≡ found_at R key l → found_at R key (filter test (p ∷ l)) ≡ found_at R key (p ∷ l)
  kept_step p l true true e t h same = rw t (rw e refl)
  kept_step p l true false e t h same = absurd (true≢false (sym (h refl)))
  kept_step p l false true e t h same = rw t (rw e same)
  kept_step p l false false e t h same = rw t (rw e same)

  found_kept : (l : List (K × V)) → found_at R key (filter test l) ≡ found_at R key l
  found_kept [] = refl
  found_kept (p ∷ l) = kept_step p l (is_eq (R p.0 key)) (test p) refl refl (keeps p) (found_kept l)

module _ {K V : Type 0} (R : K → K → Ordering) (total : IsTotalOrder R) (key : K) where
  above_all : (l : List (K × V)) → All (λ q. R q.0 key ≡ Greater) (above R key l)
  above_all l =
      All-weaker (λ q. is_gt (R q.0 key) ≡ true) (λ q. R q.0 key ≡ Greater) (λ q e. is_Greater (R q.0 key) e) (above R key l) (filter_passes (λ q. is_gt (R q.0 key)) l)

  -- a pair that stands otherwise to a key than another does hasn't that other key
  apart : (other : K) (o o' : Ordering) → (o ≡ o' → ⊥) → R other key ≡ o' → (l : List (K × V)) → All (λ q. R q.0 key ≡ o) l → All (λ q. is_eq (R q.0 other) ≡ false) l
  apart other o o' differ e l h =
      All-weaker (λ q. R q.0 key ≡ o) (λ q. is_eq (R q.0 other) ≡ false)
      (λ q d. false_from_ne_true (is_eq (R q.0 other)) (λ same. differ (sym d ∙ (total.congr q.0 other key (is_Equal (R q.0 other) same) ∙ e)))) l h

  -- what stands between the pairs below a key and those above it has no part in what is found at another key
  between_by : (other : K) (middle l : List (K × V)) (o : Ordering) → R other key ≡ o → is_eq (R key other) ≡ false → All (λ q. is_eq (R q.0 other) ≡ false) middle → found_at R other (below R key l ++ (middle ++ above R key l)) ≡ found_at R other l
  between_by other middle l Less e differ h =
      found_first R other (below R key l) (middle ++ above R key l) (All-append (λ q. is_eq (R q.0 other) ≡ false) middle (above R key l) h (apart other Greater Less (λ d. cc) e (above R key l) (above_all l)))
      ∙ found_kept R other (λ q. is_lt (R q.0 key)) (λ q same. ap is_lt (total.congr q.0 other key (is_Equal (R q.0 other) same) ∙ e)) l
  between_by other middle l Greater e differ h =
      found_past R other (below R key l) (middle ++ above R key l) (apart other Less Greater (λ d. cc) e (below R key l) (below_less R total key l))
      ∙ (found_past R other middle (above R key l) h
      ∙ found_kept R other (λ q. is_gt (R q.0 key)) (λ q same. ap is_gt (total.congr q.0 other key (is_Equal (R q.0 other) same) ∙ e)) l)
  between_by other middle l Equal e differ h =
      absurd (both_ways (is_eq (R key other)) differ (ap is_eq (total.antisymm key other ∙ ap ordering_reverse e)))

  -- the value that was put in is found at its key
  pub put_found : (value : V) (l : List (K × V)) → found_at R key (put_in R key value l) ≡ Some value
  put_found value l =
      found_past R key (below R key l) ((key, value) ∷ above R key l) (All-weaker (λ q. R q.0 key ≡ Less) (λ q. is_eq (R q.0 key) ≡ false) (λ q e. ap is_eq e) (below R key l) (below_less R total key l))
      ∙ rw (tied_itself total key) refl

  -- and at each other key what was there
  pub put_elsewhere : (other : K) (value : V) (l : List (K × V)) → is_eq (R key other) ≡ false → found_at R other (put_in R key value l) ≡ found_at R other l
  put_elsewhere other value l differ =
      between_by other ((key, value) ∷ []) l (R other key) refl differ (All-cons (λ q. is_eq (R q.0 other) ≡ false) (key, value) [] differ (All-nil (λ q. is_eq (R q.0 other) ≡ false)))

  -- nothing is found at a key that was taken out
  pub taken_found : (l : List (K × V)) → found_at R key (without R key l) ≡ None
  taken_found l =
      found_past R key (below R key l) (above R key l) (All-weaker (λ q. R q.0 key ≡ Less) (λ q. is_eq (R q.0 key) ≡ false) (λ q e. ap is_eq e) (below R key l) (below_less R total key l))
      ∙ found_nowhere R key (above R key l) (All-weaker (λ q. R q.0 key ≡ Greater) (λ q. is_eq (R q.0 key) ≡ false) (λ q e. ap is_eq e) (above R key l) (above_all l))

  pub taken_elsewhere : (other : K) (l : List (K × V)) → is_eq (R key other) ≡ false → found_at R other (without R key l) ≡ found_at R other l
  taken_elsewhere other l differ = between_by other [] l (R other key) refl differ (All-nil (λ q. is_eq (R q.0 other) ≡ false))
