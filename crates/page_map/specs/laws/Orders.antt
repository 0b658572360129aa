-- Laws: rising lists of pairs, and what a key cuts off them.
use Rattle.std.proofs.Common.{◌≡◌, ◌+◌, ◌<◌, ◌≤◌, Bool, true, false, List, [], ◌∷◌, ◌++◌, length, Some, None, if◌then◌else◌, refl, ap, sym, ◌∙◌, arith, append_assoc, length-append}
use Rattle.std.specs.List.{All, filter}
use Rattle.std.specs.Ordering.{is_lt, is_eq, is_gt, ordering_reverse}
use Rattle.std.specs.declared.cmp.Ordering.{Ordering}
use Rattle.std.specs.declared.cmp.Ordering.TheVariants.{Less, Equal, Greater}
use Rattle.std.specs.Cmp.{IsTotalOrder}
use Rattle.std.proofs.lemmas.Bool.{true≢false, cond_both}
use Rattle.std.proofs.lemmas.Cmp.{alike_right}
use Rattle.std.proofs.lemmas.List.{append-nil}
use Rattle.std.proofs.lemmas.List.Elements.{All-nil, All-cons, All-head, All-tail, All-weaker, All-append, All-filter, filter-append, filter_passes}
use Rattle.page_map.specs.Pairs.{IsRising, below, above, found_at, put_in, without}
use Rattle.page_map.specs.inner.Cuts.{AllUnder, AllOver, IsCut, head_is_over}
use Rattle.page_map.specs.laws.Lists.{All-left, All-right, filter_all, filter_none}

-- ---- what stands before and behind a cut stays as it is

module _ {K V : Type 0} (R : K → K → Ordering) (key : K) where
  abbrev lt : K × V → Bool
  lt p = is_lt (R p.0 key)

  abbrev gt : K × V → Bool
  gt p = is_gt (R p.0 key)

  abbrev Under : K × V → Type 0
  Under p = R p.0 key ≡ Less

  abbrev Over : K × V → Type 0
  Over p = R p.0 key ≡ Greater

  below_under : (xs : List (K × V)) → AllUnder R key xs → below R key xs ≡ xs
  below_under xs h = filter_all lt xs (All-weaker Under (λ p. lt p ≡ true) (λ p e. ap is_lt e) xs h)

  pub below_over : (xs : List (K × V)) → AllOver R key xs → below R key xs ≡ []
  below_over xs h = filter_none lt xs (All-weaker Over (λ p. lt p ≡ false) (λ p e. ap is_lt e) xs h)

  above_under : (xs : List (K × V)) → AllUnder R key xs → above R key xs ≡ []
  above_under xs h = filter_none gt xs (All-weaker Under (λ p. gt p ≡ false) (λ p e. ap is_gt e) xs h)

  above_over : (xs : List (K × V)) → AllOver R key xs → above R key xs ≡ xs
  above_over xs h = filter_all gt xs (All-weaker Over (λ p. gt p ≡ true) (λ p e. ap is_gt e) xs h)

  pub below_framed : (a m b : List (K × V)) → IsCut R key a b → below R key (a ++ (m ++ b)) ≡ a ++ below R key m
  below_framed a m b c =
      filter-append lt a (m ++ b)
      ∙ (ap (λ l. l ++ filter lt (m ++ b)) (below_under a c.under)
      ∙ ap (λ l. a ++ l) (filter-append lt m b ∙ (ap (λ l. filter lt m ++ l) (below_over b c.over) ∙ append-nil (filter lt m))))

  pub above_framed : (a m b : List (K × V)) → IsCut R key a b → above R key (a ++ (m ++ b)) ≡ above R key m ++ b
  above_framed a m b c =
      filter-append gt a (m ++ b)
      ∙ (ap (λ l. l ++ filter gt (m ++ b)) (above_under a c.under)
      ∙ (filter-append gt m b ∙ ap (λ l. filter gt m ++ l) (above_over b c.over)))

  pub put_framed : (value : V) (a m b : List (K × V)) → IsCut R key a b → put_in R key value (a ++ (m ++ b)) ≡ a ++ (put_in R key value m ++ b)
  put_framed value a m b c =
      ap (λ l. l ++ ((key, value) ∷ above R key (a ++ (m ++ b)))) (below_framed a m b c)
      ∙ (ap (λ l. (a ++ below R key m) ++ ((key, value) ∷ l)) (above_framed a m b c)
      ∙ (append_assoc a (below R key m) ((key, value) ∷ (above R key m ++ b))
      ∙ ap (λ l. a ++ l) (sym (append_assoc (below R key m) ((key, value) ∷ above R key m) b))))

  pub without_framed : (a m b : List (K × V)) → IsCut R key a b → without R key (a ++ (m ++ b)) ≡ a ++ (without R key m ++ b)
  without_framed a m b c =
      ap (λ l. l ++ above R key (a ++ (m ++ b))) (below_framed a m b c)
      ∙ (ap (λ l. (a ++ below R key m) ++ l) (above_framed a m b c)
      ∙ (append_assoc a (below R key m) (above R key m ++ b)
      ∙ ap (λ l. a ++ l) (sym (append_assoc (below R key m) (above R key m) b))))

  -- pairs of other keys are passed by
  abbrev Other : K × V → Type 0
  Other p = is_eq (R p.0 key) ≡ false

  pub found_past : (a l : List (K × V)) → All Other a → found_at R key (a ++ l) ≡ found_at R key l
  found_past [] l h = refl
  found_past (p ∷ a) l h = rw (All-head Other p a h) (found_past a l (All-tail Other p a h))

  pub found_nowhere : (b : List (K × V)) → All Other b → found_at R key b ≡ None
  found_nowhere [] h = refl
  found_nowhere (p ∷ b) h = rw (All-head Other p b h) (found_nowhere b (All-tail Other p b h))

  pub found_first : (m b : List (K × V)) → All Other b → found_at R key (m ++ b) ≡ found_at R key m
  found_first [] b h = found_nowhere b h
  found_first (p ∷ m) b h = ap (λ o. if is_eq (R p.0 key) then Some p.1 else o) (found_first m b h)

  pub found_framed : (a m b : List (K × V)) → IsCut R key a b → found_at R key (a ++ (m ++ b)) ≡ found_at R key m
  found_framed a m b c =
      found_past a (m ++ b) (All-weaker Under Other (λ p e. ap is_eq e) a c.under) ∙ found_first m b (All-weaker Over Other (λ p e. ap is_eq e) b c.over)

  -- a list of the one pair that has the key
  pub put_same : (value : V) (p : K × V) → R p.0 key ≡ Equal → put_in R key value (p ∷ []) ≡ (key, value) ∷ []
  put_same value p e = rw e refl

  pub without_same : (p : K × V) → R p.0 key ≡ Equal → without R key (p ∷ []) ≡ []
  without_same p e = rw e refl

  pub found_same : (p : K × V) → R p.0 key ≡ Equal → found_at R key (p ∷ []) ≡ Some p.1
  found_same p e = rw e refl

  -- lengths
  parted_step : (p : K × V) (l : List (K × V)) (o : Ordering) → R p.0 key ≡ o → length (below R key l) + length (above R key l) ≤ length l → length (below R key (p ∷ l)) + length (above R key (p ∷ l)) ≤ length (p ∷ l)
  parted_step p l Less e h = rw e (omega arith)
  parted_step p l Equal e h = rw e (omega arith)
  parted_step p l Greater e h = rw e (omega arith)

  parted : (l : List (K × V)) → length (below R key l) + length (above R key l) ≤ length l
  parted [] = omega arith
  parted (p ∷ l) = parted_step p l (R p.0 key) refl (parted l)

  pub put_length : (value : V) (l : List (K × V)) → length (put_in R key value l) ≤ length l + 1
  put_length value l = omega (arith, length-append (below R key l) ((key, value) ∷ above R key l), parted l)

  pub put_some : (value : V) (l : List (K × V)) → 0 < length (put_in R key value l)
  put_some value l = omega (arith, length-append (below R key l) ((key, value) ∷ above R key l))

  pub without_length : (l : List (K × V)) → length (without R key l) ≤ length l
  without_length l = omega (arith, length-append (below R key l) (above R key l), parted l)

-- ---- rising lists

module _ {K V : Type 0} (R : K → K → Ordering) where
  pub rising_back : (a b : List (K × V)) → IsRising R (a ++ b) → IsRising R b
  rising_back [] b h = h
  rising_back (p ∷ a) b h = rising_back a b h.1

  pub rising_front : (a b : List (K × V)) → IsRising R (a ++ b) → IsRising R a
  rising_front [] b h = tt
  rising_front (p ∷ a) b h = (All-left (λ q. R p.0 q.0 ≡ Less) a b h.0, rising_front a b h.1)

  pub rising_mid : (a m b : List (K × V)) → IsRising R (a ++ (m ++ b)) → IsRising R m
  rising_mid a m b h = rising_front m b (rising_back a (m ++ b) h)

  across : (a : List (K × V)) (p : K × V) (b : List (K × V)) → IsRising R (a ++ (p ∷ b)) → All (λ q. R q.0 p.0 ≡ Less) a
  across [] p b h = All-nil (λ q. R q.0 p.0 ≡ Less)
  across (x ∷ a) p b h =
      All-cons (λ q. R q.0 p.0 ≡ Less) x a (All-head (λ q. R x.0 q.0 ≡ Less) p b (All-right (λ q. R x.0 q.0 ≡ Less) a (p ∷ b) h.0)) (across a p b h.1)

  pub rising_joined : (a b : List (K × V)) → IsRising R a → IsRising R b → All (λ p. All (λ q. R p.0 q.0 ≡ Less) b) a → IsRising R (a ++ b)
  rising_joined [] b ra rb h = rb
  rising_joined (p ∷ a) b ra rb h =
      (All-append (λ q. R p.0 q.0 ≡ Less) a b ra.0 (All-head (λ p. All (λ q. R p.0 q.0 ≡ Less) b) p a h), rising_joined a b ra.1 rb (All-tail (λ p. All (λ q. R p.0 q.0 ≡ Less) b) p a h))

  pub rising_filter : (test : K × V → Bool) (l : List (K × V)) → IsRising R l → IsRising R (filter test l)
  rising_filter test [] h = tt
  rising_filter test (p ∷ l) h =
      cond_both (test p) (p ∷ filter test l) (filter test l) (IsRising R) (λ e. (All-filter test (λ q. R p.0 q.0 ≡ Less) l h.0, rising_filter test l h.1)) (λ e. rising_filter test l h.1)

pub is_Greater : (o : Ordering) → is_gt o ≡ true → o ≡ Greater
is_Greater Less e = absurd (true≢false (sym e))
is_Greater Equal e = absurd (true≢false (sym e))
is_Greater Greater e = refl

pub is_Less : (o : Ordering) → is_lt o ≡ true → o ≡ Less
is_Less Less e = refl
is_Less Equal e = absurd (true≢false (sym e))
is_Less Greater e = absurd (true≢false (sym e))

module _ {K : Type 0} (R : K → K → Ordering) (total : IsTotalOrder R) where
  turned : (x y : K) → R x y ≡ Greater → R y x ≡ Less
  turned x y e = total.antisymm y x ∙ ap ordering_reverse e

  turned_back : (x y : K) → R x y ≡ Less → R y x ≡ Greater
  turned_back x y e = total.antisymm y x ∙ ap ordering_reverse e

module _ {K : Type 0} (R : K → K → Ordering) (total : IsTotalOrder R) (key : K) where
  pub under_by : (p q : K) (o : Ordering) → R p key ≡ o → is_gt o ≡ false → R q p ≡ Less → R q key ≡ Less
  under_by p q Less e g h = total.trans q p key h e
  under_by p q Equal e g h = sym (alike_right total p key q e) ∙ h
  under_by p q Greater e g h = absurd (true≢false g)

  pub over_greater : (p q : K) → R p key ≡ Greater → R p q ≡ Less → R q key ≡ Greater
  over_greater p q e h = turned_back R total key q (total.trans key p q (turned R total p key e) h)

  pub over_equal : (p q : K) → R p key ≡ Equal → R p q ≡ Less → R q key ≡ Greater
  over_equal p q e h = turned_back R total key q (sym (total.congr p key q e) ∙ h)

module _ {K V : Type 0} (R : K → K → Ordering) (total : IsTotalOrder R) (key : K) where
  -- a pair that isn't above the key has all pairs below the key that stand before it
  pub cut_before : (a : List (K × V)) (p : K × V) (b : List (K × V)) → IsRising R (a ++ (p ∷ b)) → is_gt (R p.0 key) ≡ false → AllUnder R key a
  cut_before a p b rising g =
      All-weaker (λ q. R q.0 p.0 ≡ Less) (λ q. R q.0 key ≡ Less) (λ q h. under_by R total key p.0 q.0 (R p.0 key) refl g h) a (across R a p b rising)

  -- a pair above the key has only such pairs behind it
  pub cut_from : (a : List (K × V)) (p : K × V) (b : List (K × V)) → IsRising R (a ++ (p ∷ b)) → R p.0 key ≡ Greater → AllOver R key (p ∷ b)
  cut_from a p b rising e =
      All-cons (λ q. R q.0 key ≡ Greater) p b e (All-weaker (λ q. R p.0 q.0 ≡ Less) (λ q. R q.0 key ≡ Greater) (λ q h. over_greater R total key p.0 q.0 e h) b (rising_back R a (p ∷ b) rising).0)

  pub cut_after : (a : List (K × V)) (p : K × V) (b : List (K × V)) → IsRising R (a ++ (p ∷ b)) → R p.0 key ≡ Equal → AllOver R key b
  cut_after a p b rising e =
      All-weaker (λ q. R p.0 q.0 ≡ Less) (λ q. R q.0 key ≡ Greater) (λ q h. over_equal R total key p.0 q.0 e h) b (rising_back R a (p ∷ b) rising).0

  -- the same by the first pair of a part
  pub part_over : (a m b : List (K × V)) → IsRising R (a ++ (m ++ b)) → head_is_over R key m ≡ true → AllOver R key (m ++ b)
  part_over a [] b rising e = absurd (true≢false (sym e))
  part_over a (p ∷ m) b rising e = cut_from a p (m ++ b) rising (is_Greater (R p.0 key) e)

  pub part_under : (a m b : List (K × V)) → IsRising R (a ++ (m ++ b)) → 0 < length m → head_is_over R key m ≡ false → AllUnder R key a
  part_under a [] b rising some e = absurd (omega arith)
  part_under a (p ∷ m) b rising some e = cut_before a p (m ++ b) rising e

  -- what a map becomes still rises
  pub below_less : (l : List (K × V)) → All (λ p. R p.0 key ≡ Less) (below R key l)
  below_less l =
      All-weaker (λ p. is_lt (R p.0 key) ≡ true) (λ p. R p.0 key ≡ Less) (λ p e. is_Less (R p.0 key) e) (below R key l) (filter_passes (λ p. is_lt (R p.0 key)) l)

  above_less : (l : List (K × V)) → All (λ q. R key q.0 ≡ Less) (above R key l)
  above_less l =
      All-weaker (λ q. is_gt (R q.0 key) ≡ true) (λ q. R key q.0 ≡ Less) (λ q e. turned R total q.0 key (is_Greater (R q.0 key) e)) (above R key l) (filter_passes (λ q. is_gt (R q.0 key)) l)

  beyond : (p : K × V) → R p.0 key ≡ Less → (l : List (K × V)) → All (λ q. R p.0 q.0 ≡ Less) (above R key l)
  beyond p e l =
      All-weaker (λ q. R key q.0 ≡ Less) (λ q. R p.0 q.0 ≡ Less) (λ q h. total.trans p.0 key q.0 e h) (above R key l) (above_less l)

  pub rising_put : (value : V) (l : List (K × V)) → IsRising R l → IsRising R (put_in R key value l)
  rising_put value l rising =
      rising_joined R (below R key l) ((key, value) ∷ above R key l) (rising_filter R (λ p. is_lt (R p.0 key)) l rising)
      (above_less l, rising_filter R (λ p. is_gt (R p.0 key)) l rising)
      (All-weaker (λ p. R p.0 key ≡ Less) (λ p. All (λ q. R p.0 q.0 ≡ Less) ((key, value) ∷ above R key l)) (λ p e. All-cons (λ q. R p.0 q.0 ≡ Less) (key, value) (above R key l) e (beyond p e l)) (below R key l) (below_less l))

  pub rising_without : (l : List (K × V)) → IsRising R l → IsRising R (without R key l)
  rising_without l rising =
      rising_joined R (below R key l) (above R key l) (rising_filter R (λ p. is_lt (R p.0 key)) l rising)
      (rising_filter R (λ p. is_gt (R p.0 key)) l rising)
      (All-weaker (λ p. R p.0 key ≡ Less) (λ p. All (λ q. R p.0 q.0 ≡ Less) (above R key l)) (λ p e. beyond p e l) (below R key l) (below_less l))
