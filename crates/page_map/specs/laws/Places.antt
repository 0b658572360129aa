-- Laws: keys and their places in a rising list.
use Rattle.std.proofs.Common.{◌≡◌, ℕ, zero, suc, false, List, [], ◌∷◌, length, Some, None, refl, ap, sym, ◌∙◌, subst}
use Rattle.std.specs.List.{All, slice_get}
use Rattle.std.specs.Ordering.{is_eq}
use Rattle.std.specs.declared.cmp.Ordering.{Ordering}
use Rattle.std.specs.declared.cmp.Ordering.TheVariants.{Less, Equal, Greater}
use Rattle.std.specs.Cmp.{IsTotalOrder}
use Rattle.std.proofs.lemmas.Cmp.{alike_right}
use Rattle.std.proofs.lemmas.Option.{slice_get_within, get_or_from_slice_get}
use Rattle.std.proofs.lemmas.List.Elements.{All-get_or, All-weaker}
use Rattle.page_map.specs.Pairs.{IsRising, found_at, place_in}
use Rattle.page_map.specs.laws.Orders.{below_over, over_equal, over_greater, found_nowhere}

-- what holds of each item holds of the one at a place
all_at : {X : Type 0} (P : X → Type 0) (l : List X) (n : ℕ) (x : X) → slice_get l n ≡ Some x → All P l → P x
all_at P l n x at h =
    subst P (get_or_from_slice_get l n x x at) (All-get_or P l n x (slice_get_within l n x at) h)

module _ {K V : Type 0} (R : K → K → Ordering) (total : IsTotalOrder R) where
  -- nothing stands before a pair that has the key
  none_below : (key : K) (p : K × V) (l : List (K × V)) → R p.0 key ≡ Equal → All (λ q. R p.0 q.0 ≡ Less) l → place_in R key (p ∷ l) ≡ 0
  none_below key p l e h =
      rw e (ap length (below_over R key l (All-weaker (λ q. R p.0 q.0 ≡ Less) (λ q. R q.0 key ≡ Greater) (λ q less. over_equal R total key p.0 q.0 e less) l h)))

  -- a pair stands at the place of its key
  pub place_at : (l : List (K × V)) (n : ℕ) (p : K × V) (key : K) → IsRising R l → slice_get l n ≡ Some p → R p.0 key ≡ Equal → place_in R key l ≡ n
  place_at [] n p key rising at e = absurd (cc)
  place_at (q ∷ l) zero p key rising at e =
      let same : p ≡ q = cc in
      none_below key q l (subst (λ (r : K × V). R r.0 key ≡ Equal) same e) rising.0
  place_at (q ∷ l) (suc n) p key rising at e =
      let less : R q.0 p.0 ≡ Less = all_at (λ r. R q.0 r.0 ≡ Less) l n p at rising.0 in
      let under : R q.0 key ≡ Less = sym (alike_right total p.0 key q.0 e) ∙ less in
      rw under (ap suc (place_at l n p key rising.1 at e))

  -- a key and a value stand at the key's place
  abbrev pub StandsAtPlace : K → V → List (K × V) → Type 0
  StandsAtPlace key value l = (k : K) × (R k key ≡ Equal) × (slice_get l (place_in R key l) ≡ Some (k, value))

  stands_by : (key : K) (value : V) (q : K × V) (l : List (K × V)) (o : Ordering) → R q.0 key ≡ o → All (λ r. R q.0 r.0 ≡ Less) l → found_at R key (q ∷ l) ≡ Some value → (found_at R key l ≡ Some value → StandsAtPlace key value l) → StandsAtPlace key value (q ∷ l)
  stands_by key value q l Less e h found rest =
      let later : found_at R key l ≡ Some value = rw e at found in
      let there = rest later in
      (there.0, there.1, rw e there.2)
  stands_by key value q l Equal e h found rest =
      let here : Some q.1 ≡ Some value = rw e at found in
      let same : q.1 ≡ value = cc in
      (q.0, e, ap (λ n. slice_get (q ∷ l) n) (none_below key q l e h) ∙ ap (λ v. Some (q.0, v)) same)
  stands_by key value q l Greater e h found rest =
      let later : found_at R key l ≡ Some value = rw e at found in
      let none : found_at R key l ≡ None =
      found_nowhere R key l (All-weaker (λ r. R q.0 r.0 ≡ Less) (λ r. is_eq (R r.0 key) ≡ false) (λ r less. ap is_eq (over_greater R total key q.0 r.0 e less)) l h) in
      absurd (cc)

  pub found_stands : (key : K) (value : V) (l : List (K × V)) → IsRising R l → found_at R key l ≡ Some value → StandsAtPlace key value l
  found_stands key value [] rising found = absurd (cc)
  found_stands key value (q ∷ l) rising found =
      stands_by key value q l (R q.0 key) refl rising.0 found (found_stands key value l rising.1)
