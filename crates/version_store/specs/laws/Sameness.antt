-- Laws: a rising list is told by what is found in it, and what is kept by the versions of each row.
use Rattle.std.proofs.Common.{◌≡◌, false, cond, Option, None, Some, unwrap_or, List, [], ◌∷◌, length, ◌≤◌, refl, sym, ap, ◌∙◌, subst, arith}
use Rattle.std.specs.List.{All}
use Rattle.std.specs.Ordering.{is_eq, ordering_reverse}
use Rattle.std.specs.declared.cmp.Ordering.{Ordering}
use Rattle.std.specs.declared.cmp.Ordering.TheVariants.{Less, Equal, Greater}
use Rattle.std.specs.Cmp.{IsTotalOrder}
use Rattle.std.proofs.lemmas.Cmp.{tied_itself}
use Rattle.std.proofs.lemmas.List.Elements.{All-weaker}
use Rattle.std.proofs.lemmas.Map.Lookups.{CmpEqualImpliesEq}
use Rattle.geo_base.specs.declared.row_id.RowId.{RowId}
use Rattle.geo_base.specs.Order.{row_cmp}
use Rattle.geo_base.specs.laws.Orders.{row_cmp_total, same_row}
use Rattle.write_set.specs.Journal.{Journal, epochs_of}
use Rattle.page_map.specs.Pairs.{IsRising, found_at}
use Rattle.page_map.specs.laws.Orders.{over_equal, over_greater, found_nowhere}
use Rattle.version_store.specs.Chains.{Chain, kept_at}
use Rattle.version_store.specs.History.{Kept, chain_of, versions_of, IsKept, IsHistoryOf}

turned : {K : Type 0} {R : K → K → Ordering} → IsTotalOrder R → (x y : K) → R x y ≡ Less → R y x ≡ Greater
turned total x y less = total.antisymm y x ∙ ap ordering_reverse less

module _ {K V : Type 0} (R : K → K → Ordering) (total : IsTotalOrder R) (ties : CmpEqualImpliesEq R) where
  -- the first pair is found
  found_head : (p : K × V) (l : List (K × V)) → found_at R p.0 (p ∷ l) ≡ Some p.1
  found_head p l = ap (λ o. cond (is_eq o) (Some p.1) (found_at R p.0 l)) (tied_itself total p.0)

  -- behind a pair that has the key, and behind one that is above it, nothing is found
  none_behind : (key : K) (q : K × V) (l : List (K × V)) → R q.0 key ≡ Equal → All (λ r. R q.0 r.0 ≡ Less) l → found_at R key l ≡ None
  none_behind key q l same above =
      found_nowhere R key l
      (All-weaker (λ r. R q.0 r.0 ≡ Less) (λ r. is_eq (R r.0 key) ≡ false) (λ r less. ap is_eq (over_equal R total key q.0 r.0 same less)) l above)

  none_above : (key : K) (q : K × V) (l : List (K × V)) → R q.0 key ≡ Greater → All (λ r. R q.0 r.0 ≡ Less) l → found_at R key (q ∷ l) ≡ None
  none_above key q l over above =
      ap (λ o. cond (is_eq o) (Some q.1) (found_at R key l)) over
      ∙ found_nowhere R key l
      (All-weaker (λ r. R q.0 r.0 ≡ Less) (λ r. is_eq (R r.0 key) ≡ false) (λ r less. ap is_eq (over_greater R total key q.0 r.0 over less)) l above)

  -- what is found at the key behind two pairs of one key is the same, where it is the same with them
  same_behind : (key : K) (p q : K × V) (a b : List (K × V)) → p.0 ≡ q.0 → All (λ r. R p.0 r.0 ≡ Less) a → All (λ r. R q.0 r.0 ≡ Less) b →
      found_at R key (p ∷ a) ≡ found_at R key (q ∷ b) → found_at R key a ≡ found_at R key b
  same_behind key p q a b name above_p above_q same = by (R p.0 key) refl
    where
      passed : (o : Ordering) → R p.0 key ≡ o → is_eq o ≡ false → found_at R key a ≡ found_at R key b
      passed o is other =
          sym (ap (λ c. cond (is_eq c) (Some p.1) (found_at R key a)) is ∙ ap (λ c. cond c (Some p.1) (found_at R key a)) other)
          ∙ (same
          ∙ (ap (λ k. cond (is_eq (R k key)) (Some q.1) (found_at R key b)) (sym name)
          ∙ (ap (λ c. cond (is_eq c) (Some q.1) (found_at R key b)) is ∙ ap (λ c. cond c (Some q.1) (found_at R key b)) other)))

      by : (o : Ordering) → R p.0 key ≡ o → found_at R key a ≡ found_at R key b
      by Less is = passed Less is refl
      by Greater is = passed Greater is refl
      by Equal is = none_behind key p a is above_p ∙ sym (none_behind key q b (ap (λ k. R k key) (sym name) ∙ is) above_q)

  -- two rising lists in which the same is found are one
  pub same_rising : (a b : List (K × V)) → IsRising R a → IsRising R b → ((key : K) → found_at R key a ≡ found_at R key b) → a ≡ b
  same_rising [] [] rise_a rise_b same = refl
  same_rising [] (q ∷ b) rise_a rise_b same =
      let wrong : None ≡ Some q.1 = same q.0 ∙ found_head q b in
      absurd (cc)
  same_rising (p ∷ a) [] rise_a rise_b same =
      let wrong : None ≡ Some p.1 = sym (same p.0) ∙ found_head p a in
      absurd (cc)
  same_rising (p ∷ a) (q ∷ b) rise_a rise_b same = by (R p.0 q.0) refl (same_rising a b rise_a.1 rise_b.1)
    where
      by : (o : Ordering) → R p.0 q.0 ≡ o → (((key : K) → found_at R key a ≡ found_at R key b) → a ≡ b) → p ∷ a ≡ q ∷ b
      by Less is rest =
          let wrong : None ≡ Some p.1 = sym (none_above p.0 q b (turned total p.0 q.0 is) rise_b.0) ∙ (sym (same p.0) ∙ found_head p a) in
          absurd (cc)
      by Greater is rest =
          let wrong : None ≡ Some q.1 = sym (none_above q.0 p a is rise_a.0) ∙ (same q.0 ∙ found_head q b) in
          absurd (cc)
      by Equal is rest =
          let name : p.0 ≡ q.0 = ties p.0 q.0 is in
          let there : found_at R p.0 (q ∷ b) ≡ Some q.1 = subst (λ k. found_at R k (q ∷ b) ≡ Some q.1) (sym name) (found_head q b) in
          let found : Some p.1 ≡ Some q.1 = sym (found_head p a) ∙ (same p.0 ∙ there) in
          let value : p.1 ≡ q.1 = cc in
          let behind : a ≡ b = rest (λ key. same_behind key p q a b name rise_a.0 rise_b.0 (same key)) in
          λ i. (name i, value i) ∷ behind i

-- ---- what is kept

-- the versions, if there are some
abbrev pub some_of : Chain → Option Chain
some_of [] = None
some_of (version ∷ older) = Some (version ∷ older)

-- of a row that is found there are versions
found_is : (kept : Kept) → IsKept kept → (row : RowId) → found_at row_cmp row kept.rows ≡ some_of (chain_of kept row)
found_is kept lawful row = by (found_at row_cmp row kept.rows) refl
  where
    some_by : (chain : Chain) → 1 ≤ length chain → Some chain ≡ some_of chain
    some_by [] some = absurd (omega (arith, some))
    some_by (version ∷ older) some = refl

    by : (held : Option Chain) → found_at row_cmp row kept.rows ≡ held → held ≡ some_of (unwrap_or held [])
    by None is = refl
    by (Some chain) is = some_by chain (lawful.chains row chain is).some

-- what is kept in order is its horizon, its last epoch and the versions of each row
pub same_kept : (a b : Kept) → IsKept a → IsKept b → a.horizon ≡ b.horizon → a.applied ≡ b.applied → ((row : RowId) → chain_of a row ≡ chain_of b row) → a ≡ b
same_kept a b lawful_a lawful_b horizon applied chains =
    let rows : a.rows ≡ b.rows =
    same_rising row_cmp row_cmp_total same_row a.rows b.rows lawful_a.rising lawful_b.rising
    (λ row. found_is a lawful_a row ∙ (ap some_of (chains row) ∙ sym (found_is b lawful_b row))) in
    λ i. record { horizon = horizon i; applied = applied i; rows = rows i }

-- so of one journal one value is kept, at each horizon and last epoch
pub same_history : (journal : Journal) (a b : Kept) → IsKept a → IsKept b → IsHistoryOf journal a → IsHistoryOf journal b →
    a.horizon ≡ b.horizon → a.applied ≡ b.applied → a ≡ b
same_history journal a b lawful_a lawful_b history_a history_b horizon applied =
    same_kept a b lawful_a lawful_b horizon applied
    (λ row.
    history_a.chains row
    ∙ (λ i. kept_at (horizon i) (versions_of (epochs_of journal (applied i)) row))
    ∙ sym (history_b.chains row))
