-- Laws: where nothing stands twice, no repeat is found, and a repeat that is found is the first.
use Rattle.std.proofs.Common.{◌≡◌, ℕ, zero, suc, ◌<◌, Bool, true, false, List, [], ◌∷◌, ◌++◌, Option, Some, None, length, take, get_or, inl, inr, take_all, refl, sym, ◌∙◌, subst, arith, append-nil, append_assoc, if◌then◌else◌}
use Rattle.std.specs.List.{list_any, slice_get}
use Rattle.std.proofs.lemmas.Bool.{both_ways, false_from_ne_true}
use Rattle.std.proofs.lemmas.List.{get_or-take, get_or_default, length-take}
use Rattle.std.proofs.lemmas.List.Folds.{list_any_at, list_any_none, Any-from_list_any}
use Rattle.std.proofs.lemmas.Option.{none-some, slice_get_within}
use Rattle.geo_base.specs.laws.Results.{chosen}
use Rattle.geo_schema.specs.Repeats.{AreApart, IsFirstRepeat}
use Rattle.geo_schema.specs.inner.Repeats.{first_repeat, first_repeat_after}

module _ {A : Type 0} (same : A → A → Bool) where
  -- ---- what a search that finds nothing says

  -- the first item is like none before it, and the rest has no repeat
  first_apart : (b : Bool) (item : A) (rest : Option A) → (if b then Some item else rest) ≡ None → (b ≡ false) × (rest ≡ None)
  first_apart true item rest h = absurd (none-some item (sym h))
  first_apart false item rest h = (refl, h)

  -- an item is like none before it
  none_before : (before items : List A) (j : ℕ) (d : A) → first_repeat_after same before items ≡ None → j < length items →
      list_any (λ earlier. same earlier (get_or items j d)) (before ++ take j items) ≡ false
  none_before before [] j d h within = absurd (omega arith)
  none_before before (item ∷ items) zero d h within =
      rw (append-nil before) ((first_apart (list_any (λ earlier. same earlier item) before) item (first_repeat_after same (before ++ item ∷ []) items) h).0)
  none_before before (item ∷ items) (suc j) d h within =
      let rest = (first_apart (list_any (λ earlier. same earlier item) before) item (first_repeat_after same (before ++ item ∷ []) items) h).1 in
      subst (λ l. list_any (λ earlier. same earlier (get_or items j d)) l ≡ false) (append_assoc before (item ∷ []) (take j items))
      (none_before (before ++ item ∷ []) items j d rest (omega arith))

  -- what is like none of the items up to a place isn't like one of them
  unlike : (items : List A) (i j : ℕ) (d y : A) → list_any (λ earlier. same earlier y) (take j items) ≡ false → i < j → j < length items → same (get_or items i d) y ≡ false
  unlike items i j d y none before within =
      let like : A → Bool = λ earlier. same earlier y in
      let inside : i < length (take j items) = simp length-take (omega arith) in
      false_from_ne_true (same (get_or items i d) y) (λ t.
      both_ways (list_any like (take j items)) none
      (list_any_at like (take j items) i d inside (subst (λ x. like x ≡ true) (sym (get_or-take j items i d before)) t)))

  -- no two items are alike
  pub are_apart : (items : List A) (i j : ℕ) (d : A) → first_repeat same items ≡ None → i < j → j < length items → same (get_or items i d) (get_or items j d) ≡ false
  are_apart items i j d h before within = unlike items i j d (get_or items j d) (none_before [] items j d h within) before within

  -- ---- where nothing stands twice, nothing is found

  all_unlike : (before items : List A) → ((j : ℕ) (d : A) → j < length items → list_any (λ earlier. same earlier (get_or items j d)) (before ++ take j items) ≡ false) →
      first_repeat_after same before items ≡ None
  all_unlike before [] none = refl
  all_unlike before (item ∷ items) none =
      let first : list_any (λ earlier. same earlier item) before ≡ false =
      subst (λ l. list_any (λ earlier. same earlier item) l ≡ false) (append-nil before) (none 0 item (omega arith)) in
      rw first (all_unlike (before ++ item ∷ []) items (λ j d lt.
      subst (λ l. list_any (λ earlier. same earlier (get_or items j d)) l ≡ false) (sym (append_assoc before (item ∷ []) (take j items))) (none (suc j) d (omega arith))))

  -- an item up to a place before which no two are alike is like none before it
  none_up_to : (items : List A) (end j : ℕ) (d : A) → AreApart same (take end items) → j < end → j < length items →
      list_any (λ earlier. same earlier (get_or items j d)) (take j items) ≡ false
  none_up_to items end j d apart below within =
      list_any_none (λ earlier. same earlier (get_or items j d)) (take j items) (λ m e lt.
      let count = length-take j items in
      let whole = length-take end items in
      let before : m < j = omega arith in
      let inside : j < length (take end items) = omega arith in
      let here : get_or (take end items) m e ≡ get_or (take j items) m e = get_or-take end items m e (omega arith) ∙ sym (get_or-take j items m e before) in
      let there : get_or (take end items) j e ≡ get_or items j d = get_or-take end items j e below ∙ get_or_default items j e d within in
      subst (λ x. same x (get_or items j d) ≡ false) here (subst (λ y. same (get_or (take end items) m e) y ≡ false) there (apart m j e before inside)))

  pub none_repeated : (items : List A) → AreApart same items → first_repeat same items ≡ None
  none_repeated items apart =
      let whole : take (length items) items ≡ items = take_all (length items) items (omega arith) in
      all_unlike [] items (λ j d lt. none_up_to items (length items) j d (subst (AreApart same) (sym whole) apart) lt lt)

  -- ---- a repeat that is found

  record Found (before items : List A) (item : A) : Type 0 where
    pub place : ℕ
    pub here : slice_get items place ≡ Some item
    pub like : list_any (λ earlier. same earlier item) (before ++ take place items) ≡ true
    pub none : (j : ℕ) (d : A) → j < place → list_any (λ earlier. same earlier (get_or items j d)) (before ++ take j items) ≡ false

  find : (before items : List A) (item : A) → first_repeat_after same before items ≡ Some item → Found before items item
  find before [] item h = absurd (none-some item h)
  find before (x ∷ items) item h =
      let later : first_repeat_after same (before ++ x ∷ []) items ≡ Some item → Found (before ++ x ∷ []) items item = find (before ++ x ∷ []) items item in
      elim (chosen (list_any (λ earlier. same earlier x) before) (Some x) (first_repeat_after same (before ++ x ∷ []) items) (Some item) h) [
        | inl p ↦
            let is : x ≡ item = some_is x item p.1 in
            record {
              place = 0;
              here = p.1;
              like = rw (append-nil before) (subst (λ y. list_any (λ earlier. same earlier y) before ≡ true) is p.0);
              none = λ j d lt. absurd (omega arith);
            }
        | inr q ↦ after before x items item q.0 (later q.1)
      ]
    where
      some_is : (a b : A) → Some a ≡ Some b → a ≡ b
      some_is a b e = cc

      after : (before : List A) (x : A) (items : List A) (item : A) → list_any (λ earlier. same earlier x) before ≡ false → Found (before ++ x ∷ []) items item → Found before (x ∷ items) item
      after before x items item first f =
          record {
            place = suc f.place;
            here = f.here;
            like = subst (λ l. list_any (λ earlier. same earlier item) l ≡ true) (append_assoc before (x ∷ []) (take f.place items)) f.like;
            none = λ j d lt. behind before x items first f.place f.none j d lt;
          }
        where
          behind : (before : List A) (x : A) (items : List A) → list_any (λ earlier. same earlier x) before ≡ false → (place : ℕ) →
              ((j : ℕ) (d : A) → j < place → list_any (λ earlier. same earlier (get_or items j d)) ((before ++ x ∷ []) ++ take j items) ≡ false) →
              (j : ℕ) (d : A) → j < suc place → list_any (λ earlier. same earlier (get_or (x ∷ items) j d)) (before ++ take j (x ∷ items)) ≡ false
          behind before x items first place none zero d lt = rw (append-nil before) first
          behind before x items first place none (suc j) d lt =
              subst (λ l. list_any (λ earlier. same earlier (get_or items j d)) l ≡ false) (append_assoc before (x ∷ []) (take j items)) (none j d (omega arith))

  pub is_first_repeat : (items : List A) (item : A) → first_repeat same items ≡ Some item → IsFirstRepeat same items item
  is_first_repeat items item h =
      let f = find [] items item h in
      let (i, x, within, is, like) = Any-from_list_any (λ earlier. same earlier item) (take f.place items) f.like in
      let count = length-take f.place items in
      let before : i < f.place = omega arith in
      let inside : i < length items = omega arith in
      let there : x ≡ get_or items i item = sym is ∙ get_or-take f.place items i x before ∙ get_or_default items i x item inside in
      record {
        place = f.place;
        here = f.here;
        earlier = i;
        before = before;
        alike = subst (λ y. same y item ≡ true) there like;
        first = λ a b d lt end.
            let low : a < f.place = omega arith in
            let high : b < f.place = omega arith in
            rw (get_or-take f.place items a d low, get_or-take f.place items b d high) (unlike items a b d (get_or items b d) (f.none b d high) lt (omega arith));
      }

  -- ---- the first repeat is found

  at_repeat : (before items : List A) (k : ℕ) (item : A) → slice_get items k ≡ Some item → list_any (λ earlier. same earlier item) (before ++ take k items) ≡ true →
      ((j : ℕ) (d : A) → j < k → list_any (λ earlier. same earlier (get_or items j d)) (before ++ take j items) ≡ false) → first_repeat_after same before items ≡ Some item
  at_repeat before [] k item here like none = absurd (none-some item here)
  at_repeat before (x ∷ items) zero item here like none =
      let is : x ≡ item = some_is x item here in
      let found : list_any (λ earlier. same earlier x) before ≡ true =
      subst (λ y. list_any (λ earlier. same earlier y) before ≡ true) (sym is) (subst (λ l. list_any (λ earlier. same earlier item) l ≡ true) (append-nil before) like) in
      rw found here
    where
      some_is : (a b : A) → Some a ≡ Some b → a ≡ b
      some_is a b e = cc
  at_repeat before (x ∷ items) (suc k) item here like none =
      let first : list_any (λ earlier. same earlier x) before ≡ false =
      subst (λ l. list_any (λ earlier. same earlier x) l ≡ false) (append-nil before) (none 0 x (omega arith)) in
      rw first
      (at_repeat (before ++ x ∷ []) items k item here (subst (λ l. list_any (λ earlier. same earlier item) l ≡ true) (sym (append_assoc before (x ∷ []) (take k items))) like)
      (λ j d lt. subst (λ l. list_any (λ earlier. same earlier (get_or items j d)) l ≡ false) (sym (append_assoc before (x ∷ []) (take j items))) (none (suc j) d (omega arith))))

  pub first_repeat_is : (items : List A) (item : A) → IsFirstRepeat same items item → first_repeat same items ≡ Some item
  first_repeat_is items item r =
      let within = slice_get_within items r.place item r.here in
      let count = length-take r.place items in
      let inside : r.earlier < length (take r.place items) = omega (arith, r.before) in
      let like : list_any (λ earlier. same earlier item) (take r.place items) ≡ true =
      list_any_at (λ earlier. same earlier item) (take r.place items) r.earlier item inside
      (subst (λ x. same x item ≡ true) (sym (get_or-take r.place items r.earlier item r.before)) r.alike) in
      at_repeat [] items r.place item r.here like (λ j d lt. none_up_to items r.place j d r.first lt (omega arith))
