-- What steps keep that are done for each item of a list.
use Rattle.std.proofs.Common.{◌≡◌, ℕ, zero, suc, ◌+◌, ◌<◌, ◌≤◌, ◌⊎◌, inl, inr, Bool, false, Option, Some, List, [], ◌∷◌, ◌++◌, length, drop, get_or, Result, Ok, Err, refl, sym, ◌∙◌, ap, subst, arith, length-append}
use Rattle.std.specs.Prelude.{slice_get}
use Rattle.std.specs.List.{All, list_any}
use Rattle.std.proofs.lemmas.Bool.{both_ways, false_from_ne_true, cases_lt}
use Rattle.std.proofs.lemmas.List.{get_or_append_left, at_drop_more, at_drop_all}
use Rattle.std.proofs.lemmas.List.Folds.{list_any_at}
use Rattle.std.proofs.Math.Seq.{get_or-append_seam}
use Rattle.std.proofs.lemmas.List.Elements.{All-nil, All-cons, All-append}
use Rattle.geo_base.specs.laws.Results.{ok_is, bind_ok}
use Rattle.geo_schema.specs.Repeats.{AreApart}
use Rattle.sql_bind.specs.Steps.{each_behind}

-- one item
pub All-one : {A : Type 0} (P : A → Type 0) (x : A) → P x → All P (x ∷ [])
All-one P x p = All-cons P x [] p (All-nil P)

module _ {A B E : Type 0} (step : List B → A → Result B E) where
  -- what each step keeps holds of the whole
  pub kept : (P : List B → Type 0) → ((done : List B) (x : A) (y : B) → P done → step done x ≡ Ok y → P (done ++ y ∷ [])) →
      (done : List B) (items : List A) (out : List B) → P done → each_behind step done items ≡ Ok out → P out
  kept P keeps done [] out p h = subst P (ok_is done out h) p
  kept P keeps done (x ∷ items) out p h =
      let q = bind_ok (step done x) (λ y. each_behind step (done ++ y ∷ []) items) out h in
      kept P keeps (done ++ q.0 ∷ []) items out (keeps done x q.0 p q.1) q.2

  -- each item that is made has what its step gives it
  pub all_made : (P : B → Type 0) → ((done : List B) (x : A) (y : B) → step done x ≡ Ok y → P y) → (items : List A) (out : List B) → each_behind step [] items ≡ Ok out → All P out
  all_made P makes items out h =
      kept (All P) (λ done x y p e. All-append P done (y ∷ []) p (All-one P y (makes done x y e))) [] items out (All-nil P) h

  -- as many are made as there are
  pub count : (done : List B) (items : List A) (out : List B) → each_behind step done items ≡ Ok out → length out ≡ length done + length items
  count done [] out h = let e : length done ≡ length out = ap length (ok_is done out h) in omega arith
  count done (x ∷ items) out h =
      let q = bind_ok (step done x) (λ y. each_behind step (done ++ y ∷ []) items) out h in
      let more = count (done ++ q.0 ∷ []) items out q.2 in
      let one = length-append done (q.0 ∷ []) in
      omega arith

pub some_is : {A : Type 0} (a b : A) → (let o : Option A = Some a in o ≡ Some b) → a ≡ b
some_is a b e = cc

-- what is at a place of a list with one more item
pub at_end : {A : Type 0} (xs : List A) (y x : A) (k : ℕ) → slice_get (xs ++ y ∷ []) k ≡ Some x → ((k < length xs) × (slice_get xs k ≡ Some x)) ⊎ ((k ≡ length xs) × (y ≡ x))
at_end [] y x zero h = inr (refl, some_is y x h)
at_end [] y x (suc k) h = absurd cc
at_end (z ∷ xs) y x zero h = inl (omega arith, h)
at_end (z ∷ xs) y x (suc k) h = elim (at_end xs y x k h) [ inl p ↦ inl (omega (arith, p.0), p.1) | inr p ↦ inr (ap suc p.0, p.1) ]

-- one more item, which none before it is like
module _ {A : Type 0} (same : A → A → Bool) where
  unlike : (items : List A) (y : A) (i : ℕ) (d : A) → list_any (λ e. same e y) items ≡ false → i < length items → same (get_or items i d) y ≡ false
  unlike items y i d none within = false_from_ne_true (same (get_or items i d) y) (λ t. both_ways (list_any (λ e. same e y) items) none (list_any_at (λ e. same e y) items i d within t))

  pub apart_more : (items : List A) (y : A) → AreApart same items → list_any (λ e. same e y) items ≡ false → AreApart same (items ++ y ∷ [])
  apart_more items y apart none i j d before within =
      let one = length-append items (y ∷ []) in
      let early : i < length items = omega arith in
      let left : get_or (items ++ y ∷ []) i d ≡ get_or items i d = get_or_append_left items (y ∷ []) d i early in
      elim (cases_lt j (length items)) [
        | inl inside ↦
            let right : get_or (items ++ y ∷ []) j d ≡ get_or items j d = get_or_append_left items (y ∷ []) d j inside in
            rw (left, right) (apart i j d before inside)
        | inr upto ↦
            let last : j ≡ length items = omega arith in
            let right : get_or (items ++ y ∷ []) j d ≡ y = rw last (get_or-append_seam items y [] d) in
            rw (left, right) (unlike items y i d none early)
      ]

pub apart_none : {A : Type 0} (same : A → A → Bool) → AreApart same []
apart_none same i j d before within = absurd (omega arith)

-- ---- loops over a list: what is made of the items so far, and then the items that are left, come to the whole

module _ {A B E : Type 0} (step : List B → A → Result B E) (items : List A) (whole : Result (List B) E) where
  abbrev pub ComesTo : List B → ℕ → Type 0
  ComesTo done place = each_behind step done (drop place items) ≡ whole

  -- the next item is done
  pub next_made : (done : List B) (place : ℕ) (item : A) (made : B) → place < length items → get_or items place item ≡ item → ComesTo done place → step done item ≡ Ok made →
      ComesTo (done ++ made ∷ []) (place + 1)
  next_made done place item made within at h is =
      sym (at_drop_more (each_behind step done) items place item within ∙ rw (at, is) refl) ∙ h

  -- the next item is refused
  pub next_refused : (none fault : E) (done : List B) (place : ℕ) (item : A) → place < length items → get_or items place item ≡ item → ComesTo done place →
      (fault ≡ none) ⊎ (step done item ≡ Err fault) → (fault ≡ none) ⊎ (whole ≡ Err fault)
  next_refused none fault done place item within at h (inl is) = inl is
  next_refused none fault done place item within at h (inr is) =
      inr (sym h ∙ (at_drop_more (each_behind step done) items place item within ∙ rw (at, is) refl))

  -- no item is left
  pub none_left : (done : List B) (place : ℕ) → length items ≤ place → ComesTo done place → whole ≡ Ok done
  none_left done place upto h = sym h ∙ at_drop_all (each_behind step done) items place upto
