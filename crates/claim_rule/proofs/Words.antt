-- A step on a word of each kind, as a fact on the rule alone: after these no proof mentions the table's state.
use Rattle.std.proofs.Common.{◌≡◌, ◌≢◌, inr, ℕ, zero, suc, ◌+◌, false, true≢false, List, [], ◌∷◌, ◌++◌, set, refl, sym, ap, ◌∙◌, subst, ⊎_elim, arith}
use Rattle.std.specs.Prelude.{slice_index, slice_set}
use mathlib.Core.Option.{some, some-ne-none, some-injective}
use mathlib.Core.Option as maybe
use lib.ListN.{get_elem?}
use Rattle.atomic_table.specs.Table.{Act, keeps, Valid, homes_after, carried_after, Allows, Splits, Joins}
use Rattle.claim_rule.specs.declared.view.ClaimView.{ClaimView}
use Rattle.claim_rule.specs.declared.size.TableSize.{TableSize}
use Rattle.claim_rule.specs.Plan.{Pieces}
use Rattle.claim_rule.specs.Views.{closed_view}
use Rattle.claim_rule.specs.Rule.{IsRuled, IsClosed, IsOpen, Holds}
use Rattle.claim_rule.specs.inner.Steps.{Seated}

-- the seat of an open view stands in a table that has a plan
not_closed : (views : List ClaimView) (id : ℕ) (v : ClaimView) → views ≡ closed_view ∷ [] → get_elem? views id ≡ some v → v.closed ≡ false → ⊥
not_closed views id v only at opened = here id (sym (ap (λ (l : List ClaimView). get_elem? l id) only) ∙ at)
  where
    here : (k : ℕ) → get_elem? (closed_view ∷ []) k ≡ some v → ⊥
    here zero e = true≢false (ap (λ (u : ClaimView). u.closed) (some-injective closed_view v e) ∙ opened)
    here (suc k) e = some-ne-none v (sym e)

module _ (size : TableSize) (id : ℕ) (me : Seated) where
  -- what a step owes, by the words that it finds
  abbrev Goes : List (maybe.Option (Unit {0})) → List ClaimView → ℕ → (ℕ → ℕ) → (ℕ → Seated → Type 0) → List ℕ → Type 0
  Goes homes views word f then words = (w : ClaimView) × (a : Act (Unit {0})) × Valid homes me.1 a
      × Holds size record { words = slice_set words word (f (slice_index words word)); homes = homes_after homes me.1 a; views = slice_set views id w }
      × then (slice_index words word) (w, carried_after me.1 a)

  -- the same where the words are known
  abbrev Steps : List ClaimView → Pieces → ℕ → ℕ → ℕ → List ℕ → ℕ → (ℕ → Seated → Type 0) → Type 0
  Steps views plan claimed done judged headers found then = (w : ClaimView) × IsRuled size plan claimed done judged headers (set views id w) × then found (w, me.1)

  on_open : (slots word : ℕ) (f : ℕ → ℕ) (then : ℕ → Seated → Type 0) → me.0.closed ≡ false
      → ((homes : List (maybe.Option (Unit {0}))) (views : List ClaimView) (plan : Pieces) (claimed done judged : ℕ) (headers : List ℕ) → IsRuled size plan claimed done judged headers views → get_elem? views id ≡ some me.0
      → Goes homes views word f then (claimed ∷ done ∷ judged ∷ headers))
      → Allows (Holds size) slots id me word f then
  on_open slots word f then opened go s holds deep at fits = ⊎_elim
      (λ (c : IsClosed size s). absurd (not_closed s.views id me.0 c.views at opened))
      (λ (o : IsOpen size s). subst (Goes s.homes s.views word f then) (sym o.words) (go s.homes s.views o.plan o.claimed o.done o.judged o.headers o.ruled at))
      holds

  pub on_claimed : (slots word : ℕ) (f : ℕ → ℕ) (then : ℕ → Seated → Type 0) → word ≡ 0 → me.0.closed ≡ false
      → ((views : List ClaimView) (plan : Pieces) (claimed done judged : ℕ) (headers : List ℕ) → IsRuled size plan claimed done judged headers views → get_elem? views id ≡ some me.0
      → Steps views plan (f claimed) done judged headers claimed then)
      → Allows (Holds size) slots id me word f then
  on_claimed slots word f then first opened go = on_open slots word f then opened
      (λ homes views plan claimed done judged headers r at.
      let step = go views plan claimed done judged headers r at in
      subst (λ (i : ℕ). Goes homes views i f then (claimed ∷ done ∷ judged ∷ headers)) (sym first)
      (step.0, keeps, tt, inr record { plan = plan; claimed = f claimed; done = done; judged = judged; headers = headers; words = refl; ruled = step.1 }, step.2))

  pub on_done : (slots word : ℕ) (f : ℕ → ℕ) (then : ℕ → Seated → Type 0) → word ≡ 1 → me.0.closed ≡ false
      → ((views : List ClaimView) (plan : Pieces) (claimed done judged : ℕ) (headers : List ℕ) → IsRuled size plan claimed done judged headers views → get_elem? views id ≡ some me.0
      → Steps views plan claimed (f done) judged headers done then)
      → Allows (Holds size) slots id me word f then
  on_done slots word f then first opened go = on_open slots word f then opened
      (λ homes views plan claimed done judged headers r at.
      let step = go views plan claimed done judged headers r at in
      subst (λ (i : ℕ). Goes homes views i f then (claimed ∷ done ∷ judged ∷ headers)) (sym first)
      (step.0, keeps, tt, inr record { plan = plan; claimed = claimed; done = f done; judged = judged; headers = headers; words = refl; ruled = step.1 }, step.2))

  pub on_judged : (slots word : ℕ) (f : ℕ → ℕ) (then : ℕ → Seated → Type 0) → word ≡ 2 → me.0.closed ≡ false
      → ((views : List ClaimView) (plan : Pieces) (claimed done judged : ℕ) (headers : List ℕ) → IsRuled size plan claimed done judged headers views → get_elem? views id ≡ some me.0
      → Steps views plan claimed done (f judged) headers judged then)
      → Allows (Holds size) slots id me word f then
  on_judged slots word f then first opened go = on_open slots word f then opened
      (λ homes views plan claimed done judged headers r at.
      let step = go views plan claimed done judged headers r at in
      subst (λ (i : ℕ). Goes homes views i f then (claimed ∷ done ∷ judged ∷ headers)) (sym first)
      (step.0, keeps, tt, inr record { plan = plan; claimed = claimed; done = done; judged = f judged; headers = headers; words = refl; ruled = step.1 }, step.2))

  pub on_header : (slots word row : ℕ) (f : ℕ → ℕ) (then : ℕ → Seated → Type 0) → word ≡ row + 3 → me.0.closed ≡ false
      → ((views : List ClaimView) (plan : Pieces) (claimed done judged : ℕ) (headers : List ℕ) → IsRuled size plan claimed done judged headers views → get_elem? views id ≡ some me.0
      → Steps views plan claimed done judged (set headers row (f (slice_index headers row))) (slice_index headers row) then)
      → Allows (Holds size) slots id me word f then
  on_header slots word row f then behind opened go = on_open slots word f then opened
      (λ homes views plan claimed done judged headers r at.
      let step = go views plan claimed done judged headers r at in
      let third : suc (suc (suc row)) ≡ word = omega arith in
      subst (λ (i : ℕ). Goes homes views i f then (claimed ∷ done ∷ judged ∷ headers)) third
      (step.0, keeps, tt, inr record { plan = plan; claimed = claimed; done = done; judged = judged; headers = set headers row (f (slice_index headers row)); words = refl; ruled = step.1 }, step.2))

-- ---- split and join

pub splits_by : (size : TableSize) (id : ℕ) (v left right : ClaimView) → v.closed ≡ false
    → ((views : List ClaimView) (plan : Pieces) (claimed done judged : ℕ) (headers : List ℕ) → IsRuled size plan claimed done judged headers views → get_elem? views id ≡ some v
    → IsRuled size plan claimed done judged headers (set views id left ++ right ∷ []))
    → Splits (Holds size) id v left right
splits_by size id v left right opened go s holds at = ⊎_elim
    (λ (c : IsClosed size s). absurd (not_closed s.views id v c.views at opened))
    (λ (o : IsOpen size s). inr record { plan = o.plan; claimed = o.claimed; done = o.done; judged = o.judged; headers = o.headers; words = o.words; ruled = go s.views o.plan o.claimed o.done o.judged o.headers o.ruled at })
    holds

pub joins_by : (size : TableSize) (id : ℕ) (v : ClaimView) (other : ℕ) (w both spent : ClaimView) → v.closed ≡ false
    → ((views : List ClaimView) (plan : Pieces) (claimed done judged : ℕ) (headers : List ℕ) → IsRuled size plan claimed done judged headers views → get_elem? views id ≡ some v → other ≢ id → get_elem? (set views id both) other ≡ some w
    → IsRuled size plan claimed done judged headers (set (set views id both) other spent))
    → Joins (Holds size) id v other w both spent
joins_by size id v other w both spent opened go s holds at apart there = ⊎_elim
    (λ (c : IsClosed size s). absurd (not_closed s.views id v c.views at opened))
    (λ (o : IsOpen size s). inr record { plan = o.plan; claimed = o.claimed; done = o.done; judged = o.judged; headers = o.headers; words = o.words; ruled = go s.views o.plan o.claimed o.done o.judged o.headers o.ruled at apart there })
    holds
