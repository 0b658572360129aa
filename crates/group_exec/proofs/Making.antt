-- What loops make, one thing after another.
use Rattle.std.proofs.Common.{◌≡◌, ℕ, ◌+◌, ◌<◌, inl, inr, List, [], ◌∷◌, ◌++◌, drop, get_or, length, map, Result, Ok, Err, refl, sym, ap, ◌∙◌}
use Rattle.std.proofs.lemmas.List.{drop_more, map-append}
use Rattle.geo_base.specs.Results.{Fails}
use Rattle.row_source.specs.declared.fault.ExecFault.{ExecFault}
use Rattle.row_source.specs.declared.fault.ExecFault.TheVariants as fault
use Rattle.sql_bind.specs.Steps.{each_behind}

-- what is made of the first thing stands behind what was made before
module _ {A B X : Type 0} (step : A → Result B ExecFault) (see : X → B) where
  abbrev Whole : Type 0
  Whole = Result (List B) ExecFault

  pub one_made : (a : A) (rest : List A) (done : List X) (x : X) (whole : Whole) → step a ≡ Ok (see x) →
      each_behind (λ _. step) (map see done) (a ∷ rest) ≡ whole → each_behind (λ _. step) (map see (done ++ x ∷ [])) rest ≡ whole
  one_made a rest done x whole is h =
      ap (λ (front : List B). each_behind (λ _. step) front rest) (map-append see done (x ∷ [])) ∙ sym (rw is refl) ∙ h

  pub one_refused : (a : A) (rest : List A) (done : List X) (e : ExecFault) (whole : Whole) → Fails fault.NoMemory e (step a) →
      each_behind (λ _. step) (map see done) (a ∷ rest) ≡ whole → Fails fault.NoMemory e whole
  one_refused a rest done e whole (inl none) h = inl none
  one_refused a rest done e whole (inr is) h = inr (sym h ∙ rw is refl)

  -- of things that are seen as what the step takes
  pub next_made : {Z : Type 0} (g : Z → A) (zs : List Z) (i : ℕ) (z : Z) (done : List X) (x : X) (whole : Whole) → i < length zs → get_or zs i z ≡ z → step (g z) ≡ Ok (see x) →
      each_behind (λ _. step) (map see done) (map g (drop i zs)) ≡ whole → each_behind (λ _. step) (map see (done ++ x ∷ [])) (map g (drop (i + 1) zs)) ≡ whole
  next_made {Z} g zs i z done x whole within at is h =
      one_made (g z) (map g (drop (i + 1) zs)) done x whole is
      (ap (λ (w : Z). each_behind (λ _. step) (map see done) (g w ∷ map g (drop (i + 1) zs))) (sym at)
      ∙ ap (λ (rest : List Z). each_behind (λ _. step) (map see done) (map g rest)) (sym (drop_more zs i z within)) ∙ h)

-- each of things that are seen in another form
pub each_seen : {A B C : Type 0} (step : B → Result C ExecFault) (f : A → B) (items : List A) (done : List C) →
    each_behind (λ _ a. step (f a)) done items ≡ each_behind (λ _. step) done (map f items)
each_seen {A} {B} {C} step f [] done = refl
each_seen {A} {B} {C} step f (a ∷ items) done = by (step (f a)) refl (each_seen step f items)
  where
    by : (r : Result C ExecFault) → step (f a) ≡ r → ((more : List C) → each_behind (λ _ a. step (f a)) more items ≡ each_behind (λ _. step) more (map f items)) →
        each_behind (λ _ a. step (f a)) done (a ∷ items) ≡ each_behind (λ _. step) done (map f (a ∷ items))
    by (Err e) is later = rw is refl
    by (Ok c) is later = rw is (later (done ++ c ∷ []))
