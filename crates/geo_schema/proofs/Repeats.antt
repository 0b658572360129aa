-- One step of the search for the first item that an earlier one is like.
use Rattle.std.proofs.Common.{◌≡◌, ℕ, ◌<◌, ◌+◌, Bool, List, Some, if◌then◌else◌, length, take, drop, get_or, true, false, refl, ap, ◌∙◌}
use Rattle.std.specs.List.{list_any}
use Rattle.geo_schema.specs.inner.Repeats.{first_repeat_after}
use Rattle.geo_schema.specs.laws.Steps.{drop_at, take_at}

module _ {A : Type 0} (same : A → A → Bool) (items : List A) (i : ℕ) (item : A) (h : i < length items) (e : item ≡ get_or items i item) where
  step : first_repeat_after same (take i items) (drop i items)
      ≡ (if list_any (λ earlier. same earlier item) (take i items) then Some item else first_repeat_after same (take (i + 1) items) (drop (i + 1) items))
  step = rw (drop_at items i item h e, take_at items i item h e) refl

  -- the item at a place is like an earlier one
  pub found_repeat : list_any (λ earlier. same earlier item) (take i items) ≡ true → first_repeat_after same (take i items) (drop i items) ≡ Some item
  found_repeat like = step ∙ ap (λ (b : Bool). if b then Some item else first_repeat_after same (take (i + 1) items) (drop (i + 1) items)) like

  -- the item at a place is like no earlier one
  pub no_repeat : list_any (λ earlier. same earlier item) (take i items) ≡ false →
      first_repeat_after same (take i items) (drop i items) ≡ first_repeat_after same (take (i + 1) items) (drop (i + 1) items)
  no_repeat like = step ∙ ap (λ (b : Bool). if b then Some item else first_repeat_after same (take (i + 1) items) (drop (i + 1) items)) like
