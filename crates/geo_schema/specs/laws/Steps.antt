-- Laws: one step of a search from the front of a list.
use Rattle.std.proofs.Common.{◌≡◌, ℕ, ◌<◌, ◌+◌, List, [], ◌∷◌, ◌++◌, length, take, drop, get_or}
use Rattle.std.proofs.lemmas.List.{drop_more}
use Rattle.std.proofs.lemmas.Grind.{take_at_read}

module _ {A : Type 0} where
  -- from a place on, the list begins with the item there
  pub drop_at : (items : List A) (i : ℕ) (item : A) → i < length items → item ≡ get_or items i item → drop i items ≡ item ∷ drop (i + 1) items
  drop_at items i item h e = rw e (drop_more items i item h)

  -- up to after a place, the list ends with the item there
  pub take_at : (items : List A) (i : ℕ) (item : A) → i < length items → item ≡ get_or items i item → take (i + 1) items ≡ take i items ++ item ∷ []
  take_at items i item h e =
      let t = (take_at_read items i item h).1 in
      cc
