-- What stands twice in a list.
use Rattle.std.specs.Prelude.{◌≡◌, ℕ, ◌<◌, Bool, true, false, Some, List, length, take, slice_index_or}
use Rattle.std.specs.List.{slice_get}

module _ {A : Type 0} (same : A → A → Bool) where
  -- no item is like an earlier one
  abbrev pub AreApart : List A → Type 0
  AreApart items = (i j : ℕ) (d : A) → i < j → j < length items → same (slice_index_or items i d) (slice_index_or items j d) ≡ false

  -- the first item that an earlier one is like
  pub record IsFirstRepeat (items : List A) (item : A) : Type 0 where
    pub place : ℕ
    pub here : slice_get items place ≡ Some item
    pub earlier : ℕ
    pub before : earlier < place
    pub alike : same (slice_index_or items earlier item) item ≡ true
    pub first : AreApart (take place items)
