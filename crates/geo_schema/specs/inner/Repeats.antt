-- Inner: how the first item that an earlier one is like is found.
use Rattle.std.specs.Prelude.{Bool, if◌then◌else◌, Option, Some, None, is_none, List, [], ◌∷◌, ◌++◌}
use Rattle.std.specs.List.{list_any}

module _ {A : Type 0} (same : A → A → Bool) where
  -- the first of these items that one before it is like, where others stand before them all
  abbrev pub first_repeat_after : List A → List A → Option A
  first_repeat_after before [] = None
  first_repeat_after before (item ∷ items) =
      if list_any (λ earlier. same earlier item) before then Some item else first_repeat_after (before ++ item ∷ []) items

  -- the first item that an earlier one is like
  abbrev pub first_repeat : List A → Option A
  first_repeat = first_repeat_after []

  -- no two items are alike
  abbrev pub is_distinct : List A → Bool
  is_distinct items = is_none (first_repeat items)
