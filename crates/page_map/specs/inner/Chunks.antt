-- Inner: what pages, shelves and the whole map hold.
use Rattle.std.specs.Prelude.{◌≡◌, ◌<◌, ◌≤◌, List, [], length, Option, Some, None}
use Rattle.std.specs.List.{All, flat_map}
use Rattle.std.specs.Arc.{arc_value}
use Rattle.std.specs.declared.sync.Arc.{Arc}
use Rattle.std.specs.declared.alloc.Global.{Global}
use Rattle.page_map.specs.declared.limits.TheConstants.{PAGE_PAIRS, MOST_PAIRS}
use Rattle.page_map.specs.declared.page.Page.{Page}
use Rattle.page_map.specs.declared.shelf.Shelf.{Shelf}

-- the pairs of a page
abbrev pub page_entries : {K V : Type 0} → Page K V → List (K × V)
page_entries page = page.entries.items

-- a page is no longer than a page may be
abbrev pub IsPage : {K V : Type 0} → Page K V → Type 0
IsPage page = length page.entries.items ≤ PAGE_PAIRS

-- the pairs of what is shared
abbrev pub shared_entries : {C P : Type 0} → (C → List P) → Arc C Global → List P
shared_entries entries shared = entries (arc_value shared)

-- the pairs of a shelf's chunks, one chunk after another
abbrev pub shelf_entries : {C P : Type 0} → (C → List P) → Shelf C → List P
shelf_entries entries shelf = flat_map (shared_entries entries) shelf.chunks.items

-- a chunk of a shelf is right, and not empty
pub record IsChunk {C P : Type 0} (entries : C → List P) (sound : C → Type 0) (shared : Arc C Global) : Type 0 where
  pub whole : sound (arc_value shared)
  pub some : 0 < length (entries (arc_value shared))

-- a shelf knows how many pairs it has, and its chunks are right
pub record IsShelf {C P : Type 0} (entries : C → List P) (sound : C → Type 0) (shelf : Shelf C) : Type 0 where
  pub counted : shelf.count ≡ length (shelf_entries entries shelf)
  pub chunks : All (IsChunk entries sound) shelf.chunks.items
  pub small : length (shelf_entries entries shelf) ≤ MOST_PAIRS

-- the whole map is three shelves deep
abbrev pub Top : Type 0 → Type 0 → Type 0
Top K V = Shelf (Shelf (Shelf (Page K V)))

abbrev pub top_entries : {K V : Type 0} → Top K V → List (K × V)
top_entries = shelf_entries (shelf_entries (shelf_entries page_entries))

abbrev pub IsTop : {K V : Type 0} → Top K V → Type 0
IsTop = IsShelf (shelf_entries (shelf_entries page_entries)) (IsShelf (shelf_entries page_entries) (IsShelf page_entries IsPage))

-- a map without a root is empty
abbrev pub root_entries : {C P : Type 0} → (C → List P) → Option (Arc C Global) → List P
root_entries entries None = []
root_entries entries (Some root) = entries (arc_value root)

-- a root is right, and may be empty
abbrev pub IsLoose : {C : Type 0} → (C → Type 0) → Option (Arc C Global) → Type 0
IsLoose sound None = Unit {0}
IsLoose sound (Some root) = sound (arc_value root)

-- a root is right, and not empty
abbrev pub IsRoot : {C P : Type 0} → (C → List P) → (C → Type 0) → Option (Arc C Global) → Type 0
IsRoot entries sound None = Unit {0}
IsRoot entries sound (Some root) = sound (arc_value root) × (0 < length (entries (arc_value root)))
