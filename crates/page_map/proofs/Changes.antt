-- What a shelf becomes when a pair is put into one of its chunks, or taken out.
use Rattle.std.proofs.Common.{◌≡◌, ℕ, suc, ◌+◌, ◌-◌, ◌<◌, ◌≤◌, List, [], ◌∷◌, ◌++◌, length, take, drop, set, get_or, refl, ap, sym, ◌∙◌, subst, arith}
use Rattle.std.specs.List.{All, flat_map, remove}
use Rattle.std.proofs.lemmas.List.{take-set, drop-set-lt, get_or_read}
use Rattle.std.proofs.lemmas.List.Elements.{All-set}
use Rattle.std.proofs.lemmas.Grind.{get_or-set_at}
use Rattle.std.specs.Arc.{arc_value}
use Rattle.std.specs.declared.cmp.Ordering.{Ordering}
use Rattle.std.specs.declared.sync.Arc.{Arc}
use Rattle.std.specs.declared.alloc.Global.{Global}
use Rattle.page_map.specs.declared.limits.TheConstants.{MOST_PAIRS}
use Rattle.page_map.specs.declared.shelf.Shelf.{Shelf}
use Rattle.page_map.specs.Pairs.{put_in, without}
use Rattle.page_map.specs.inner.Cuts.{IsInChunk}
use Rattle.page_map.specs.inner.Chunks.{shared_entries, shelf_entries, IsChunk, IsShelf}
use Rattle.page_map.specs.laws.Orders.{put_length, put_some, without_length}
use Rattle.page_map.proofs.Flats.{All-remove}
use Rattle.page_map.proofs.Chunks.{three_lengths, set_lengths, same_pairs, emptied, chunk_put, chunk_without}
use Rattle.page_map.proofs.Shelves.{IsRight, chunk_read, chunk_small}

no_items : {P : Type 0} (l : List P) → 0 ≡ length l → l ≡ []
no_items [] e = refl
no_items (p ∷ l) e = absurd (omega arith)

-- a chunk at a place, as it was and as it is now, and how many pairs it had
pub record IsChanging {C P : Type 0} (entries : C → List P) (sound : C → Type 0) (shelf : Shelf C) (i : ℕ) (x y : Arc C Global) (before : ℕ) : Type 0 where
  pub whole : IsShelf entries sound shelf
  pub within : i < length shelf.chunks.items
  pub read : x ≡ get_or shelf.chunks.items i x
  pub had : before ≡ length (entries (arc_value x))
  pub now : sound (arc_value y)

-- two reads at one place are of one chunk
pub same_read : {X : Type 0} (cs : List X) (i : ℕ) (x z : X) → i < length cs → x ≡ get_or cs i x → z ≡ get_or cs i z → x ≡ z
same_read cs i x z within r s = get_or_read cs i x within r z ∙ sym s

module _ {C P : Type 0} (entries : C → List P) (sound : C → Type 0) where
  -- the count was read at x, and the change is made at z
  pub changing : (shelf : Shelf C) (i : ℕ) (x z y : Arc C Global) (chunk : C) (before : ℕ) → IsShelf entries sound shelf → i < length shelf.chunks.items → x ≡ get_or shelf.chunks.items i x → z ≡ get_or shelf.chunks.items i z → chunk ≡ arc_value x → before ≡ length (entries chunk) → sound (arc_value y) → IsChanging entries sound shelf i z y before
  changing shelf i x z y chunk before s within r t e b now = record {
    whole = s;
    within = within;
    read = t;
    had = b ∙ ap (λ v. length (entries v)) (e ∙ ap arc_value (same_read shelf.chunks.items i x z within r t));
    now = now;
  }

  -- the count behind the change
  pub after_read : (cs : List (Arc C Global)) (i : ℕ) (y w : Arc C Global) (chunk : C) (after : ℕ) → i < length cs → w ≡ get_or (set cs i y) i w → chunk ≡ arc_value w → after ≡ length (entries chunk) → after ≡ length (entries (arc_value y))
  after_read cs i y w chunk after within r e a =
      a ∙ ap (λ v. length (entries v)) (e ∙ ap arc_value (r ∙ get_or-set_at cs i i y w refl within))

-- what is read behind the change is the chunk that was put there
pub sound_after : {C : Type 0} (sound : C → Type 0) (cs : List (Arc C Global)) (i : ℕ) (y w : Arc C Global) (chunk : C) → i < length cs → w ≡ get_or (set cs i y) i w → chunk ≡ arc_value w → sound (arc_value y) → sound chunk
sound_after sound cs i y w chunk within r e now =
    subst sound (sym (e ∙ ap arc_value (r ∙ get_or-set_at cs i i y w refl within))) now

module _ {C P : Type 0} (entries : C → List P) (sound : C → Type 0) (shelf : Shelf C) (i : ℕ) (x y : Arc C Global) (before : ℕ) (h : IsChanging entries sound shelf i x y before) where
  -- the chunk has fewer pairs than there are in all
  pub had_within : before ≤ shelf.count
  had_within = omega (arith, chunk_small entries sound shelf i x h.within h.read, h.had, h.whole.counted)

  -- the chunk has other pairs now, and more than none
  changed_to : (pairs : List P) (after : ℕ) → after ≡ length (entries (arc_value y)) → 0 < length (entries (arc_value y)) → flat_map (shared_entries entries) (set shelf.chunks.items i y) ≡ pairs → length pairs ≤ MOST_PAIRS → IsRight entries sound pairs (set shelf.chunks.items i y) ((shelf.count - before) + after)
  changed_to pairs after a some e small =
      let m = three_lengths (shared_entries entries) shelf.chunks.items i x h.within h.read in
      let n = set_lengths (shared_entries entries) shelf.chunks.items i y h.within in
      record {
        chunks = All-set (IsChunk entries sound) shelf.chunks.items i y (record { whole = h.now; some = some }) h.whole.chunks;
        same = e;
        counted = omega (arith, ap length e, h.whole.counted, h.had);
        small = small;
      }

  -- the chunk has the same pairs still
  pub kept : entries (arc_value y) ≡ entries (arc_value x) → IsRight entries sound (shelf_entries entries shelf) (set shelf.chunks.items i y) shelf.count
  kept e =
      let some : 0 < length (entries (arc_value x)) = (chunk_read entries sound shelf i x h.whole h.within h.read).some in
      record {
        chunks = All-set (IsChunk entries sound) shelf.chunks.items i y (record { whole = h.now; some = subst (λ l. 0 < length l) (sym e) some }) h.whole.chunks;
        same = same_pairs (shared_entries entries) shelf.chunks.items i x y h.within h.read e;
        counted = h.whole.counted;
        small = h.whole.small;
      }

  bare : remove (set shelf.chunks.items i y) i ≡ remove shelf.chunks.items i
  bare =
      ap (λ l. l ++ drop (suc i) (set shelf.chunks.items i y)) (take-set shelf.chunks.items i y)
      ∙ ap (λ l. take i shelf.chunks.items ++ l) (drop-set-lt (suc i) shelf.chunks.items i y (omega arith))

  -- the chunk has no pairs any more, and went
  went : (pairs : List P) (after : ℕ) → after ≡ length (entries (arc_value y)) → after ≡ 0 → flat_map (shared_entries entries) (set shelf.chunks.items i y) ≡ pairs → length pairs ≤ MOST_PAIRS → IsRight entries sound pairs (remove (set shelf.chunks.items i y) i) ((shelf.count - before) + after)
  went pairs after a none e small =
      let m = three_lengths (shared_entries entries) shelf.chunks.items i x h.within h.read in
      let n = set_lengths (shared_entries entries) shelf.chunks.items i y h.within in
      record {
        chunks = subst (All (IsChunk entries sound)) (sym bare) (All-remove (IsChunk entries sound) shelf.chunks.items i h.whole.chunks);
        same = emptied (shared_entries entries) shelf.chunks.items i y h.within (no_items (entries (arc_value y)) (sym none ∙ a)) ∙ e;
        counted = omega (arith, ap length e, h.whole.counted, h.had);
        small = small;
      }

module _ {K V C : Type 0} (R : K → K → Ordering) (entries : C → List (K × V)) (sound : C → Type 0) (key : K) (shelf : Shelf C) (i : ℕ) (x y : Arc C Global) (before : ℕ) (h : IsChanging entries sound shelf i x y before) (c : IsInChunk R (shared_entries entries) key shelf.chunks.items i) (after : ℕ) (a : after ≡ length (entries (arc_value y))) where
  pub put_there : (value : V) → entries (arc_value y) ≡ put_in R key value (entries (arc_value x)) → length (shelf_entries entries shelf) < MOST_PAIRS → IsRight entries sound (put_in R key value (shelf_entries entries shelf)) (set shelf.chunks.items i y) ((shelf.count - before) + after)
  put_there value e small =
      changed_to entries sound shelf i x y before h (put_in R key value (shelf_entries entries shelf)) after a
      (subst (λ l. 0 < length l) (sym e) (put_some R key value (entries (arc_value x))))
      (chunk_put R (shared_entries entries) key shelf.chunks.items i x value y c h.read e)
      (omega (arith, put_length R key value (shelf_entries entries shelf)))

  pub taken_there : entries (arc_value y) ≡ without R key (entries (arc_value x)) → 0 < after → IsRight entries sound (without R key (shelf_entries entries shelf)) (set shelf.chunks.items i y) ((shelf.count - before) + after)
  taken_there e some =
      changed_to entries sound shelf i x y before h (without R key (shelf_entries entries shelf)) after a
      (omega arith)
      (chunk_without R (shared_entries entries) key shelf.chunks.items i x y c h.read e)
      (omega (arith, without_length R key (shelf_entries entries shelf), h.whole.small))

  pub last_taken : entries (arc_value y) ≡ without R key (entries (arc_value x)) → after ≡ 0 → IsRight entries sound (without R key (shelf_entries entries shelf)) (remove (set shelf.chunks.items i y) i) ((shelf.count - before) + after)
  last_taken e none =
      went entries sound shelf i x y before h (without R key (shelf_entries entries shelf)) after a none
      (chunk_without R (shared_entries entries) key shelf.chunks.items i x y c h.read e)
      (omega (arith, without_length R key (shelf_entries entries shelf), h.whole.small))
