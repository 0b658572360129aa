-- What a right shelf says of its chunks, and that it stays right when they change.
use Rattle.std.proofs.Common.{◌≡◌, ℕ, ◌<◌, ◌≤◌, List, [], ◌∷◌, ◌++◌, length, map, get_or, ap, sym, ◌∙◌, subst, arith, length-append}
use Rattle.std.specs.List.{All, flat_map}
use Rattle.std.specs.Arc.{arc_value}
use Rattle.std.specs.declared.cmp.Ordering.{Ordering}
use Rattle.std.specs.declared.sync.Arc.{Arc}
use Rattle.std.specs.declared.alloc.Global.{Global}
use Rattle.std.proofs.lemmas.List.Elements.{All-cons, All-head, All-tail, All-same, All-get_or}
use Rattle.page_map.specs.declared.limits.TheConstants.{MOST_PAIRS}
use Rattle.page_map.specs.declared.shelf.Shelf.{Shelf}
use Rattle.page_map.specs.inner.Chunks.{shared_entries, shelf_entries, IsChunk, IsShelf}
use Rattle.page_map.specs.Pairs.{IsRising}
use Rattle.page_map.proofs.Chunks.{three_lengths, chunk_rising}
use Rattle.page_map.proofs.Flats.{flat_values}
use Rattle.page_map.proofs.Rooms.{halved, halved_all, halved_pairs}

-- right chunks with these pairs, and how many pairs there are
pub record IsRight {C P : Type 0} (entries : C → List P) (sound : C → Type 0) (pairs : List P) (cs : List (Arc C Global)) (count : ℕ) : Type 0 where
  pub chunks : All (IsChunk entries sound) cs
  pub same : flat_map (shared_entries entries) cs ≡ pairs
  pub counted : count ≡ length pairs
  pub small : length pairs ≤ MOST_PAIRS

-- what the calls of a chunk ask
pub record IsReady {K V C : Type 0} (R : K → K → Ordering) (entries : C → List (K × V)) (sound : C → Type 0) (chunk : C) : Type 0 where
  pub whole : sound chunk
  pub rising : IsRising R (entries chunk)
  pub some : 0 < length (entries chunk)

module _ {C P : Type 0} (entries : C → List P) (sound : C → Type 0) where
  pub chunk_read : (shelf : Shelf C) (i : ℕ) (x : Arc C Global) → IsShelf entries sound shelf → i < length shelf.chunks.items → x ≡ get_or shelf.chunks.items i x → IsChunk entries sound x
  chunk_read shelf i x s within read =
      subst (IsChunk entries sound) (sym read) (All-get_or (IsChunk entries sound) shelf.chunks.items i x within s.chunks)

  -- the same of what it shares
  pub chunk_sound : (shelf : Shelf C) (i : ℕ) (x : Arc C Global) (chunk : C) → IsShelf entries sound shelf → i < length shelf.chunks.items → x ≡ get_or shelf.chunks.items i x → chunk ≡ arc_value x → sound chunk
  chunk_sound shelf i x chunk s within read e = subst sound (sym e) (chunk_read shelf i x s within read).whole

  pub whole_from : (new : Shelf C) (pairs : List P) → IsRight entries sound pairs new.chunks.items new.count → IsShelf entries sound new
  whole_from new pairs h = record {
    counted = h.counted ∙ ap length (sym h.same);
    chunks = h.chunks;
    small = subst (λ l. length l ≤ MOST_PAIRS) (sym h.same) h.small;
  }

  pub right_at : (pairs : List P) (cs ds : List (Arc C Global)) (count : ℕ) → ds ≡ cs → IsRight entries sound pairs cs count → IsRight entries sound pairs ds count
  right_at pairs cs ds count e h = subst (λ l. IsRight entries sound pairs l count) (sym e) h

  -- a chunk has no more pairs than its shelf
  pub chunk_small : (shelf : Shelf C) (i : ℕ) (x : Arc C Global) → i < length shelf.chunks.items → x ≡ get_or shelf.chunks.items i x → length (entries (arc_value x)) ≤ length (shelf_entries entries shelf)
  chunk_small shelf i x within read = omega (arith, three_lengths (shared_entries entries) shelf.chunks.items i x within read)

  -- two chunks in the place of one
  pub shelf_halved : (old new : Shelf C) (i : ℕ) (x first last : Arc C Global) → IsShelf entries sound old → i < length old.chunks.items → x ≡ get_or old.chunks.items i x → entries (arc_value x) ≡ entries (arc_value first) ++ entries (arc_value last) → IsChunk entries sound first → IsChunk entries sound last → new.count ≡ old.count → new.chunks.items ≡ halved old.chunks.items i first last → IsShelf entries sound new
  shelf_halved old new i x first last s within read pairs f l count items =
      let same = ap (λ l. length (flat_map (shared_entries entries) l)) items in
      let kept = ap length (halved_pairs (shared_entries entries) old.chunks.items i x first last within read pairs) in
      record {
        counted = omega (arith, s.counted);
        chunks = All-same (IsChunk entries sound) new.chunks.items (halved old.chunks.items i first last) items (halved_all old.chunks.items i first last (IsChunk entries sound) s.chunks f l);
        small = omega (arith, s.small);
      }

  -- the same chunks, shared once more
  pub shared_all : (xs ys : List (Arc C Global)) → map arc_value ys ≡ map arc_value xs → All (IsChunk entries sound) xs → All (IsChunk entries sound) ys
  shared_all [] [] e h = h
  shared_all [] (y ∷ ys) e h = absurd (cc)
  shared_all (x ∷ xs) [] e h = absurd (cc)
  shared_all (x ∷ xs) (y ∷ ys) e h =
      let head : arc_value y ≡ arc_value x = cc in
      let tail : map arc_value ys ≡ map arc_value xs = cc in
      let c = All-head (IsChunk entries sound) x xs h in
      All-cons (IsChunk entries sound) y ys
      (record { whole = subst sound (sym head) c.whole; some = subst (λ v. 0 < length (entries v)) (sym head) c.some })
      (shared_all xs ys tail (All-tail (IsChunk entries sound) x xs h))

  pub shared_right : (xs ys : List (Arc C Global)) (count : ℕ) → map arc_value ys ≡ map arc_value xs → All (IsChunk entries sound) xs → count ≡ length (flat_map (shared_entries entries) xs) → length (flat_map (shared_entries entries) xs) ≤ MOST_PAIRS → IsRight entries sound (flat_map (shared_entries entries) xs) ys count
  shared_right xs ys count e h counted small = record {
    chunks = shared_all xs ys e h;
    same = flat_values entries arc_value ys ∙ (ap (flat_map entries) e ∙ sym (flat_values entries arc_value xs));
    counted = counted;
    small = small;
  }

  -- chunks have pairs
  pub pairs_some : (cs : List (Arc C Global)) → All (IsChunk entries sound) cs → 0 < length cs → 0 < length (flat_map (shared_entries entries) cs)
  pairs_some [] h some = some
  pairs_some (c ∷ cs) h some =
      let first = All-head (IsChunk entries sound) c cs h in
      omega (arith, first.some, length-append (entries (arc_value c)) (flat_map (shared_entries entries) cs))

module _ {K V C : Type 0} (R : K → K → Ordering) (entries : C → List (K × V)) (sound : C → Type 0) where
  pub ready : (shelf : Shelf C) (i : ℕ) (x : Arc C Global) (chunk : C) → IsShelf entries sound shelf → IsRising R (shelf_entries entries shelf) → i < length shelf.chunks.items → x ≡ get_or shelf.chunks.items i x → chunk ≡ arc_value x → IsReady R entries sound chunk
  ready shelf i x chunk s rising within read e =
      let c = chunk_read entries sound shelf i x s within read in
      record {
        whole = subst sound (sym e) c.whole;
        rising = subst (λ v. IsRising R (entries v)) (sym e) (chunk_rising R (shared_entries entries) shelf.chunks.items i x within read rising);
        some = subst (λ v. 0 < length (entries v)) (sym e) c.some;
      }
