-- Chunks that are made shared.
use Rattle.std.proofs.Common.{◌≡◌, ◌<◌, List, ◌++◌, length, take, drop, ℕ, ap, sym, ◌∙◌, subst, Global}
use Rattle.std.specs.Arc.{arc_value}
use Rattle.std.specs.declared.sync.Arc.{Arc}
use Rattle.std.specs.List.{flat_map}
use Rattle.std.proofs.lemmas.List.{take-append-drop}
use Rattle.std.proofs.lemmas.List.Concat.{flat_map-append}
use Rattle.page_map.specs.inner.Chunks.{IsChunk, shared_entries}

-- what is right and not empty is a chunk of a shelf once it is shared
pub chunk_shared : {C P : Type 0} (entries : C → List P) (sound : C → Type 0) {value : C} {shared : Arc C Global} →
    arc_value shared ≡ value → sound value → 0 < length (entries value) → IsChunk entries sound shared
chunk_shared entries sound same whole some = record {
  whole = subst sound (sym same) whole;
  some = subst (λ c. 0 < length (entries c)) (sym same) some;
}

-- two halves have the same pairs once they are shared
pub halves_shared : {C P : Type 0} (entries : C → List P) (shared_first shared_last : Arc C Global) {first last : C} {whole : List P} →
    arc_value shared_first ≡ first → arc_value shared_last ≡ last → whole ≡ entries first ++ entries last →
    whole ≡ entries (arc_value shared_first) ++ entries (arc_value shared_last)
halves_shared entries shared_first shared_last {last = last} same_first same_last pairs =
    pairs
    ∙ (ap (λ c. entries c ++ entries last) (sym same_first)
    ∙ ap (λ c. entries (arc_value shared_first) ++ entries c) (sym same_last))

-- the pairs of chunks that stand before a place, and of those from there on
pub parts_of : {C P : Type 0} (entries : C → List P) (place : ℕ) (chunks : List (Arc C Global)) {front back : List (Arc C Global)} {first last : List P} →
    front ≡ take place chunks → back ≡ drop place chunks → first ≡ flat_map (shared_entries entries) front → last ≡ flat_map (shared_entries entries) back →
    flat_map (shared_entries entries) chunks ≡ first ++ last
parts_of entries place chunks {first = first} before behind front_pairs back_pairs =
    ap (flat_map (shared_entries entries)) (sym (take-append-drop place chunks))
    ∙ (flat_map-append (shared_entries entries) (take place chunks) (drop place chunks)
    ∙ (ap (λ l. l ++ flat_map (shared_entries entries) (drop place chunks)) (ap (flat_map (shared_entries entries)) (sym before) ∙ sym front_pairs)
    ∙ ap (λ l. first ++ l) (ap (flat_map (shared_entries entries)) (sym behind) ∙ sym back_pairs)))
