-- What a change of one chunk says of the list of all pairs.
use Rattle.std.proofs.Common.{◌≡◌, ℕ, ◌+◌, ◌<◌, List, [], ◌++◌, length, take, drop, set, get_or, ap, sym, ◌∙◌, subst, arith, length-append}
use Rattle.std.specs.List.{flat_map, remove}
use Rattle.std.specs.declared.cmp.Ordering.{Ordering}
use Rattle.std.proofs.lemmas.List.{take-set, drop-set-lt}
use Rattle.page_map.specs.Pairs.{IsRising, found_at, put_in, without}
use Rattle.page_map.specs.inner.Cuts.{IsInChunk}
use Rattle.page_map.specs.laws.Orders.{put_framed, without_framed, found_framed, rising_mid}
use Rattle.page_map.proofs.Flats.{flat_read, flat_set, flat_remove}

-- the number of all pairs, by what stands before, in and behind a chunk
module _ {X P : Type 0} (entries : X → List P) (cs : List X) (i : ℕ) where
  pub three_lengths : (x : X) → i < length cs → x ≡ get_or cs i x → length (flat_map entries cs) ≡ length (flat_map entries (take i cs)) + (length (entries x) + length (flat_map entries (drop (i + 1) cs)))
  three_lengths x within read =
      ap length (flat_read entries cs i x within read)
      ∙ (length-append (flat_map entries (take i cs)) (entries x ++ flat_map entries (drop (i + 1) cs))
      ∙ ap (λ n. length (flat_map entries (take i cs)) + n) (length-append (entries x) (flat_map entries (drop (i + 1) cs))))

  pub set_lengths : (y : X) → i < length cs → length (flat_map entries (set cs i y)) ≡ length (flat_map entries (take i cs)) + (length (entries y) + length (flat_map entries (drop (i + 1) cs)))
  set_lengths y within =
      ap length (flat_set entries cs i y within)
      ∙ (length-append (flat_map entries (take i cs)) (entries y ++ flat_map entries (drop (i + 1) cs))
      ∙ ap (λ n. length (flat_map entries (take i cs)) + n) (length-append (entries y) (flat_map entries (drop (i + 1) cs))))

  -- a chunk with the same pairs
  pub same_pairs : (x y : X) → i < length cs → x ≡ get_or cs i x → entries y ≡ entries x → flat_map entries (set cs i y) ≡ flat_map entries cs
  same_pairs x y within read e =
      flat_set entries cs i y within
      ∙ (ap (λ m. flat_map entries (take i cs) ++ (m ++ flat_map entries (drop (i + 1) cs))) e
      ∙ sym (flat_read entries cs i x within read))

  -- a chunk that became empty goes
  pub emptied : (y : X) → i < length cs → entries y ≡ [] → flat_map entries (remove (set cs i y) i) ≡ flat_map entries (set cs i y)
  emptied y within e =
      flat_remove entries (set cs i y) i
      ∙ (ap (λ l. flat_map entries l ++ flat_map entries (drop (i + 1) (set cs i y))) (take-set cs i y)
      ∙ (ap (λ l. flat_map entries (take i cs) ++ flat_map entries l) (drop-set-lt (i + 1) cs i y (omega arith))
      ∙ sym (flat_set entries cs i y within
      ∙ ap (λ m. flat_map entries (take i cs) ++ (m ++ flat_map entries (drop (i + 1) cs))) e)))

module _ {K V X : Type 0} (R : K → K → Ordering) (entries : X → List (K × V)) (cs : List X) (i : ℕ) (x : X) where
  pub chunk_rising : i < length cs → x ≡ get_or cs i x → IsRising R (flat_map entries cs) → IsRising R (entries x)
  chunk_rising within read rising =
      rising_mid R (flat_map entries (take i cs)) (entries x) (flat_map entries (drop (i + 1) cs)) (subst (IsRising R) (flat_read entries cs i x within read) rising)

module _ {K V X : Type 0} (R : K → K → Ordering) (entries : X → List (K × V)) (key : K) (cs : List X) (i : ℕ) (x : X) where
  pub chunk_found : IsInChunk R entries key cs i → x ≡ get_or cs i x → found_at R key (flat_map entries cs) ≡ found_at R key (entries x)
  chunk_found c read =
      ap (found_at R key) (flat_read entries cs i x c.within read)
      ∙ found_framed R key (flat_map entries (take i cs)) (entries x) (flat_map entries (drop (i + 1) cs)) c.cut

  pub chunk_put : (value : V) (y : X) → IsInChunk R entries key cs i → x ≡ get_or cs i x → entries y ≡ put_in R key value (entries x) → flat_map entries (set cs i y) ≡ put_in R key value (flat_map entries cs)
  chunk_put value y c read e =
      flat_set entries cs i y c.within
      ∙ (ap (λ m. flat_map entries (take i cs) ++ (m ++ flat_map entries (drop (i + 1) cs))) e
      ∙ sym (ap (put_in R key value) (flat_read entries cs i x c.within read)
      ∙ put_framed R key value (flat_map entries (take i cs)) (entries x) (flat_map entries (drop (i + 1) cs)) c.cut))

  pub chunk_without : (y : X) → IsInChunk R entries key cs i → x ≡ get_or cs i x → entries y ≡ without R key (entries x) → flat_map entries (set cs i y) ≡ without R key (flat_map entries cs)
  chunk_without y c read e =
      flat_set entries cs i y c.within
      ∙ (ap (λ m. flat_map entries (take i cs) ++ (m ++ flat_map entries (drop (i + 1) cs))) e
      ∙ sym (ap (without R key) (flat_read entries cs i x c.within read)
      ∙ without_framed R key (flat_map entries (take i cs)) (entries x) (flat_map entries (drop (i + 1) cs)) c.cut))
