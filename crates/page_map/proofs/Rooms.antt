-- A chunk that is halved: no pair changes, and the key belongs in one of the halves.
use Rattle.std.proofs.Common.{◌≡◌, ℕ, ◌+◌, ◌<◌, true, false, List, [], ◌∷◌, ◌++◌, length, take, drop, set, get_or, ap, sym, ◌∙◌, subst, arith, append_assoc, length-append}
use Rattle.std.specs.List.{All, flat_map, insert}
use Rattle.std.specs.declared.cmp.Ordering.{Ordering}
use Rattle.std.specs.Cmp.{IsTotalOrder}
use Rattle.std.proofs.lemmas.List.{append-nil, take_at, drop_at, take_more, set_at, length-take-le, get_or_at}
use Rattle.std.proofs.lemmas.List.Concat.{flat_map-append}
use Rattle.std.proofs.lemmas.List.Elements.{All-cons, All-append, All-take, All-drop}
use Rattle.page_map.specs.Pairs.{IsRising}
use Rattle.page_map.specs.inner.Cuts.{AllUnder, AllOver, IsInChunk, head_is_over}
use Rattle.page_map.specs.laws.Orders.{part_over, part_under}
use Rattle.page_map.proofs.Flats.{flat_read, flat_halved}

module _ {X : Type 0} (cs : List X) (i : ℕ) (first last : X) where
  abbrev pub halved : List X
  halved = take i cs ++ (first ∷ (last ∷ drop (i + 1) cs))

  front_length : i < length cs → length (take i cs) ≡ i
  front_length within = length-take-le i cs (omega arith)

  -- the second half is put in behind the chunk, and then the first one in its place
  pub halves_put : i < length cs → set (insert cs (i + 1) last) i first ≡ halved
  halves_put within =
      ap (λ l. set (l ++ (last ∷ drop (i + 1) cs)) i first) (take_more cs i first within)
      ∙ (ap (λ l. set l i first) (append_assoc (take i cs) (get_or cs i first ∷ []) (last ∷ drop (i + 1) cs))
      ∙ set_at (take i cs) (get_or cs i first) (last ∷ drop (i + 1) cs) first i (front_length within))

  -- the same list, parted behind the first half
  behind_first : halved ≡ (take i cs ++ (first ∷ [])) ++ (last ∷ drop (i + 1) cs)
  behind_first = sym (append_assoc (take i cs) (first ∷ []) (last ∷ drop (i + 1) cs))

  behind_last : halved ≡ (take i cs ++ (first ∷ (last ∷ []))) ++ drop (i + 1) cs
  behind_last = sym (append_assoc (take i cs) (first ∷ (last ∷ [])) (drop (i + 1) cs))

  one_more : i < length cs → length (take i cs ++ (first ∷ [])) ≡ i + 1
  one_more within = omega (arith, length-append (take i cs) (first ∷ []), front_length within)

  two_more : i < length cs → length (take i cs ++ (first ∷ (last ∷ []))) ≡ i + 1 + 1
  two_more within = omega (arith, length-append (take i cs) (first ∷ (last ∷ [])), front_length within)

  pub halved_length : i < length cs → i + 1 < length halved
  halved_length within = omega (arith, length-append (take i cs) (first ∷ (last ∷ drop (i + 1) cs)), front_length within)

  pub halved_all : (P : X → Type 0) → All P cs → P first → P last → All P halved
  halved_all P h f l =
      All-append P (take i cs) (first ∷ (last ∷ drop (i + 1) cs)) (All-take P i cs h) (All-cons P first (last ∷ drop (i + 1) cs) f (All-cons P last (drop (i + 1) cs) l (All-drop P (i + 1) cs h)))

  take_first : i < length cs → take i halved ≡ take i cs
  take_first within = take_at (take i cs) (first ∷ (last ∷ drop (i + 1) cs)) i (front_length within)

  drop_first : i < length cs → drop (i + 1) halved ≡ last ∷ drop (i + 1) cs
  drop_first within =
      ap (drop (i + 1)) behind_first ∙ drop_at (take i cs ++ (first ∷ [])) (last ∷ drop (i + 1) cs) (i + 1) (one_more within)

  take_last : i < length cs → take (i + 1) halved ≡ take i cs ++ (first ∷ [])
  take_last within =
      ap (take (i + 1)) behind_first ∙ take_at (take i cs ++ (first ∷ [])) (last ∷ drop (i + 1) cs) (i + 1) (one_more within)

  drop_last : i < length cs → drop (i + 1 + 1) halved ≡ drop (i + 1) cs
  drop_last within =
      ap (drop (i + 1 + 1)) behind_last ∙ drop_at (take i cs ++ (first ∷ (last ∷ []))) (drop (i + 1) cs) (i + 1 + 1) (two_more within)

  -- what holds of a half holds where it stands
  pub first_at : (P : X → Type 0) (now : List X) → i < length cs → now ≡ halved → P first → (d : X) → P (get_or now i d)
  first_at P now within e h d =
      subst P (sym (ap (λ l. get_or l i d) e ∙ get_or_at (take i cs) first (last ∷ drop (i + 1) cs) d i (front_length within))) h

  pub last_at : (P : X → Type 0) (now : List X) → i < length cs → now ≡ halved → P last → (d : X) → P (get_or now (i + 1) d)
  last_at P now within e h d =
      subst P (sym (ap (λ l. get_or l (i + 1) d) (e ∙ behind_first) ∙ get_or_at (take i cs ++ (first ∷ [])) last (drop (i + 1) cs) d (i + 1) (one_more within))) h

module _ {X P : Type 0} (e : X → List P) (cs : List X) (i : ℕ) (x first last : X) where
  pub halved_pairs : i < length cs → x ≡ get_or cs i x → e x ≡ e first ++ e last → flat_map e (halved cs i first last) ≡ flat_map e cs
  halved_pairs within read same =
      flat_halved e cs i first last
      ∙ (ap (λ m. flat_map e (take i cs) ++ (m ++ flat_map e (drop (i + 1) cs))) (sym same)
      ∙ sym (flat_read e cs i x within read))

  -- the pairs, parted between the halves
  between : i < length cs → x ≡ get_or cs i x → e x ≡ e first ++ e last → flat_map e cs ≡ (flat_map e (take i cs) ++ e first) ++ (e last ++ flat_map e (drop (i + 1) cs))
  between within read same =
      flat_read e cs i x within read
      ∙ (ap (λ m. flat_map e (take i cs) ++ (m ++ flat_map e (drop (i + 1) cs))) same
      ∙ (ap (λ l. flat_map e (take i cs) ++ l) (append_assoc (e first) (e last) (flat_map e (drop (i + 1) cs)))
      ∙ sym (append_assoc (flat_map e (take i cs)) (e first) (e last ++ flat_map e (drop (i + 1) cs)))))

module _ {K V X : Type 0} (R : K → K → Ordering) (total : IsTotalOrder R) (e : X → List (K × V)) (key : K) (cs : List X) (rising : IsRising R (flat_map e cs)) (i : ℕ) (x first last : X) (c : IsInChunk R e key cs i) (read : x ≡ get_or cs i x) (same : e x ≡ e first ++ e last) where
  pub in_first : head_is_over R key (e last) ≡ true → IsInChunk R e key (halved cs i first last) i
  in_first over =
      let above = part_over R total key (flat_map e (take i cs) ++ e first) (e last) (flat_map e (drop (i + 1) cs)) (subst (IsRising R) (between e cs i x first last c.within read same) rising) over in
      record {
        within = omega (arith, halved_length cs i first last c.within);
        cut = record {
          under = subst (λ l. AllUnder R key (flat_map e l)) (sym (take_first cs i first last c.within)) c.cut.under;
          over = subst (λ l. AllOver R key (flat_map e l)) (sym (drop_first cs i first last c.within)) above;
        };
      }

  pub in_last : 0 < length (e last) → head_is_over R key (e last) ≡ false → IsInChunk R e key (halved cs i first last) (i + 1)
  in_last some under =
      let beneath = part_under R total key (flat_map e (take i cs) ++ e first) (e last) (flat_map e (drop (i + 1) cs)) (subst (IsRising R) (between e cs i x first last c.within read same) rising) some under in
      let front : flat_map e (take (i + 1) (halved cs i first last)) ≡ flat_map e (take i cs) ++ e first =
      ap (flat_map e) (take_last cs i first last c.within)
      ∙ (flat_map-append e (take i cs) (first ∷ []) ∙ ap (λ l. flat_map e (take i cs) ++ l) (append-nil (e first))) in
      record {
        within = halved_length cs i first last c.within;
        cut = record {
          under = subst (AllUnder R key) (sym front) beneath;
          over = subst (λ l. AllOver R key (flat_map e l)) (sym (drop_last cs i first last c.within)) c.cut.over;
        };
      }
