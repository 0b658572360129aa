-- Chunks in a row, and the list of all their pairs.
use Rattle.std.proofs.Common.{◌≡◌, ℕ, suc, ◌+◌, ◌-◌, ◌<◌, ◌≤◌, ⊎_elim, Some, List, [], ◌∷◌, ◌++◌, length, take, drop, set, get_or, refl, ap, sym, ◌∙◌, subst, arith, map, length-append, add-one, append_assoc}
use Rattle.std.specs.List.{All, flat_map, remove, slice_get}
use Rattle.page_map.specs.inner.Cuts.{IsWalking}
use Rattle.std.proofs.lemmas.List.{append-nil, drop_more, set_split, take_more, take-append-drop, take_all, get_or-append-add, get_or_append_left, get_or_read}
use Rattle.std.proofs.lemmas.Option.{slice_get-get_or, slice_get_within, get_or_from_slice_get}
use Rattle.std.proofs.lemmas.Bool.{cases_lt}
use Rattle.std.proofs.lemmas.List.Concat.{flat_map-append}
use Rattle.std.proofs.lemmas.List.Elements.{All-append, All-take, All-drop}
use Rattle.page_map.specs.laws.Lists.{pieces}

module _ {X P : Type 0} (e : X → List P) where
  flat_at : (cs : List X) (i : ℕ) (d : X) → i < length cs → flat_map e cs ≡ flat_map e (take i cs) ++ (e (get_or cs i d) ++ flat_map e (drop (i + 1) cs))
  flat_at cs i d within =
      sym (ap (flat_map e) (pieces cs i d within)) ∙ flat_map-append e (take i cs) (get_or cs i d ∷ drop (i + 1) cs)

  -- as a read of the chunk gives it
  pub flat_read : (cs : List X) (i : ℕ) (x : X) → i < length cs → x ≡ get_or cs i x → flat_map e cs ≡ flat_map e (take i cs) ++ (e x ++ flat_map e (drop (i + 1) cs))
  flat_read cs i x within read =
      flat_at cs i x within ∙ ap (λ y. flat_map e (take i cs) ++ (e y ++ flat_map e (drop (i + 1) cs))) (sym read)

  pub flat_from : (cs : List X) (i : ℕ) (x : X) → i < length cs → x ≡ get_or cs i x → flat_map e (drop i cs) ≡ e x ++ flat_map e (drop (i + 1) cs)
  flat_from cs i x within read = ap (flat_map e) (drop_more cs i x within) ∙ ap (λ y. e y ++ flat_map e (drop (i + 1) cs)) (sym read)

  pub flat_set : (cs : List X) (i : ℕ) (c : X) → i < length cs → flat_map e (set cs i c) ≡ flat_map e (take i cs) ++ (e c ++ flat_map e (drop (i + 1) cs))
  flat_set cs i c within =
      ap (flat_map e) (set_split cs i c within) ∙ (flat_map-append e (take i cs) (c ∷ drop (suc i) cs)
      ∙ ap (λ n. flat_map e (take i cs) ++ (e c ++ flat_map e (drop n cs))) (sym (add-one i)))

  pub flat_remove : (cs : List X) (i : ℕ) → flat_map e (remove cs i) ≡ flat_map e (take i cs) ++ flat_map e (drop (i + 1) cs)
  flat_remove cs i =
      flat_map-append e (take i cs) (drop (suc i) cs) ∙ ap (λ n. flat_map e (take i cs) ++ flat_map e (drop n cs)) (sym (add-one i))

  pub flat_halved : (cs : List X) (i : ℕ) (x y : X) → flat_map e (take i cs ++ (x ∷ (y ∷ drop (i + 1) cs))) ≡ flat_map e (take i cs) ++ ((e x ++ e y) ++ flat_map e (drop (i + 1) cs))
  flat_halved cs i x y =
      flat_map-append e (take i cs) (x ∷ (y ∷ drop (i + 1) cs)) ∙ ap (λ l. flat_map e (take i cs) ++ l) (sym (append_assoc (e x) (e y) (flat_map e (drop (i + 1) cs))))

  -- pairs stand in chunks
  pub chunks_some : (cs : List X) → 0 < length (flat_map e cs) → 0 < length cs
  chunks_some [] h = h
  chunks_some (c ∷ cs) h = omega arith

  -- what is shared twice has the same pairs
  pub flat_values : {C : Type 0} (value : C → X) (cs : List C) → flat_map (λ c. e (value c)) cs ≡ flat_map e (map value cs)
  flat_values value [] = refl
  flat_values value (c ∷ cs) = ap (λ l. e (value c) ++ l) (flat_values value cs)

pub All-remove : {X : Type 0} (P : X → Type 0) (cs : List X) (i : ℕ) → All P cs → All P (remove cs i)
All-remove P cs i h = All-append P (take i cs) (drop (suc i) cs) (All-take P i cs h) (All-drop P (suc i) cs h)

module _ {X P : Type 0} (e : X → List P) (cs : List X) where
  pub flat_more : (i : ℕ) (x : X) → i < length cs → x ≡ get_or cs i x → flat_map e (take (i + 1) cs) ≡ flat_map e (take i cs) ++ e x
  flat_more i x within read =
      ap (flat_map e) (take_more cs i x within ∙ ap (λ y. take i cs ++ (y ∷ [])) (sym read))
      ∙ (flat_map-append e (take i cs) (x ∷ []) ∙ ap (λ l. flat_map e (take i cs) ++ l) (append-nil (e x)))

  pub length_more : (i : ℕ) (x : X) → i < length cs → x ≡ get_or cs i x → length (flat_map e (take (i + 1) cs)) ≡ length (flat_map e (take i cs)) + length (e x)
  length_more i x within read = ap length (flat_more i x within read) ∙ length-append (flat_map e (take i cs)) (e x)

  pub two_parts : (i : ℕ) → flat_map e cs ≡ flat_map e (take i cs) ++ flat_map e (drop i cs)
  two_parts i = sym (ap (flat_map e) (take-append-drop i cs)) ∙ flat_map-append e (take i cs) (drop i cs)

  pub two_lengths : (i : ℕ) → length (flat_map e cs) ≡ length (flat_map e (take i cs)) + length (flat_map e (drop i cs))
  two_lengths i =
      ap length (two_parts i)
      ∙ length-append (flat_map e (take i cs)) (flat_map e (drop i cs))

  -- the walk to a place
  pub walking_first : (place count : ℕ) (x : X) → place < length (flat_map e cs) → x ≡ get_or cs 0 x → count ≡ length (e x) → IsWalking e cs place 0 place count
  walking_first place count x within read counted = record {
    within = chunks_some e cs (omega arith);
    left = omega arith;
    here = x;
    read = read;
    counted = counted;
  }

  pub walking_within : (place chunk rest count : ℕ) → IsWalking e cs place chunk rest count → place < length (flat_map e cs) → count ≤ rest → chunk + 1 < length cs
  walking_within place chunk rest count w within h =
      ⊎_elim (λ less. less)
      (λ past.
      let m = length_more chunk w.here w.within w.read in
      let all : length (flat_map e (take (chunk + 1) cs)) ≡ length (flat_map e cs) = ap (λ l. length (flat_map e l)) (take_all (chunk + 1) cs past) in
      absurd (omega (arith, w.left, w.counted)))
      (cases_lt (chunk + 1) (length cs))

  pub walking_next : (place chunk rest count : ℕ) (x : X) (more : ℕ) → IsWalking e cs place chunk rest count → count ≤ rest → chunk + 1 < length cs → x ≡ get_or cs (chunk + 1) x → more ≡ length (e x) → IsWalking e cs place (chunk + 1) (rest - count) more
  walking_next place chunk rest count x more w h within read counted = record {
    within = within;
    left = let m = length_more chunk w.here w.within w.read in omega (arith, w.left, w.counted);
    here = x;
    read = read;
    counted = counted;
  }

  -- the place that is left lies in the chunk that is looked at, where that has more pairs
  pub walking_rest : (place chunk rest count : ℕ) → IsWalking e cs place chunk rest count → rest < count → (d : X) → rest < length (e (get_or cs chunk d))
  walking_rest place chunk rest count w less d =
      subst (λ c. rest < length (e c)) (get_or_read cs chunk w.here w.within w.read d) (omega (arith, less, w.counted))

-- the pair at a place within a part
pub pair_framed : {P : Type 0} (a m b : List P) (n : ℕ) (p : P) → slice_get m n ≡ Some p → slice_get (a ++ (m ++ b)) (length a + n) ≡ Some p
pair_framed a m b n p found =
    let within : n < length m = slice_get_within m n p found in
    slice_get-get_or (a ++ (m ++ b)) (length a + n) p (omega (arith, length-append a (m ++ b), length-append m b))
    ∙ ap Some (get_or-append-add a (m ++ b) n p ∙ (get_or_append_left m b p n within ∙ get_or_from_slice_get m n p p found))

pub chunk_at : {X P : Type 0} (e : X → List P) (cs : List X) (i rest place : ℕ) (x : X) (p : P) → i < length cs → x ≡ get_or cs i x → length (flat_map e (take i cs)) + rest ≡ place → slice_get (e x) rest ≡ Some p → slice_get (flat_map e cs) place ≡ Some p
chunk_at e cs i rest place x p within read left found =
    ap (λ l. slice_get l place) (flat_read e cs i x within read)
    ∙ (ap (λ n. slice_get (flat_map e (take i cs) ++ (e x ++ flat_map e (drop (i + 1) cs))) n) (sym left)
    ∙ pair_framed (flat_map e (take i cs)) (e x) (flat_map e (drop (i + 1) cs)) rest p found)
