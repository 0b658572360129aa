-- Lines that say something, by their places.
use Rattle.std.proofs.Common.{◌≡◌, ℕ, ◌+◌, Bool, true, false, cond, List, [], ◌∷◌, ◌++◌, length, refl, sym, ap, ◌∙◌, subst, arith, add-zero}
use Rattle.geo_script.specs.Lines.{is_silent, spoken_from}

-- ---- lines that say something

spoken_append : (number : ℕ) (front back : List (List ℕ)) → spoken_from number (front ++ back) ≡ spoken_from number front ++ spoken_from (number + length front) back
spoken_append number [] back = ap (λ n. spoken_from n back) (sym (add-zero number))
spoken_append number (line ∷ front) back = by (is_silent line) (spoken_append (number + 1) front back)
  where
    next : spoken_from (number + 1 + length front) back ≡ spoken_from (number + length (line ∷ front)) back
    next = ap (λ n. spoken_from n back) (omega arith)

    by : (b : Bool) → spoken_from (number + 1) (front ++ back) ≡ spoken_from (number + 1) front ++ spoken_from (number + 1 + length front) back →
        cond b (spoken_from (number + 1) (front ++ back)) ((number, line) ∷ spoken_from (number + 1) (front ++ back))
        ≡ cond b (spoken_from (number + 1) front) ((number, line) ∷ spoken_from (number + 1) front) ++ spoken_from (number + length (line ∷ front)) back
    by true more = more ∙ ap (λ ls. spoken_from (number + 1) front ++ ls) next
    by false more = ap (λ ls. (number, line) ∷ ls) (more ∙ ap (λ ls. spoken_from (number + 1) front ++ ls) next)

pub spoken_at : (number : ℕ) (front : List (List ℕ)) (line : List ℕ) (more : List (List ℕ)) → is_silent line ≡ false →
    spoken_from number (front ++ line ∷ more) ≡ spoken_from number front ++ (number + length front, line) ∷ spoken_from (number + length front + 1) more
spoken_at number front line more speaks = spoken_append number front (line ∷ more) ∙ ap (λ ls. spoken_from number front ++ ls) (rw speaks refl)

-- the line of a place among those that say something, and the lines before it
pub record IsSpokenAt (number : ℕ) (lines : List (List ℕ)) (good : List (ℕ × List ℕ)) (here : ℕ × List ℕ) : Type 0 where
  pub front : List (List ℕ)
  pub more : List (List ℕ)
  pub cut : lines ≡ front ++ here.1 ∷ more
  pub before : spoken_from number front ≡ good
  pub place : here.0 ≡ number + length front
  pub speaks : is_silent here.1 ≡ false

pub spoken_cut : (number : ℕ) (lines : List (List ℕ)) (good : List (ℕ × List ℕ)) (here : ℕ × List ℕ) (rest : List (ℕ × List ℕ)) → spoken_from number lines ≡ good ++ here ∷ rest →
    IsSpokenAt number lines good here
spoken_cut number [] [] here rest is = cc
spoken_cut number [] (first ∷ good) here rest is = cc
spoken_cut number (line ∷ lines) good here rest is = by (is_silent line) refl is (λ others found. spoken_cut (number + 1) lines others here rest found)
  where
    onto : (others : List (ℕ × List ℕ)) (found : IsSpokenAt (number + 1) lines others here) (front : spoken_from number (line ∷ found.front) ≡ good) → IsSpokenAt number (line ∷ lines) good here
    onto others found front = record {
      front = line ∷ found.front;
      more = found.more;
      cut = ap (λ ls. line ∷ ls) found.cut;
      before = front;
      place = found.place ∙ omega arith;
      speaks = found.speaks;
    }

    loud : is_silent line ≡ false → (g : List (ℕ × List ℕ)) → g ≡ good → (number, line) ∷ spoken_from (number + 1) lines ≡ g ++ here ∷ rest →
        ((others : List (ℕ × List ℕ)) → spoken_from (number + 1) lines ≡ others ++ here ∷ rest → IsSpokenAt (number + 1) lines others here) → IsSpokenAt number (line ∷ lines) good here
    loud speaks [] same found later =
        let first : (number, line) ≡ here = cc in
        record {
          front = [];
          more = lines;
          cut = ap (λ (h : ℕ × List ℕ). h.1 ∷ lines) first;
          before = same;
          place = ap (λ (h : ℕ × List ℕ). h.0) (sym first) ∙ sym (add-zero number);
          speaks = subst (λ (h : ℕ × List ℕ). is_silent h.1 ≡ false) first speaks;
        }
    loud speaks (first ∷ others) same found later =
        let one : (number, line) ≡ first = cc in
        let tail = later others cc in
        onto others tail (rw speaks (ap (λ ls. (number, line) ∷ ls) tail.before ∙ (ap (λ x. x ∷ others) one ∙ same)))

    by : (b : Bool) → is_silent line ≡ b → cond b (spoken_from (number + 1) lines) ((number, line) ∷ spoken_from (number + 1) lines) ≡ good ++ here ∷ rest →
        ((others : List (ℕ × List ℕ)) → spoken_from (number + 1) lines ≡ others ++ here ∷ rest → IsSpokenAt (number + 1) lines others here) → IsSpokenAt number (line ∷ lines) good here
    by true silent found later = let tail = later good found in onto good tail (rw silent tail.before)
    by false speaks found later = loud speaks good refl found later
