-- The words of the lines of events, and what is read of them.
use Rattle.std.proofs.Common.{◌≡◌, ℕ, ◌==◌, ◌&&◌, true, false, not, cond, Bool, List, ◌∷◌, ◌++◌, length, Some, None, refl, sym, ap, ◌∙◌, subst, arith, inl, inr, ◌⊎◌}
use Rattle.std.specs.Prelude.{codes}
use Rattle.std.specs.Option.{option_and_then}
use Rattle.std.specs.Str.{bytes_eq}
use Rattle.std.proofs.lemmas.Bool.{and_parts, eqb-false, not-true, ne_eqb}
use Rattle.std.proofs.lemmas.List.{append-nil}
use Rattle.std.proofs.lemmas.Slice.Eq.{bytes_eq-Decides}
use Rattle.geo_script.specs.declared.event.Sealing.{Sealing}
use Rattle.geo_script.specs.declared.event.Sealing.TheVariants.{No, Kept, Lost}
use Rattle.geo_script.specs.inner.EventLines.{statement_parts, packet_words, crash_words, sealing_of, after_words}
use Rattle.geo_script.specs.Words.{IsWord, is_word}
use Rattle.geo_script.specs.EventWords.{HasStatement, HasTwoWords, HasThreeWords, HasSealing, HasAfter}
use Rattle.geo_script.specs.Spelling.{sealing_text}
use Rattle.geo_script.specs.inner.Words.{cut, two_words, three_words}
use Rattle.geo_script.proofs.Cuts.{cut_at, cut_parts, two, three, word_lacks}
use Rattle.geo_script.proofs.EventsRead.{no_word, crash_words_read, after_read}
use Rattle.geo_script.proofs.PlayLines.{sealing_is}
use Rattle.schema_text.specs.laws.Inversions.{then_some, if_some, when_some}

-- ---- statements

pub statement_is : (rest : List ℕ) (parts : List ℕ × List ℕ) → statement_parts rest ≡ Some parts → HasStatement rest
unfolding statement_parts
statement_is rest parts is =
    let cuts = then_some _ (cut 32 rest) parts is in
    let found = cut_parts 32 rest cuts.0 cuts.1 in
    let kept = if_some (is_word cuts.0.0 && not (length cuts.0.1 == 0)) cuts.0 parts cuts.2 in
    let tests = and_parts (is_word cuts.0.0) (not (length cuts.0.1 == 0)) kept.0 in
    let some : length cuts.0.1 ≡ 0 → ⊥ = eqb-false (length cuts.0.1) 0 (not-true (length cuts.0.1 == 0) tests.1) in
    record { place = cuts.0.0; text = cuts.0.1; whole = found.whole; word = tests.0; some = omega (arith, some) }

pub statement_read : (rest : List ℕ) → (has : HasStatement rest) → statement_parts rest ≡ Some (has.place, has.text)
unfolding statement_parts
statement_read rest has =
    rw has.whole (rw (cut_at 32 has.place has.text (word_lacks has.place has.word)) (rw (has.word, ne_eqb (length has.text) 0 (λ is. omega (arith, has.some))) refl))

-- ---- several words

pub two_is : (rest : List ℕ) (words : List ℕ × List ℕ) → two_words rest ≡ Some words → HasTwoWords rest
unfolding two_words
two_is rest words is =
    let cuts = then_some _ (cut 32 rest) words is in
    let kept = if_some (is_word cuts.0.0 && is_word cuts.0.1) cuts.0 words cuts.2 in
    let tests = and_parts (is_word cuts.0.0) (is_word cuts.0.1) kept.0 in
    record { first = cuts.0.0; second = cuts.0.1; whole = (cut_parts 32 rest cuts.0 cuts.1).whole; one = tests.0; other = tests.1 }

pub two_read : (rest : List ℕ) → (has : HasTwoWords rest) → two_words rest ≡ Some (has.first, has.second)
two_read rest has = ap two_words has.whole ∙ two has.first has.second has.one has.other

-- three words, one by one
pub record HasThree (rest first second third : List ℕ) : Type 0 where
  pub whole : rest ≡ first ++ 32 ∷ (second ++ 32 ∷ third)
  pub one : IsWord first
  pub other : IsWord second
  pub last : IsWord third

three_are : (rest : List ℕ) (words : List ℕ × List ℕ × List ℕ) → three_words rest ≡ Some words → HasThree rest words.0 words.1 words.2
unfolding three_words two_words
three_are rest words is =
    let cuts = then_some _ (cut 32 rest) words is in
    let found = cut_parts 32 rest cuts.0 cuts.1 in
    let more = when_some (is_word cuts.0.0) _ words cuts.2 in
    let pair = then_some _ (two_words cuts.0.1) words more.1 in
    let again = then_some _ (cut 32 cuts.0.1) pair.0 pair.1 in
    let kept = if_some (is_word again.0.0 && is_word again.0.1) again.0 pair.0 again.2 in
    let tests = and_parts (is_word again.0.0) (is_word again.0.1) kept.0 in
    let whole : rest ≡ cuts.0.0 ++ 32 ∷ (again.0.0 ++ 32 ∷ again.0.1) = found.whole ∙ ap (λ w. cuts.0.0 ++ 32 ∷ w) (cut_parts 32 cuts.0.1 again.0 again.1).whole in
    let same : (cuts.0.0, again.0.0, again.0.1) ≡ words = ap (λ (p : List ℕ × List ℕ). (cuts.0.0, p.0, p.1)) kept.1 ∙ pair_end pair.2 in
    subst (λ (p : List ℕ × List ℕ × List ℕ). HasThree rest p.0 p.1 p.2) same record { whole = whole; one = more.0; other = tests.0; last = tests.1 }
  where
    pair_end : {x : List ℕ × List ℕ × List ℕ} → Some x ≡ Some words → x ≡ words
    pair_end is = cc

pub three_is : (rest : List ℕ) (words : List ℕ × List ℕ × List ℕ) → three_words rest ≡ Some words → HasThreeWords rest
three_is rest words is =
    let has = three_are rest words is in
    record { first = words.0; second = words.1; third = words.2; whole = has.whole; one = has.one; other = has.other; last = has.last }

pub three_read : (rest : List ℕ) → (has : HasThreeWords rest) → three_words rest ≡ Some (has.first, has.second, has.third)
three_read rest has = ap three_words has.whole ∙ three has.first has.second has.third has.one has.other has.last

pub packets_are : (rest : List ℕ) (words : List ℕ × List ℕ) → packet_words rest ≡ Some words → IsWord rest ⊎ HasTwoWords rest
unfolding packet_words
packets_are rest words is = by (is_word rest) refl is
  where
    by : (b : Bool) → is_word rest ≡ b → cond b (Some (rest, rest)) (two_words rest) ≡ Some words → IsWord rest ⊎ HasTwoWords rest
    by true word found = inl word
    by false other found = inr (two_is rest words found)

pub packets_read : (rest : List ℕ) → IsWord rest ⊎ HasTwoWords rest → packet_words rest ≡ None → ⊥
unfolding packet_words
packets_read rest (inl word) none = cc (rw word at none)
packets_read rest (inr has) none =
    let other : is_word rest ≡ false = ap is_word has.whole ∙ no_word has.first has.second in
    let found : two_words rest ≡ None = rw other at none in
    cc (two_read rest has)

-- ---- crashes

pub crash_are : (rest : List ℕ) (words : List ℕ × Sealing) → crash_words rest ≡ Some words → IsWord rest ⊎ HasSealing rest
unfolding crash_words
crash_are rest words is = by (is_word rest) refl is
  where
    fate : (region : List ℕ) (sealing : Sealing) → IsWord region → rest ≡ region ++ sealing_text sealing → IsWord rest ⊎ HasSealing rest
    fate region No word whole = inl (subst IsWord (sym (whole ∙ append-nil region)) word)
    fate region Kept word whole = inr record { region = region; word = word; fate = inl whole }
    fate region Lost word whole = inr record { region = region; word = word; fate = inr whole }

    by : (b : Bool) → is_word rest ≡ b → cond b (Some (rest, No)) (option_and_then (λ w. option_and_then (λ sealing. Some (w.0, sealing)) (sealing_of w.1 w.2)) (three_words rest)) ≡ Some words →
        IsWord rest ⊎ HasSealing rest
    by true word found = inl word
    by false other found =
        let three' = then_some _ (three_words rest) words found in
        let has = three_are rest three'.0 three'.1 in
        let sealing = then_some _ (sealing_of three'.0.1 three'.0.2) words three'.2 in
        fate three'.0.0 sealing.0 has.one (has.whole ∙ ap (λ w. three'.0.0 ++ w) (sealing_is three'.0.1 three'.0.2 sealing.0 sealing.1))

pub crash_none : (rest : List ℕ) → IsWord rest ⊎ HasSealing rest → crash_words rest ≡ None → ⊥
crash_none rest (inl word) none = cc (ap crash_words (append-nil rest), crash_words_read rest No word)
crash_none rest (inr has) none = by has.fate
  where
    by : (rest ≡ has.region ++ codes " sealing kept") ⊎ (rest ≡ has.region ++ codes " sealing lost") → ⊥
    by (inl whole) = cc (ap crash_words whole, crash_words_read has.region Kept has.word)
    by (inr whole) = cc (ap crash_words whole, crash_words_read has.region Lost has.word)

pub after_is : (rest : List ℕ) (words : List ℕ × List ℕ) → after_words rest ≡ Some words → HasAfter rest
unfolding after_words
after_is rest words is =
    let three' = then_some _ (three_words rest) words is in
    let has = three_are rest three'.0 three'.1 in
    let kept = if_some (bytes_eq three'.0.1 (codes "after")) (three'.0.0, three'.0.2) words three'.2 in
    let same : three'.0.1 ≡ codes "after" = (bytes_eq-Decides three'.0.1 (codes "after")).0 kept.0 in
    record { region = three'.0.0; epoch = three'.0.2; whole = has.whole ∙ ap (λ w. three'.0.0 ++ 32 ∷ (w ++ 32 ∷ three'.0.2)) same; one = has.one; other = has.last }

pub after_none : (rest : List ℕ) → HasAfter rest → after_words rest ≡ None → ⊥
after_none rest has none = cc (ap after_words has.whole, after_read has.region has.epoch has.one has.other)
