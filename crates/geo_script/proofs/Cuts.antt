-- Texts that are cut at their first byte of one kind.
use Rattle.std.proofs.Common.{◌≡◌, ℕ, ◌+◌, ◌==◌, Bool, true, false, not, eq-eqb, List, [], ◌∷◌, ◌++◌, length, take, drop, Some, None, refl, sym, ap, ◌∙◌, arith, inl, inr, ◌⊎◌, nat_lt}
use Rattle.std.specs.List.{list_all, position_or_len}
use Rattle.std.proofs.lemmas.Bool.{and_parts, lt-ltb, le-ltb, eqb-true}
use Rattle.std.proofs.lemmas.List.{take_at, drop_at, drop-drop, length-append}
use Rattle.geo_script.specs.inner.Words.{cut, two_words, three_words}
use Rattle.geo_script.specs.Words.{is_word}

-- none of the bytes is this one
abbrev pub Lacks : ℕ → List ℕ → Type 0
Lacks byte bytes = list_all (λ b. not (b == byte)) bytes ≡ true

eq_same : (b : ℕ) → (b == b) ≡ true
eq_same b = eq-eqb b b refl

place_of : (byte : ℕ) (front rest : List ℕ) → Lacks byte front → position_or_len (λ b. b == byte) (front ++ byte ∷ rest) ≡ length front
place_of byte [] rest lacks = rw (eq_same byte) refl
place_of byte (b ∷ front) rest lacks =
    let parts = and_parts (not (b == byte)) (list_all (λ b. not (b == byte)) front) lacks in
    rw (parts.0) (omega (arith, place_of byte front rest parts.1))

nowhere : (byte : ℕ) (bytes : List ℕ) → Lacks byte bytes → position_or_len (λ b. b == byte) bytes ≡ length bytes
nowhere byte [] lacks = refl
nowhere byte (b ∷ bytes) lacks =
    let parts = and_parts (not (b == byte)) (list_all (λ b. not (b == byte)) bytes) lacks in
    rw (parts.0) (omega (arith, nowhere byte bytes parts.1))

pub cut_at : (byte : ℕ) (front rest : List ℕ) → Lacks byte front → cut byte (front ++ byte ∷ rest) ≡ Some (front, rest)
cut_at byte front rest lacks =
    let bytes : List ℕ = front ++ byte ∷ rest in
    let place = place_of byte front rest lacks in
    let within : nat_lt (length front) (length bytes) ≡ true = lt-ltb (length front) (length bytes) (omega (arith, length-append front (byte ∷ rest))) in
    let behind : drop (length front + 1) bytes ≡ rest = sym (drop-drop 1 (length front) bytes) ∙ ap (drop 1) (drop_at front (byte ∷ rest) (length front) refl) in
    let before : take (length front) bytes ≡ front = take_at front (byte ∷ rest) (length front) refl in
    rw (place, within, behind, before) refl

pub cut_nowhere : (byte : ℕ) (bytes : List ℕ) → Lacks byte bytes → cut byte bytes ≡ None
cut_nowhere byte bytes lacks = rw (nowhere byte bytes lacks, le-ltb (length bytes) (length bytes) (omega arith)) refl

-- the first such byte stands between the two parts
pub record IsCut (byte : ℕ) (bytes front rest : List ℕ) : Type 0 where
  pub whole : bytes ≡ front ++ byte ∷ rest
  pub first : Lacks byte front

abbrev IsCutSomewhere : ℕ → List ℕ → Type 0
IsCutSomewhere byte bytes = (front : List ℕ) × (rest : List ℕ) × IsCut byte bytes front rest

somewhere : (byte : ℕ) (bytes : List ℕ) → Lacks byte bytes ⊎ IsCutSomewhere byte bytes
somewhere byte [] = inl refl
somewhere byte (b ∷ bytes) = by (b == byte) refl (somewhere byte bytes)
  where
    by : (v : Bool) → (b == byte) ≡ v → (Lacks byte bytes ⊎ IsCutSomewhere byte bytes) → Lacks byte (b ∷ bytes) ⊎ IsCutSomewhere byte (b ∷ bytes)
    by true hit more = inr ([], bytes, record { whole = ap (λ x. x ∷ bytes) (eqb-true b byte hit); first = refl })
    by false other (inl lacks) = inl (rw (other, lacks) refl)
    by false other (inr (front, rest, cut)) = inr (b ∷ front, rest, record { whole = ap (λ bs. b ∷ bs) cut.whole; first = rw (other, cut.first) refl })

pub cut_parts : (byte : ℕ) (bytes : List ℕ) (parts : List ℕ × List ℕ) → cut byte bytes ≡ Some parts → IsCut byte bytes parts.0 parts.1
cut_parts byte bytes parts is = by (somewhere byte bytes)
  where
    by : (Lacks byte bytes ⊎ IsCutSomewhere byte bytes) → IsCut byte bytes parts.0 parts.1
    by (inl lacks) = cc (cut_nowhere byte bytes lacks)
    by (inr (front, rest, found)) =
        let same : Some parts ≡ Some (front, rest) = sym is ∙ (ap (cut byte) found.whole ∙ cut_at byte front rest found.first) in
        let equal : parts ≡ (front, rest) = cc in
        rw equal found

-- ---- words

pub word_lacks : (bytes : List ℕ) → is_word bytes ≡ true → Lacks 32 bytes
unfolding is_word
word_lacks bytes word = (and_parts (not (length bytes == 0)) (list_all (λ b. not (b == 32)) bytes) word).1

pub two : (first second : List ℕ) → is_word first ≡ true → is_word second ≡ true → two_words (first ++ 32 ∷ second) ≡ Some (first, second)
unfolding two_words
two first second one other = rw (cut_at 32 first second (word_lacks first one)) (rw (one, other) refl)

pub three : (first second third : List ℕ) → is_word first ≡ true → is_word second ≡ true → is_word third ≡ true →
    three_words (first ++ 32 ∷ (second ++ 32 ∷ third)) ≡ Some (first, second, third)
unfolding three_words
three first second third one other last =
    rw (cut_at 32 first (second ++ 32 ∷ third) (word_lacks first one)) (rw (one, two second third other last) refl)

-- two words, and a space between them
pub record AreTwo (bytes first second : List ℕ) : Type 0 where
  pub whole : bytes ≡ first ++ 32 ∷ second
  pub one : is_word first ≡ true
  pub other : is_word second ≡ true
