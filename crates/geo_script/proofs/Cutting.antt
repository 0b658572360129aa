-- The first line of a text, by its first line feed.
use Rattle.std.proofs.Common.{◌≡◌, ℕ, zero, suc, ◌+◌, ◌<◌, ◌==◌, Bool, true, false, cond, List, [], ◌∷◌, length, map, take, drop, get_or, refl, sym, ap, ◌∙◌, arith, add-one, Option, Some, None, MatchOption, IfSome, Bor}
use Rattle.std.specs.List.{slice_split, onto_first}
use Rattle.std.proofs.lemmas.Bool.{ne_eqb}
use Rattle.std.proofs.lemmas.List.{length-map}
use Rattle.geo_script.specs.Lines.{without_return, without_empty_end, lines_of}

-- the first piece ends at the first byte that is the separator
split_at : (p : ℕ → Bool) (bytes : List ℕ) (at : ℕ) → at < length bytes → ((k : ℕ) → k < at → p (get_or bytes k 0) ≡ false) → p (get_or bytes at 0) ≡ true →
    slice_split p bytes ≡ take at bytes ∷ slice_split p (drop (suc at) bytes)
split_at p [] at within before hit = absurd (omega arith)
split_at p (b ∷ bytes) zero within before hit = rw hit refl
split_at p (b ∷ bytes) (suc at) within before hit =
    let other : p b ≡ false = before zero (omega arith) in
    let more = split_at p bytes at (omega arith) (λ k low. before (suc k) (omega arith)) hit in
    rw (other, more) refl

-- where none is the separator, all bytes are one piece
split_nowhere : (p : ℕ → Bool) (bytes : List ℕ) → ((k : ℕ) → k < length bytes → p (get_or bytes k 0) ≡ false) → slice_split p bytes ≡ bytes ∷ []
split_nowhere p [] none = refl
split_nowhere p (b ∷ bytes) none =
    let other : p b ≡ false = none zero (omega arith) in
    let more = split_nowhere p bytes (λ k low. none (suc k) (omega arith)) in
    rw (other, more) refl

some_pieces : (p : ℕ → Bool) (bytes : List ℕ) → 0 < length (slice_split p bytes)
some_pieces p [] = omega arith
some_pieces p (b ∷ bytes) = by (p b) (slice_split p bytes)
  where
    by : (v : Bool) (pieces : List (List ℕ)) → 0 < length (cond v ([] ∷ pieces) (onto_first b pieces))
    by true pieces = omega arith
    by false [] = omega arith
    by false (piece ∷ pieces) = omega arith

kept : (piece : List ℕ) (pieces : List (List ℕ)) → 0 < length pieces → without_empty_end (piece ∷ pieces) ≡ piece ∷ without_empty_end pieces
kept piece [] some = absurd (omega arith)
kept piece (next ∷ pieces) some = refl

-- a line feed ends the first line
pub first_line : (bytes : List ℕ) (at : ℕ) → at < length bytes → ((k : ℕ) → k < at → (get_or bytes k 0 == 10) ≡ false) → (get_or bytes at 0 == 10) ≡ true →
    lines_of bytes ≡ without_return (take at bytes) ∷ lines_of (drop (at + 1) bytes)
unfolding lines_of
first_line bytes at within before hit =
    let p : ℕ → Bool = λ b. b == 10 in
    let rest : List ℕ = drop (suc at) bytes in
    let split = split_at p bytes at within before hit in
    let some : 0 < length (map without_return (slice_split p rest)) = omega (arith, some_pieces p rest, length-map (slice_split p rest) without_return) in
    ap (λ pieces. without_empty_end (map without_return pieces)) split
    ∙ (kept (without_return (take at bytes)) (map without_return (slice_split p rest)) some
    ∙ ap (λ n. without_return (take at bytes) ∷ without_empty_end (map without_return (slice_split p (drop n bytes)))) (sym (add-one at)))

-- without a line feed, what is there is the last line
pub last_lines : (bytes : List ℕ) → ((k : ℕ) → k < length bytes → (get_or bytes k 0 == 10) ≡ false) → lines_of bytes ≡ without_empty_end (without_return bytes ∷ [])
unfolding lines_of
last_lines bytes none = ap (λ pieces. without_empty_end (map without_return pieces)) (split_nowhere (λ b. b == 10) bytes none)

pub no_lines : lines_of [] ≡ []
unfolding lines_of
no_lines = refl

-- a last piece that is empty is no line, and any other is one
pub empty_end : (line : List ℕ) → line ≡ [] → without_empty_end (line ∷ []) ≡ []
empty_end line is = ap (λ l. without_empty_end (l ∷ [])) is

pub full_end : (line : List ℕ) → 0 < length line → without_empty_end (line ∷ []) ≡ line ∷ []
full_end [] some = absurd (omega arith)
full_end (b ∷ line) some = rw (ne_eqb (suc (length line)) 0 (λ is. absurd (omega arith))) refl

-- what the last line is, where a call tells its line and what stands behind it
pub last_answer : (bytes : List ℕ) (r : Option (Bor (List ℕ) × Bor (List ℕ))) → lines_of bytes ≡ without_empty_end (without_return bytes ∷ []) →
    MatchOption r (without_return bytes ≡ []) (λ p. (p.0.now ≡ without_return bytes) × (p.1.now ≡ [])) → IfSome r (λ p. 0 < length p.0.now) →
    MatchOption r (lines_of bytes ≡ []) (λ p. lines_of bytes ≡ p.0.now ∷ lines_of p.1.now)
last_answer bytes None is none some = is ∙ empty_end (without_return bytes) none
last_answer bytes (Some p) is line some =
    let long : 0 < length (without_return bytes) = omega (arith, some, ap length line.0) in
    is ∙ (full_end (without_return bytes) long ∙ (ap (λ l. l ∷ []) (sym line.0) ∙ ap (λ ls. p.0.now ∷ ls) (sym (ap lines_of line.1 ∙ no_lines))))
