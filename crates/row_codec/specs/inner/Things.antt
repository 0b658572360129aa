-- Inner: things read one after another, each by a reader of its own that depends on a state, and what was read before with what is still read.
use Rattle.std.specs.Prelude.{◌≡◌, ℕ, zero, suc, List, [], ◌∷◌, ◌++◌, Ok}
use Rattle.geo_base.specs.Results.{Read, ◌>>=◌}

-- so many things, where `after` is the state behind one
unfoldable pub things_at : {S A E : Type 0} → (S → List ℕ → ℕ → Read E A) → (S → A → S) → ℕ → S → List ℕ → ℕ → Read E (List A)
things_at one after zero state bytes at = Ok ([], at)
things_at one after (suc count) state bytes at = do
  first ← one state bytes at
  others ← things_at one after count (after state first.0) bytes first.1
  Ok (first.0 ∷ others.0, others.1)

-- what was read before, and what is still read
abbrev pub with_front : {A E : Type 0} → List A → Read E (List A) → Read E (List A)
with_front front read = read >>= λ x. Ok (front ++ x.0, x.1)

-- both come to the whole
abbrev pub ComesTo : {A E : Type 0} → List A → Read E (List A) → Read E (List A) → Type 0
ComesTo front whole left = with_front front left ≡ whole
