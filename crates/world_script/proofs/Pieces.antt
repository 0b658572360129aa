-- Texts that are cut at a byte.
use Rattle.std.proofs.Common.{◌≡◌, ◌≢◌, ℕ, List, [], ◌∷◌, ◌++◌, Contains, refl, sym, ◌∙◌, arith}
use Rattle.std.proofs.lemmas.List.Elements.{Contains-append_right}
use Rattle.world_script.specs.inner.Reading.{IsCut}

pub Contains-head : (byte : ℕ) (rest : List ℕ) → Contains (byte ∷ rest) byte
Contains-head byte rest = (0, omega arith, refl)

-- what is cut at a byte has that byte
pub Contains-cut : (byte : ℕ) (front rest : List ℕ) → Contains (front ++ (byte ∷ rest)) byte
Contains-cut byte front rest = Contains-append_right front (byte ∷ rest) byte (Contains-head byte rest)

-- two cuts at the first such byte are one
pub same_cut : (byte : ℕ) (front front' rest rest' : List ℕ) → front ++ (byte ∷ rest) ≡ front' ++ (byte ∷ rest') → ¬ (Contains front byte) → ¬ (Contains front' byte) → (front ≡ front') × (rest ≡ rest')
same_cut byte [] [] rest rest' same first first' = (refl, cc)
same_cut byte [] (x ∷ front') rest rest' same first first' =
    let is : byte ≡ x = cc in absurd (first' (rw (← is) (Contains-head byte front')))
same_cut byte (x ∷ front) [] rest rest' same first first' =
    let is : byte ≡ x = cc in absurd (first (rw (← is) (Contains-head byte front)))
same_cut byte (x ∷ front) (y ∷ front') rest rest' same first first' =
    let more = same_cut byte front front' rest rest' (cc) (λ has. first (Contains-append_right (x ∷ []) front byte has)) (λ has. first' (Contains-append_right (y ∷ []) front' byte has)) in
    (cc, more.1)

-- a cut of what is front, byte, rest gives these
pub IsCut-same : (whole : List ℕ) (byte : ℕ) (front front' rest rest' : List ℕ) → IsCut whole byte front rest → whole ≡ front' ++ (byte ∷ rest') → ¬ (Contains front' byte) → (front ≡ front') × (rest ≡ rest')
IsCut-same whole byte front front' rest rest' cut other first' =
    same_cut byte front front' rest rest' (sym cut.cut ∙ other) cut.first first'

-- what has no such byte isn't cut there
pub not_cut : (whole : List ℕ) (byte : ℕ) (front rest : List ℕ) → ¬ (Contains whole byte) → whole ≢ front ++ (byte ∷ rest)
not_cut whole byte front rest lacks is = lacks (rw is (Contains-cut byte front rest))
