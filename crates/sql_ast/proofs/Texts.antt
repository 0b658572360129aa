-- Texts that are written piece by piece.
use Rattle.std.proofs.Common.{◌≡◌, ℕ, List, ◌++◌, append_assoc}

-- the pieces of a DELETE
pub delete-joined : (out first second now words table filter : List ℕ) → first ≡ out ++ words → second ≡ first ++ table → now ≡ second ++ filter →
    now ≡ out ++ (words ++ table ++ filter)
delete-joined out first second now words table filter a b c = rw (c, b, a) (simp append_assoc)

-- the pieces of an INSERT
pub insert-joined : (out first second third fourth now words table columns values rows : List ℕ) → first ≡ out ++ words → second ≡ first ++ table →
    third ≡ second ++ columns → fourth ≡ third ++ values → now ≡ fourth ++ rows → now ≡ out ++ (words ++ table ++ columns ++ values ++ rows)
insert-joined out first second third fourth now words table columns values rows a b c d e = rw (e, d, c, b, a) (simp append_assoc)
