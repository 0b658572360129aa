-- Laws on fronts of lists, and on a list of entries that got one more, for the crates above. `Rattle.std.proofs.KnownBytes` has those on `Appends`, `Consumes` and
-- `Keeps`, as `Appends-trans` and `Consumes-trans`.
use Rattle.std.proofs.Common.{ℕ, List, ◌++◌, take, drop, refl, sym, ap, ◌∙◌, append_assoc, take-append-drop, [], ◌∷◌}
use Rattle.std.proofs.lemmas.List.{get_or-set_same, get_or-set_other, length-set}
use Rattle.geo_io.specs.Told.{IsFrontOf, list_of, AppendedEntriesStandAtTheEnd}

pub IsFrontOf-append : (xs ys : List ℕ) → IsFrontOf xs (xs ++ ys)
IsFrontOf-append xs ys = (ys, refl)

pub IsFrontOf-take : (n : ℕ) (xs : List ℕ) → IsFrontOf (take n xs) xs
IsFrontOf-take n xs = (drop n xs, take-append-drop n xs)

pub IsFrontOf-trans : (xs ys zs : List ℕ) → IsFrontOf xs ys → IsFrontOf ys zs → IsFrontOf xs zs
IsFrontOf-trans xs ys zs p q =
    (p.0 ++ q.0, sym (append_assoc xs p.0 q.0) ∙ ap (λ l. l ++ q.0) p.1 ∙ q.1)

-- the same bytes stand before both
pub IsFrontOf-behind : (zs xs ys : List ℕ) → IsFrontOf xs ys → IsFrontOf (zs ++ xs) (zs ++ ys)
IsFrontOf-behind zs xs ys p = (p.0, append_assoc zs xs p.0 ∙ ap (λ l. zs ++ l) p.1)

-- an entry that a list of entries got
pub entry_at_end : AppendedEntriesStandAtTheEnd
entry_at_end all region entry lt = record {
  own = get_or-set_same all region (list_of all region ++ entry ∷ []) [] lt;
  others = λ other apart. get_or-set_other all region other (list_of all region ++ entry ∷ []) [] apart;
  width = length-set all region (list_of all region ++ entry ∷ []);
}
