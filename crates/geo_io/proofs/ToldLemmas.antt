-- Lemmas on what is told, over several calls. `Rattle.std.proofs.KnownBytes` has those on `Appends`,
-- `Consumes` and `Keeps` alone, as `Appends-trans` and `Consumes-trans`.
use Rattle.std.proofs.Common.{ℕ, ◌+◌, ◌≤◌, List, ◌++◌, Option, length, take, drop, sym, subst, length-append, arith}
use Rattle.std.proofs.Math.Seq.{take-add}
use Rattle.std.specs.Io.KnownBytes.{Appends, Consumes, Keeps}
use Rattle.std.proofs.KnownBytes.{Appends-trans, Appends-kept, Consumes-trans}
use Rattle.geo_io.specs.Told.{AppendsFrontOf, LosesAtMost}
use Rattle.geo_io.specs.laws.Told.{IsFrontOf-take}

-- ---- a front of some bytes was appended

-- the first bytes, and then the first of the rest
pub Appends-take : (at n : ℕ) (whole : List ℕ) (a b c : Option (List ℕ))
    → Appends a b (take at whole) → Appends b c (take n (drop at whole)) → Appends a c (take (at + n) whole)
Appends-take at n whole a b c p q =
    subst (Appends a c) (sym (take-add at n whole)) (Appends-trans a b c (take at whole) (take n (drop at whole)) p q)

-- after the first n bytes, nothing more was written
pub AppendsFrontOf-take : (n : ℕ) (whole : List ℕ) (a b c : Option (List ℕ))
    → Appends a b (take n whole) → Keeps b c → AppendsFrontOf whole a c
AppendsFrontOf-take n whole a b c p q = record {
  gained = take n whole;
  front = IsFrontOf-take n whole;
  appended = Appends-kept a b c (take n whole) p q;
}

-- ---- some bytes were lost

pub LosesAtMost-more : (most : ℕ) (taken more : List ℕ) (a b c : Option (List ℕ))
    → length taken + length more ≤ most → Consumes a b taken → Consumes b c more → LosesAtMost most a c
LosesAtMost-more most taken more a b c few p q = record {
  taken = taken ++ more;
  few = omega (arith, length-append taken more);
  consumed = Consumes-trans a b c taken more p q;
}
