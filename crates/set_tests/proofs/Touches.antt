-- A touch of a row that is in the snapshot, or that the set has, is a change whose touched rows are known.
use Rattle.std.proofs.Common.{◌≡◌, true, None, List, [], ◌∷◌, ◌++◌, length, sym, ap, subst, arith}
use Rattle.std.proofs.lemmas.List.{length-append}
use Rattle.write_set.specs.declared.change.Change.TheVariants.{Touch}
use Rattle.write_set.specs.declared.row_change.RowChange.{RowChange}
use Rattle.write_set.specs.Net.{change_in, TouchesKnown}
use Rattle.write_set.specs.Sets.{ChangeOfRow}

first : (c d : RowChange) (later : List RowChange) → d ∷ later ≡ c ∷ [] → d ≡ c
first c d later e = cc

pub one_touch : (set : List ChangeOfRow) (c : RowChange) → (c.change ≡ Touch → change_in set c.row ≡ None → c.before ≡ true) → TouchesKnown set (c ∷ [])
one_touch set c known [] d later is touch none =
    let same : d ≡ c = first c d later is in
    subst (λ (x : RowChange). x.before ≡ true) (sym same)
    (known (subst (λ (x : RowChange). x.change ≡ Touch) same touch) (subst (λ (x : RowChange). change_in set x.row ≡ None) same none))
one_touch set c known (x ∷ earlier) d later is touch none = absurd (omega (arith, ap length is, length-append earlier (d ∷ later)))
