use Rattle.std.proofs.Common.{◌≡◌, ◌++◌, map}
use Rattle.std.specs.Vec.Iter.{into_iter_items}
use Rattle.schema_text.specs.Marks.{mark_of}
use Rattle.schema_text.proofs.mark.each_mark.Given as goal

abbrev pub invariant-loop-token : goal.invariant-loop-token
invariant-loop-token l =
    map (λ token. mark_of token.kind) l.fn.tokens.items ≡ l.marks.items ++ map (λ token. mark_of token.kind) (into_iter_items l.token-iterator)
