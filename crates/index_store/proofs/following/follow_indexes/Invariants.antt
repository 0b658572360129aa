use Rattle.std.proofs.Common.{◌≡◌, ◌++◌, drop}
use Rattle.std.specs.Option.{option_copied}
use Rattle.index_store.specs.inner.Following.{apart_from}
use Rattle.index_store.proofs.following.follow_indexes.Given as goal

-- what is noted, and what is to be noted of the indexes from here on, are all
abbrev pub invariant-loop-place : goal.invariant-loop-place
invariant-loop-place l = record {
  lost : l.moves.lost.items ++ apart_from l.row (option_copied l.before) (option_copied l.after) l.place (drop l.place l.indexes)
      ≡ l.initial.moves.lost.items ++ apart_from l.row (option_copied l.before) (option_copied l.after) 0 l.indexes;
  gained : l.moves.gained.items ++ apart_from l.row (option_copied l.after) (option_copied l.before) l.place (drop l.place l.indexes)
      ≡ l.initial.moves.gained.items ++ apart_from l.row (option_copied l.after) (option_copied l.before) 0 l.indexes;
}
