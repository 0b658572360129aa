use Rattle.std.proofs.Common.{◌≡◌, ◌-◌, map, take}
use Rattle.std.specs.Map.{keys_of}
use Rattle.index_store.specs.inner.Following.{all_apart}
use Rattle.index_store.proofs.following.follow_all.Given as goal

-- what the rows so far lost and got is noted
abbrev pub invariant-loop-change : goal.invariant-loop-change
invariant-loop-change g l = record {
  lost : l.moves.lost.items ≡ all_apart l.schema (λ row. g.K.KeptVersions.image_at l.versions row (g.K.KeptVersions.last_kept l.versions - 1)) (λ row. g.K.KeptVersions.image_at l.versions row (g.K.KeptVersions.last_kept l.versions)) (keys_of (map (λ c. c.now) (take l.change-index l.changes)));
  gained : l.moves.gained.items ≡ all_apart l.schema (λ row. g.K.KeptVersions.image_at l.versions row (g.K.KeptVersions.last_kept l.versions)) (λ row. g.K.KeptVersions.image_at l.versions row (g.K.KeptVersions.last_kept l.versions - 1)) (keys_of (map (λ c. c.now) (take l.change-index l.changes)));
}
