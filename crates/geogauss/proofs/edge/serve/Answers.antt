use Rattle.std.proofs.Common.{refl, sym, ap, ◌∙◌, ◌≡◌, [], Some, rules}
use Rattle.geo_io.specs.Memory.{eight_lists}
use Rattle.geogauss.proofs.Meanings.{play-flushed, play-unflushed}
use Rattle.geogauss.proofs.edge.serve.Goals as goal

pub returns-in-Ok-clause-play : goal.returns-in-Ok-clause-play
returns-in-Ok-clause-play g c word =
    let empty : c.new-logs.result ≡ eight_lists [] = c.new-logs.ensures ∙ ap eight_lists c.new.ensures.items in
    play-flushed _ _ _ _ refl refl c.flush.ensures.cause.later c.flush.ensures.kept (ap Some (sym (c.top-status.ensures.logs ∙ empty))) _
    (rw empty at (c.top-status.ensures.play word))

pub returns-in-Err-clause-play : goal.returns-in-Err-clause-play
returns-in-Err-clause-play g c word =
    let empty : c.new-logs.result ≡ eight_lists [] = c.new-logs.ensures ∙ ap eight_lists c.new.ensures.items in
    rw c.unflushed.ensures (play-unflushed _ _ _ _ refl refl c.flush.ensures.cause.later c.flush.ensures.kept
    (ap Some (sym (c.top-status.ensures.logs ∙ empty))) (c.in-Err.ensures.cause.failed (search rules)) _
    (rw empty at (c.top-status.ensures.play word)))
