use Rattle.std.proofs.Common.{refl, arith}
use Rattle.std.proofs.KnownBytes.{Keeps-refl}
use Rattle.geogauss.proofs.Meanings.{meant, played, unread}
use Rattle.geogauss.proofs.PlayLemmas.{StoppedAfter-none}
use Rattle.geogauss.proofs.ReadLemmas.{read-told, script-playable}
use Rattle.geogauss.proofs.playing.play_call.Goals as goal

pub play_script-requires : goal.play_script-requires
play_script-requires g c = script-playable c.in-Ok.script _ c.in-Ok.ensures.script.spelled

pub returns-in-Ok-clause-means : goal.returns-in-Ok-clause-means
returns-in-Ok-clause-means g c =
    meant _ _ _ _ (played _ _ _ c.plays_are_isolated.ensures.isolated _ c.in-Ok.script c.in-Ok.ensures.script c.in-Ok.ensures.only c.play_script.ensures.played)
    c.in-Ok.ensures.taken c.in-Ok.ensures.later c.play_script.ensures.later refl

pub returns-in-Err-clause-means : goal.returns-in-Err-clause-means
returns-in-Err-clause-means g c =
    meant _ _ _ _ (unread _ _ _ _ c.in-Err.ensures.err (Keeps-refl _) (λ script. StoppedAfter-none _ _ _))
    c.in-Err.ensures.taken c.in-Err.ensures.later (omega arith) refl

pub returns-in-Ok-clause-nothing : goal.returns-in-Ok-clause-nothing
returns-in-Ok-clause-nothing g c input told none =
    absurd (none c.in-Ok.script (read-told c.in-Ok.script _ _ input c.in-Ok.ensures.script told))
