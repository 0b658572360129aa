use Rattle.std.proofs.Common.{ap, sym, refl, ◌∙◌, inl}
use Rattle.std.specs.Io.KnownBytes.{append_known}
use Rattle.geogauss.proofs.Meanings.{carried, never-begun, append_known-nil}
use Rattle.geogauss.proofs.edge.carry_out.Goals as goal

pub returns-in-Err-clause-play : goal.returns-in-Err-clause-play
returns-in-Err-clause-play g c =
    let contents = g.W.Write.contents in
    let buffer = c.in-Ok.buffer in
    let source = c.ending-in-Err.ensures.source in
    let written = c.new-sink.ensures.written ∙ ap (λ w. append_known (contents w) buffer.buf.items) c.in-Ok.ensures.inner
    ∙ ap (append_known (contents c.args.writer)) c.in-Ok.ensures.empty ∙ append_known-nil (contents c.args.writer) in
    carried c.args.args c.in-Err.ensures.words (λ all short word.
    rw c.ending-in-Err.ensures.sink (never-begun _ _ _ _ (c.ending-in-Err.ensures.status ∙ c.status.ensures.memory short)
    (ap (λ s. g.R.Read.remaining s.reader) source ∙ c.new-source.ensures.left) (ap (λ s. s.faults) source ∙ c.new-source.ensures.faults)
    written c.new-sink.ensures.faults refl))

pub returns-clause-other : goal.returns-clause-other
returns-clause-other g c = carried c.args.args c.in-Ok-words_of.ensures.words (λ all is none.
    inl (c.ending-2.ensures.status ∙ c.serve-status.ensures.usage (λ play. none (sym is ∙ play))))
