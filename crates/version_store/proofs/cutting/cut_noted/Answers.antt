use Rattle.std.proofs.Common.{◌+◌, drop, ap, ◌∙◌, arith}
use Rattle.version_store.specs.inner.Writing.{all_cut}
use Rattle.version_store.specs.inner.Noting.{rows_upto}
use Rattle.version_store.proofs.Trimmed.{cut_in, cut_out}
use Rattle.version_store.proofs.cutting.cut_noted.Goals as goal
use Rattle.version_store.proofs.cutting.cut_noted.Goals.{then-epoch-horizon+in_ok-cut_all, else-epoch-horizon}

pub loop-note-preserved : goal.loop-note-preserved
loop-note-preserved c = elim c.if-epoch-horizon.branch [
  | then-epoch-horizon+in_ok-cut_all w ↦
      ap (all_cut c.args.horizon (rows_upto c.args.horizon (drop (c.loop-note.note-index + 1) c.args.notes.now)))
      (w.rows-is ∙ w.in_ok-cut_all.ensures ∙ ap (λ names. all_cut c.args.horizon names c.loop-note.rows) w.rows.ensures)
      ∙ cut_in c.args.horizon c.args.notes.now c.loop-note.note-index c.note-item.result c.loop-note-test.true c.note-item.is c.loop-note.rows
      (omega (arith, c.epoch.ensures, w.if-epoch-horizon.true))
      ∙ c.loop-note.invariant
  | else-epoch-horizon w ↦
      ap (all_cut c.args.horizon (rows_upto c.args.horizon (drop (c.loop-note.note-index + 1) c.args.notes.now))) w.rows-is
      ∙ cut_out c.args.horizon c.args.notes.now c.loop-note.note-index c.note-item.result c.loop-note-test.true c.note-item.is c.loop-note.rows
      (omega (arith, c.epoch.ensures, w.if-epoch-horizon.false))
      ∙ c.loop-note.invariant
]
