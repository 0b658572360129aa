use Rattle.epoch_inbox.proofs.Kept.{kept_less}
use Rattle.epoch_inbox.proofs.taking.let_go.Goals as goal

pub returns-clause-left : goal.returns-clause-left
returns-clause-left c =
    (kept_less c.args.regions c.args.batches.now.entries c.drop_batch.new.batches.entries c.args.epoch c.args.region c.requires.kept c.drop_batch.ensures.left c.drop_batch.ensures.sorted).0

pub returns-clause-kept : goal.returns-clause-kept
returns-clause-kept c =
    (kept_less c.args.regions c.args.batches.now.entries c.drop_batch.new.batches.entries c.args.epoch c.args.region c.requires.kept c.drop_batch.ensures.left c.drop_batch.ensures.sorted).1
