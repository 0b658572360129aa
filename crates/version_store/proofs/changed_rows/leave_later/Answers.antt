use Rattle.std.proofs.Common.{rules}
use Rattle.std.proofs.lemmas.Fn.{filter_same}
use Rattle.version_store.proofs.changed_rows.leave_later.Goals as goal

pub returns : goal.returns
returns c = filter_same _ _ _ (λ note b f' k. search rules) _ _ c.retain.ensures.filtered
