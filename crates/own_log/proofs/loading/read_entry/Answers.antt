use Rattle.std.proofs.Common.{ap, inl, inr}
use Rattle.std.proofs.lemmas.Result.{err_from_is_err_and}
use Rattle.own_log.specs.declared.fault.EntryFault.TheVariants.{Codec}
use Rattle.own_log.proofs.loading.read_entry.Goals as goal

pub returns-in_err-batch-clause-fault : goal.returns-in_err-batch-clause-fault
returns-in_err-batch-clause-fault c =
    let p = err_from_is_err_and c.from_residual.result c.from_residual.ensures.1 in
    rw (p.1, p.2) (elim c.in_err-batch.ensures.fault [ inl e ↦ inl (ap Codec e) | inr h ↦ inr h ])
