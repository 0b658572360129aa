use Rattle.std.proofs.Common.{◌++◌, append-nil, sym, ap, ◌∙◌}
use Rattle.std.specs.Option.{option_copied}
use Rattle.index_store.proofs.Noting.{none_apart}
use Rattle.index_store.proofs.following.note.Goals as goal

pub returns-then-are_alike-clause-gained : goal.returns-then-are_alike-clause-gained
returns-then-are_alike-clause-gained c =
    let none = none_apart c.args.row.now c.args.place c.args.index.now (option_copied c.args.before) (option_copied c.args.after) (sym c.are_alike.ensures ∙ c.if-are_alike.true) in
    sym (ap (λ l. c.args.moves.now.gained.items ++ l) none.1 ∙ append-nil c.args.moves.now.gained.items)
