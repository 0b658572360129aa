-- what is sorted by so far is bound
use Rattle.std.proofs.Common.{◌≡◌, drop}
use Rattle.sql_bind.specs.Orders.{sort_of, order_of}
use Rattle.sql_bind.specs.Steps.{each_behind}
use Rattle.sql_bind.proofs.orders.order_of.Given as goal

abbrev pub invariant-loop-one : goal.invariant-loop-one
invariant-loop-one l =
    each_behind (λ _. sort_of l.schema l.plain l.list) l.sorts.items (drop l.one-index l.order) ≡ order_of l.schema l.plain l.list l.order
