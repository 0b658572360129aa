use Rattle.std.proofs.Common.{map}
use Rattle.index_store.proofs.Between.{low_border, high_border, keys_call, rows_call}
use Rattle.index_store.proofs.store.IndexStore.range.Goals as goal

pub place_where-first-requires : goal.place_where-first-requires
place_where-first-requires c = low_border c.args.table c.args.index c.args.range.now c.self.inside.entries c.rises.ensures

pub place_where-last-requires : goal.place_where-last-requires
place_where-last-requires c = high_border c.args.table c.args.index c.args.range.now c.self.inside.entries c.rises.ensures

pub returns-clause-keys : goal.returns-clause-keys
returns-clause-keys c =
    keys_call c.args.table c.args.index c.args.range.now (record { entries = c.self.inside.entries; losses = c.self.inside.losses.items }) c.args.self.now
    c.rises.ensures c.self.view_is _ _ _ _ c.place_where-first.ensures c.place_where-last.ensures c.in_ok-found.ensures c.as_slice.ensures.value
    (λ keys. map (λ k. k.now) keys.items) c.rising_keys.result c.rising_keys.ensures

pub returns-clause-rows : goal.returns-clause-rows
returns-clause-rows c tables kept store =
    rows_call tables kept c.args.table c.args.index c.args.range.now c.args.self.now store (λ keys. map (λ k. k.now) keys.items) c.rising_keys.result
    (returns-clause-keys c)
