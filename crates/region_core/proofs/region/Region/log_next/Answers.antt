use Rattle.std.proofs.Common.{ℕ, Vec, Global, refl, ap, arith}
use Rattle.std.proofs.lemmas.Result.{err_from_is_err_and}
use Rattle.write_set.specs.declared.batch.Batch.{Batch}
use Rattle.own_log.specs.declared.fault.LogAppendFault.TheVariants as append_fault
use Rattle.region_core.specs.Entries.{next_batch}
use Rattle.region_core.proofs.Sealings.{same_inside, same_is, made_is, lent, next_fits, let_go_is, logged_is, gains_on, keeps_fault, sealed_is, sealed_inside, some_is, now_is, same_items, none_left, pushed_is, was_told}
use Rattle.region_core.proofs.region.Region.log_next.Goals as goal

pub invariant_of-self : goal.invariant_of-self
invariant_of-self g c = same_inside c.self.inside c.self.invariant c.args.self.now c.self.view_is _ _ c.make_room.ensures.same refl

pub returns-in_err-make_room-clause-err : goal.returns-in_err-make_room-clause-err
returns-in_err-make_room-clause-err g c =
    let p = err_from_is_err_and c.from_residual.result c.from_residual.ensures.1 in
    rw p.1 (same_is c.self.inside c.self.invariant c.args.self.now c.self.view_is _ _ c.make_room.ensures.same refl)

pub invariant_of-self-in_err-copy : goal.invariant_of-self-in_err-copy
invariant_of-self-in_err-copy g c = same_inside c.self.inside c.self.invariant c.args.self.now c.self.view_is _ _ c.make_room.ensures.same refl

pub returns-in_err-copy-clause-err : goal.returns-in_err-copy-clause-err
returns-in_err-copy-clause-err g c =
    let p = err_from_is_err_and c.from_residual-in_err-copy.result c.from_residual-in_err-copy.ensures.1 in
    rw p.1 (same_is c.self.inside c.self.invariant c.args.self.now c.self.view_is _ _ c.make_room.ensures.same refl)

pub hold-requires : goal.hold-requires
hold-requires g c = omega (arith, c.self.invariant.inbox_regions, c.self.invariant.lawful.stands.there, ap (λ (b : Batch). b.region) c.in_ok-copy.ensures)

pub invariant_of-self-in_err-hold : goal.invariant_of-self-in_err-hold
invariant_of-self-in_err-hold g c = same_inside c.self.inside c.self.invariant c.args.self.now c.self.view_is _ _ c.make_room.ensures.same c.in_err-hold.ensures.unchanged

pub returns-in_err-hold-clause-err : goal.returns-in_err-hold-clause-err
returns-in_err-hold-clause-err g c =
    let p = err_from_is_err_and c.from_residual-in_err-hold.result c.from_residual-in_err-hold.ensures.1 in
    rw p.1 (same_is c.self.inside c.self.invariant c.args.self.now c.self.view_is _ _ c.make_room.ensures.same c.in_err-hold.ensures.unchanged)

pub unwrap-batch-requires : goal.unwrap-batch-requires
unwrap-batch-requires g c =
    let l = lent c.self.inside c.self.invariant c.args.self.now c.self.view_is c.open_epoch-epoch.result c.open_epoch-epoch.ensures c.in_ok-copy.copy c.as_slice.result.now c.hold.new.self c.get.result
    c.as_slice.ensures.value c.in_ok-copy.ensures c.in_ok-hold.ensures.held c.get.ensures in
    some_is c.get.result (next_batch c.args.self.now.standing) l.found

pub append-appended-requires-clause-fits : goal.append-appended-requires-clause-fits
append-appended-requires-clause-fits g c =
    let l = lent c.self.inside c.self.invariant c.args.self.now c.self.view_is c.open_epoch-epoch.result c.open_epoch-epoch.ensures c.in_ok-copy.copy c.as_slice.result.now c.hold.new.self c.get.result
    c.as_slice.ensures.value c.in_ok-copy.ensures c.in_ok-hold.ensures.held c.get.ensures in
    next_fits c.self.inside c.self.invariant c.args.self.now c.self.view_is c.open_epoch-epoch.result c.open_epoch-epoch.ensures c.requires.sealable c.unwrap-batch.result.now
    (now_is c.get.result c.unwrap-batch.result (next_batch c.args.self.now.standing) c.unwrap-batch.ensures l.found)

pub append-appended-requires-clause-width : goal.append-appended-requires-clause-width
append-appended-requires-clause-width g c =
    let l = lent c.self.inside c.self.invariant c.args.self.now c.self.view_is c.open_epoch-epoch.result c.open_epoch-epoch.ensures c.in_ok-copy.copy c.as_slice.result.now c.hold.new.self c.get.result
    c.as_slice.ensures.value c.in_ok-copy.ensures c.in_ok-hold.ensures.held c.get.ensures in
    omega (arith, c.requires.width, ap (λ (b : Batch). b.region) (now_is c.get.result c.unwrap-batch.result (next_batch c.args.self.now.standing) c.unwrap-batch.ensures l.found))

pub unwrap-requires : goal.unwrap-requires
unwrap-requires g c = c.push.ensures.succeeds c.in_ok-make_room.ensures.room

pub invariant_of-self-in-Ok : goal.invariant_of-self-in-Ok
invariant_of-self-in-Ok g c =
    let l = lent c.self.inside c.self.invariant c.args.self.now c.self.view_is c.open_epoch-epoch.result c.open_epoch-epoch.ensures c.in_ok-copy.copy c.as_slice.result.now c.hold.new.self c.get.result
    c.as_slice.ensures.value c.in_ok-copy.ensures c.in_ok-hold.ensures.held c.get.ensures in
    sealed_inside c.self.inside c.self.invariant c.args.self.now c.self.view_is c.requires.sealable c.push.new.self.items c.replace-items.new.dest.items c.hold.new.self c.next_of.result
    (made_is c.self.inside c.self.invariant c.args.self.now c.self.view_is c.open_epoch-epoch.result c.open_epoch-epoch.ensures c.next_of.result c.replace-items.result.items
    (same_items c.replace-items.result c.self.inside.open_candidates c.replace-items.ensures.value) c.next_of.ensures)
    (pushed_is c.push.result c.unwrap.result c.push.new.self.items c.make_room.new.items.items c.self.inside.log.items c.next_of.result c.unwrap.ensures c.push.ensures.items c.make_room.ensures.same)
    (none_left c.replace-items.new.dest c.new.result c.replace-items.ensures.after c.new.ensures.items) l.put

pub invariant_of-self-in-Err : goal.invariant_of-self-in-Err
invariant_of-self-in-Err g c =
    let l = lent c.self.inside c.self.invariant c.args.self.now c.self.view_is c.open_epoch-epoch.result c.open_epoch-epoch.ensures c.in_ok-copy.copy c.as_slice.result.now c.hold.new.self c.get.result
    c.as_slice.ensures.value c.in_ok-copy.ensures c.in_ok-hold.ensures.held c.get.ensures in
    same_inside c.self.inside c.self.invariant c.args.self.now c.self.view_is _ _ c.make_room.ensures.same
    (let_go_is c.self.inside c.self.invariant c.args.self.now c.self.view_is c.open_epoch-epoch.result c.open_epoch-epoch.ensures c.requires.sealable c.hold.new.self c.drop_batch.new.self l.put c.drop_batch.ensures)

pub returns-in-Ok-clause-ok : goal.returns-in-Ok-clause-ok
returns-in-Ok-clause-ok g c =
    let l = lent c.self.inside c.self.invariant c.args.self.now c.self.view_is c.open_epoch-epoch.result c.open_epoch-epoch.ensures c.in_ok-copy.copy c.as_slice.result.now c.hold.new.self c.get.result
    c.as_slice.ensures.value c.in_ok-copy.ensures c.in_ok-hold.ensures.held c.get.ensures in (
      logged_is c.self.inside c.self.invariant c.args.self.now c.self.view_is c.unwrap-batch.result.now
          (now_is c.get.result c.unwrap-batch.result (next_batch c.args.self.now.standing) c.unwrap-batch.ensures l.found) c.in-Ok.bytes.items c.in-Ok.ensures.bytes c.in-Ok.ensures.spelled,
      sealed_is c.self.inside c.self.invariant c.args.self.now c.self.view_is c.requires.sealable c.push.new.self.items c.replace-items.new.dest.items c.hold.new.self c.next_of.result
          (made_is c.self.inside c.self.invariant c.args.self.now c.self.view_is c.open_epoch-epoch.result c.open_epoch-epoch.ensures c.next_of.result c.replace-items.result.items
          (same_items c.replace-items.result c.self.inside.open_candidates c.replace-items.ensures.value) c.next_of.ensures)
          (pushed_is c.push.result c.unwrap.result c.push.new.self.items c.make_room.new.items.items c.self.inside.log.items c.next_of.result c.unwrap.ensures c.push.ensures.items c.make_room.ensures.same)
          (none_left c.replace-items.new.dest c.new.result c.replace-items.ensures.after c.new.ensures.items) l.put,
    )

pub returns-in-Ok-clause-log : goal.returns-in-Ok-clause-log
returns-in-Ok-clause-log g c =
    let l = lent c.self.inside c.self.invariant c.args.self.now c.self.view_is c.open_epoch-epoch.result c.open_epoch-epoch.ensures c.in_ok-copy.copy c.as_slice.result.now c.hold.new.self c.get.result
    c.as_slice.ensures.value c.in_ok-copy.ensures c.in_ok-hold.ensures.held c.get.ensures in
    gains_on c.self.inside c.self.invariant c.args.self.now c.self.view_is c.unwrap-batch.result.now
    (now_is c.get.result c.unwrap-batch.result (next_batch c.args.self.now.standing) c.unwrap-batch.ensures l.found) (g.L.Keepers.lists c.args.logs.now) (g.L.Keepers.lists c.append-appended.new.logs)
    c.in-Ok.ensures.ok

pub returns-in-Ok-clause-told : goal.returns-in-Ok-clause-told
returns-in-Ok-clause-told g c = was_told c.in-Ok.bytes append_fault.NoMemory _ c.in-Ok.ensures.told

pub returns-in-Err-clause-err : goal.returns-in-Err-clause-err
returns-in-Err-clause-err g c =
    let l = lent c.self.inside c.self.invariant c.args.self.now c.self.view_is c.open_epoch-epoch.result c.open_epoch-epoch.ensures c.in_ok-copy.copy c.as_slice.result.now c.hold.new.self c.get.result
    c.as_slice.ensures.value c.in_ok-copy.ensures c.in_ok-hold.ensures.held c.get.ensures in
    same_is c.self.inside c.self.invariant c.args.self.now c.self.view_is _ _ c.make_room.ensures.same
    (let_go_is c.self.inside c.self.invariant c.args.self.now c.self.view_is c.open_epoch-epoch.result c.open_epoch-epoch.ensures c.requires.sealable c.hold.new.self c.drop_batch.new.self l.put c.drop_batch.ensures)

pub returns-in-Err-clause-log : goal.returns-in-Err-clause-log
returns-in-Err-clause-log g c =
    let l = lent c.self.inside c.self.invariant c.args.self.now c.self.view_is c.open_epoch-epoch.result c.open_epoch-epoch.ensures c.in_ok-copy.copy c.as_slice.result.now c.hold.new.self c.get.result
    c.as_slice.ensures.value c.in_ok-copy.ensures c.in_ok-hold.ensures.held c.get.ensures in
    keeps_fault c.self.inside c.self.invariant c.args.self.now c.self.view_is c.unwrap-batch.result.now
    (now_is c.get.result c.unwrap-batch.result (next_batch c.args.self.now.standing) c.unwrap-batch.ensures l.found) (Vec ℕ Global) (Vec ℕ Global) c.in-Err.fault (g.L.Keepers.lists c.args.logs.now)
    (g.L.Keepers.lists c.append-appended.new.logs) c.in-Err.ensures.failed c.in-Err.ensures.no_memory
