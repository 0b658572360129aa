use Rattle.std.proofs.Common.{subst, ◌∙◌, sym}
use Rattle.write_set.specs.Sets.{Rises}
use Rattle.write_set.specs.laws.Rising.{rises_removed}
use Rattle.write_set.specs.inner.Places.{StandsAt, FitsAt}
use Rattle.write_set.proofs.Places.{removed_here, removed_absent, lookup_absent}
use Rattle.write_set.proofs.table.remove_value.Goals as goal

pub returns-in-Ok-clause-items : goal.returns-in-Ok-clause-items
returns-in-Ok-clause-items g c =
    let l = c.args.entries.now.items in
    let at : StandsAt l c.args.row.now c.in-Ok.place = subst (λ k. StandsAt k c.args.row.now c.in-Ok.place) c.as_slice.ensures.value c.in-Ok.ensures.found in
    c.remove.ensures.items ∙ removed_here c.args.row.now l c.in-Ok.place at

pub returns-in_default-clause-items : goal.returns-in_default-clause-items
returns-in_default-clause-items g c =
    let l = c.args.entries.now.items in
    let at : FitsAt l c.args.row.now c.in_default.field-0 = subst (λ k. FitsAt k c.args.row.now c.in_default.field-0) c.as_slice.ensures.value c.in_default.ensures.absent in
    removed_absent c.args.row.now l (lookup_absent c.args.row.now l c.in_default.field-0 at)

pub returns-in-Ok-clause-rising : goal.returns-in-Ok-clause-rising
returns-in-Ok-clause-rising g c = subst Rises (sym (returns-in-Ok-clause-items g c)) (rises_removed _ c.args.entries.now.items c.requires.rising)

pub returns-in_default-clause-rising : goal.returns-in_default-clause-rising
returns-in_default-clause-rising g c = c.requires.rising
