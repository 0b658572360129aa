use Rattle.std.proofs.Common.{subst, ap, ◌∙◌, set, sym}
use Rattle.write_set.specs.Sets.{Rises}
use Rattle.write_set.specs.laws.Rising.{rises_put}
use Rattle.write_set.specs.inner.Places.{StandsAt, FitsAt}
use Rattle.write_set.proofs.Places.{put_here, put_new}
use Rattle.write_set.proofs.table.put_value.Goals as goal

-- the value is written over the one that was there
pub returns-in-Ok-clause-items : goal.returns-in-Ok-clause-items
returns-in-Ok-clause-items g c =
    let l = c.args.entries.now.items in
    let at : StandsAt l c.args.row c.in-Ok.place = subst (λ k. StandsAt k c.args.row c.in-Ok.place) c.as_slice.ensures.value c.in-Ok.ensures.found in
    ap (λ e. set l c.in-Ok.place (e.0, c.args.value)) c.index_mut.ensures.value ∙ put_here c.args.row c.args.value l c.in-Ok.place c.index_mut.result.now at

-- the entry is new
pub returns-in-Err-clause-items : goal.returns-in-Err-clause-items
returns-in-Err-clause-items g c =
    let l = c.args.entries.now.items in
    let at : FitsAt l c.args.row c.in-Err.place = subst (λ k. FitsAt k c.args.row c.in-Err.place) c.as_slice.ensures.value c.in-Err.ensures.absent in
    rw c.unwrap.ensures at c.insert.ensures.items ∙ put_new c.args.row c.args.value l c.in-Err.place at

pub returns-in-Ok-clause-rising : goal.returns-in-Ok-clause-rising
returns-in-Ok-clause-rising g c = subst Rises (sym (returns-in-Ok-clause-items g c)) (rises_put c.args.row c.args.value c.args.entries.now.items c.requires.rising)

pub returns-in-Err-clause-rising : goal.returns-in-Err-clause-rising
returns-in-Err-clause-rising g c = subst Rises (sym (returns-in-Err-clause-items g c)) (rises_put c.args.row c.args.value c.args.entries.now.items c.requires.rising)
