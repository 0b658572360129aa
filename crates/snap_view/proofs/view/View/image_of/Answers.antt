use Rattle.std.proofs.Common.{◌≡◌, None, Some, rules, ◌∙◌, subst}
use Rattle.std.specs.Option.{option_copied}
use Rattle.write_set.specs.declared.change.Change.TheVariants.{Put, Remove, Touch}
use Rattle.write_set.specs.Net.{change_in}
use Rattle.write_set.specs.Overlay.{image_in}
use Rattle.snap_view.specs.Snapshots.{rows_of}
use Rattle.snap_view.specs.Views.{Viewed, seen_rows}
use Rattle.snap_view.proofs.Looked.{no_image, seen_image}
use Rattle.snap_view.proofs.view.View.image_of.Goals as goal

pub returns-in-Some-Put : goal.returns-in-Some-Put
returns-in-Some-Put c =
    let put : Some (Put c.in-Some-Put.image) ≡ change_in c.self.inside.own.now c.args.row.now = search rules in
    subst (λ (v : Viewed). Some c.in-Some-Put.image ≡ image_in (seen_rows v) c.args.row.now) c.self.view_is
    (seen_image (rows_of c.self.inside.snapshot.now) c.self.inside.own.now c.self.invariant.base_rises c.self.invariant.own_rises c.args.row.now (Some (Put c.in-Some-Put.image)) put)

pub returns-in-Some-Remove : goal.returns-in-Some-Remove
returns-in-Some-Remove c =
    let removed : Some Remove ≡ change_in c.self.inside.own.now c.args.row.now = search rules in
    subst (λ (v : Viewed). no_image ≡ image_in (seen_rows v) c.args.row.now) c.self.view_is
    (seen_image (rows_of c.self.inside.snapshot.now) c.self.inside.own.now c.self.invariant.base_rises c.self.invariant.own_rises c.args.row.now (Some Remove) removed)

pub returns-in-Some-Touch : goal.returns-in-Some-Touch
returns-in-Some-Touch c =
    let touched : Some Touch ≡ change_in c.self.inside.own.now c.args.row.now = search rules in
    subst (λ (v : Viewed). option_copied c.read.result ≡ image_in (seen_rows v) c.args.row.now) c.self.view_is
    (c.read.ensures.rows
    ∙ seen_image (rows_of c.self.inside.snapshot.now) c.self.inside.own.now c.self.invariant.base_rises c.self.invariant.own_rises c.args.row.now (Some Touch) touched)

pub returns-in-None : goal.returns-in-None
returns-in-None c =
    let nothing : None ≡ change_in c.self.inside.own.now c.args.row.now = search rules in
    subst (λ (v : Viewed). option_copied c.read-in-None.result ≡ image_in (seen_rows v) c.args.row.now) c.self.view_is
    (c.read-in-None.ensures.rows
    ∙ seen_image (rows_of c.self.inside.snapshot.now) c.self.inside.own.now c.self.invariant.base_rises c.self.invariant.own_rises c.args.row.now None nothing)
