-- An insert is refused where its row is there, and else taken.
use Rattle.std.proofs.Common.{◌≡◌, ◌<◌, [], ◌∷◌, ℤ, false, refl, sym, ap, ap₂, subst, ◌∙◌, List, is_some, to_z, of_z, to_z-of_z, w64, FitsSigned, length}
use Rattle.std.proofs.lemmas.Result.{on_ok_weaker}
use Rattle.write_set.specs.Overlay.{image_in}
use Rattle.write_set.specs.declared.candidate.Candidate.{Candidate}
use Rattle.geo_world.specs.declared.region.Region.{Region}
use Rattle.geo_world.specs.Step.{put_candidate}
use Rattle.geo_world.specs.inner.Regions.{Takes}
use Rattle.geo_base.specs.declared.cell.Cell.{Cell}
use Rattle.geo_world.specs.Tables.{kv_cells}
use Rattle.geo_world.proofs.OneTable.{kv_fitting, kv_named}
use Rattle.write_set.specs.declared.change.Change.TheVariants.{Put}
use Rattle.geo_world.proofs.Asking.{session-within, region-read, region-stands, read-same, duplicate-makes, insert-makes}
use Rattle.geo_world.proofs.SealingLemmas.{waiting-fits}
use Rattle.geo_world.proofs.world.World.insert.Goals as goal

-- numbers are what their bits say
cells_are : (key value : ℤ) (image : List Cell) → FitsSigned w64 key → FitsSigned w64 value → image ≡ kv_cells (to_z w64 (of_z w64 key)) (to_z w64 (of_z w64 value)) → image ≡ kv_cells key value
cells_are key value image k v is = is ∙ ap₂ kv_cells (to_z-of_z {w = w64} {z = key} k) (to_z-of_z {w = w64} {z = value} v)

pub row_of-requires-clause-fits : goal.row_of-requires-clause-fits
row_of-requires-clause-fits c = kv_fitting c.args.key c.args.value c.in_ok-image.image (cells_are c.args.key c.args.value c.in_ok-image.image c.ranges.key c.ranges.value c.in_ok-image.ensures)

pub take-requires : goal.take-requires
take-requires c =
    let here = region-stands c.requires.stands.0 c.args.self.now c.args.number c.index_mut.result.now c.requires.stands.1 c.requires.region c.index_mut.ensures.value in
    record {
      few = waiting-fits c.requires.stands.0 c.args.self.now c.args.number c.index_mut.result.now c.requires.stands.1 c.requires.region here;
      session = session-within c.args.session c.index_mut.result.now c.requires.stands.0 c.args.number here c.requires.session;
    }

pub returns-then-has_row-clause-step : goal.returns-then-has_row-clause-step
returns-then-has_row-clause-step c = λ w s idle. on_ok_weaker c.print_duplicate.result
    (duplicate-makes w c.args.self.now c.args.number c.args.session c.args.key c.args.value c.index-region.result.now c.in_ok-row.row _ _ s
    (region-stands w c.args.self.now c.args.number c.index-region.result.now s c.requires.region c.index-region.ensures)
    (kv_named c.args.key c.args.value c.in_ok-image.image c.in_ok-row.row
    (cells_are c.args.key c.args.value c.in_ok-image.image c.ranges.key c.ranges.value c.in_ok-image.ensures) c.in_ok-row.ensures)
    (sym c.if-has_row.ensures))
    c.print_duplicate.ensures

pub returns-clause-step : goal.returns-clause-step
returns-clause-step c = λ w s idle.
    let old : c.index-region.result.now ≡ c.index_mut.result.now =
    read-same c.args.self.now c.args.number c.index-region.result.now c.index_mut.result.now c.requires.region c.index-region.ensures c.index_mut.ensures.value in
    let image = cells_are c.args.key c.args.value c.in_ok-image.image c.ranges.key c.ranges.value c.in_ok-image.ensures in
    let row = kv_named c.args.key c.args.value c.in_ok-image.image c.in_ok-row.row image c.in_ok-row.ensures in
    let put : c.in_ok-candidate.candidate ≡ put_candidate c.epoch-start.result c.args.key c.args.value =
    c.in_ok-candidate.ensures ∙ (λ i. record { start = c.epoch-start.result; set = (row i, Put (image i)) ∷ [] }) in
    let takes : Takes c.args.number c.args.session (put_candidate c.epoch-start.result c.args.key c.args.value) c.in_ok-ticket.ticket c.index_mut.result.now c.take.new.self =
    subst (λ (x : Candidate). Takes c.args.number c.args.session x c.in_ok-ticket.ticket c.index_mut.result.now c.take.new.self) put c.in_ok-ticket.ensures in
    let within : c.args.number < length c.args.self.now.regions.items =
    subst (λ n. c.args.number < n) c.args.self.now.regions.ok.0 c.requires.region in
    on_ok_weaker c.print_changed_one.result
    (insert-makes w c.args.self.now _ c.args.number c.args.session c.epoch-start.result c.args.key c.args.value c.in_ok-ticket.ticket c.in_ok-row.row
    c.index_mut.result.now c.take.new.self _ _ s c.requires.region c.requires.session idle
    (region-read c.args.self.now c.args.number c.index_mut.result.now c.requires.region c.index_mut.ensures.value)
    row
    (subst (λ (r : Region). is_some (image_in r.plain.rows c.in_ok-row.row) ≡ false) old (sym c.if-has_row.ensures))
    (c.epoch-start.ensures ∙ ap (λ (r : Region). r.plain.epoch) old)
    takes (record { schema = refl; last = refl; regions = refl; within = within }) refl)
    c.print_changed_one.ensures
