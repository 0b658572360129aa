use Rattle.std.proofs.Common.{Bor, Option, List, [], ◌∷◌, ◌++◌, ◌≡◌, map, ap, subst, ◌∙◌, IsSome, rules, Vec, Global}
use Rattle.std.proofs.lemmas.List.{map-append}
use Rattle.std.specs.Map.{lookup}
use Rattle.geo_base.specs.Order.{cell_eq}
use Rattle.geo_base.specs.declared.row_image.RowImage.{RowImage}
use Rattle.join_exec.proofs.Linked.{added}
use Rattle.join_exec.specs.inner.Linked.{found_rows}
use Rattle.join_exec.proofs.by_link.add_at.Goals as goal

abbrev images : List (Bor RowImage) → List RowImage
images rows = map (λ row. row.now) rows

abbrev found : Option (Vec (Bor RowImage) Global) → List RowImage
found entry = found_rows (λ v. images v.items) entry

pub returns-in-Some : goal.returns-in-Some
returns-in-Some c =
    let put = (c.get_mut.follows.holds c.push.new.self).3 (subst IsSome c.in-Some.ensures.value (search rules)) in
    added (λ k. k.now) (λ v. images v.items) c.args.links.now.entries _ c.args.cell c.push.new.self c.args.row.now put.1 put.3
    (ap images c.in_ok-push.ensures.items ∙ map-append (λ (row : Bor RowImage). row.now) c.in-Some.rows.now.items (c.args.row ∷ [])
    ∙ ap (λ entry. found entry ++ c.args.row.now ∷ []) c.in-Some.ensures.value)

pub returns : goal.returns
returns c =
    let put = rw c.get_mut.follows.holds-at-none at c.in_ok-insert.ensures.updates in
    let none : [] ≡ found (lookup (λ q. cell_eq c.args.cell.now q.now) c.args.links.now.entries) = ap found c.in_default.ensures.value in
    added (λ k. k.now) (λ v. images v.items) c.args.links.now.entries _ c.args.cell c.push-2.new.self c.args.row.now put.1 put.3
    (ap images (c.in_ok-push-2.ensures.items ∙ ap (λ (rows : List (Bor RowImage)). rows ++ c.args.row ∷ []) c.new-rows.ensures.items)
    ∙ ap (λ (rows : List RowImage). rows ++ c.args.row.now ∷ []) none)
