use Rattle.std.proofs.Common.{◌∷◌, [], ◌≡◌, ◌++◌, string_bytes}
use Rattle.std.specs.Prelude.{codes}
use Rattle.std.specs.Fmt.{decimal}
use Rattle.geo_base.specs.Texts.{row_text}
use Rattle.geo_world.specs.Lines.{duplicate}
use Rattle.geo_world.proofs.LineLemmas.{duplicate-joined}
use Rattle.geo_world.proofs.printing.print_duplicate.Goals as goal

pub returns : goal.returns
unfolding duplicate
returns c =
    let key : string_bytes c.print_row.new.out ≡ string_bytes c.write.new.self ++ row_text c.cells.result.now = c.in_ok-print_row.ensures in
    duplicate-joined _ _ _ _ (decimal c.args.region) (codes ".") (decimal c.args.session) (codes " ") (codes "refused 30 Duplicate ") (codes "kv")
    (row_text c.args.row.now.key) (10 ∷ [])
    c.in_ok-write.ensures.bytes (rw c.cells.ensures.value at key) c.in_ok-writeln.ensures.bytes
