use Rattle.std.proofs.Common.{map, ap, ◌∙◌, subst}
use Rattle.std.proofs.lemmas.Result.{MatchResult-weaker}
use Rattle.write_set.specs.Overlay.{Table}
use Rattle.page_map.specs.Borders.{pairs_between}
use Rattle.version_store.specs.History.{Kept, IsKept}
use Rattle.version_store.specs.laws.Listing.{table_is_snapshot}
use Rattle.version_store.proofs.Listed.{listed_range}
use Rattle.version_store.proofs.versions.Versions.rows_between.Goals as goal

pub returns-clause-kept : goal.returns-clause-kept
returns-clause-kept g c =
    MatchResult-weaker c.rows_at.result c.rows_at.ensures
    (λ found is.
    is
    ∙ listed_range (g.A.Border.before c.args.first.now) (g.B.Border.before c.args.last.now) c.args.epoch c.args.self.now.rows c.self.inside.rows _
    c.place_where.result c.place_where-2.result c.requires.first c.requires.last (ap (λ (k : Kept). k.rows) c.self.view_is) c.place_where.ensures c.place_where-2.ensures
    (ap (map (λ p. (p.0.now, p.1.now))) c.as_slice.ensures.value ∙ c.in_ok-pairs.ensures))
    (λ e none. none)

pub returns-clause-snapshot : goal.returns-clause-snapshot
returns-clause-snapshot g c journal history =
    MatchResult-weaker c.rows_at.result (returns-clause-kept g c)
    (λ found is.
    is
    ∙ ap (λ (table : Table). pairs_between (g.A.Border.before c.args.first.now) (g.B.Border.before c.args.last.now) table)
    (table_is_snapshot journal c.args.self.now c.args.epoch (subst IsKept c.self.view_is c.self.invariant.0) history c.requires.from c.requires.upto))
    (λ e none. none)
