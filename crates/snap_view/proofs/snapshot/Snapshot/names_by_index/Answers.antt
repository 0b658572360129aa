use Rattle.std.proofs.Common.{Contains, map, sym, ap, ◌∙◌, subst}
use Rattle.std.proofs.lemmas.Result.{MatchResult-weaker}
use Rattle.geo_schema.specs.Indexes.{index_at}
use Rattle.geo_schema.specs.Schemas.{table_at}
use Rattle.index_store.specs.Ranges.{AreKeysIn}
use Rattle.row_source.specs.Handing.{row_named}
use Rattle.snap_view.specs.Snapshots.{Held, IsSnapshot, rows_of}
use Rattle.snap_view.specs.inner.Naming.{AreNamesIn}
use Rattle.snap_view.proofs.Named.{are_names, named_by_pairs, named_lent}
use Rattle.snap_view.proofs.snapshot.Snapshot.names_by_index.Goals as goal

pub returns-clause-names : goal.returns-clause-names
returns-clause-names c =
    MatchResult-weaker c.names_of.result c.names_of.ensures
    (λ names is.
    subst (AreNamesIn c.args.table (index_at (table_at c.args.schema.now c.args.table) c.args.index) c.args.range.now (rows_of c.args.self.now))
    (sym
    (is
    ∙ (ap (map (λ key. row_named c.args.table key.now)) c.as_slice.ensures.value
    ∙ named_lent (λ key. key.now) c.args.table c.in_ok-keys.keys.items)))
    (are_names c.args.schema.now c.args.self.now c.args.table c.args.index c.args.range.now (map (λ key. key.now) c.in_ok-keys.keys.items)
    (subst IsSnapshot c.self.view_is c.self.invariant) c.requires.held c.requires.index
    (subst (λ (held : Held). AreKeysIn c.args.table c.args.index c.args.range.now held.pairs (map (λ key. key.now) c.in_ok-keys.keys.items)) c.self.view_is c.in_ok-keys.ensures.keys)))
    (λ e none. none)

pub returns-clause-only : goal.returns-clause-only
returns-clause-only c =
    MatchResult-weaker c.names_of.result c.names_of.ensures
    (λ names is row among.
    named_by_pairs c.args.table c.args.index c.args.range.now c.args.self.now.pairs (map (λ key. key.now) c.in_ok-keys.keys.items)
    (subst (λ (held : Held). AreKeysIn c.args.table c.args.index c.args.range.now held.pairs (map (λ key. key.now) c.in_ok-keys.keys.items)) c.self.view_is c.in_ok-keys.ensures.keys)
    row
    (subst (λ rows. Contains rows row)
    (is
    ∙ (ap (map (λ key. row_named c.args.table key.now)) c.as_slice.ensures.value
    ∙ named_lent (λ key. key.now) c.args.table c.in_ok-keys.keys.items)) among))
    (λ e none. none)
