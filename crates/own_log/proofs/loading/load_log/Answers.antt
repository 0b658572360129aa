use Rattle.std.proofs.Common.{Vec, Global}
use Rattle.write_set.specs.declared.batch.Batch.{Batch}
use Rattle.own_log.proofs.Loaded.{only_of, refused_of, named_no_want}
use Rattle.own_log.proofs.loading.load_log.Goals as goal

pub returns-clause-only : goal.returns-clause-only
returns-clause-only g c =
    only_of c.args.schema.now c.args.regions c.args.region (λ (batches : Vec Batch Global). batches.items) c.count-tables.ensures.schema (g.L.Keepers.lists c.args.logs.now) c.load_entries.result c.load_entries.ensures.spelled c.load_entries.ensures.fault

pub returns-clause-refused : goal.returns-clause-refused
returns-clause-refused g c =
    refused_of c.args.schema.now c.args.regions c.args.region (λ (batches : Vec Batch Global). batches.items) c.count-tables.ensures.schema (g.L.Keepers.lists c.args.logs.now) c.load_entries.result c.load_entries.ensures.spelled c.load_entries.ensures.fault

pub returns-clause-no_want : goal.returns-clause-no_want
returns-clause-no_want g c = named_no_want c.load_entries.result c.load_entries.ensures.no_want
