use Rattle.std.proofs.Common.{◌≡◌, ◌+◌, ◌<◌, ◌^◌, length}
use Rattle.geo_schema.specs.Schemas.{IsSchema, shown_only}
use Rattle.geo_script.specs.inner.Answers.{spoken, number_after}
use Rattle.geo_script.specs.inner.Scripts.{head_of}
use Rattle.geo_script.proofs.reading.declared.read_tables.Given as goal

abbrev pub invariant-loop-next : goal.invariant-loop-next
invariant-loop-next l = record {
  read : head_of (number_after l.fn.rest) l.initial.tables.items (spoken l.fn.rest) ≡ head_of (number_after l.fn.rest) l.tables.items (spoken l.ahead);
  number : number_after l.ahead ≡ number_after l.fn.rest;
  schema : IsSchema (shown_only l.tables.items);
  room : l.ahead.number + length l.ahead.bytes.now < 2 ^ 32;
}

abbrev pub decreases-loop-next : goal.decreases-loop-next
decreases-loop-next l = length l.ahead.bytes.now
