use Rattle.std.proofs.Common.{◌≡◌, ◌+◌, ◌-◌, ◌≤◌, length, drop}
use Rattle.std.specs.List.{prefix_len}
use Rattle.sql_lex.specs.inner.Quoted.{is_plain}
use Rattle.sql_lex.proofs.bytes.plain_len.Given as goal

abbrev pub invariant-loop-len : goal.invariant-loop-len
invariant-loop-len l = record {
  so_far : l.len + prefix_len is_plain (drop l.len l.bytes) ≡ prefix_len is_plain l.bytes;
  within : l.len ≤ length l.bytes;
}

abbrev pub decreases-loop-len : goal.decreases-loop-len
decreases-loop-len l = length l.bytes - l.len
