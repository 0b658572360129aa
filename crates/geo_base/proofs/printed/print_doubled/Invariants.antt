use Rattle.std.proofs.Common.{◌≡◌, ◌++◌, length, string_bytes}
use Rattle.std.specs.Str.{IsUtf8}
use Rattle.geo_base.specs.Texts.{doubled}
use Rattle.geo_base.proofs.printed.print_doubled.Given as goal

abbrev pub invariant-loop-before : goal.invariant-loop-before
invariant-loop-before l = record {
  text : IsUtf8 l.rest;
  joined : string_bytes l.out ++ doubled l.rest ≡ string_bytes l.fn.out ++ doubled l.fn.text;
}

abbrev pub decreases-loop-before : goal.decreases-loop-before
decreases-loop-before l = length l.rest
