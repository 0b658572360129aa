-- What the sinks of the program's edge hold.
use Rattle.std.specs.Prelude.{ℕ, List}
use Rattle.std.specs.Io.Buffered.{writer_buffer}
use Rattle.std.specs.declared.io.buffered.BufWriter.{BufWriter}
use Rattle.geo_io.specs.declared.std_edge.StdSink.{StdSink}

-- the bytes that the sink was given and that its buffer has not yet handed on
abbrev pub held_back : {W A : Type 0} → StdSink (BufWriter W A) → List ℕ
held_back sink = writer_buffer sink.writer
