-- What a sink in memory is.
use Rattle.std.specs.Prelude.{ℕ, List}
use Rattle.som_io.specs.Calls.{Calls, counted_by}
use Rattle.som_io.specs.declared.mem_sink.MemSink.{MemSink}

-- the bytes written so far
abbrev pub bytes_of : MemSink → List ℕ
bytes_of sink = sink.bytes

-- its writes
abbrev pub calls_of : MemSink → Calls
calls_of sink = counted_by sink.counter
