-- The failure list of a lent trace. Assumes nothing.
use Rattle.std.specs.Prelude.{ℕ, List}
use Rattle.rules.specs.declared.config.Config.{Config}
use Rattle.trace.specs.Traces.{frames, frame_at}
use Rattle.listed.specs.Lists.{Entry, failures_to}

-- the entries of its cycles
unfoldable pub failures_of : Config → List ℕ → List Entry
failures_of c trace = failures_to c (frame_at trace) (frames trace)
