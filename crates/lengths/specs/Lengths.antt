-- The lengths that are due, and the refusals of a full check, from document 01, "The words of demand 3" and "What the viewer calls". Assumes nothing.
use Rattle.std.specs.Prelude.{ℕ, Bool, ◌&&◌, cond, List, eqb, length}
use Rattle.rules.specs.declared.config.Config.{Config}
use Rattle.rules.specs.Config.{config_refusal}
use Rattle.trace.specs.Traces.{frames, trace_fits}

-- the lengths that are due: "N rows of 32 bits and N open words of 64 bits"
unfoldable pub record_fits : List ℕ → List ℕ → List ℕ → Bool
record_fits trace rows words = eqb (length rows) (frames trace) && eqb (length words) (frames trace)

-- refusals 1, 2, 3, 4 and 5, in that order
unfoldable pub check_refusal : Config → List ℕ → List ℕ → List ℕ → ℕ
check_refusal c trace rows words =
    cond (eqb (config_refusal c) 0) (cond (trace_fits trace) (cond (record_fits trace rows words) 0 5) 4) (config_refusal c)
