-- A lent trace as frames, from document 01, "Wires, buses and frames" and "Refusal numbers". Assumes nothing.
use Rattle.std.specs.Prelude.{ℕ, zero, suc, ◌*◌, ◌/◌, ◌%◌, Bool, ◌&&◌, List, [], ◌∷◌, eqb, leb, length, get_or}
use Rattle.rules.specs.declared.frame.Frame.{Frame}
use Rattle.rules.specs.Frame.{frame_words}

-- "A trace is a lent slice of N frames, 4N words"
unfoldable pub frames : List ℕ → ℕ
frames trace = length trace / frame_words

-- k words of a trace, from word `at` on
unfoldable pub cut : ℕ → List ℕ → ℕ → List ℕ
cut zero trace at = []
cut (suc k) trace at = get_or trace at 0 ∷ cut k trace (suc at)

-- the frame of cycle t: "reset, P, Q, R"
unfoldable pub frame_at : List ℕ → ℕ → Frame
frame_at trace t = record { samples = cut frame_words trace (frame_words * t) }

-- "4: trace not a multiple of 4 words, or N above 65,536". Whether the trace is accepted.
unfoldable pub trace_fits : List ℕ → Bool
trace_fits trace = eqb (length trace % frame_words) 0 && leb (frames trace) 65536
