-- What a piece and the end leave, which the proofs of the calls cite. Assumes nothing.
use mathlib.Core.Path.{◌≡◌, refl, ◌∙◌}
use mathlib.Core.List.{List}
use Prim.Native.Nat.{ℕ}
use Rattle.dump_reader.specs.Machine.{All, feed, finish}
use Rattle.dump_load.specs.declared.answer.Loaded.{Loaded}
use Rattle.dump_load.specs.Loading.{answered}
use Rattle.dump_state.specs.declared.state.State.{State}
use Rattle.dump_state.specs.Pieces.{held, behind, fed_state, behind_end, ended_state}

module _ (s : State) (frames : List ℕ) (z : All) (t : State) (x : Loaded) (e : x ≡ answered z.reader) where
  pub fed-made : (bytes : List ℕ) → z ≡ feed (held s frames) bytes → t ≡ behind s z x → (record { state = t; answer = x } ≡ fed_state s (feed (held s frames) bytes)) × (z.frames ≡ (feed (held s frames) bytes).frames)
  fed-made bytes f h = rw (← f, h) (rw e refl, refl)

  pub ended-made : z ≡ finish (held s frames) → (y : Loaded) → y ≡ behind_end x → t ≡ behind s z y → (record { state = t; answer = x } ≡ ended_state s (finish (held s frames))) × (z.frames ≡ (finish (held s frames)).frames)
  ended-made f y g h = rw (← f, h) (rw (g, e) refl, refl)
