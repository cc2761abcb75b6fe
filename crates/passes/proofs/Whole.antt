-- A pass over a whole trace: it starts with the word 0, and when it has come to the last cycle, what it has counted or stored are the entries of the trace.
-- Assumes nothing.
use Prim.Native.Nat.{ℕ, ◌+◌, ◌-◌, ◌*◌, ◌≤◌, ◌<◌}
use mathlib.Core.Path.{◌≡◌, refl, ap, ◌∙◌}
use mathlib.Core.List.{List}
use native.Mathlib.Omega.{arith}
use lib.ListN.{length}
use lib.Seq.{sets}
use mir.Syntax.{w64}
use mir.Val.{Fits}
use Rattle.rules.specs.declared.config.Config.{Config}
use Rattle.rules.specs.Config.{Good}
use Rattle.rules.specs.Rules.{word_before}
use Rattle.trace.specs.Traces.{frames, frame_at}
use Rattle.listed.specs.Lists.{Entry, words_of}
use Rattle.blocks.specs.Blocks.{entries_from, Passing}
use Rattle.blocks.proofs.Stretches.{entries-all}
use Rattle.passes.specs.Listed.{failures_of}
use Rattle.passes.specs.Visits.{CountDoes, WriteDoes}

-- ---- numbers of a pass: it has come to cycle t of n, and goes m cycles on

pub place-fits : {t n : ℕ} → t ≤ n → n ≤ 65536 → Fits w64 t
place-fits h l = omega arith

pub left-falls : (n t m : ℕ) → t < n → 0 < m → n - (t + m) < n - t
left-falls n t m l h = omega arith

pub all-passed : {t n : ℕ} → n ≤ t → t ≤ n → t ≡ n
all-passed h l = omega arith

-- ---- a whole trace

module _ (c : Config) (trace : List ℕ) where
  pub passing-none : Good c → frames trace ≤ 65536 → Passing c trace 0 0
  unfolding word_before
  passing-none good short = record { good = good; short = short; word_is = refl }

  entries-are : entries_from c (frame_at trace) 0 (frames trace) ≡ failures_of c trace
  unfolding failures_of
  entries-are = entries-all c (frame_at trace) (frames trace)

  pub counted-all : {list list' : List ℕ} {count : ℕ} → frames trace ≤ 65536 → CountDoes c (frame_at trace) 0 (frames trace) list 0 list' count
      → (count ≡ length (failures_of c trace)) × (count ≤ 64 * 65536)
  counted-all short d = (omega (arith, d.next_is, d.counted.is, ap length entries-are), omega (arith, d.next_is, d.counted.few))

  pub stored-all : {list list' : List ℕ} {at : ℕ} → WriteDoes c (frame_at trace) 0 (frames trace) list 0 list' at → list' ≡ sets list 0 (words_of (failures_of c trace))
  stored-all {list} s = s.list_is ∙ ap (λ (es : List Entry). sets list 0 (words_of es)) entries-are
