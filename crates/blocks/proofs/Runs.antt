-- A block is a stretch of the trace, entered with the rules' word, so that its rows and words are the rules'. It need not stop, and comes to its end.
-- Assumes nothing.
use Prim.Native.Nat.{ℕ, suc, ◌+◌, ◌-◌, ◌≤◌, ◌<◌, min, zero-le}
use mathlib.Core.Path.{◌≡◌, refl, sym, ap, ◌∙◌}
use mathlib.Core.Bool.{false}
use mathlib.Core.List.{List}
use native.Mathlib.Nat.{add-zero}
use native.Mathlib.Omega.{arith}
use lib.ListN.{length}
use Rattle.rules.specs.declared.config.Config.{Config}
use Rattle.rules.specs.Rules.{word_before}
use Rattle.rules.proofs.Reached.{before-possible}
use Rattle.trace.specs.declared.stretch.Stretch.{Stretch}
use Rattle.trace.specs.declared.stretch.Reached.{Reached}
use Rattle.trace.specs.Traces.{frames, frame_at}
use Rattle.trace.specs.Stretches.{Runnable, Ran}
use Rattle.trace.proofs.Running.{ran-all}
use Rattle.trace.proofs.Followed.{stretch-words, stretch-rows}
use Rattle.marked.specs.Picks.{block_cycles, Picks}
use Rattle.blocks.specs.Blocks.{Passing, Block}

-- the cycles of a block from t on, in a trace of n cycles: those that are left, or as many as a block can have
pub block_fits : (n t m : ℕ) → t < n → m ≡ min (n - t) block_cycles → (t + m ≤ n) × (m ≤ block_cycles) × (0 < m)
block_fits n t m h e = (omega arith, omega arith, omega arith)

-- the stretch of n cycles from t on
abbrev pub stretch_from : ℕ → ℕ → ℕ → Stretch
stretch_from t n word = record { from = t; at = 0; to = n; stops = false; word = word; kept = 0 }

module _ {c : Config} {trace : List ℕ} {t word : ℕ} (p : Passing c trace t word) (n : ℕ) (rows words : List ℕ) (within : t + n ≤ frames trace)
    (short : n ≤ block_cycles) where
  pub runnable : length rows ≡ block_cycles → length words ≡ block_cycles → Runnable c trace rows words (stretch_from t n word)
  runnable r w = record {
    good = p.good;
    possible_word = rw p.word_is (before-possible c p.good (frame_at trace) t);
    low = zero-le;
    rows_hold = omega (arith, short, r);
    words_hold = omega (arith, short, w);
    in_trace = within;
    short = p.short;
  }

  module _ {rows' words' : List ℕ} {r : Reached} (ran : Ran c trace rows words (stretch_from t n word) rows' words' r) where
    end : r.at ≡ n
    end = ran-all ran refl

    enters : word ≡ word_before c (frame_at trace) (t + 0)
    enters = p.word_is ∙ ap (word_before c (frame_at trace)) (sym (add-zero t))

    pub block-ran : {picked : List ℕ} {marked : ℕ} → Picks rows' n picked marked → Block c trace t n rows' words' picked marked
    block-ran picks = record {
      in_trace = within;
      short = short;
      rows_are = λ k h.
          ran.come.rows_are.within k zero-le (omega (arith, h, end)) ∙ stretch-rows c p.good trace (stretch_from t n word) enters k zero-le;
      words_are = λ k h.
          ran.come.words_are.within k zero-le (omega (arith, h, end)) ∙ stretch-words c p.good trace (stretch_from t n word) enters (suc k) zero-le;
      picks = picks;
    }

    pub passed : Passing c trace (t + n) r.word
    passed = record {
      good = p.good;
      short = p.short;
      word_is =
          ran.come.word_is ∙ stretch-words c p.good trace (stretch_from t n word) enters r.at zero-le
          ∙ ap (λ (k : ℕ). word_before c (frame_at trace) (t + k)) end;
    }
