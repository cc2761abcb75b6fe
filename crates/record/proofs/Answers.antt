-- The answers of the full check. Assumes nothing.
use Prim.Native.Nat.{ℕ}
use mathlib.Core.Path.{◌≡◌, refl, sym}
use mathlib.Core.List.{List}
use Rattle.rules.specs.declared.config.Config.{Config}
use Rattle.lengths.specs.Lengths.{check_refusal}
use Rattle.record.specs.Records.{TrueRecord, CheckAnswer}

pub not-checked : (c : Config) (trace rows words : List ℕ) (r : ℕ) → r ≡ check_refusal c trace rows words → (r ≡ 0 → ⊥)
    → CheckAnswer c trace rows words rows words r
not-checked c trace rows words r e h = record { refusal_is = e; done = λ z. absurd (h z); rows_kept = λ _. refl; words_kept = λ _. refl }

pub checked : (c : Config) (trace rows words rows' words' : List ℕ) → check_refusal c trace rows words ≡ 0 → TrueRecord c trace rows' words'
    → CheckAnswer c trace rows words rows' words' 0
checked c trace rows words rows' words' z t = record {
  refusal_is = sym z;
  done = λ _. t;
  rows_kept = λ h. absurd (h refl);
  words_kept = λ h. absurd (h refl);
}
