-- A recheck of another trace of the same length, with the same record, is refused alike. Assumes nothing.
use Prim.Native.Nat.{ℕ, ◌≤◌}
use mathlib.Core.Path.{◌≡◌, sym, ◌∙◌}
use mathlib.Core.List.{List}
use mathlib.Core.Logic.{⊎_elim}
use native.Mathlib.Omega.{arith}
use borrow.Author.Tests.{eqb-true, eqb-false, ltb-true, ltb-false}
use lib.Dec.{eqb, ltb}
use lib.ListN.{length}
use Rattle.bits.proofs.Tests.{either, of-false}
use Rattle.rules.specs.declared.config.Config.{Config}
use Rattle.trace.specs.Traces.{frames, trace_fits}
use Rattle.lengths.specs.Lengths.{record_fits}
use Rattle.recheck_refusals.specs.Refusals.{recheck_refusal, LowestImpossible, Named}

pub refused-alike : (config : Config) (trace trace' rows words : List ℕ) (a b : ℕ) → length trace ≡ length trace'
    → recheck_refusal config trace rows words a b ≡ recheck_refusal config trace' rows words a b
unfolding recheck_refusal record_fits trace_fits frames
refused-alike config trace trace' rows words a b e = rw e

-- one cycle is the lowest
lowest-once : {config : Config} {words : List ℕ} {t t' : ℕ} → LowestImpossible config words t → LowestImpossible config words t' → t' ≤ t
lowest-once {t = t} {t' = t'} l l' =
    ⊎_elim (λ p. absurd (of-false l.impossible (l'.lower_possible t (ltb-true t t' p)))) (ltb-false t t') (either (ltb t t'))

pub named-alike : {config : Config} {words : List ℕ} {r t t' : ℕ} → Named config words r t → Named config words r t' → t' ≡ t
named-alike {r = r} n n' =
    ⊎_elim (λ p. let z = eqb-true r 7 p in omega (arith, lowest-once (n.spoiled z) (n'.spoiled z), lowest-once (n'.spoiled z) (n.spoiled z)))
    (λ p. let h = eqb-false r 7 p in n'.otherwise h ∙ sym (n.otherwise h)) (either (eqb r 7))
