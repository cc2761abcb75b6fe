-- Kind 6: the rules give the marks and the open word that one step gives. Every start is accepted, and its check is pending in the next cycle
-- alone, so only the start of the cycle before can fail, and the word holds the value that it stored. Assumes nothing.
use Prim.Native.Nat.{ℕ, zero, suc, ◌+◌, ◌-◌, ◌^◌, ◌<◌}
use mathlib.Core.Path.{◌≡◌, refl, sym, ap, ap₂, ◌∙◌}
use mathlib.Core.Bool.{Bool, true, false, not, ◌&&◌, ◌||◌, cond, and-true, and-false, and_assoc, or-false}
use native.Mathlib.Omega.{arith}
use lib.Dec.{ltb, eqb}
use borrow.Author.Tests.{lt-ltb, eq-eqb, ne_eqb}
use Rattle.bits.specs.Bits.{some}
use Rattle.bits.proofs.Tests.{some-none}
use Rattle.rules.specs.declared.config.Config.{Config}
use Rattle.rules.specs.Config.{family}
use Rattle.rules.specs.Config.Family.{transition}
use Rattle.rules.specs.Frame.{Trace, up, P, R, known_p, known_r}
use Rattle.rules.specs.Checks.{Checks, accepted, fails, doubts}
use Rattle.rules.specs.Transition.{in_start_state, stored_check, transition_checks, stored}
use Rattle.rules.specs.Rules.{check_marks, marks_of, open_of, going_word, going_word_before}
use Rattle.rules.specs.Step.{pends, step_marks_of, step_open_of}
use Rattle.rules.proofs.Accepted.{accepted-law, fails-earlier}

-- a value is stored, which a word above 0 says
value-stored : (a : Bool) (r : ℕ) → ltb 0 (cond a (2 ^ 32 + r) 0) ≡ a
value-stored true r = lt-ltb 0 (2 ^ 32 + r) (omega arith)
value-stored false r = refl

-- and the known test differs from it
pub value-fails : (a k : Bool) (p r : ℕ)
    → (a && (k && not (eqb p r))) ≡ (ltb 0 (cond a (2 ^ 32 + r) 0) && (k && not (eqb p (cond a (2 ^ 32 + r) 0 - 2 ^ 32))))
value-fails true k p r =
    let e : 2 ^ 32 + r - 2 ^ 32 ≡ r = omega arith in
    sym (ap₂ (λ (b : Bool) (n : ℕ). b && (k && not (eqb p n))) (lt-ltb 0 (2 ^ 32 + r) (omega arith)) e)
value-fails false k p r = refl

in-reset : (u e k : Bool) (x : ℕ) → cond u (cond ((u && e) && k) x 0) 0 ≡ cond ((u && e) && k) x 0
in-reset true e k x = refl
in-reset false e k x = refl

module _ (c : Config) (tr : Trace) where
  abbrev checks : Checks
  checks = transition_checks c tr

  -- every start is accepted
  start-accepted : (t : ℕ) → accepted checks t ≡ (up (tr t) && in_start_state c (tr t))
  unfolding transition_checks stored_check
  start-accepted t = accepted-law checks t ∙ and-true (up (tr t) && in_start_state c (tr t))

  started : (t : ℕ) → up (tr t) ≡ true → accepted checks t ≡ in_start_state c (tr t)
  started t u = start-accepted t ∙ rw u refl

  module _ (k : family c.kind ≡ transition) where
    -- in reset no start is accepted, so the open word is what is stored there too
    pub word-stored : (t : ℕ) → going_word c tr t ≡ stored c tr t
    unfolding going_word open_of stored
    word-stored t = rw (k, start-accepted t) (in-reset (up (tr t)) (in_start_state c (tr t)) (known_r c (tr t)) (2 ^ 32 + R c (tr t)))

    -- a check is tested in the cycle after its start alone
    not-now : (t : ℕ) → stored_check c tr t t ≡ false
    unfolding stored_check
    not-now t = rw (ne_eqb t (suc t) (omega arith)) refl

    long-ago : (s i : ℕ) → i < s → stored_check c tr i (suc s) ≡ false
    unfolding stored_check
    long-ago s i l = rw (ne_eqb (suc s) (suc i) (omega arith)) refl

    next-cycle : (s : ℕ) → stored_check c tr s (suc s) ≡ known_r c (tr s)
    unfolding stored_check
    next-cycle s = rw (eq-eqb (suc s) (suc s) refl) refl

    failure-law : (t : ℕ) → up (tr t) ≡ true
        → fails checks t ≡ (ltb 0 (going_word_before c tr t) && (known_p c (tr t) && not (eqb (P c (tr t)) (going_word_before c tr t - 2 ^ 32))))
    unfolding some going_word_before transition_checks stored
    failure-law zero u = fails-earlier checks 0 (rw (u, not-now 0) (and-false (accepted checks 0)))
    failure-law (suc s) u =
        fails-earlier checks (suc s) (rw (u, not-now (suc s)) (and-false (accepted checks (suc s))))
        ∙ rw (older, u, next-cycle s, word-stored s, ← and_assoc)
        (value-fails (accepted checks s && known_r c (tr s)) (known_p c (tr (suc s))) (P c (tr (suc s))) (R c (tr s)))
      where
        failed : ℕ → Bool
        failed i = accepted checks i && checks.violated i (suc s)

        older : some s failed ≡ false
        older = some-none s failed (λ i l. rw (u, long-ago s i l) (and-false (accepted checks i)))

    -- the test of the start before is unknown
    test-doubt : (t : ℕ) → up (tr t) ≡ true
        → some t (λ s. accepted checks s && checks.doubtful s t) ≡ (ltb 0 (going_word_before c tr t) && not (known_p c (tr t)))
    unfolding some going_word_before transition_checks stored
    test-doubt zero u = refl
    test-doubt (suc s) u =
        let unclear = not (known_p c (tr (suc s))) in
        rw (older, u, next-cycle s, ne_eqb (suc s) s (omega arith), word-stored s, value-stored (accepted checks s && known_r c (tr s)) (R c (tr s)))
        (ap (λ (b : Bool). accepted checks s && b) (or-false (known_r c (tr s) && unclear)) ∙ sym (and_assoc (accepted checks s) (known_r c (tr s)) unclear))
      where
        doubted : ℕ → Bool
        doubted i = accepted checks i && checks.doubtful i (suc s)

        older : some s doubted ≡ false
        older = some-none s doubted (λ i l. rw (u, long-ago s i l, ne_eqb (suc s) i (omega arith)) (and-false (accepted checks i)))

    -- or the next state of this start
    doubt-law : (t : ℕ) → up (tr t) ≡ true
        → doubts checks t ≡ ((ltb 0 (going_word_before c tr t) && not (known_p c (tr t))) || (in_start_state c (tr t) && not (known_r c (tr t))))
    unfolding doubts some transition_checks
    doubt-law t u = rw (test-doubt t u, u, not-now t, eq-eqb t t refl, started t u) refl

    pub transition-open : (t : ℕ) → up (tr t) ≡ true → open_of transition c tr t ≡ step_open_of c (going_word_before c tr t) (tr t) transition
    unfolding open_of stored step_open_of
    transition-open t u = rw (started t u) refl

    pub transition-marks : (t : ℕ) → up (tr t) ≡ true → marks_of transition c tr t ≡ step_marks_of c (going_word_before c tr t) (tr t) transition
    unfolding marks_of step_marks_of pends
    transition-marks t u i = check_marks (failure-law t u i) (started t u i) (doubt-law t u i)
