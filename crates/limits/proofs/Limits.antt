-- How far beyond the edit a recheck of a true record of a checker that goes on can run: at most n−1 cycles for kinds 0 and 1, n for kind 4, and 1 for kind 6.
--
-- From b on both traces have the same frames, so both words go on by the same steps. Two possible words that take d steps on the same frames are
-- equal after them (`Merges`), so the recheck ends at b + d or before. Kinds 0 and 1: a step makes bit 0 from the frame alone and each other bit from
-- the bit below it, so after k steps the bits below k are equal. Kind 4: a start sets both words to n, and any other cycle takes 1 off both, so after
-- k steps they are equal or at most n−k. Kind 6: the word is made from the frame alone. A reset makes both 0. Assumes nothing.
use Prim.Native.Nat.{ℕ, zero, suc, ◌+◌, ◌-◌, ◌<◌, ◌≤◌}
use mathlib.Core.Path.{◌≡◌, refl, sym, ap, ◌∙◌}
use mathlib.Core.Bool.{Bool, true, false, ◌&&◌, cond, or-true, and-true}
use mathlib.Core.List.{List}
use mathlib.Core.Logic.{◌⊎◌, inl, inr, ⊎_elim}
use native.Mathlib.Nat.{add-suc, le_of_suc-le-suc, le_refl, not-suc-le-zero}
use native.Mathlib.Omega.{arith}
use borrow.Author.Tests.{leb-true, leb-false, eq-eqb, ne_eqb}
use lib.Dec.{T, leb, eqb, leb→le}
use Rattle.bits.specs.Bits.{bit}
use Rattle.bits.proofs.Bits.{bit-number, same_bits}
use Rattle.bits.proofs.Tests.{either}
use Rattle.rules.specs.declared.config.Config.{Config}
use Rattle.rules.specs.declared.frame.Frame.{Frame}
use Rattle.rules.specs.Config.{Family, family, Good}
use Rattle.rules.specs.Config.Family.{sequence, time, transition}
use Rattle.rules.specs.Frame.{Trace, up, P}
use Rattle.rules.specs.Rules.{word, word_before}
use Rattle.rules.specs.Step.{starts_attempt, attempt, start, left, step_open_of, going_step_word, step_word}
use Rattle.rules.specs.Possible.{possible_of}
use Rattle.rules.proofs.Good.{family-sequence, family-time, family-transition, possible-are}
use Rattle.rules.proofs.SequenceWords.{possible-lt}
use Rattle.rules.proofs.Severity.{goes-possible, goes-word}
use Rattle.rules.proofs.Reached.{before-possible}
use Rattle.rules.proofs.Claims.{step-is-rules}
use Rattle.trace.specs.Traces.{frames, frame_at}
use Rattle.trace.specs.Runs.{Ends}
use Rattle.recheck.specs.Rechecks.{Edited}
use Rattle.limits.specs.Limits.{Limited}

-- where the words are equal at b + d, or the trace is over by then, the run ends at b + d or before
ends_by : (own kept : ℕ → ℕ) (b n e d : ℕ) → Ends own kept b n e → (b + d ≤ n → own (b + d) ≡ kept (b + d)) → e ≤ b + d
ends_by own kept b n e d r same =
    ⊎_elim (leb-true e (b + d))
    (λ (f : leb e (b + d) ≡ false). let l = leb-false e (b + d) f in absurd (r.least (b + d) (omega arith) l (same (omega arith))))
    (either (leb e (b + d)))

-- Any two possible words of family g are equal after d steps on the same frames: R k is what holds of the two after k steps.
record Merges (c : Config) (g : Family) (d : ℕ) (R : ℕ → ℕ → ℕ → Type 0) : Type 0 where
  first : (x y : ℕ) → T (possible_of g c x) → T (possible_of g c y) → R 0 x y
  reset : (k : ℕ) → R k 0 0
  step : (k x y : ℕ) (f : Frame) → R k x y → R (suc k) (step_open_of c x f g) (step_open_of c y f g)
  last : (x y : ℕ) → T (possible_of g c x) → T (possible_of g c y) → R d x y → x ≡ y

module _ (c : Config) (good : Good c) (on : c.severity ≡ 0) (g : Family) (family-is : family c.kind ≡ g) (d : ℕ) (R : ℕ → ℕ → ℕ → Type 0) (m : Merges c g d R) where
  -- a step in reset or out of it
  step-any : (k x y : ℕ) (f : Frame) → R k x y → R (suc k) (step_word c x f) (step_word c y f)
  unfolding going_step_word
  step-any k x y f h = rw (goes-word c on x f, goes-word c on y f, family-is) (by (up f))
    where
      by : (b : Bool) → R (suc k) (cond b (step_open_of c x f g) 0) (cond b (step_open_of c y f g) 0)
      by true = m.step k x y f h
      by false = m.reset (suc k)

  before_of : (tr : Trace) (t : ℕ) → T (possible_of g c (word_before c tr t))
  before_of tr t = rw (possible-are c (word_before c tr t) g family-is) (goes-possible c on (word_before c tr t) (before-possible c good tr t))

  module _ (old trace : List ℕ) (a b e : ℕ) (edited : Edited old trace a b) where
    -- k cycles after b
    after : (k : ℕ) → b + k ≤ frames trace → R k (word_before c (frame_at trace) (b + k)) (word_before c (frame_at old) (b + k))
    unfolding word_before
    after zero l = m.first _ _ (before_of (frame_at trace) (b + 0)) (before_of (frame_at old) (b + 0))
    after (suc k) l =
        rw (add-suc, next (frame_at trace), next (frame_at old), edited.behind (b + k) (omega arith) (omega arith))
        (step-any k _ _ (frame_at trace (b + k)) (after k (omega arith)))
      where
        next : (tr : Trace) → word c tr (b + k) ≡ step_word c (word_before c tr (b + k)) (tr (b + k))
        next tr = (step-is-rules c good tr (b + k)).word_is

    limit : Ends (word_before c (frame_at trace)) (word_before c (frame_at old)) b (frames trace) e → e ≤ b + d
    limit r =
        ends_by _ _ b _ e d r (λ l. m.last _ _ (before_of (frame_at trace) (b + d)) (before_of (frame_at old) (b + d)) (after d l))

-- ---- kinds 0 and 1

-- the bits below k are equal, as far as the words have bits
abbrev SameBelow : Config → ℕ → ℕ → ℕ → Type 0
SameBelow c k x y = (j : ℕ) → j < k → j < c.n - 1 → bit x j ≡ bit y j

attempt-same : (c : Config) → c.kind ≤ 1 → (k x y : ℕ) (f : Frame) → SameBelow c k x y
    → (j : ℕ) → j < suc k → j < c.n - 1 → attempt c x f j ≡ attempt c y f j
unfolding attempt starts_attempt
attempt-same c low k x y f h zero l m = simp (ne_eqb c.kind 2 (λ e. omega arith))
attempt-same c low k x y f h (suc j) l m = ap (λ (b : Bool). b && bit (P c f) (c.n - 1 - suc j)) (h j (le_of_suc-le-suc l) (omega arith))

sequence-merges : (c : Config) → c.kind ≤ 1 → Merges c sequence (c.n - 1) (SameBelow c)
unfolding step_open_of
sequence-merges c low = record {
  first = λ x y p q j l. absurd (not-suc-le-zero l);
  reset = λ k j l m. refl;
  step = λ k x y f h j l m.
      bit-number (c.n - 1) (attempt c x f) j m ∙ attempt-same c low k x y f h j l m ∙ sym (bit-number (c.n - 1) (attempt c y f) j m);
  last = λ x y p q h. same_bits (c.n - 1) x y (possible-lt c x p) (possible-lt c y q) (λ j l. h j l l);
}

sequence-limit : (c : Config) → Good c → c.severity ≡ 0 → c.kind ≤ 1 → (old trace : List ℕ) (a b e : ℕ) → Edited old trace a b
    → Ends (word_before c (frame_at trace)) (word_before c (frame_at old)) b (frames trace) e → e ≤ b + (c.n - 1)
sequence-limit c good on low =
    limit c good on sequence (family-sequence c.kind (omega arith)) (c.n - 1) (SameBelow c) (sequence-merges c low)

-- ---- kind 4

-- the windows are equal, or both have at most n − k cycles left
abbrev SameOrShort : Config → ℕ → ℕ → ℕ → Type 0
SameOrShort c k x y = (x ≡ y) ⊎ ((x ≤ c.n - k) × (y ≤ c.n - k))

left_is : (c : Config) (w : ℕ) (f : Frame) → c.kind ≡ 4 → left c w f ≡ cond (eqb (P c f) 1) c.n (w - 1)
unfolding left start
left_is c w f e = simp (eq-eqb c.kind 4 e, or-true, and-true)

reset-merges : (c : Config) → c.kind ≡ 4 → Merges c time c.n (SameOrShort c)
unfolding possible_of step_open_of
reset-merges c e = record {
  first = λ x y p q. inr (omega (arith, leb→le x c.n p), omega (arith, leb→le y c.n q));
  reset = λ k. inl refl;
  step = λ k x y f h. rw (left_is c x f e, left_is c y f e) (by k x y (eqb (P c f) 1) h);
  last = λ x y p q. ⊎_elim (λ s. s) (λ s. omega arith);
}
  where
    by : (k x y : ℕ) (b : Bool) → SameOrShort c k x y → SameOrShort c (suc k) (cond b c.n (x - 1)) (cond b c.n (y - 1))
    by k x y true h = inl refl
    by k x y false h = ⊎_elim (λ s. inl (ap (λ (w : ℕ). w - 1) s)) (λ s. inr (omega arith)) h

reset-limit : (c : Config) → Good c → c.severity ≡ 0 → c.kind ≡ 4 → (old trace : List ℕ) (a b e : ℕ) → Edited old trace a b
    → Ends (word_before c (frame_at trace)) (word_before c (frame_at old)) b (frames trace) e → e ≤ b + c.n
reset-limit c good on four =
    limit c good on time (family-time c.kind (omega arith) (omega arith)) c.n (SameOrShort c) (reset-merges c four)

-- ---- kind 6

-- equal after any step
abbrev SameAfter : ℕ → ℕ → ℕ → Type 0
SameAfter k x y = 0 < k → x ≡ y

transition-merges : (c : Config) → Merges c transition 1 SameAfter
unfolding step_open_of
transition-merges c = record {
  first = λ x y p q l. absurd (not-suc-le-zero l);
  reset = λ k l. refl;
  step = λ k x y f h l. refl;
  last = λ x y p q h. h (le_refl 1);
}

transition-limit : (c : Config) → Good c → c.severity ≡ 0 → c.kind ≡ 6 → (old trace : List ℕ) (a b e : ℕ) → Edited old trace a b
    → Ends (word_before c (frame_at trace)) (word_before c (frame_at old)) b (frames trace) e → e ≤ b + 1
transition-limit c good on six = limit c good on transition (family-transition c.kind six) 1 SameAfter (transition-merges c)

-- the end of a recheck of the old trace's true record
pub limited : (c : Config) → Good c → c.severity ≡ 0 → (old trace : List ℕ) (a b e : ℕ) → Edited old trace a b
    → Ends (word_before c (frame_at trace)) (word_before c (frame_at old)) b (frames trace) e → Limited c b e
limited c good on old trace a b e edited r = record {
  pipelined = λ k. sequence-limit c good on k old trace a b e edited r;
  restarted = λ k. reset-limit c good on k old trace a b e edited r;
  stored = λ k. transition-limit c good on k old trace a b e edited r;
}
