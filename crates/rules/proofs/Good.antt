-- What a configuration that is not refused says of its kind, its n and its ports, family by family. Assumes nothing.
use Prim.Native.Nat.{ℕ, ◌^◌, ◌≤◌, ◌<◌}
use mathlib.Core.Path.{◌≡◌, refl, sym, ap, subst, ◌∙◌}
use mathlib.Core.Bool.{Bool, true, false, ◌&&◌, cond}
use mathlib.Core.Logic.{◌⊎◌, inl, inr, ⊎_elim}
use native.Mathlib.Nat.{eq-or-lt_of_le}
use native.Mathlib.Omega.{arith}
use borrow.Author.Tests.{le-leb, lt-leb, leb-false, eq-eqb}
use lib.Dec.{T, leb, ltb, leb→le, le→leb, ltb→lt, eqb, eqb→eq, lit≤}
use lib.Pow.{pow_pos}
use Rattle.bus.specs.Range.{width, within}
use Rattle.bits.proofs.Tests.{of-true, iff-eq, and_left, and_right}
use Rattle.rules.specs.declared.config.Config.{Config}
use Rattle.rules.specs.Config.{Family, pick, family, min_events, max_events, min_window, max_window, family_limits, unused, widths_of, widths, min_fits, value_fits, n_fits, severity_fits, limits, ports, max_kind, config_refusal, Good}
use Rattle.rules.specs.Possible.{possible_of, going_possible}
use Rattle.rules.specs.Config.Family.{sequence, time, transition, value, stability, none}

pub at-most-0 : (x : ℕ) → leb x 0 ≡ eqb x 0
at-most-0 x =
    iff-eq (leb x 0) (eqb x 0) (λ o. of-true (eq-eqb x 0 (omega (arith, leb→le x 0 o)))) (λ o. le→leb x 0 (omega (arith, eqb→eq x 0 o)))

-- ---- the family of a kind

pub family-sequence : (k : ℕ) → k < 3 → family k ≡ sequence
unfolding family
family-sequence k h = let e : leb k 2 ≡ true = le-leb k 2 (omega arith) in simp e

pub family-time : (k : ℕ) → 3 ≤ k → k < 6 → family k ≡ time
unfolding family
family-time k l h =
    let e : leb k 2 ≡ false = lt-leb k 2 (omega arith) in
    let f : leb k 5 ≡ true = le-leb k 5 (omega arith) in
    simp (e, f)

pub family-transition : (k : ℕ) → k ≡ 6 → family k ≡ transition
unfolding family
family-transition k e = ap family e

pub family-value : (k : ℕ) → k ≡ 7 → family k ≡ value
unfolding family
family-value k e = ap family e

pub family-stability : (k : ℕ) → k ≡ 8 → family k ≡ stability
unfolding family
family-stability k e = ap family e

-- the kinds of a family each, which are often treated alike
pub seven-or-eight : (k : ℕ) → 6 < k → k < 9 → (k ≡ 7) ⊎ (k ≡ 8)
seven-or-eight k l h = ⊎_elim (λ (e : 7 ≡ k). inl (sym e)) (λ (m : 7 < k). inr (omega arith)) (eq-or-lt_of_le l)

pub family-none : (k : ℕ) → max_kind < k → family k ≡ none
unfolding family
family-none k h =
    let above : (m : ℕ) → m ≤ max_kind → leb k m ≡ false = λ m l. lt-leb k m (omega arith) in
    simp (above 2 (lit≤ tt), above 5 (lit≤ tt), above 6 (lit≤ tt), above 7 (lit≤ tt), above 8 (lit≤ tt))

-- ---- a definition by families, at the kind's family

pub limits-are : (c : Config) (k : Family) → family c.kind ≡ k → family_limits k c.n ≡ n_fits c
unfolding n_fits
limits-are c k e = sym (ap (λ (j : Family). family_limits j c.n) e)

pub widths-are : (c : Config) (k : Family) → family c.kind ≡ k → widths_of k c ≡ widths c
unfolding widths
widths-are c k e = sym (ap (λ (j : Family). widths_of j c) e)

pub possible-are : (c : Config) (w : ℕ) (k : Family) → family c.kind ≡ k → possible_of k c w ≡ going_possible c w
unfolding going_possible
possible-are c w k e = sym (ap (λ (j : Family). possible_of j c w) e)

-- the refusal number from the three tests
pub refusal_is : (c : Config) (a b d : Bool) → leb c.kind max_kind ≡ a → limits c ≡ b → ports c ≡ d → config_refusal c ≡ cond a (cond b (cond d 0 3) 2) 1
unfolding config_refusal
refusal_is c a b d p q r i = cond (p i) (cond (q i) (cond (r i) 0 3) 2) 1

pub refusal-low : (c : Config) → config_refusal c ≤ 3
unfolding config_refusal
refusal-low c = by (leb c.kind max_kind) (limits c) (ports c)
  where
    by : (a b d : Bool) → cond a (cond b (cond d 0 3) 2) 1 ≤ 3
    by true true true = lit≤ tt
    by true true false = lit≤ tt
    by true false d = lit≤ tt
    by false b d = lit≤ tt

-- ---- a good configuration

-- the three tests behind a refusal number of 0
tests : (a b d : Bool) → ◌≡◌ {A = ℕ} (cond a (cond b (cond d 0 3) 2) 1) 0 → T a × T b × T d
tests true true true e = (tt, tt, tt)
tests true true false e = absurd (omega arith)
tests true false d e = absurd (omega arith)
tests false b d e = absurd (omega arith)

module _ (c : Config) (good : Good c) where
  pub three : T (leb c.kind max_kind) × T (limits c) × T (ports c)
  unfolding config_refusal
  three = tests (leb c.kind max_kind) (limits c) (ports c) good

  pub kind-low : c.kind ≤ max_kind
  kind-low = leb→le c.kind max_kind three.0

  low-indices : T (within c.p && (within c.q && within c.r))
  unfolding ports
  low-indices = and_left (within c.p && (within c.q && within c.r)) (widths c && value_fits c) three.2

  rest : T (widths c && value_fits c)
  unfolding ports
  rest = and_right (within c.p && (within c.q && within c.r)) (widths c && value_fits c) three.2

  pub p-within : T (within c.p)
  p-within = and_left (within c.p) (within c.q && within c.r) low-indices

  pub q-within : T (within c.q)
  q-within = and_left (within c.q) (within c.r) (and_right (within c.p) (within c.q && within c.r) low-indices)

  pub r-within : T (within c.r)
  r-within = and_right (within c.q) (within c.r) (and_right (within c.p) (within c.q && within c.r) low-indices)

  -- the expected value fits the width of P, also where it is unused
  pub value_low : c.value < 2 ^ width c.p
  unfolding value_fits
  value_low = by (eqb c.kind 7) (and_right (widths c) (value_fits c) rest)
    where
      by : (b : Bool) → T (cond b (ltb c.value (2 ^ width c.p)) (eqb c.value 0)) → c.value < 2 ^ width c.p
      by true h = ltb→lt c.value (2 ^ width c.p) h
      by false h = let z = eqb→eq c.value 0 h in omega (arith, z, pow_pos (width c.p))

  pub numbers : T (n_fits c && min_fits c)
  unfolding limits
  numbers = and_left (n_fits c && min_fits c) (severity_fits c) three.1

  pub severity-low : c.severity ≤ 1
  unfolding limits severity_fits
  severity-low = leb→le c.severity 1 (and_right (n_fits c && min_fits c) (severity_fits c) three.1)

  limits_of : (k : Family) → family c.kind ≡ k → T (family_limits k c.n)
  unfolding n_fits
  limits_of k e = subst (λ (j : Family). T (family_limits j c.n)) e (and_left (n_fits c) (min_fits c) numbers)

  widths-of : (k : Family) → family c.kind ≡ k → T (widths_of k c)
  unfolding widths
  widths-of k e = subst (λ (j : Family). T (widths_of j c)) e (and_left (widths c) (value_fits c) rest)

pub record SequenceConfig (c : Config) : Type 0 where
  pub low : min_events ≤ c.n
  pub high : c.n ≤ max_events
  pub p-width : width c.p ≡ c.n

pub sequence-config : (c : Config) → Good c → family c.kind ≡ sequence → SequenceConfig c
unfolding family_limits widths_of
sequence-config c good e =
    let l = limits_of c good sequence e in
    record {
      low = leb→le min_events c.n (and_left (leb min_events c.n) (leb c.n max_events) l);
      high = leb→le c.n max_events (and_right (leb min_events c.n) (leb c.n max_events) l);
      p-width = eqb→eq (width c.p) c.n (and_left (eqb (width c.p) c.n) (unused c.q && unused c.r) (widths-of c good sequence e));
    }

pub record TimeConfig (c : Config) : Type 0 where
  pub low : min_window ≤ c.n
  pub high : c.n ≤ max_window
  pub p-width : width c.p ≡ 1
  pub q-width : width c.q ≡ 1

pub time-config : (c : Config) → Good c → family c.kind ≡ time → TimeConfig c
unfolding family_limits widths_of
time-config c good e =
    let l = limits_of c good time e in
    let v = widths-of c good time e in
    record {
      low = leb→le min_window c.n (and_left (leb min_window c.n) (leb c.n max_window) l);
      high = leb→le c.n max_window (and_right (leb min_window c.n) (leb c.n max_window) l);
      p-width = eqb→eq (width c.p) 1 (and_left (eqb (width c.p) 1) (eqb (width c.q) 1 && unused c.r) v);
      q-width =
          eqb→eq (width c.q) 1
          (and_left (eqb (width c.q) 1) (unused c.r) (and_right (eqb (width c.p) 1) (eqb (width c.q) 1 && unused c.r) v));
    }

pub transition-widths : (c : Config) → Good c → family c.kind ≡ transition → width c.r ≡ width c.p
unfolding widths_of
transition-widths c good e =
    eqb→eq (width c.r) (width c.p)
    (and_right (eqb (width c.q) (width c.p)) (eqb (width c.r) (width c.p)) (widths-of c good transition e))

-- kinds 7 and 8 have the same limits and ports
pub record TriggerConfig (c : Config) : Type 0 where
  pub low : c.min ≤ c.n
  pub high : c.n ≤ max_window
  pub q-width : width c.q ≡ 1

-- the families of the kinds above 6
late : Family → Bool
late sequence = false
late time = false
late transition = false
late value = true
late stability = true
late none = true

late-kind : (k : ℕ) → T (late (family k)) → leb k 6 ≡ false
unfolding family late
late-kind k h = by (leb k 2) (leb k 5) (leb k 6) (pick (leb k 7) value (pick (leb k 8) stability none)) h
  where
    by : (a b d : Bool) (other : Family) → T (late (pick a sequence (pick b time (pick d transition other)))) → d ≡ false
    by true b d other o = absurd o
    by false true d other o = absurd o
    by false false true other o = absurd o
    by false false false other o = refl

trigger-config : (c : Config) → Good c → (k : Family) → family c.kind ≡ k → T (late k) → T (leb c.n max_window)
    → T (eqb (width c.q) 1 && unused c.r) → TriggerConfig c
unfolding min_fits
trigger-config c good k e o l v =
    let m = and_right (n_fits c) (min_fits c) (numbers c good) in
    record {
      low = leb→le c.min c.n (rw (late-kind c.kind (rw e o)) at m);
      high = leb→le c.n max_window l;
      q-width = eqb→eq (width c.q) 1 (and_left (eqb (width c.q) 1) (unused c.r) v);
    }

pub value-config : (c : Config) → Good c → family c.kind ≡ value → TriggerConfig c
unfolding late family_limits widths_of
value-config c good e = trigger-config c good value e tt (limits_of c good value e) (widths-of c good value e)

pub stability-config : (c : Config) → Good c → family c.kind ≡ stability → TriggerConfig c
unfolding late family_limits widths_of
stability-config c good e = trigger-config c good stability e tt (limits_of c good stability e) (widths-of c good stability e)

pub stability-kind : (c : Config) → Good c → family c.kind ≡ stability → c.kind ≡ 8
unfolding late
stability-kind c good e =
    let above = leb-false c.kind 6 (late-kind c.kind (rw e tt)) in
    ⊎_elim (λ (q : c.kind ≡ 7). absurd (let v = sym (family-value c.kind q) ∙ e in let z : ◌≡◌ {A = ℕ} 0 1 = cc in omega arith))
    (λ (q : c.kind ≡ 8). q) (seven-or-eight c.kind above (omega (arith, kind-low c good)))

pub not_none : (c : Config) → Good c → family c.kind ≡ none → ⊥
unfolding family_limits
not_none c good e = limits_of c good none e
