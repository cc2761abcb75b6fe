-- The claims about the failure list of document 01, for every good configuration and every trace. The list of the first n cycles has an entry of cycle t with
-- mark 1, or 2, exactly when bit 0, or 1, of the row of t is set (`listed-1`, `listed-2`). Its entries ascend strictly by cycle, mark and start (`ascending`), so
-- none stands twice (`once`). Those bits are the row's marks 1 and 2, which say that some check before t fails there, or is pending at an illegal start, and the
-- list goes through the same checks (`mark-1`, `mark-2`). It is made of ascending lists that stand in ascending order. Assumes nothing.
use Prim.Native.Nat.{ℕ, zero, suc, ◌<◌, zero-le}
use mathlib.Core.Path.{◌≡◌, refl, sym, ap, subst, subst₂, ◌∙◌}
use mathlib.Core.Bool.{Bool, true, false, not, ◌&&◌, ◌||◌, cond, and-false, or-false}
use mathlib.Core.List.{map, Memᴰ}
use mathlib.Core.Logic.{◌↔◌, ⊎_elim}
use native.Mathlib.Nat.{le_of_suc-le-suc, not-suc-le-zero, eq-or-lt_of_le, le_refl, le_step}
use native.Mathlib.Omega.{arith}
use borrow.Author.Tests.{le-ltb, ne_eqb}
use lib.Dec.{T, eqb, lit<}
use lib.ListN.{length, get_or}
use Rattle.bits.specs.Bits.{bit, some}
use Rattle.bits.proofs.Bits.{bit_past}
use Rattle.bits.proofs.Tests.{either, some-none, some-intro, some-elim}
use Rattle.rules.specs.declared.config.Config.{Config}
use Rattle.rules.specs.Config.{Family, family, Good}
use Rattle.rules.specs.Config.Family.{sequence, time, transition, value, stability, none}
use Rattle.rules.specs.Frame.{Trace, up, enabled}
use Rattle.rules.specs.Checks.{Checks, accepted, busy, fails}
use Rattle.rules.specs.Sequence.{event, attempt_finds, sequence_checks}
use Rattle.rules.specs.Time.{start_seen, window_pending, window_finds, time_checks, illegal_start}
use Rattle.rules.specs.Transition.{transition_checks}
use Rattle.rules.specs.Trigger.{trigger_seen, tested, compared, trigger_checks, value_checks, stability_checks}
use Rattle.rules.specs.Rules.{marks_of, going_row, stopped_before, row}
use Rattle.rules.proofs.Rows.{row-failure, row-illegal}
use Rattle.rules.proofs.Good.{family-time, not_none}
use Rattle.listed.specs.Lists.{Entry, entry, chosen, checks_of, going_failed, going_illegal, failed, illegal, failures_at, failures_to}
use Rattle.listed.proofs.Ascending.{Ascending, ascending-append, ascending-at, ascending-map, chosen-holds, chosen-member, chosen-ascending, member-at, index_of}

-- ---- marks 1 and 2 of a row

-- a cycle in reset violates no check and starts none
module _ (c : Config) (tr : Trace) (t : ℕ) (down : up (tr t) ≡ false) where
  not-violated : (k : Family) (s : ℕ) → (checks_of k c tr).violated s t ≡ false
  unfolding checks_of sequence_checks attempt_finds time_checks window_finds transition_checks value_checks stability_checks trigger_checks compared tested enabled
  not-violated sequence s = rw down
  not-violated time s = rw down
  not-violated transition s = rw down
  not-violated value s = rw down
  not-violated stability s = rw down
  not-violated none s = refl

  not-started : (k : Family) → (checks_of k c tr).starts t ≡ false
  unfolding checks_of sequence_checks time_checks transition_checks value_checks stability_checks trigger_checks event start_seen trigger_seen enabled
  not-started sequence = rw down
  not-started time = rw down
  not-started transition = rw down
  not-started value = rw down
  not-started stability = rw down
  not-started none = refl

-- a test that does not look at the number stands in front
some-and : (k : ℕ) (b : Bool) (f : ℕ → Bool) → some k (λ s. b && f s) ≡ (b && some k f)
some-and k true f = refl
some-and k false f = some-none k (λ s. false) (λ s _. refl)

module _ (c : Config) (good : Good c) (tr : Trace) (t : ℕ) where
  marks-failure : (k : Family) → family c.kind ≡ k → (marks_of k c tr t).failure ≡ fails (checks_of k c tr) t
  unfolding marks_of checks_of
  marks-failure sequence e = refl
  marks-failure time e = refl
  marks-failure transition e = refl
  marks-failure value e = refl
  marks-failure stability e = refl
  marks-failure none e = absurd (not_none c good e)

  -- kind 5 is a time kind
  not_five : (k : Family) → family c.kind ≡ k → (time ≡ k → ⊥) → eqb c.kind 5 ≡ false
  not_five k e other = ne_eqb c.kind 5 (λ q. other (sym (family-time c.kind (omega arith) (omega arith)) ∙ e))

  marks-illegal : (k : Family) → family c.kind ≡ k
      → (marks_of k c tr t).illegal ≡ (eqb c.kind 5 && (checks_of k c tr).starts t && busy (checks_of k c tr) t)
  unfolding marks_of checks_of time_checks illegal_start
  marks-illegal sequence e = rw (not_five sequence e (λ q. let z : ◌≡◌ {A = ℕ} 0 1 = cc in omega arith))
  marks-illegal time e = refl
  marks-illegal transition e = rw (not_five transition e (λ q. let z : ◌≡◌ {A = ℕ} 0 1 = cc in omega arith))
  marks-illegal value e = rw (not_five value e (λ q. let z : ◌≡◌ {A = ℕ} 0 1 = cc in omega arith))
  marks-illegal stability e = rw (not_five stability e (λ q. let z : ◌≡◌ {A = ℕ} 0 1 = cc in omega arith))
  marks-illegal none e = absurd (not_none c good e)

  -- no time check is pending in the cycle where it starts
  not-at-start : going_illegal c tr t t ≡ false
  unfolding going_illegal checks_of time_checks window_pending
  not-at-start = by (family c.kind) refl
    where
      by : (k : Family) → family c.kind ≡ k
          → (eqb c.kind 5 && (checks_of k c tr).starts t && (accepted (checks_of k c tr) t && (checks_of k c tr).pending t t)) ≡ false
      by sequence e = rw (not_five sequence e (λ q. let z : ◌≡◌ {A = ℕ} 0 1 = cc in omega arith)) refl
      by time e = simp (le-ltb t t (le_refl t), and-false)
      by transition e = rw (not_five transition e (λ q. let z : ◌≡◌ {A = ℕ} 0 1 = cc in omega arith)) refl
      by value e = rw (not_five value e (λ q. let z : ◌≡◌ {A = ℕ} 0 1 = cc in omega arith)) refl
      by stability e = rw (not_five stability e (λ q. let z : ◌≡◌ {A = ℕ} 0 1 = cc in omega arith)) refl
      by none e = absurd (not_none c good e)

-- Bit 0 of a row: some check fails. Bit 1: there is an illegal start while some check is pending. First of a checker that goes on.
going-1 : (c : Config) → Good c → (tr : Trace) (t : ℕ) → bit (going_row c tr t) 0 ≡ some (suc t) (going_failed c tr t)
unfolding going_row going_failed fails bit
going-1 c good tr t = ⊎_elim running in-reset (either (up (tr t)))
  where
    running : up (tr t) ≡ true → bit (going_row c tr t) 0 ≡ some (suc t) (going_failed c tr t)
    running e = rw e (row-failure (marks_of (family c.kind) c tr t) ∙ marks-failure c good tr t (family c.kind) refl)

    in-reset : up (tr t) ≡ false → bit (going_row c tr t) 0 ≡ some (suc t) (going_failed c tr t)
    in-reset e = rw e (sym (some-none (suc t) (going_failed c tr t) (λ s _. rw (not-violated c tr t e (family c.kind) s, and-false))))

going-2 : (c : Config) → Good c → (tr : Trace) (t : ℕ) → bit (going_row c tr t) 1 ≡ some (suc t) (going_illegal c tr t)
unfolding going_row going_illegal busy bit some
going-2 c good tr t = ⊎_elim running in-reset (either (up (tr t)))
  where
    k : Checks
    k = checks_of (family c.kind) c tr

    running : up (tr t) ≡ true → bit (going_row c tr t) 1 ≡ some (suc t) (going_illegal c tr t)
    running e =
        rw e
        (row-illegal (marks_of (family c.kind) c tr t) ∙ marks-illegal c good tr t (family c.kind) refl
        ∙ sym (some-and t (eqb c.kind 5 && k.starts t) (λ s. accepted k s && k.pending s t))
        ∙ sym (ap (λ (b : Bool). some t (going_illegal c tr t) || b) (not-at-start c good tr t) ∙ or-false (some t (going_illegal c tr t))))

    in-reset : up (tr t) ≡ false → bit (going_row c tr t) 1 ≡ some (suc t) (going_illegal c tr t)
    in-reset e = rw e (sym (some-none (suc t) (going_illegal c tr t) (λ s _. rw (not-started c tr t e (family c.kind), and-false))))

-- a fatal one has no row and no entries behind its first failure
layered : (b : Bool) (row i k : ℕ) (f : ℕ → Bool) → bit row i ≡ some k f → bit (cond b 0 row) i ≡ some k (λ s. not b && f s)
layered true row i k f e = bit_past 0 0 i (lit< tt) zero-le ∙ sym (some-none k (λ s. false) (λ s _. refl))
layered false row i k f e = e

pub mark-1 : (c : Config) → Good c → (tr : Trace) (t : ℕ) → bit (row c tr t) 0 ≡ some (suc t) (failed c tr t)
unfolding row failed
mark-1 c good tr t = layered (stopped_before c tr t) (going_row c tr t) 0 (suc t) (going_failed c tr t) (going-1 c good tr t)

pub mark-2 : (c : Config) → Good c → (tr : Trace) (t : ℕ) → bit (row c tr t) 1 ≡ some (suc t) (illegal c tr t)
unfolding row illegal
mark-2 c good tr t = layered (stopped_before c tr t) (going_row c tr t) 1 (suc t) (going_illegal c tr t) (going-2 c good tr t)

-- ---- the entries

abbrev pub blank : Entry
blank = entry 0 0 0

-- whether the rules give cycle t the mark m for the check from s
abbrev pub marked : Config → Trace → ℕ → ℕ → ℕ → Bool
marked c tr t zero s = false
marked c tr t (suc zero) s = failed c tr t s
marked c tr t (suc (suc zero)) s = illegal c tr t s
marked c tr t (suc (suc (suc m))) s = false

-- e stands in the list of the first n cycles
pub record Listed (c : Config) (tr : Trace) (n : ℕ) (e : Entry) : Type 0 where
  pub index : ℕ
  pub low : index < length (failures_to c tr n)
  pub is : get_or (failures_to c tr n) index blank ≡ e

module _ (c : Config) (tr : Trace) where
  -- an entry that the rules ask for
  abbrev Due : Entry → Type 0
  Due e = (e.start < suc e.cycle) × T (marked c tr e.cycle e.mark e.start)

  part-due : (t m : ℕ) (e : Entry) → Memᴰ e (map (entry t m) (chosen (suc t) (marked c tr t m))) → (e.cycle ≡ t) × Due e
  part-due t m e h =
      let r = mathlib.Core.List.Memᴰ.of_map (entry t m) (chosen (suc t) (marked c tr t m)) h in
      subst (λ (x : Entry). (x.cycle ≡ t) × Due x) r.2 (refl, chosen-holds (suc t) (marked c tr t m) r.0 r.1)

  at-due : (t : ℕ) (e : Entry) → Memᴰ e (failures_at c tr t) → (e.cycle ≡ t) × Due e
  unfolding failures_at
  at-due t e h = ⊎_elim (part-due t 1 e) (part-due t 2 e) (mathlib.Core.List.Memᴰ.append_cases (map (entry t 1) (chosen (suc t) (failed c tr t))) h)

  to-due : (n : ℕ) (e : Entry) → Memᴰ e (failures_to c tr n) → (e.cycle < n) × Due e
  unfolding failures_to
  to-due zero e m = absurd (mathlib.Core.List.Memᴰ.not-nil m)
  to-due (suc n) e m =
      ⊎_elim (λ (m' : Memᴰ e (failures_to c tr n)). let r = to-due n e m' in (le_step r.0, r.1))
      (λ (m' : Memᴰ e (failures_at c tr n)). let r = at-due n e m' in (omega arith, r.1))
      (mathlib.Core.List.Memᴰ.append_cases (failures_to c tr n) m)

  due-at : (t m s : ℕ) → s < suc t → T (marked c tr t m s) → Memᴰ (entry t m s) (failures_at c tr t)
  unfolding failures_at
  due-at t zero s l h = absurd h
  due-at t (suc zero) s l h =
      mathlib.Core.List.Memᴰ.append_left (map (entry t 2) (chosen (suc t) (illegal c tr t))) (mathlib.Core.List.Memᴰ.map (entry t 1) (chosen-member (suc t) (failed c tr t) s l h))
  due-at t (suc (suc zero)) s l h =
      mathlib.Core.List.Memᴰ.append_right (map (entry t 1) (chosen (suc t) (failed c tr t))) (mathlib.Core.List.Memᴰ.map (entry t 2) (chosen-member (suc t) (illegal c tr t) s l h))
  due-at t (suc (suc (suc m))) s l h = absurd h

  due-to : (n : ℕ) (e : Entry) → e.cycle < n → Due e → Memᴰ e (failures_to c tr n)
  unfolding failures_to
  due-to zero e l h = absurd (not-suc-le-zero l)
  due-to (suc n) e l h =
      ⊎_elim
      (λ (q : e.cycle ≡ n).
      mathlib.Core.List.Memᴰ.append_right (failures_to c tr n)
      (subst (λ (t : ℕ). Memᴰ e (failures_at c tr t)) q (due-at e.cycle e.mark e.start h.0 h.1)))
      (λ (l' : e.cycle < n). mathlib.Core.List.Memᴰ.append_left (failures_at c tr n) (due-to n e l' h)) (eq-or-lt_of_le (le_of_suc-le-suc l))

-- the list has exactly the entries that the rules ask for
pub listed : (c : Config) (tr : Trace) (n t m s : ℕ) → Listed c tr n (entry t m s) ↔ ((t < n) × (s < suc t) × T (marked c tr t m s))
listed c tr n t m s = (
  λ r.
      let member = subst (λ (e : Entry). Memᴰ e (failures_to c tr n)) r.is (member-at (failures_to c tr n) r.index blank r.low) in
      let d = to-due c tr n (entry t m s) member in
      (d.0, d.1.0, d.1.1),
  λ h. let r = index_of blank (due-to c tr n (entry t m s) h.0 (h.1, h.2)) in record { index = r.0; low = r.1; is = r.2 },
)

-- so it has a mark in a cycle when the rules give it there for some check
listed-some : (c : Config) (tr : Trace) (n t m : ℕ) → t < n → ((s : ℕ) × Listed c tr n (entry t m s)) ↔ T (some (suc t) (marked c tr t m))
listed-some c tr n t m l = (
  λ r. let h = (listed c tr n t m r.0).0 r.1 in some-intro (suc t) (marked c tr t m) r.0 h.1 h.2,
  λ h. let r = some-elim (suc t) (marked c tr t m) h in (r.at, (listed c tr n t m r.at).1 (l, r.low, r.holds)),
)

-- in cycle t there is an entry with mark 1 when bit 0 of the row of t is set, and one with mark 2 when bit 1 is
pub listed-1 : (c : Config) → Good c → (tr : Trace) (n t : ℕ) → t < n → ((s : ℕ) × Listed c tr n (entry t 1 s)) ↔ T (bit (row c tr t) 0)
listed-1 c good tr n t l = rw (mark-1 c good tr t) (listed-some c tr n t 1 l)

pub listed-2 : (c : Config) → Good c → (tr : Trace) (n t : ℕ) → t < n → ((s : ℕ) × Listed c tr n (entry t 2 s)) ↔ T (bit (row c tr t) 1)
listed-2 c good tr n t l = rw (mark-2 c good tr t) (listed-some c tr n t 2 l)

-- ---- the order

-- "ordered by cycle, mark, start"
pub data Before (a b : Entry) : Type 0 where
  cycle-before : a.cycle < b.cycle → Before a b
  mark-before : a.cycle ≡ b.cycle → a.mark < b.mark → Before a b
  start-before : a.cycle ≡ b.cycle → a.mark ≡ b.mark → a.start < b.start → Before a b

part-ascending : (t m : ℕ) (f : ℕ → Bool) → Ascending Before (map (entry t m) (chosen (suc t) f))
part-ascending t m f =
    ascending-map (λ (s u : ℕ). s < u) Before (entry t m) (λ s u l. start-before refl refl l) (chosen (suc t) f) (chosen-ascending (suc t) f)

module _ (c : Config) (tr : Trace) where
  at-ascending : (t : ℕ) → Ascending Before (failures_at c tr t)
  unfolding failures_at
  at-ascending t =
      ascending-append Before (map (entry t 1) (chosen (suc t) (failed c tr t))) (map (entry t 2) (chosen (suc t) (illegal c tr t)))
      (part-ascending t 1 (failed c tr t)) (part-ascending t 2 (illegal c tr t))
      (λ a b m n.
      subst₂ Before (mathlib.Core.List.Memᴰ.of_map (entry t 1) (chosen (suc t) (failed c tr t)) m).2 (mathlib.Core.List.Memᴰ.of_map (entry t 2) (chosen (suc t) (illegal c tr t)) n).2
      (mark-before refl (lit< tt)))

  to-ascending : (n : ℕ) → Ascending Before (failures_to c tr n)
  unfolding failures_to
  to-ascending zero = tt
  to-ascending (suc n) =
      ascending-append Before (failures_to c tr n) (failures_at c tr n) (to-ascending n) (at-ascending n)
      (λ a b m m'. cycle-before (omega (arith, (to-due c tr n a m).0, (at-due c tr n b m').0)))

pub ascending : (c : Config) (tr : Trace) (n i j : ℕ) → i < j → j < length (failures_to c tr n)
    → Before (get_or (failures_to c tr n) i blank) (get_or (failures_to c tr n) j blank)
ascending c tr n = ascending-at Before blank (failures_to c tr n) (to-ascending c tr n)

-- so no entry stands twice
irreflexive : (e : Entry) → Before e e → ⊥
irreflexive e (cycle-before l) = omega arith
irreflexive e (mark-before p l) = omega arith
irreflexive e (start-before p q l) = omega arith

pub once : (c : Config) (tr : Trace) (n i j : ℕ) → i < j → j < length (failures_to c tr n)
    → get_or (failures_to c tr n) i blank ≡ get_or (failures_to c tr n) j blank → ⊥
once c tr n i j l low e = irreflexive (get_or (failures_to c tr n) j blank) (rw e at (ascending c tr n i j l low))
