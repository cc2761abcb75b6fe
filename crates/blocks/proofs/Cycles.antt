-- The cycles of a block. The entries of a cycle by the rules are those found from the open word before it (`step-entries`), by which a cycle may go
-- (`Here`). A row with neither mark has none, so the entries of a block are those of its marked rows, one after the other (`block-entries`): these are
-- counted and stored row by row (`Counting`, `stored_next`). Assumes nothing.
use Prim.Native.Nat.{ℕ, zero, suc, ◌+◌, ◌-◌, ◌*◌, ◌%◌, ◌≤◌, ◌<◌}
use mathlib.Core.Path.{◌≡◌, refl, sym, ap, ap₂, ◌∙◌}
use mathlib.Core.Bool.{Bool, true, false, not, ◌&&◌, cond}
use mathlib.Core.List.{List, [], ◌∷◌, ◌++◌, map, append-nil, append_assoc}
use mathlib.Core.Logic.{⊎_elim}
use native.Mathlib.Nat.{add-zero, le_refl}
use native.Mathlib.Numerals.{add-one}
use native.Mathlib.Omega.{arith}
use borrow.Author.Tests.{eqb-true, eqb-false, not-true, not-false}
use lib.Dec.{T}
use lib.ListN.{length, get_or, take, drop, length-append, take-append-drop}
use lib.Seq.{take-suc, take-take, get_or-take, length-take-le}
use Rattle.bits.proofs.Tests.{is_true, either}
use Rattle.rules.specs.declared.config.Config.{Config}
use Rattle.rules.specs.Config.{Good}
use Rattle.rules.specs.Frame.{Trace}
use Rattle.rules.specs.Rules.{going_word_before, stopped_before, row, word_before}
use Rattle.rules.proofs.Going.{going-row, going_before}
use Rattle.rules.proofs.Claims.{before-going}
use Rattle.trace.specs.Traces.{frames, frame_at}
use Rattle.listed.specs.Lists.{Entry, entry, chosen, going_failed, going_illegal, failed, illegal, failures_at}
use Rattle.listed.specs.Starts.{fails, starts_illegally}
use Rattle.listed.proofs.Ascending.{member-at, chosen-holds}
use Rattle.listed.proofs.Chosen.{chosen-ext, chosen_none}
use Rattle.listed.proofs.Found.{failed-starts, illegal-starts, before-placed}
use Rattle.entries.specs.Entries.{Stored}
use Rattle.cycle_entries.specs.Steps.{step_entries, Ready}
use Rattle.entries.proofs.Stored.{stored-none, stored-length, stored_on}
use Rattle.cycle_entries.proofs.StepEntries.{no-entries}
use Rattle.marked.specs.Picks.{block_cycles, marked}
use Rattle.blocks.specs.Blocks.{entries_from, Passing, Block, word_in, CycleIn}
use Rattle.blocks.specs.declared.block.Cycle.{Cycle}

-- a check of a fatal checker fails as that of one that goes on, up to its first failure, and no more behind it
module _ (c : Config) (tr : Trace) (t : ℕ) (b : Bool) (e : stopped_before c tr t ≡ b) (s : ℕ) where
  failed-is : failed c tr t s ≡ (not b && going_failed c tr t s)
  unfolding failed
  failed-is = ap (λ (x : Bool). not x && going_failed c tr t s) e

  illegal-is : illegal c tr t s ≡ (not b && going_illegal c tr t s)
  unfolding illegal
  illegal-is = ap (λ (x : Bool). not x && going_illegal c tr t s) e

module _ (c : Config) (tr : Trace) (t : ℕ) where
  step-entries : Good c → stopped_before c tr t ≡ false → step_entries c (going_word_before c tr t) (tr t) t ≡ failures_at c tr t
  unfolding failures_at step_entries
  step-entries good e =
      let w = going_word_before c tr t in
      sym
      (ap₂ (λ (ss us : List ℕ). map (entry t 1) ss ++ map (entry t 2) us)
      (chosen-ext (suc t) (failed c tr t) (fails c w (tr t) t) (λ s l. failed-is c tr t false e s ∙ failed-starts c good tr t s l))
      (chosen-ext (suc t) (illegal c tr t) (starts_illegally c w (tr t) t) (λ s l. illegal-is c tr t false e s ∙ illegal-starts c good tr t s l)))

  no-failures : stopped_before c tr t ≡ true → failures_at c tr t ≡ []
  unfolding failures_at
  no-failures e =
      ap₂ (λ (ss us : List ℕ). map (entry t 1) ss ++ map (entry t 2) us) (chosen_none (suc t) (failed c tr t) (λ s l. failed-is c tr t true e s))
      (chosen_none (suc t) (illegal c tr t) (λ s l. illegal-is c tr t true e s))

-- the word before the first cycle of a block, and before any other
pub word_first : (word : ℕ) (words : List ℕ) (k : ℕ) → k ≡ 0 → word ≡ word_in word words k
unfolding word_in
word_first word words zero e = refl
word_first word words (suc k) e = absurd (omega arith)

pub word-later : (word : ℕ) (words : List ℕ) (k : ℕ) → (k ≡ 0 → ⊥) → get_or words (k - 1) 0 ≡ word_in word words k
unfolding word_in
word-later word words zero e = absurd (e refl)
word-later word words (suc k) e = let back : suc k - 1 ≡ k = omega arith in ap (λ (j : ℕ). get_or words j 0) back

-- the entries of some cycles, counted from t on
unfoldable pub entries_of : Config → Trace → ℕ → List ℕ → List Entry
entries_of c tr t [] = []
entries_of c tr t (k ∷ ks) = failures_at c tr (t + k) ++ entries_of c tr t ks

module _ (c : Config) (tr : Trace) (t : ℕ) where
  of-append : (ks ls : List ℕ) → entries_of c tr t (ks ++ ls) ≡ entries_of c tr t ks ++ entries_of c tr t ls
  unfolding entries_of
  of-append [] ls = refl
  of-append (k ∷ ks) ls =
      ap (λ (es : List Entry). failures_at c tr (t + k) ++ es) (of-append ks ls)
      ∙ sym (append_assoc (failures_at c tr (t + k)) (entries_of c tr t ks) (entries_of c tr t ls))

  of_one : (k : ℕ) → entries_of c tr t (k ∷ []) ≡ failures_at c tr (t + k)
  unfolding entries_of
  of_one k = append-nil (failures_at c tr (t + k))

  of-next : (ks : List ℕ) (i : ℕ) → i < length ks → entries_of c tr t (take (i + 1) ks) ≡ entries_of c tr t (take i ks) ++ failures_at c tr (t + get_or ks i 0)
  of-next ks i l =
      ap (λ (n : ℕ). entries_of c tr t (take n ks)) (add-one i) ∙ ap (entries_of c tr t) (take-suc ks i 0 l)
      ∙ of-append (take i ks) (get_or ks i 0 ∷ []) ∙ ap (λ (es : List Entry). entries_of c tr t (take i ks) ++ es) (of_one (get_or ks i 0))

  of_part : (n : ℕ) (ks : List ℕ) → length (entries_of c tr t (take n ks)) ≤ length (entries_of c tr t ks)
  of_part n ks =
      omega (
        arith,
        ap (λ (l : List ℕ). length (entries_of c tr t l)) (take-append-drop n ks),
        ap length (of-append (take n ks) (drop n ks)),
        length-append (entries_of c tr t (take n ks)) (entries_of c tr t (drop n ks)),
      )

-- what is known of a cycle of a block
pub record Here (c : Config) (trace : List ℕ) (t : ℕ) (r : Cycle) : Type 0 where
  pub ready : Ready c r.word r.frame r.row r.t
  pub entries : step_entries c r.word r.frame r.t ≡ failures_at c (frame_at trace) t

module _ {c : Config} {trace : List ℕ} {t m : ℕ} {rows words picked : List ℕ} {n word : ℕ} (p : Passing c trace t word) (b : Block c trace t m rows words picked n)
  where
    word-here : (k : ℕ) → k ≤ m → word_in word words k ≡ word_before c (frame_at trace) (t + k)
    unfolding word_in
    word-here zero l = p.word_is ∙ ap (word_before c (frame_at trace)) (sym (add-zero t))
    word-here (suc k) l = b.words_are k l

    -- whether it has failed before cycle k
    abbrev failed_by : ℕ → Bool
    failed_by k = stopped_before c (frame_at trace) (t + k)

    here : (k : ℕ) (r : Cycle) → k < m → CycleIn trace t word rows words k r → failed_by k ≡ false → Here c trace (t + k) r
    unfolding row
    here k r l f on =
        let is = f.word_is ∙ word-here k (omega arith) ∙ before-going c (frame_at trace) (t + k) on in
        rw (f.t_is, is, f.frame_is, f.row_is)
        (record {
          ready = record {
            good = p.good;
            possible_word = going_before c p.good (frame_at trace) (t + k);
            placed = before-placed c p.good (frame_at trace) (t + k);
            row_is = b.rows_are k l ∙ rw on (going-row c p.good (frame_at trace) (t + k));
            low = omega (arith, b.in_trace, p.short);
          };
          entries = step-entries c (frame_at trace) (t + k) p.good on;
        })

    -- behind a failure the row is 0
    row-none : (k : ℕ) → k < m → failed_by k ≡ true → get_or rows k 0 ≡ 0
    unfolding row
    row-none k l e = b.rows_are k l ∙ rw e refl

    abbrev cycle_at : ℕ → Cycle
    cycle_at k = record { t = t + k; word = word_in word words k; frame = frame_at trace (t + k); row = get_or rows k 0 }

    -- a row with neither mark has no entries
    unmarked : (k : ℕ) → k < m → marked rows k ≡ false → failures_at c (frame_at trace) (t + k) ≡ []
    unfolding marked
    unmarked k l z =
        ⊎_elim (no-failures c (frame_at trace) (t + k))
        (λ (on : failed_by k ≡ false).
        let h = here k (cycle_at k) l (record { t_is = refl; word_is = refl; frame_is = refl; row_is = refl }) on in
        sym h.entries
        ∙ no-entries c (word_in word words k) (frame_at trace (t + k)) (get_or rows k 0) (t + k) h.ready (eqb-true (get_or rows k 0 % 4) 0 (not-false _ z)))
        (either (failed_by k))

    rows-entries : (k : ℕ) → k ≤ m → entries_from c (frame_at trace) t k ≡ entries_of c (frame_at trace) t (chosen k (marked rows))
    unfolding entries_from chosen entries_of
    rows-entries zero l = refl
    rows-entries (suc k) l =
        ap₂ (λ (es fs : List Entry). es ++ fs) (rows-entries k (omega arith)) (last (marked rows k) refl)
        ∙ sym (of-append c (frame_at trace) t (chosen k (marked rows)) (cond (marked rows k) (k ∷ []) []))
      where
        last : (x : Bool) → marked rows k ≡ x → failures_at c (frame_at trace) (t + k) ≡ entries_of c (frame_at trace) t (cond x (k ∷ []) [])
        last true e = sym (of_one c (frame_at trace) t k)
        last false e = unmarked k l e

    pub block-entries : entries_of c (frame_at trace) t (take n picked) ≡ entries_from c (frame_at trace) t m
    block-entries = ap (entries_of c (frame_at trace) t) b.picks.are ∙ sym (rows-entries m (le_refl m))

    -- ---- the marked rows, one by one

    pub all-picked : length (take n picked) ≡ n
    all-picked = length-take-le n picked (omega (arith, b.picks.long, b.picks.few, b.short))

    -- one of the slice that has them alone
    pub picked-at : (i : ℕ) → i < length (take n picked) → (i < n) × (get_or picked i 0 ≡ get_or (take n picked) i 0)
    picked-at i l = let h : i < n = omega (arith, l, all-picked) in (h, sym (get_or-take n picked i 0 h))

    module _ (i : ℕ) (l : i < n) where
      in-picked : i < length picked
      in-picked = omega (arith, b.picks.long, b.picks.few, b.short)

      held : (get_or picked i 0 < m) × T (marked rows (get_or picked i 0))
      held =
          let all : length (take n picked) ≡ n = length-take-le n picked (omega (arith, b.picks.long, b.picks.few, b.short)) in
          let e : get_or (chosen m (marked rows)) i 0 ≡ get_or picked i 0 = ap (λ (ks : List ℕ). get_or ks i 0) (sym b.picks.are) ∙ get_or-take n picked i 0 l in
          let q = chosen-holds m (marked rows) (get_or (chosen m (marked rows)) i 0)
          (member-at (chosen m (marked rows)) i 0 (omega (arith, l, all, ap length b.picks.are))) in
          rw e at q

      picked-marked : 0 < get_or rows (get_or picked i 0) 0 % 4
      unfolding marked
      picked-marked =
          let z = eqb-false (get_or rows (get_or picked i 0) 0 % 4) 0 (not-true _ (is_true _ held.1)) in omega (arith, z)

      -- it is a cycle that has entries
      pub picked-here : (r : Cycle) → CycleIn trace t word rows words (get_or picked i 0) r → Here c trace (t + get_or picked i 0) r × (0 < r.row % 4)
      picked-here r f =
          let k = get_or picked i 0 in
          let on : failed_by k ≡ false =
          ⊎_elim (λ (e : failed_by k ≡ true). absurd (omega (arith, picked-marked, row-none k held.0 e))) (λ (e : failed_by k ≡ false). e) (either (failed_by k)) in
          (here k r held.0 f on, rw f.row_is picked-marked)

      -- the entries of one more marked row
      next-entries : entries_of c (frame_at trace) t (take (i + 1) picked)
          ≡ entries_of c (frame_at trace) t (take i picked) ++ failures_at c (frame_at trace) (t + get_or picked i 0)
      next-entries = of-next c (frame_at trace) t picked i in-picked

      pub picked-in : (i < block_cycles) × (get_or picked i 0 < block_cycles) × (t + get_or picked i 0 < frames trace) × (frames trace ≤ 65536)
      picked-in = (omega (arith, b.picks.few, b.short), omega (arith, held.0, b.short), omega (arith, held.0, b.in_trace), p.short)

      module _ {r : Cycle} (h : Here c trace (t + get_or picked i 0) r) where
        abbrev entries_here : List Entry
        entries_here = step_entries c r.word r.frame r.t

        pub counted_next : {count x : ℕ} → count ≡ length (entries_of c (frame_at trace) t (take i picked)) → x ≡ length entries_here
            → count + x ≡ length (entries_of c (frame_at trace) t (take (i + 1) picked))
        counted_next e f =
            omega (
              arith,
              e,
              f,
              ap length h.entries,
              ap length next-entries,
              length-append (entries_of c (frame_at trace) t (take i picked)) (failures_at c (frame_at trace) (t + get_or picked i 0)),
            )

        module _ {list₀ list : List ℕ} {at₀ at : ℕ} (s : Stored (entries_of c (frame_at trace) t (take i picked)) list₀ at₀ list at) where
          pub stored_next : {list' : List ℕ} {next : ℕ} → Stored entries_here list at list' next
              → Stored (entries_of c (frame_at trace) t (take (i + 1) picked)) list₀ at₀ list' next
          stored_next u = rw next-entries (stored_on s (rw h.entries at u))

          -- the entries of a row fit where those of the block do
          pub row_fits : at₀ + 3 * length (entries_from c (frame_at trace) t m) ≤ length list₀ → at + 3 * length entries_here ≤ length list
          row_fits fits =
              omega (
                arith,
                fits,
                s.next_is,
                stored-length s,
                ap length h.entries,
                ap length next-entries,
                length-append (entries_of c (frame_at trace) t (take i picked)) (failures_at c (frame_at trace) (t + get_or picked i 0)),
                of_part c (frame_at trace) t (i + 1) (take n picked),
                ap (λ (ks : List ℕ). length (entries_of c (frame_at trace) t ks)) (take-take (i + 1) n picked (omega arith)),
                ap length block-entries,
              )

-- none yet
pub counted-first : (c : Config) (tr : Trace) (t : ℕ) (ks : List ℕ) → 0 ≡ length (entries_of c tr t (take 0 ks))
unfolding entries_of
counted-first c tr t ks = refl

pub stored-first : (c : Config) (tr : Trace) (t : ℕ) (ks list : List ℕ) (at : ℕ) → Stored (entries_of c tr t (take 0 ks)) list at list at
unfolding entries_of
stored-first c tr t ks list at = stored-none list at
