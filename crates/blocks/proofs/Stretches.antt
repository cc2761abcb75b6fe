-- The entries of a stretch of cycles are those of its first part with those of the rest behind them (`entries-on`), so what is counted or stored of the one
-- adds to what is counted or stored of the other. There is room for the entries of a part where there is room for all. Assumes nothing.
use Prim.Native.Nat.{ℕ, zero, suc, ◌+◌, ◌-◌, ◌*◌, ◌≤◌, zero-le}
use mathlib.Core.Path.{◌≡◌, refl, sym, ap, ap₂, ◌∙◌}
use mathlib.Core.List.{List, ◌++◌, append-nil, append_assoc}
use native.Mathlib.Nat.{add-zero, add-suc, zero-add, add_assoc}
use native.Mathlib.Omega.{arith}
use lib.ListN.{length, length-append}
use Rattle.rules.specs.declared.config.Config.{Config}
use Rattle.rules.specs.Frame.{Trace}
use Rattle.listed.specs.Lists.{Entry, failures_at, failures_to}
use Rattle.entries.specs.Entries.{Stored}
use Rattle.entries.proofs.Stored.{stored-none, stored-length, stored_on}
use Rattle.blocks.specs.Blocks.{entries_from, Counted}

module _ (c : Config) (tr : Trace) where
  entries-on : (t m k : ℕ) → entries_from c tr t (m + k) ≡ entries_from c tr t m ++ entries_from c tr (t + m) k
  unfolding entries_from
  entries-on t m zero = ap (entries_from c tr t) (add-zero m) ∙ sym (append-nil (entries_from c tr t m))
  entries-on t m (suc k) =
      ap (entries_from c tr t) (add-suc m k)
      ∙ ap₂ (λ (es : List Entry) (u : ℕ). es ++ failures_at c tr u) (entries-on t m k) (sym (add_assoc t m k))
      ∙ append_assoc (entries_from c tr t m) (entries_from c tr (t + m) k) (failures_at c tr (t + m + k))

  -- from cycle 0 on
  more : (t k : ℕ) → entries_from c tr 0 (t + k) ≡ entries_from c tr 0 t ++ entries_from c tr t k
  more t k = entries-on 0 t k ∙ ap (λ (u : ℕ). entries_from c tr 0 t ++ entries_from c tr u k) (zero-add t)

  more-length : (t k : ℕ) → length (entries_from c tr 0 (t + k)) ≡ length (entries_from c tr 0 t) + length (entries_from c tr t k)
  more-length t k = ap length (more t k) ∙ length-append (entries_from c tr 0 t) (entries_from c tr t k)

  -- all entries up to a cycle
  pub entries-all : (n : ℕ) → entries_from c tr 0 n ≡ failures_to c tr n
  unfolding entries_from failures_to
  entries-all zero = refl
  entries-all (suc n) = ap₂ (λ (es : List Entry) (u : ℕ). es ++ failures_at c tr u) (entries-all n) (zero-add n)

  pub counted_none : Counted c tr 0 0 0
  unfolding entries_from
  counted_none = record { is = refl; few = zero-le }

  pub entries_none : (list : List ℕ) → Stored (entries_from c tr 0 0) list 0 list 0
  unfolding entries_from
  entries_none list = stored-none list 0

  module _ (t k : ℕ) where
    pub counted-more : {x y : ℕ} → Counted c tr 0 t x → Counted c tr t k y → Counted c tr 0 (t + k) (x + y)
    counted-more p q = record { is = omega (arith, p.is, q.is, more-length t k); few = omega (arith, p.few, q.few) }

    module _ {list₀ list : List ℕ} {at : ℕ} (s : Stored (entries_from c tr 0 t) list₀ 0 list at) where
      pub stored_more : {list' : List ℕ} {next : ℕ} → Stored (entries_from c tr t k) list at list' next → Stored (entries_from c tr 0 (t + k)) list₀ 0 list' next
      stored_more u = rw (more t k) (stored_on s u)

      -- the entries of k further cycles fit where those of n cycles do
      pub entries_fit : (n : ℕ) → t + k ≤ n → 3 * length (failures_to c tr n) ≤ length list₀ → at + 3 * length (entries_from c tr t k) ≤ length list
      entries_fit n l fits =
          let rest : t + k + (n - (t + k)) ≡ n = omega arith in
          omega (
            arith,
            s.next_is,
            stored-length s,
            more-length t k,
            rw rest at (more-length (t + k) (n - (t + k))),
            ap length (entries-all n),
          )
