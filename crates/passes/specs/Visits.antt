-- What the two passes do with the entries of a block, and that it adds up from block to block. Assumes nothing.
use Rattle.std.specs.Prelude.{ℕ, ◌+◌, ◌*◌, ◌≤◌, ◌≡◌, List, length, refl}
use Rattle.std.proofs.Common.{ap, ◌∙◌, arith}
use Rattle.rules.specs.declared.config.Config.{Config}
use Rattle.rules.specs.Frame.{Trace}
use Rattle.listed.specs.Lists.{failures_to}
use Rattle.entries.specs.Entries.{Stored}
use Rattle.entries.proofs.Stored.{stored-length}
use Rattle.blocks.specs.Blocks.{entries_from, Counted}
use Rattle.blocks.proofs.Stretches.{counted_none, counted-more, entries_none, stored_more, entries_fit}

-- ---- counting: the number grows by the number of entries, of which no cycle has more than 64

pub record CountAsks (c : Config) (tr : Trace) (t m : ℕ) (list : List ℕ) (at : ℕ) : Type 0 where
  pub few : at ≤ 64 * t
  pub short : t + m ≤ 65536

pub record CountDoes (c : Config) (tr : Trace) (t m : ℕ) (list : List ℕ) (at : ℕ) (list' : List ℕ) (next : ℕ) : Type 0 where
  pub added : ℕ
  pub next_is : next ≡ at + added
  pub counted : Counted c tr t m added
  pub list_is : list' ≡ list

abbrev pub CountHolds : Config → Trace → ℕ → List ℕ → Type 0
CountHolds c tr n list = n ≤ 65536

pub count_none : (c : Config) (tr : Trace) (l : List ℕ) → CountDoes c tr 0 0 l 0 l 0
count_none c tr l = record { added = 0; next_is = refl; counted = counted_none c tr; list_is = refl }

pub count_more : (c : Config) (tr : Trace) (t m : ℕ) (l₀ l l' : List ℕ) (x y : ℕ) → CountDoes c tr 0 t l₀ 0 l x → CountDoes c tr t m l x l' y
    → CountDoes c tr 0 (t + m) l₀ 0 l' y
count_more c tr t m l₀ l l' x y p q = record {
  added = p.added + q.added;
  next_is = omega (arith, p.next_is, q.next_is);
  counted = counted-more c tr t m p.counted q.counted;
  list_is = q.list_is ∙ p.list_is;
}

pub count_fits : (c : Config) (tr : Trace) (n t m : ℕ) (l₀ l : List ℕ) (x : ℕ) → t + m ≤ n → n ≤ 65536 → CountHolds c tr n l₀ → CountDoes c tr 0 t l₀ 0 l x
    → CountAsks c tr t m l x
count_fits c tr n t m l₀ l x within short h p = record { few = omega (arith, p.next_is, p.counted.few); short = omega arith }

pub count_long : (c : Config) (tr : Trace) (t m : ℕ) (l l' : List ℕ) (x y : ℕ) → CountDoes c tr t m l x l' y → length l' ≡ length l
count_long c tr t m l l' x y p = ap length p.list_is

-- ---- writing: the entries stand in the list from the number on

abbrev pub WriteAsks : Config → Trace → ℕ → ℕ → List ℕ → ℕ → Type 0
WriteAsks c tr t m list at = at + 3 * length (entries_from c tr t m) ≤ length list

abbrev pub WriteDoes : Config → Trace → ℕ → ℕ → List ℕ → ℕ → List ℕ → ℕ → Type 0
WriteDoes c tr t m list at list' next = Stored (entries_from c tr t m) list at list' next

abbrev pub WriteHolds : Config → Trace → ℕ → List ℕ → Type 0
WriteHolds c tr n list = 3 * length (failures_to c tr n) ≤ length list

pub write_none : (c : Config) (tr : Trace) (l : List ℕ) → WriteDoes c tr 0 0 l 0 l 0
write_none c tr l = entries_none c tr l

pub write_more : (c : Config) (tr : Trace) (t m : ℕ) (l₀ l l' : List ℕ) (x y : ℕ) → WriteDoes c tr 0 t l₀ 0 l x → WriteDoes c tr t m l x l' y
    → WriteDoes c tr 0 (t + m) l₀ 0 l' y
write_more c tr t m l₀ l l' x y p q = stored_more c tr t m p q

pub write_fits : (c : Config) (tr : Trace) (n t m : ℕ) (l₀ l : List ℕ) (x : ℕ) → t + m ≤ n → n ≤ 65536 → WriteHolds c tr n l₀ → WriteDoes c tr 0 t l₀ 0 l x
    → WriteAsks c tr t m l x
write_fits c tr n t m l₀ l x within short h p = entries_fit c tr t m p n within h

pub write_long : (c : Config) (tr : Trace) (t m : ℕ) (l l' : List ℕ) (x y : ℕ) → WriteDoes c tr t m l x l' y → length l' ≡ length l
write_long c tr t m l l' x y p = stored-length p
