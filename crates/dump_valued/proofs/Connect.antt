-- The table is connected in the store as the definition does it: `connect-holds`. Assumes nothing.
--
-- `Linked` says what holds when the entries below e are connected and the others are as they were; `linked-more` connects one more.
use mathlib.Core.Path.{◌≡◌, refl, ◌∙◌, sym, ap}
use mathlib.Core.Bool.{Bool, true, false, cond, not}
use mathlib.Core.List.{List}
use Prim.Native.Nat.{ℕ, zero, suc, ◌+◌, ◌-◌, ◌*◌, ◌%◌, ◌<◌, ◌≤◌}
use native.Mathlib.Omega.{arith}
use lib.Dec.{eqb, ltb}
use lib.ListN.{length, get_or, set, replicate, length-set}
use lib.Seq.{get_or-set_same, get_or-set_other}
use borrow.Author.Tests.{lt-ltb, eqb-true, eqb-false, ltb-true, ltb-false}
use Rattle.dump.specs.State.{Declared}
use Rattle.dump.specs.Ranges.{distance}
use Rattle.dump.specs.Declarations.{index_of}
use Rattle.dump.specs.Connections.{Pair, pairs, connected, good_table, at_first, digit_place}
use Rattle.dump_values.specs.Values.{put_at, apart, span_end, span_with, connected_entry, connect_at, connect_entry, connect_from}
use Rattle.dump_valued.specs.Valued.{Holds, Declares, Wired, Connected, entry_at, Kept}
use Rattle.dump_valued.proofs.Put.{put_holds, put-kept}
use Rattle.dump_valued.proofs.Puts.{puts_from}
use Rattle.dump_valued.proofs.Spans.{with-start, with-entry}
use Rattle.dump_valued.proofs.Survivals.{declares-same, declares-kept}
use Rattle.dump_valued.proofs.Table.{code-word, index_word, table-length, table-declared}
use Rattle.dump_valued.proofs.First.{first_holds, first-puts}

apart-is : (a b : ℕ) → apart a b ≡ distance a b
unfolding apart
apart-is a b = go (ltb a b) refl
  where
    go : (t : Bool) → ltb a b ≡ t → cond t (b - a) (a - b) ≡ (a - b) + (b - a)
    go true e = omega (arith, ltb-true a b e)
    go false e = omega (arith, ltb-false a b e)

module _ (n : ℕ) (d : Declared) (table : List Pair) where
  record Linked (e : ℕ) (s : List ℕ) : Type 0 where
    long : length s ≡ 8468
    declares : Declares s n d
    code_is : (j : ℕ) → j < 129 → get_or s (8192 + 2 * j) 0 ≡ (entry_at table j).code
    place_is : (j : ℕ) → j < e → j < 129 → 0 < (entry_at table j).code → get_or s (8193 + 2 * j) 0 ≡ digit_place d (entry_at table j)
    index_is : (j : ℕ) → e ≤ j → j < 129 → get_or s (8193 + 2 * j) 0 ≡ (entry_at table j).index
    starts : (i : ℕ) → i < n → get_or s (5120 + i) 0 % 256 ≤ e
    spans : (j i : ℕ) → j < e → j < 129 → 0 < (entry_at table j).code → index_of d.codes (entry_at table j).code ≡ i → i < n
        → (get_or s (5120 + i) 0 % 256 ≤ j) × (j < span_end (get_or s (5120 + i) 0))

  -- where only values change
  linked-kept : (e : ℕ) (s t : List ℕ) → Kept s t → Linked e s → Linked e t
  linked-kept e s t kept h =
      let few : n ≤ 1024 = h.declares.few in
      record {
        long = kept.as_long ∙ h.long;
        declares = declares-kept s t kept n d h.declares;
        code_is = λ j l. kept.below (8192 + 2 * j) (omega arith) ∙ h.code_is j l;
        place_is = λ j m l c. kept.below (8193 + 2 * j) (omega arith) ∙ h.place_is j m l c;
        index_is = λ j m l. kept.below (8193 + 2 * j) (omega arith) ∙ h.index_is j m l;
        starts = λ i l. rw (kept.below (5120 + i) (omega arith)) (h.starts i l);
        spans = λ j i m l c f k. rw (kept.below (5120 + i) (omega arith)) (h.spans j i m l c f k);
      }

  -- an entry that is not connected
  linked-none : (e : ℕ) (s : List ℕ) → (entry_at table e).code ≡ 0 → Linked e s → Linked (suc e) s
  linked-none e s z h =
      let other : ((j : ℕ) → j < suc e → 0 < (entry_at table j).code → j < e) = λ j l c. below j l c (eqb j e) refl in
      record {
        long = h.long;
        declares = h.declares;
        code_is = h.code_is;
        place_is = λ j m l c. h.place_is j (other j m c) l c;
        index_is = λ j m l. h.index_is j (omega arith) l;
        starts = λ i l. omega (arith, h.starts i l);
        spans = λ j i m l c f k. h.spans j i (other j m c) l c f k;
      }
    where
      below : (j : ℕ) → j < suc e → 0 < (entry_at table j).code → (t : Bool) → eqb j e ≡ t → j < e
      below j l c true q = let c' : 0 < (entry_at table e).code = rw (eqb-true j e q) at c in absurd (omega arith)
      below j l c false q = omega (arith, eqb-false j e q)

  -- ONE ENTRY MORE, whose code is at place i
  module _ (e : ℕ) (l : e < 129) (s : List ℕ) (h : Linked e s) (i : ℕ) (at : index_of d.codes (entry_at table e).code ≡ i) (known : i < n) where
    abbrev place : ℕ
    place = apart (get_or s (8193 + 2 * e) 0) (get_or s (4096 + i) 0)

    abbrev span : ℕ
    span = span_with (get_or s (5120 + i) 0) e

    abbrev linked : List ℕ
    linked = set (set s (8193 + 2 * e) place) (5120 + i) span

    few : i < 1024
    few = omega (arith, h.declares.few)

    aside : (k : ℕ) → (k ≡ 8193 + 2 * e → ⊥) → (k ≡ 5120 + i → ⊥) → get_or linked k 0 ≡ get_or s k 0
    aside k a b = get_or-set_other (set s (8193 + 2 * e) place) (5120 + i) k span 0 b ∙ get_or-set_other s (8193 + 2 * e) k place 0 a

    place_here : get_or linked (8193 + 2 * e) 0 ≡ digit_place d (entry_at table e)
    unfolding digit_place
    place_here =
        get_or-set_other (set s (8193 + 2 * e) place) (5120 + i) (8193 + 2 * e) span 0 (λ z. omega (arith, few))
        ∙ get_or-set_same s (8193 + 2 * e) place 0 (omega (arith, h.long))
        ∙ rw (h.index_is e (omega arith) l, h.declares.right_is i known, at) (apart-is (entry_at table e).index (get_or d.rights i 0))

    span-here : get_or linked (5120 + i) 0 ≡ span
    span-here = get_or-set_same (set s (8193 + 2 * e) place) (5120 + i) span 0 (simp length-set (omega (arith, few, h.long)))

    places : (j : ℕ) → j < suc e → j < 129 → 0 < (entry_at table j).code → (t : Bool) → eqb j e ≡ t → get_or linked (8193 + 2 * j) 0 ≡ digit_place d (entry_at table j)
    places j m k c true q = rw (eqb-true j e q) place_here
    places j m k c false q =
        let o : (j ≡ e → ⊥) = eqb-false j e q in
        aside (8193 + 2 * j) (λ z. o (omega arith)) (λ z. omega (arith, few)) ∙ h.place_is j (omega arith) k c

    starts_more : (a : ℕ) → a < n → (t : Bool) → eqb a i ≡ t → get_or linked (5120 + a) 0 % 256 ≤ suc e
    starts_more a m true q = rw (eqb-true a i q, span-here) (with-start (get_or s (5120 + i) 0) e l (h.starts i known))
    starts_more a m false q =
        let o : (a ≡ i → ⊥) = eqb-false a i q in
        rw (aside (5120 + a) (λ z. omega (arith, h.declares.few)) (λ z. o (omega arith))) (omega (arith, h.starts a m))

    spans-more : (j a : ℕ) → j < suc e → j < 129 → 0 < (entry_at table j).code → index_of d.codes (entry_at table j).code ≡ a → a < n
        → (t : Bool) → eqb a i ≡ t → (get_or linked (5120 + a) 0 % 256 ≤ j) × (j < span_end (get_or linked (5120 + a) 0))
    spans-more j a m k c f g true q =
        let b : a ≡ i = eqb-true a i q in
        rw (b, span-here) (with-entry (get_or s (5120 + i) 0) e l (h.starts i known) j (omega arith) (λ r. h.spans j i r k c (f ∙ b) known))
    spans-more j a m k c f g false q =
        let o : (a ≡ i → ⊥) = eqb-false a i q in
        let p : (j ≡ e → ⊥) = λ z. o (sym f ∙ ap (λ (y : ℕ). index_of d.codes (entry_at table y).code) z ∙ at) in
        rw (aside (5120 + a) (λ z. omega (arith, h.declares.few)) (λ z. o (omega arith))) (h.spans j a (omega arith) k c f g)

    linked-set : Linked (suc e) linked
    linked-set = record {
      long = simp length-set h.long;
      declares =
          declares-same s linked n d (simp length-set) (λ k m. aside k (λ z. omega arith) (λ z. omega arith))
          (λ k m. aside (6144 + k) (λ z. omega arith) (λ z. omega (arith, few))) h.declares;
      code_is = λ j m. aside (8192 + 2 * j) (λ z. omega arith) (λ z. omega (arith, few)) ∙ h.code_is j m;
      place_is = λ j m k c. places j m k c (eqb j e) refl;
      index_is = λ j m k. aside (8193 + 2 * j) (λ z. omega arith) (λ z. omega (arith, few)) ∙ h.index_is j (omega arith) k;
      starts = λ a m. starts_more a m (eqb a i) refl;
      spans = λ j a m k c f g. spans-more j a m k c f g (eqb a i) refl;
    }

    -- the values are as they were, and then that of the entry is unknown
    holds-set : (vs : List ℕ) → Holds 8450 8466 s vs → Holds 8450 8466 linked vs
    holds-set vs v = record {
      size = v.size;
      each = v.each;
      clock_is = aside 8466 (λ z. omega arith) (λ z. omega (arith, few)) ∙ v.clock_is;
      values_are = λ w m. aside (8450 + w) (λ z. omega arith) (λ z. omega (arith, few)) ∙ v.values_are w m;
      unknown_are = λ w m. aside (8454 + w) (λ z. omega arith) (λ z. omega (arith, few)) ∙ v.unknown_are w m;
    }

    linked-entry : (vs : List ℕ) → Holds 8450 8466 s vs → Linked (suc e) (connected_entry s e i) × Holds 8450 8466 (connected_entry s e i) (set vs e 2)
    unfolding connected_entry
    linked-entry vs v =
        let m : length linked ≡ 8468 = linked-set.long in
        (linked-kept (suc e) linked (put_at linked e 2) (put-kept linked m 2 e l) linked-set, put_holds linked vs m (holds-set vs v) 2 (omega arith) e l)

  -- ALL ENTRIES, each of which is declared where it is connected
  module _ (declared : (j : ℕ) → j < 129 → 0 < (entry_at table j).code → index_of d.codes (entry_at table j).code < n) where
    abbrev test : ℕ → Bool
    test e = connected (entry_at table e)

    abbrev Goes : ℕ → List ℕ → List ℕ → Type 0
    Goes e s vs = Linked e s × Holds 8450 8466 s vs

    linked-more : (e : ℕ) (s vs : List ℕ) → e < 129 → Goes e s vs → Goes (suc e) (connect_entry s n e) (cond (test e) (set vs e 2) vs)
    unfolding connect_entry connect_at
    linked-more e s vs l (h, v) = rw (h.code_is e l, h.declares.finds (entry_at table e).code) (go (eqb (entry_at table e).code 0) refl)
      where
        go : (t : Bool) → eqb (entry_at table e).code 0 ≡ t
            → Goes (suc e) (cond t s (cond (ltb (index_of d.codes (entry_at table e).code) n) (connected_entry s e (index_of d.codes (entry_at table e).code)) s)) (cond (not t) (set vs e 2) vs)
        go true q = (linked-none e s (eqb-true (entry_at table e).code 0 q) h, v)
        go false q =
            let k : index_of d.codes (entry_at table e).code < n = declared e l (omega (arith, eqb-false (entry_at table e).code 0 q)) in
            rw (lt-ltb (index_of d.codes (entry_at table e).code) n k) (linked-entry e l s h (index_of d.codes (entry_at table e).code) refl k vs v)

    linked-all : (k e : ℕ) (s vs : List ℕ) → e + k ≡ 129 → Goes e s vs → Goes 129 (connect_from s n e k) (puts_from test (λ _. 2) vs e k)
    unfolding connect_from puts_from
    linked-all zero e s vs q g = let z : e ≡ 129 = omega arith in rw z at g
    linked-all (suc k) e s vs q g = linked-all k (suc e) (connect_entry s n e) (cond (test e) (set vs e 2) vs) (omega arith) (linked-more e s vs (omega arith) g)

  linked-end : (s : List ℕ) → length table ≡ 129 → Linked 129 s → Connected s n d table
  linked-end s q h = record {
    size = q;
    code_is = h.code_is;
    place_is = λ e l c. h.place_is e l l c;
    spans = λ e i l c f k. h.spans e i l l c f k;
  }

-- THE WHOLE TABLE
module _ (store : List ℕ) (n : ℕ) (d : Declared) (wires : List ℕ) (long : length store ≡ 8468) (declares : Declares store n d) (wired : Wired store wires)
    (no_spans : (i : ℕ) → i < n → get_or store (5120 + i) 0 ≡ 0) (no_values : (k : ℕ) → k < 18 → get_or store (8450 + k) 0 ≡ 0) (good : good_table d (pairs wires) ≡ true) where
  at-start : Linked n d (pairs wires) 0 store
  at-start = record {
    long = long;
    declares = declares;
    code_is = code-word store n d wires declares wired;
    place_is = λ j m l c. absurd (omega arith);
    index_is = λ j m l. index_word store n d wires declares wired j l;
    starts = λ i l. rw (no_spans i l) (omega arith);
    spans = λ j i m l c f k. absurd (omega arith);
  }

  at-end : Linked n d (pairs wires) 129 (connect_from store n 0 129) × Holds 8450 8466 (connect_from store n 0 129) (puts_from (λ e. connected (entry_at (pairs wires) e)) (λ _. 2) (replicate 129 0) 0 129)
  at-end =
      let size : length (pairs wires) ≡ 129 = table-length store n d wires declares wired in
      linked-all n d (pairs wires) (λ j l c. rw declares.count at (table-declared d (pairs wires) good j (omega arith) c)) 129 0 store (replicate 129 0) refl (at-start, first_holds store no_values)

  pub connect-long : length (connect_from store n 0 129) ≡ 8468
  connect-long = at-end.0.long

  pub connect-declares : Declares (connect_from store n 0 129) n d
  connect-declares = at-end.0.declares

  pub connect-connected : Connected (connect_from store n 0 129) n d (pairs wires)
  connect-connected = linked-end n d (pairs wires) (connect_from store n 0 129) (table-length store n d wires declares wired) at-end.0

  pub connect-holds : Holds 8450 8466 (connect_from store n 0 129) (at_first (pairs wires))
  connect-holds = rw (first-puts (pairs wires) (table-length store n d wires declares wired)) at at-end.1
