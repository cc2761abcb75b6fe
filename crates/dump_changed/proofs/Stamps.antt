-- A stamp, and the end of the last one: `stamp-follows` and `closed-end`. Assumes nothing.
--
-- The clock rose on both sides or on neither; there is room on both sides or on neither.
-- What closes a stamp goes on from where the sample is written, or is refused with 16.
use mathlib.Core.Path.{◌≡◌, refl, ◌∙◌, sym, ap, ap₂}
use mathlib.Core.Bool.{Bool, true, false, cond, not, ◌&&◌}
use mathlib.Core.List.{List, [], ◌∷◌}
use Prim.Native.Nat.{ℕ, ◌/◌, ◌^◌, ◌<◌}
use native.Mathlib.Omega.{arith}
use lib.Dec.{eqb, ltb}
use lib.ListN.{length, get_or}
use borrow.Author.Tests.{ltb-true, eqb-false, ne_eqb}
use Rattle.dump.specs.Text.{is_number, value}
use Rattle.dump.specs.State.{State, refuse, with_changed}
use Rattle.dump.specs.Connections.{Pair}
use Rattle.dump.specs.Changes as D
use Rattle.dump_words.specs.declared.number.Number.{Number}
use Rattle.dump_words.specs.Gather.{no_number}
use Rattle.dump_gathered.specs.Gathered.{number_of, numbered, lost}
use Rattle.dump_gathered.proofs.Numbers.{number-of}
use Rattle.dump_change.specs.declared.wave.Wave.{Wave}
use Rattle.dump_change.specs.Change as C
use Rattle.dump_changed.specs.Changed.{Follows}
use Rattle.dump_changed.proofs.Moves.{moved, ill}
use Rattle.dump_changed.proofs.Frames.{framed-more}
use Rattle.dump_changed.proofs.Opens.{opened-now, opened-before, tabled_opened}

-- THE CLOCK ROSE: the test of the code on its words, that of the definition on the values
rise : (stamped : ℕ) (been : Bool) (x x' y y' : ℕ) → been ≡ not (eqb stamped 0) → ((stamped ≡ 0 → ⊥) → x ≡ x') → y ≡ y'
    → cond (eqb stamped 0) false (cond (eqb x 0) (eqb y 1) false) ≡ been && eqb x' 0 && eqb y' 1
rise stamped been x x' y y' e f g = rw (e, g) (go (eqb stamped 0) refl)
  where
    both : (a b : Bool) → cond a b false ≡ a && b
    both true b = refl
    both false b = refl

    go : (t : Bool) → eqb stamped 0 ≡ t → cond (eqb stamped 0) false (cond (eqb x 0) (eqb y' 1) false) ≡ not (eqb stamped 0) && eqb x' 0 && eqb y' 1
    go true q = rw q
    go false q = rw (q, f (eqb-false stamped 0 q)) (both (eqb x' 0) (eqb y' 1))

-- what is kept of a number says whether it is one of at most 64 bits, and which
record Numbered (n : Number) (v : List ℕ) : Type 0 where
  test_is : eqb n.state 1 ≡ is_number v && ltb (value 0 v) (2 ^ 64)
  value_is : is_number v && ltb (value 0 v) (2 ^ 64) ≡ true → n.value ≡ value 0 v

numbered_is : (v : List ℕ) → Numbered (numbered v) v
unfolding numbered is_number
numbered_is [] = record { test_is = refl; value_is = λ e. let z : ◌≡◌ {A = ℕ} 0 1 = cc in absurd (omega arith) }
numbered_is (b ∷ v) = record { test_is = test (is_number (b ∷ v)) (ltb (value 0 (b ∷ v)) (2 ^ 64)); value_is = is (is_number (b ∷ v)) (ltb (value 0 (b ∷ v)) (2 ^ 64)) }
  where
    test : (x y : Bool) → eqb (cond x (cond y (record { value = value 0 (b ∷ v); state = 1 }) (record { value = 0; state = 2 })) lost).state 1 ≡ x && y
    test false y = refl
    test true false = refl
    test true true = refl

    is : (x y : Bool) → x && y ≡ true → (cond x (cond y (record { value = value 0 (b ∷ v); state = 1 }) (record { value = 0; state = 2 })) lost).value ≡ value 0 (b ∷ v)
    is true true e = refl
    is false y e = let z : ◌≡◌ {A = ℕ} 0 1 = cc in absurd (omega arith)
    is true false e = let z : ◌≡◌ {A = ℕ} 0 1 = cc in absurd (omega arith)

module _ {n : ℕ} {w : Wave} {store digits frames lent : List ℕ} {table : List Pair} {s : State} (h : Follows n w store digits frames lent table s) (due : w.place ≡ 20) where
  abbrev room : ℕ
  room = length lent / 8

  rises-is : C.rises w store ≡ D.rose s.changed
  unfolding C.rises D.rose
  rises-is = rise w.stamped s.changed.stamped (get_or store 8467 0) (get_or s.changed.before 0 2) (get_or store 8466 0) (get_or s.changed.values 0 2) h.stamped_is (λ z. (h.before z).clock_is) h.holds.clock_is

  room-is : ltb w.frames (length frames / 8) ≡ ltb (length s.changed.frames) room
  room-is = rw (h.framed.count_is, h.framed.as_lent)

  -- CLOSED with a sample
  sampled-follows : C.rises w store ≡ true → w.frames < length frames / 8
      → Follows n (C.sampled w) store digits (C.sample_from store frames w.frames 0 8) lent table (with_changed s s.place (D.sampled s.changed))
  unfolding C.rises
  sampled-follows r l = record {
    place_is = h.place_is;
    identifier_is = h.identifier_is;
    many = h.many;
    tabled = h.tabled;
    holds = h.holds;
    before = h.before;
    dumping_is = h.dumping_is;
    stamped_is = h.stamped_is;
    stamp_is = h.stamp_is;
    framed = framed-more store s.changed.before (h.before (stamped (eqb w.stamped 0) refl r)) lent frames s.changed.frames w.frames h.framed l;
    vector_equals = λ e. absurd (omega arith);
  }
    where
      stamped : (t : Bool) → eqb w.stamped 0 ≡ t → cond t false (cond (eqb (get_or store 8467 0) 0) (eqb (get_or store 8466 0) 1) false) ≡ true → w.stamped ≡ 0 → ⊥
      stamped true q e z = let z : ◌≡◌ {A = ℕ} 0 1 = cc in omega arith
      stamped false q e z = eqb-false w.stamped 0 q z

  -- what holds of both where the stamp is closed, and of a refusal, holds
  by-closing : (next : State → State) (P : Wave → List ℕ → State → Type 0)
      → ((r : Wave) (fr : List ℕ) (z : State) → Follows n r store digits fr lent table z → r.place ≡ 20 → P r fr (next z))
      → (Follows n (C.at w 116) store digits frames lent table (refuse s 16) → P (C.at w 116) frames (refuse s 16))
      → P (C.closed w store frames) (C.closed_frames w store frames) (D.closing table room s next)
  unfolding C.closed C.closed_frames D.closing
  by-closing next P f g = rw (← rises-is, ← room-is) (go (C.rises w store) refl (ltb w.frames (length frames / 8)) refl)
    where
      go : (t : Bool) → C.rises w store ≡ t → (u : Bool) → ltb w.frames (length frames / 8) ≡ u
          → P (cond t (cond u (C.sampled w) (C.at w 116)) w) (cond t (cond u (C.sample_from store frames w.frames 0 8) frames) frames) (cond t (cond u (next (with_changed s s.place (D.sampled s.changed))) (refuse s 16)) (next s))
      go true e true q = f (C.sampled w) (C.sample_from store frames w.frames 0 8) (with_changed s s.place (D.sampled s.changed)) (sampled-follows e (ltb-true w.frames (length frames / 8) q)) due
      go true e false q = g (moved h 116 (λ z. omega arith))
      go false e u q = f w frames s h due

  -- THE END closes the last stamp
  pub closed-end : Follows n (C.closed w store frames) store digits (C.closed_frames w store frames) lent table (D.closing table room s (λ z. z))
  closed-end = by-closing (λ z. z) (λ r fr z. Follows n r store digits fr lent table z) (λ r fr z k e. k) (λ k. k)

  -- THE NEXT STAMP opens: the values now are those before it
  opened-follows : (v : ℕ) (r : Wave) (fr : List ℕ) (z : State) → Follows n r store digits fr lent table z → Follows n (C.stamped_at r v) (C.opened store) digits fr lent table (with_changed z 20 (D.stamped_at v z.changed))
  opened-follows v r fr z k = record {
    place_is = refl;
    identifier_is = k.identifier_is;
    many = k.many;
    tabled = tabled_opened n store table z.declared k.tabled;
    holds = opened-now store k.tabled.long z.changed.values k.holds;
    before = λ e. opened-before store k.tabled.long z.changed.values k.holds;
    dumping_is = k.dumping_is;
    stamped_is = refl;
    stamp_is = refl;
    framed = k.framed;
    vector_equals = λ e. absurd (omega arith);
  }

  next-follows : (v : ℕ) → Follows n (C.next_wave w v store frames) (C.next_store w store frames) digits (C.next_frames w store frames) lent table (D.closing table room s (λ z. with_changed z 20 (D.stamped_at v z.changed)))
  unfolding C.next_wave C.next_store C.next_frames
  next-follows v =
      by-closing (λ z. with_changed z 20 (D.stamped_at v z.changed))
      (λ r fr z. Follows n (cond (eqb r.place 116) r (C.stamped_at r v)) (cond (eqb r.place 116) store (C.opened store)) digits fr lent table z)
      (λ r fr z k e. rw (ne_eqb r.place 116 (λ q. omega arith)) (opened-follows v r fr z k)) (λ k. k)

  -- A STAMP by its order: it goes back, it is the same, or it closes the one before it
  stamp-at : (v : ℕ) → Follows n (C.stamp_wave w v store frames) (C.stamp_store w v store frames) digits (C.stamp_frames w v store frames) lent table (D.stamp_at table room s v)
  unfolding C.stamp_wave C.stamp_store C.stamp_frames C.stamp_order D.stamp_at
  stamp-at v =
      let back : (s.changed.stamped && ltb v s.changed.stamp) ≡ (not (eqb w.stamped 0) && ltb v w.stamp) = ap₂ (λ (x : Bool) (y : ℕ). x && ltb v y) h.stamped_is h.stamp_is in
      let equal : (s.changed.stamped && eqb v s.changed.stamp) ≡ (not (eqb w.stamped 0) && eqb v w.stamp) = ap₂ (λ (x : Bool) (y : ℕ). x && eqb v y) h.stamped_is h.stamp_is in
      rw (back, equal) (go (eqb w.stamped 0) (ltb v w.stamp) (eqb v w.stamp))
    where
      go : (x y z : Bool)
          → Follows n (cond (eqb (cond x 0 (cond y 2 (cond z 1 0))) 0) (C.next_wave w v store frames) (cond (eqb (cond x 0 (cond y 2 (cond z 1 0))) 1) w (C.at w 114)))
          (cond (eqb (cond x 0 (cond y 2 (cond z 1 0))) 0) (C.next_store w store frames) store) digits
          (cond (eqb (cond x 0 (cond y 2 (cond z 1 0))) 0) (C.next_frames w store frames) frames) lent table
          (cond (not x && y) (refuse s 14) (cond (not x && z) s (D.closing table room s (λ z. with_changed z 20 (D.stamped_at v z.changed)))))
      go true y z = next-follows v
      go false true z = moved h 114 (λ e. omega arith)
      go false false true = h
      go false false false = next-follows v

  stamp-number : (number : Number) (v : List ℕ) → Numbered number v
      → Follows n (C.on_stamp w number store frames) (C.on_stamp_store w number store frames) digits (C.on_stamp_frames w number store frames) lent table (D.on_stamp table room s v)
  unfolding C.on_stamp C.on_stamp_store C.on_stamp_frames D.on_stamp
  stamp-number number v k =
      let test : (not s.changed.dumping && is_number v && ltb (value 0 v) (2 ^ 64)) ≡ (eqb w.dumping 0 && eqb number.state 1) = tests s.changed.dumping (eqb w.dumping 0) (is_number v) (ltb (value 0 v) (2 ^ 64)) h.dumping_is ∙ ap (λ (x : Bool). eqb w.dumping 0 && x) (sym k.test_is) in
      rw test (go (eqb w.dumping 0) (eqb number.state 1) refl)
    where
      tests : (x d a c : Bool) → x ≡ not d → (not x && a && c) ≡ (d && (a && c))
      tests x true a c e = rw e
      tests x false a c e = rw e

      go : (x y : Bool) → eqb number.state 1 ≡ y
          → Follows n (cond x (cond y (C.stamp_wave w number.value store frames) (C.at w 110)) (C.at w 110)) (cond x (cond y (C.stamp_store w number.value store frames) store) store) digits
          (cond x (cond y (C.stamp_frames w number.value store frames) frames) frames) lent table (cond (x && y) (D.stamp_at table room s (value 0 v)) (refuse s 10))
      go true true e = rw (← k.value_is (sym k.test_is ∙ e)) (stamp-at number.value)
      go true false e = ill h
      go false y e = ill h

  pub stamp-follows : (number : Number) (v : List ℕ) → number ≡ number_of no_number v
      → Follows n (C.on_stamp w number store frames) (C.on_stamp_store w number store frames) digits (C.on_stamp_frames w number store frames) lent table (D.on_stamp table room s v)
  stamp-follows number v e = stamp-number number v (rw (e, number-of v) (numbered_is v))
