-- A change of bits in the store is the definition's: `change-holds`. Assumes nothing.
--
-- The store is changed entry by entry over the span of the code's place (`loop`), as values that are put into the list one after the other.
-- The entries outside the span have another code, so that these are all the values that change.
use mathlib.Core.Path.{◌≡◌, refl, ◌∙◌, sym, ap}
use mathlib.Core.Bool.{Bool, true, false, cond}
use mathlib.Core.List.{List, [], ◌∷◌}
use Prim.Native.Nat.{ℕ, zero, suc, ◌+◌, ◌-◌, ◌*◌, ◌<◌, ◌≤◌}
use native.Mathlib.Omega.{arith}
use lib.Dec.{eqb, ltb}
use lib.ListN.{length, get_or, take, set}
use lib.Seq.{ext_get_or, get_or-take, length-take-le}
use borrow.Author.Tests.{eqb-true, ltb-true}
use Rattle.dump.specs.State.{Declared}
use Rattle.dump.specs.Declarations.{index_of}
use Rattle.dump.specs.Connections.{Pair, digit_place, digit_at, changed_to}
use Rattle.dump_values.specs.Values.{put_at, digit_of, change_entry, change_from, span_start, span_end, bits_changed}
use Rattle.dump_valued.specs.Valued.{Holds, Declares, Connected, entry_at, Kept}
use Rattle.dump_valued.proofs.Put.{put_holds, put-kept}
use Rattle.dump_valued.proofs.Spans.{end-le}
use Rattle.dump_valued.proofs.Puts.{put_in, puts_from, puts-length, puts-at}
use Rattle.dump_valued.proofs.Survivals.{kept_self, kept_then, connected-kept}

-- THE DIGITS
get_d_default : (l : List ℕ) (i a b : ℕ) → i < length l → get_or l i a ≡ get_or l i b
get_d_default [] i a b h = absurd (omega arith)
get_d_default (x ∷ l) zero a b h = refl
get_d_default (x ∷ l) (suc i) a b h = get_d_default l i a b (omega arith)

module _ (digits : List ℕ) (count : ℕ) (some : 0 < count) (there : count ≤ length digits) where
  taken : (i : ℕ) → i < count → get_or (take count digits) i 2 ≡ get_or digits i 0
  taken i h = get_or-take count digits i 2 h ∙ get_d_default digits i 2 0 (omega arith)

  pub digit-of : (k : ℕ) → digit_of digits count k ≡ digit_at (take count digits) k
  unfolding digit_of digit_at
  digit-of k = rw (length-take-le count digits there, taken 0 some) (go (ltb k count) refl)
    where
      go : (t : Bool) → ltb k count ≡ t
          → cond (ltb k count) (get_or digits (count - 1 - k) 0) (cond (ltb (get_or digits 0 0) 2) 0 (get_or digits 0 0))
          ≡ cond (ltb k count) (get_or (take count digits) (count - suc k) 2) (cond (ltb (get_or digits 0 0) 2) 0 (get_or digits 0 0))
      go true e =
          let l : k < count = ltb-true k count e in
          let f : count - 1 - k ≡ count - suc k = omega arith in
          rw (e, f) (sym (taken (count - suc k) (omega arith)))
      go false e = rw e

  pub digit_lt : ((i : ℕ) → i < count → get_or digits i 0 < 3) → (k : ℕ) → digit_of digits count k < 3
  unfolding digit_of
  digit_lt small k = go (ltb k count) refl (ltb (get_or digits 0 0) 2)
    where
      go : (t : Bool) → ltb k count ≡ t → (u : Bool) → cond (ltb k count) (get_or digits (count - 1 - k) 0) (cond u 0 (get_or digits 0 0)) < 3
      go true e u = let l : k < count = ltb-true k count e in rw e (small (count - 1 - k) (omega arith))
      go false e true = rw e (omega arith)
      go false e false = rw e (small 0 some)

-- THE DEFINITION, entry by entry
module _ (d : Declared) (x : ℕ) (ds : List ℕ) where
  pub changed-length : (table : List Pair) (vs : List ℕ) → length table ≡ length vs → length (changed_to d table vs x ds) ≡ length vs
  unfolding changed_to
  changed-length [] vs e = e
  changed-length (p ∷ ps) [] e = refl
  changed-length (p ∷ ps) (v ∷ vs) e = ap suc (changed-length ps vs (omega arith))

  pub changed-at : (table : List Pair) (vs : List ℕ) (j : ℕ) → length table ≡ length vs → j < length vs
      → get_or (changed_to d table vs x ds) j 0 ≡ cond (eqb (entry_at table j).code x) (digit_at ds (digit_place d (entry_at table j))) (get_or vs j 0)
  unfolding changed_to
  changed-at [] vs j e h = absurd (omega arith)
  changed-at (p ∷ ps) [] j e h = absurd (omega arith)
  changed-at (p ∷ ps) (v ∷ vs) zero e h = refl
  changed-at (p ∷ ps) (v ∷ vs) (suc j) e h = changed-at ps vs j (omega arith) (omega arith)

-- A CHANGE, entry by entry: which entries have the code, and what they get
abbrev has_code : List Pair → ℕ → ℕ → Bool
has_code table x e = eqb (entry_at table e).code x

abbrev digit_for : Declared → List Pair → List ℕ → ℕ → ℕ
digit_for d table ds e = digit_at ds (digit_place d (entry_at table e))

-- the store t has the values vs now, and else what s has
abbrev Goes : List ℕ → List ℕ → List ℕ → Type 0
Goes s t vs = Holds 8450 8466 t vs × Kept s t

module _ (n : ℕ) (few : n ≤ 1024) (d : Declared) (table : List Pair) (digits : List ℕ) (count x : ℕ) (some : 0 < count) (there : count ≤ length digits)
    (small : (i : ℕ) → i < count → get_or digits i 0 < 3) (named : 0 < x) where
  entry : (s vs : List ℕ) (e : ℕ) → length s ≡ 8468 → Connected s n d table → Holds 8450 8466 s vs → e < 129
      → Goes s (change_entry s digits count x e) (put_in (has_code table x) (digit_for d table (take count digits)) vs e)
  unfolding change_entry
  entry s vs e long c h l = rw (c.code_is e l) (go (has_code table x e) refl)
    where
      go : (t : Bool) → has_code table x e ≡ t
          → Goes s (cond t (put_at s e (digit_of digits count (get_or s (8193 + 2 * e) 0))) s) (cond t (set vs e (digit_for d table (take count digits) e)) vs)
      go true q =
          let p : get_or s (8193 + 2 * e) 0 ≡ digit_place d (entry_at table e) = c.place_is e l (omega (arith, eqb-true (entry_at table e).code x q)) in
          let v : digit_of digits count (digit_place d (entry_at table e)) ≡ digit_for d table (take count digits) e = digit-of digits count some there (digit_place d (entry_at table e)) in
          let m : digit_for d table (take count digits) e < 3 = rw v at (digit_lt digits count some there small (digit_place d (entry_at table e))) in
          rw (p, v) (put_holds s vs long h (digit_for d table (take count digits) e) m e l, put-kept s long (digit_for d table (take count digits) e) e l)
      go false q = (h, kept_self s)

  loop : (k : ℕ) (s vs : List ℕ) (e : ℕ) → length s ≡ 8468 → Connected s n d table → Holds 8450 8466 s vs → k ≤ 129 - e
      → Goes s (change_from s digits count x e k) (puts_from (has_code table x) (digit_for d table (take count digits)) vs e k)
  unfolding change_from puts_from
  loop zero s vs e long c h l = (h, kept_self s)
  loop (suc k) s vs e long c h l =
      let t = change_entry s digits count x e in
      let (g, kept) = entry s vs e long c h (omega arith) in
      let (r, more) =
      loop k t (put_in (has_code table x) (digit_for d table (take count digits)) vs e) (suc e) (kept.as_long ∙ long) (connected-kept s t kept n d table few c) g (omega arith) in
      (r, kept_then s t (change_from t digits count x (suc e) k) kept more)

-- THE WHOLE CHANGE. The wire with code x, whose place among the codes is i, has changed to the first `count` digits.
module _ (store : List ℕ) (long : length store ≡ 8468) (n : ℕ) (d : Declared) (table : List Pair) (declares : Declares store n d) (connected : Connected store n d table)
    (digits : List ℕ) (count : ℕ) (some : 0 < count) (there : count ≤ length digits) (small : (k : ℕ) → k < count → get_or digits k 0 < 3)
    (x i : ℕ) (named : 0 < x) (place : index_of d.codes x ≡ i) (known : i < n) (vs : List ℕ) (holds : Holds 8450 8466 store vs) where
  abbrev start : ℕ
  start = span_start (get_or store (5120 + i) 0)

  abbrev turns : ℕ
  turns = span_end (get_or store (5120 + i) 0) - start

  abbrev put : List ℕ
  put = puts_from (has_code table x) (digit_for d table (take count digits)) vs start turns

  goes : Goes store (bits_changed store digits count x i) put
  unfolding bits_changed
  goes = loop n declares.few d table digits count x some there small named turns store vs start long connected holds (omega (arith, end-le (get_or store (5120 + i) 0)))

  -- an entry with the code lies in the span
  spanned : (j : ℕ) → j < 129 → has_code table x j ≡ true → (start ≤ j) × (j < start + turns)
  unfolding span_start
  spanned j l q =
      let e : (entry_at table j).code ≡ x = eqb-true (entry_at table j).code x q in
      let (a, b) = connected.spans j i l (omega arith) (ap (index_of d.codes) e ∙ place) known in
      (a, omega arith)

  -- so these are all the values that change
  put_all : put ≡ changed_to d table vs x (take count digits)
  put_all =
      let m : length table ≡ length vs = connected.size ∙ sym holds.size in
      let f : length put ≡ length vs = puts-length (has_code table x) (digit_for d table (take count digits)) turns vs start in
      ext_get_or 0 put (changed_to d table vs x (take count digits)) (f ∙ sym (changed-length d x (take count digits) table vs m))
      (λ j l.
      puts-at (has_code table x) (digit_for d table (take count digits)) turns vs start j (omega arith) (spanned j (omega (arith, holds.size)))
      ∙ sym (changed-at d x (take count digits) table vs j m (omega arith)))

  pub change-holds : Holds 8450 8466 (bits_changed store digits count x i) (changed_to d table vs x (take count digits))
  change-holds = rw put_all at goes.0

  pub change-kept : Kept store (bits_changed store digits count x i)
  change-kept = goes.1
