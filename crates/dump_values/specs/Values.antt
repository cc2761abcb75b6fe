-- The values of the connected wires, as they stand in a reader's store. Assumes nothing.
use Rattle.std.specs.Prelude.{Bool, true, false, cond, List, ℕ, zero, suc, ◌+◌, ◌-◌, ◌*◌, ◌/◌, ◌%◌, ◌^◌, eqb, ltb, leb, get_or, set}
use Rattle.std.specs.Int.Bits.{bit_and, bit_or, bit_xor}
use Rattle.dump_find.specs.Find.{lookup}

-- ONE VALUE, of entry e
unfoldable pub with_bit : ℕ → ℕ → ℕ → ℕ
with_bit x i b = bit_or (bit_xor x (bit_and x (2 ^ i))) (b * 2 ^ i % 2 ^ 64)

unfoldable pub put_wire : List ℕ → ℕ → ℕ → ℕ → List ℕ
put_wire store w i v = set (set store (8450 + w) (with_bit (get_or store (8450 + w) 0) i (v % 2))) (8454 + w) (with_bit (get_or store (8454 + w) 0) i (v / 2 % 2))

unfoldable pub put_at : List ℕ → ℕ → ℕ → List ℕ
put_at store e v = cond (eqb e 0) (set store 8466 v) (put_wire store ((e - 1) / 32) ((e - 1) % 32) v)

-- A CHANGE of the wire with code x, declared at place i
unfoldable pub digit_of : List ℕ → ℕ → ℕ → ℕ
digit_of digits count k = cond (ltb k count) (get_or digits (count - 1 - k) 0) (cond (ltb (get_or digits 0 0) 2) 0 (get_or digits 0 0))

unfoldable pub change_entry : List ℕ → List ℕ → ℕ → ℕ → ℕ → List ℕ
change_entry store digits count x e = cond (eqb (get_or store (8192 + 2 * e) 0) x) (put_at store e (digit_of digits count (get_or store (8193 + 2 * e) 0))) store

unfoldable pub change_from : List ℕ → List ℕ → ℕ → ℕ → ℕ → ℕ → List ℕ
change_from store digits count x e zero = store
change_from store digits count x e (suc k) = change_from (change_entry store digits count x e) digits count x (suc e) k

unfoldable pub span_start : ℕ → ℕ
span_start span = span % 256

unfoldable pub span_end : ℕ → ℕ
span_end span = cond (ltb (span / 256) 129) (span / 256) 129

unfoldable pub bits_changed : List ℕ → List ℕ → ℕ → ℕ → ℕ → List ℕ
bits_changed store digits count x i = change_from store digits count x (span_start (get_or store (5120 + i) 0)) (span_end (get_or store (5120 + i) 0) - span_start (get_or store (5120 + i) 0))

-- THE TABLE, tested
unfoldable pub is_between_ends : ℕ → ℕ → ℕ → Bool
is_between_ends k left right = cond (ltb left right) (cond (ltb k left) false (leb k right)) (cond (ltb k right) false (leb k left))

unfoldable pub good_at : List ℕ → ℕ → ℕ → ℕ → Bool
good_at store n e i = cond (ltb i n) (cond (eqb (get_or store (2048 + i) 0) 2) false (is_between_ends (get_or store (8193 + 2 * e) 0) (get_or store (3072 + i) 0) (get_or store (4096 + i) 0))) false

unfoldable pub good_entry : List ℕ → ℕ → ℕ → Bool
good_entry store n e = cond (eqb (get_or store (8192 + 2 * e) 0) 0) true (good_at store n e (lookup store n (get_or store (8192 + 2 * e) 0)))

unfoldable pub good_from : List ℕ → ℕ → ℕ → ℕ → Bool
good_from store n e zero = true
good_from store n e (suc k) = cond (good_entry store n e) (good_from store n (suc e) k) false

unfoldable pub table_good : List ℕ → ℕ → Bool
table_good store n = cond (eqb (get_or store 8192 0) 0) false (good_from store n 0 129)

-- THE TABLE, connected: the place of each entry's digit, the entries of each code, and that no wire has a value
unfoldable pub apart : ℕ → ℕ → ℕ
apart a b = cond (ltb a b) (b - a) (a - b)

unfoldable pub span_with : ℕ → ℕ → ℕ
span_with span e = cond (eqb span 0) (e + 256 * (e + 1)) (span % 256 + 256 * (e + 1))

unfoldable pub connected_entry : List ℕ → ℕ → ℕ → List ℕ
connected_entry store e i = put_at (set (set store (8193 + 2 * e) (apart (get_or store (8193 + 2 * e) 0) (get_or store (4096 + i) 0))) (5120 + i) (span_with (get_or store (5120 + i) 0) e)) e 2

unfoldable pub connect_at : List ℕ → ℕ → ℕ → ℕ → List ℕ
connect_at store n e i = cond (ltb i n) (connected_entry store e i) store

unfoldable pub connect_entry : List ℕ → ℕ → ℕ → List ℕ
connect_entry store n e = cond (eqb (get_or store (8192 + 2 * e) 0) 0) store (connect_at store n e (lookup store n (get_or store (8192 + 2 * e) 0)))

unfoldable pub connect_from : List ℕ → ℕ → ℕ → ℕ → List ℕ
connect_from store n e zero = store
connect_from store n e (suc k) = connect_from (connect_entry store n e) n (suc e) k
