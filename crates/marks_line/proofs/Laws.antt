-- Laws of bytes put behind a line that has at most 256. Assumes nothing.
use mathlib.Core.Path.{◌≡◌, refl, ◌∙◌, sym, ap}
use mathlib.Core.List.{List, [], ◌∷◌, ◌++◌}
use Prim.Native.Nat.{ℕ, zero, suc, ◌+◌, ◌-◌, ◌<◌, ◌≤◌, min}
use Rattle.std.proofs.Common.{arith, append_assoc, append-nil, length-append, length-take}
use Rattle.std.proofs.lemmas.List.{replicate_more, take_more, take_more_set}
use lib.ListN.{length, get_or, replicate, set, take}
use lib.Seq.{take_all, length-take-le}
use Rattle.marks_line.specs.Lines.{with_bytes}

take-none : (n : ℕ) → take {A = ℕ} n [] ≡ []
take-none zero = refl
take-none (suc n) = refl

-- the first n of two lists behind one another
take-both : (n : ℕ) (xs ys : List ℕ) → take n (xs ++ ys) ≡ take n xs ++ take (n - length xs) ys
take-both zero xs ys = let none : 0 - length xs ≡ 0 = omega arith in rw none refl
take-both (suc n) [] ys = let all : suc n - 0 ≡ suc n = omega arith in rw all refl
take-both (suc n) (x ∷ xs) ys =
    let left : suc n - suc (length xs) ≡ n - length xs = omega arith in
    rw left (ap (λ (r : List ℕ). x ∷ r) (take-both n xs ys))

pub put-more : (line bytes more : List ℕ) → with_bytes (with_bytes line bytes) more ≡ with_bytes line (bytes ++ more)
unfolding with_bytes
put-more line bytes more =
    let room : ℕ = 256 - length line in
    let long : length (line ++ take room bytes) ≡ length line + length (take room bytes) = length-append line (take room bytes) in
    let part : length (take room bytes) ≡ min room (length bytes) = length-take room bytes in
    let left : 256 - length (line ++ take room bytes) ≡ room - length bytes = omega (arith, long, part) in
    rw (left, take-both room bytes more) (append_assoc line (take room bytes) (take (room - length bytes) more))

pub put-none : (line : List ℕ) → line ≡ with_bytes line []
unfolding with_bytes
put-none line = rw (take-none (256 - length line)) (sym (append-nil line))

-- one byte more of those that are put
pub put-next : (line bytes : List ℕ) (i : ℕ) → i < length bytes → with_bytes (with_bytes line (take i bytes)) (get_or bytes i 0 ∷ []) ≡ with_bytes line (take (i + 1) bytes)
put-next line bytes i h = put-more line (take i bytes) (get_or bytes i 0 ∷ []) ∙ ap (with_bytes line) (sym (take_more bytes i 0 h))

-- one more of so many equal bytes
pub put-again : (line : List ℕ) (b i : ℕ) → with_bytes (with_bytes line (replicate i b)) (b ∷ []) ≡ with_bytes line (replicate (i + 1) b)
put-again line b i = put-more line (replicate i b) (b ∷ []) ∙ ap (with_bytes line) (replicate_more i b)

module _ (bytes : List ℕ) (used b : ℕ) where
  pub put-in : length bytes ≡ 256 → used < 256 → take (used + 1) (set bytes used b) ≡ with_bytes (take used bytes) (b ∷ [])
  unfolding with_bytes
  put-in h k =
      let few : used ≤ length bytes = omega arith in
      let room : used < length bytes = omega arith in
      let part : length (take used bytes) ≡ used = length-take-le used bytes few in
      let one : 1 ≤ 256 - length (take used bytes) = omega (arith, part) in
      rw (take_all (256 - length (take used bytes)) (b ∷ []) one) (take_more_set bytes used b room)

  pub left-out : length bytes ≡ 256 → used ≤ 256 → 256 ≤ used → take used bytes ≡ with_bytes (take used bytes) (b ∷ [])
  unfolding with_bytes
  left-out h k l =
      let few : used ≤ length bytes = omega arith in
      let part : length (take used bytes) ≡ used = length-take-le used bytes few in
      let none : 256 - length (take used bytes) ≡ 0 = omega (arith, part) in
      rw none (sym (append-nil (take used bytes)))
