-- Bytes put behind bytes are put as one text; and a text that is put part by part: what is put, with what is left of it, is the whole. Assumes nothing.
use Prim.Native.Nat.{ℕ, ◌+◌, ◌-◌, ◌≤◌}
use mathlib.Core.Path.{◌≡◌, refl, sym, ap, ◌∙◌}
use mathlib.Core.List.{List, [], ◌∷◌, ◌++◌, append-nil, append_assoc}
use native.Mathlib.Omega.{arith}
use lib.ListN.{length, set, take, drop, length-append}
use lib.Seq.{sets, length-sets, drop-drop}
use Rattle.std.proofs.lemmas.List.Edits.{sets-eq}
use Rattle.bits.proofs.Stores.{sets-append}
use Rattle.waves_put.specs.Put.{Put}

pub put-none : (out : List ℕ) (at : ℕ) → Put [] out at out at
put-none out at = record { next_is = omega arith; out_is = refl }

pub put_one : (b : ℕ) (out : List ℕ) (at : ℕ) → Put (b ∷ []) out at (set out at b) (at + 1)
put_one b out at = record { next_is = refl; out_is = refl }

pub put-length : {text out : List ℕ} {at : ℕ} {out' : List ℕ} {next : ℕ} → Put text out at out' next → length out' ≡ length out
put-length {text} {out} {at} p = ap length p.out_is ∙ length-sets out at text

pub put-more : {text more out out' out'' : List ℕ} {at next last : ℕ} → Put text out at out' next → Put more out' next out'' last → Put (text ++ more) out at out'' last
put-more {text} {more} {out} {at = at} {next} p q = record {
  next_is = omega (arith, p.next_is, q.next_is, length-append text more);
  out_is =
      q.out_is ∙ ap (λ (l : List ℕ). sets l next more) p.out_is ∙ ap (λ (i : ℕ). sets (sets out at text) i more) p.next_is ∙ sym (sets-append out at text more);
}

-- a text in the place of as many bytes
pub put-middle : (text out : List ℕ) (at : ℕ) → at + length text ≤ length out
    → Put text out at (take at out ++ (text ++ drop (at + length text - at) (drop at out))) (at + length text)
put-middle text out at h =
    let k : at + length text - at ≡ length text = omega arith in
    record {
      next_is = refl;
      out_is = rw (k, drop-drop) (sym (append_assoc (take at out) text (drop (at + length text) out)) ∙ sym (sets-eq text out at h));
    }

-- of a text that is to stand from `at` on, `left` is still to be put
pub record Putting (text out : List ℕ) (at : ℕ) (left out' : List ℕ) (next : ℕ) : Type 0 where
  pub done : List ℕ
  pub whole : done ++ left ≡ text
  pub put : Put done out at out' next

pub putting-none : (text out : List ℕ) (at : ℕ) → Putting text out at text out at
putting-none text out at = record { done = []; whole = refl; put = put-none out at }

module _ {text out : List ℕ} {at : ℕ} {left out' : List ℕ} {next : ℕ} (p : Putting text out at left out' next) where
  pub putting-length : length out' ≡ length out
  putting-length = put-length p.put

  pub putting-all : left ≡ [] → Put text out at out' next
  putting-all e =
      let all : p.done ≡ text = sym (append-nil p.done) ∙ ap (λ (l : List ℕ). p.done ++ l) (sym e) ∙ p.whole in
      rw all at p.put

  -- there is room for what is left
  pub putting-room : at + length text ≤ length out → next + length left ≤ length out'
  putting-room h = omega (arith, h, putting-length, p.put.next_is, ap length p.whole, length-append p.done left)

  pub putting-more : {more rest out'' : List ℕ} {last : ℕ} → left ≡ more ++ rest → Put more out' next out'' last → Putting text out at rest out'' last
  putting-more {more} {rest} e q = record {
    done = p.done ++ more;
    whole = append_assoc p.done more rest ∙ ap (λ (l : List ℕ). p.done ++ l) (sym e) ∙ p.whole;
    put = put-more p.put q;
  }
