-- That a head and a store say a state, by cases. Assumes nothing.
use mathlib.Core.Path.{◌≡◌, refl}
use mathlib.Core.Bool.{Bool, true, false, cond}
use mathlib.Core.List.{List}
use Prim.Native.Nat.{ℕ}
use Rattle.dump.specs.State.{State}
use Rattle.dump_declare.specs.declared.head.Head.{Head}
use Rattle.dump_declared.specs.Declared.{state_of}

pub record Says (h : Head) (store : List ℕ) (s : State) : Type 0 where
  pub same : state_of h store ≡ s

-- where it holds by computation
abbrev pub says : (h : Head) (store : List ℕ) → Says h store (state_of h store)
says h store = record { same = refl }

-- a test that both sides make
pub by-test : {store : List ℕ} {x y : Head} {t z : Bool} {u v : State} → t ≡ z → Says x store u → Says y store v → Says (cond t x y) store (cond z u v)
by-test {store} {x} {y} {t} {z} {u} {v} e f g = rw (← e) (go t)
  where
    go : (t : Bool) → Says (cond t x y) store (cond t u v)
    go true = f
    go false = g

-- the same test
pub by-same : {store : List ℕ} {x y : Head} {u v : State} (t : Bool) → Says x store u → Says y store v → Says (cond t x y) store (cond t u v)
by-same t f g = by-test {t = t} refl f g
