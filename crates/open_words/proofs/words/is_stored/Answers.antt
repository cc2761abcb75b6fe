-- `open_words::words::is_stored` meets its contract: below 2^32 nothing is stored, and otherwise the rest is at most the word of ones. Assumes nothing.
use Prim.Native.Nat.{◌-◌, ◌^◌}
use borrow.Author.Tests.{le-leb, lt-leb}
use Rattle.bits.proofs.Bits.{le-ones-lt}
use Rattle.open_words.proofs.words.is_stored.Goals as goal

pub returns-then-word-lt4294967296 : goal.returns-then-word-lt4294967296
returns-then-word-lt4294967296 c = simp (lt-leb _ _ c.if-word-lt4294967296.true)

pub returns : goal.returns
returns c =
    let a = c.args in
    simp (le-leb _ _ c.if-word-lt4294967296.false) (rw c.low_ones.ensures (le-ones-lt a.width (a.word - 2 ^ 32)))
