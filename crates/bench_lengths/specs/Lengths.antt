-- The lengths of what a bench is lent, from document 01, "What the viewer calls" and "Refusal numbers". Assumes nothing.
use Rattle.std.specs.Prelude.{ℕ, ◌*◌, Bool, ◌&&◌, cond, leb, eqb}
use Rattle.rules.specs.Frame.{frame_words}

-- "4K frame words (a frame each), K words, K rows"
unfoldable pub lengths_fit : ℕ → ℕ → ℕ → ℕ → Bool
lengths_fit checkers frames words rows = eqb frames (frame_words * checkers) && (eqb words checkers && eqb rows checkers)

-- "A bench tests 9 and 5": "9: more than 64 checkers. 5: another lent slice has not the length that is due."
unfoldable pub lengths_refusal : ℕ → ℕ → ℕ → ℕ → ℕ
lengths_refusal checkers frames words rows = cond (leb checkers 64) (cond (lengths_fit checkers frames words rows) 0 5) 9
