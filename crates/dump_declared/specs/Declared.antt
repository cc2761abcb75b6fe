-- What the numbers and the store of the code say, as the definition's state; and what holds of them between two words. Assumes nothing.
use Rattle.std.specs.Prelude.{◌≡◌, not, List, [], ◌∷◌, ℕ, ◌<◌, ◌≤◌, eqb, length, get_or, take, drop}
use Rattle.dump.specs.State.{Declared, Var, State, none_changed}
use Rattle.dump_words.specs.declared.text.Text.{Text}
use Rattle.dump_words.specs.declared.number.Number.{Number}
use Rattle.dump_words.specs.declared.scan.Scan.{Scan}
use Rattle.dump_words.specs.Gather.{no_text, no_number}
use Rattle.dump_gathered.specs.Gathered.{text_of, number_of, scan_of, Bytes, first_of_range, first_of_name}
use Rattle.dump_declare.specs.declared.head.Head.{Head}

-- THE STATE
abbrev pub var_of : Head → Var
var_of h =
    record { real = eqb h.real 1; width = h.width; code = h.code; misfit = not (eqb h.misfit 0); range = record { ends = h.ends; left = h.left; right = h.right } }

-- n words of the store, from word k on
unfoldable pub part : ℕ → ℕ → List ℕ → List ℕ
part k n store = take n (drop k store)

abbrev pub declared_of : Head → List ℕ → Declared
declared_of h store =
    record { depth = h.depth; vars = h.vars; codes = part 0 h.codes store; widths = part 1024 h.codes store; sorts = part 2048 h.codes store; lefts = part 3072 h.codes store; rights = part 4096 h.codes store }

abbrev pub state_of : Head → List ℕ → State
state_of h store = record { place = h.place; identifier = 0; declared = declared_of h store; var = var_of h; changed = none_changed [] }

-- BETWEEN TWO WORDS
pub record Sound (h : Head) (store : List ℕ) : Type 0 where
  pub long : length store ≡ 8468
  pub few : h.codes ≤ h.vars
  pub most : h.vars ≤ 1024
  -- in `$var` its own code is not yet counted
  pub inside : 7 ≤ h.place → h.place ≤ 12 → h.codes < h.vars
  -- no code stands twice
  pub apart : (i j : ℕ) → i < h.codes → j < h.codes → get_or store i 0 ≡ get_or store j 0 → i ≡ j

-- what is kept of the word b ∷ w, where h says which word is due
pub record Kept (h : Head) (b : ℕ) (w : List ℕ) (t : Text) (n : Number) (s : Scan) : Type 0 where
  pub bytes : Bytes (b ∷ w)
  pub text_equals : (h.place ≡ 8 → ⊥) → t ≡ text_of no_text (b ∷ w)
  pub number_is : h.place ≡ 8 → n ≡ number_of no_number (b ∷ w)
  pub name_is : h.place ≡ 10 → s ≡ scan_of (first_of_name b) w
  pub range_is : h.place ≡ 11 → s ≡ scan_of (first_of_range b) w
