use Rattle.dump.specs.Changes.{value_of}
use mathlib.Core.Path.{◌≡◌, refl, ◌∙◌, sym, ap}
use borrow.Author.Tests.{eq-eqb, ne_eqb}
use native.Mathlib.Omega.{arith}
use Prim.Native.Nat.{ℕ, zero, suc, ◌+◌, ◌-◌, ◌<◌, ◌≤◌}
use Rattle.dump_change.proofs.dollar.value_of.Goals as goal

-- digits 0 and 1
digit : (d : ℕ) → d < 2 → d ≡ value_of (48 + d)
unfolding value_of
digit zero h = refl
digit (suc zero) h = refl
digit (suc (suc d)) h = absurd (omega (arith, h))

binary : (b : ℕ) → 48 ≤ b → b < 50 → b - 48 ≡ value_of b
binary b l h = digit (b - 48) (omega arith) ∙ ap value_of (omega arith)

below : (b : ℕ) → b < 48 → 3 ≡ value_of b
unfolding value_of
below b h = sym (simp (ne_eqb b 48 (λ e. omega (arith, e, h)), ne_eqb b 49 (λ e. omega (arith, e, h)), ne_eqb b 120 (λ e. omega (arith, e, h)), ne_eqb b 88 (λ e. omega (arith, e, h)), ne_eqb b 122 (λ e. omega (arith, e, h)), ne_eqb b 90 (λ e. omega (arith, e, h))))

pub returns-then-b-lt48 : goal.returns-then-b-lt48
returns-then-b-lt48 c = below _ c.if-b-lt48.true

pub returns-then-b-lt50 : goal.returns-then-b-lt50
returns-then-b-lt50 c = binary _ c.if-b-lt48.false c.if-b-lt50.true

pub returns-then-b-eq120 : goal.returns-then-b-eq120
unfolding value_of
returns-then-b-eq120 c = simp (eq-eqb _ _ c.if-b-eq120.true, ne_eqb c.args.b 48 (λ e. omega (arith, e, c.if-b-lt50.false)), ne_eqb c.args.b 49 (λ e. omega (arith, e, c.if-b-lt50.false)))

pub returns-then-b-eq88 : goal.returns-then-b-eq88
unfolding value_of
returns-then-b-eq88 c = simp (eq-eqb _ _ c.if-b-eq88.true, ne_eqb _ _ c.if-b-eq120.false, ne_eqb c.args.b 48 (λ e. omega (arith, e, c.if-b-lt50.false)), ne_eqb c.args.b 49 (λ e. omega (arith, e, c.if-b-lt50.false)))

pub returns-then-b-eq122 : goal.returns-then-b-eq122
unfolding value_of
returns-then-b-eq122 c = simp (eq-eqb _ _ c.if-b-eq122.true, ne_eqb _ _ c.if-b-eq88.false, ne_eqb _ _ c.if-b-eq120.false, ne_eqb c.args.b 48 (λ e. omega (arith, e, c.if-b-lt50.false)), ne_eqb c.args.b 49 (λ e. omega (arith, e, c.if-b-lt50.false)))

pub returns-then-b-eq90 : goal.returns-then-b-eq90
unfolding value_of
returns-then-b-eq90 c = simp (eq-eqb _ _ c.if-b-eq90.true, ne_eqb _ _ c.if-b-eq122.false, ne_eqb _ _ c.if-b-eq88.false, ne_eqb _ _ c.if-b-eq120.false, ne_eqb c.args.b 48 (λ e. omega (arith, e, c.if-b-lt50.false)), ne_eqb c.args.b 49 (λ e. omega (arith, e, c.if-b-lt50.false)))

pub returns : goal.returns
unfolding value_of
returns c = simp (ne_eqb _ _ c.if-b-eq90.false, ne_eqb _ _ c.if-b-eq122.false, ne_eqb _ _ c.if-b-eq88.false, ne_eqb _ _ c.if-b-eq120.false, ne_eqb c.args.b 48 (λ e. omega (arith, e, c.if-b-lt50.false)), ne_eqb c.args.b 49 (λ e. omega (arith, e, c.if-b-lt50.false)))
