-- A cell of data, display or scan lies past the registers, reads as what it holds, and holds the nibble that is written to it; and which addresses name it.
use mathlib.Core.Path.{◌≡◌, refl}
use mathlib.Core.Logic.{◌⊎◌, inl, inr}
use mathlib.Core.Bool.{true}
use Prim.Native.Nat.{ℕ, ◌<◌, ◌≤◌}
use native.Mathlib.Omega.{arith}
use lib.Dec.{eqb}
use lib.Bits.{bit_and, bit_or}
use borrow.Author.Tests.{eq-eqb, ne_eqb, eqb-true}
use Rattle.lent.specs.Lent.{at}
use Rattle.lent.proofs.Laws.{by_lt, by_eq, never}
use Rattle.sh_map.specs.declared.map.Kind.{Kind}
use Rattle.sh_map.specs.declared.map.Kind.TheVariants.{Register, Data, Display, Scan, Sound, Unmapped}
use Rattle.sh_map.specs.Map.{kind_of, held_in, held_of, written_in, written_of, askable_in, askable_of}
use Rattle.sh_state.specs.State.{State}
use Rattle.sh_map.proofs.Below.{below, below_pair}
use Rattle.sh_cells.specs.Cells.{plain_in, plain_of, value_of}
use Rattle.sh_writes.specs.Writes.{kept_of}
use Rattle.writers.specs.Test.{names}

pub past_registers : (c : ℕ) → askable_of c ≡ true → (0x20 ≤ c) × (c < 0x36E)
unfolding askable_of askable_in kind_of
past_registers c =
    by_lt (λ k. askable_in k ≡ true → (0x20 ≤ c) × (c < 0x36E)) c 0x020 _ _ (λ h. never)
    (λ low. by_lt (λ k. askable_in k ≡ true → (0x20 ≤ c) × (c < 0x36E)) c 0x170 _ _ (λ h e. (low, omega arith))
    (λ n. by_lt (λ k. askable_in k ≡ true → (0x20 ≤ c) × (c < 0x36E)) c 0x300 _ _ (λ h. never)
    (λ n. by_lt (λ k. askable_in k ≡ true → (0x20 ≤ c) × (c < 0x36E)) c 0x349 _ _ (λ h e. (low, omega arith))
    (λ n. by_lt (λ k. askable_in k ≡ true → (0x20 ≤ c) × (c < 0x36E)) c 0x358 _ _ (λ h. never)
    (λ n. by_lt (λ k. askable_in k ≡ true → (0x20 ≤ c) × (c < 0x36E)) c 0x36E _ _ (λ h e. (low, h))
    (λ n. by_lt (λ k. askable_in k ≡ true → (0x20 ≤ c) × (c < 0x36E)) c 0x370 _ _ (λ h. never)
    (λ n. by_lt (λ k. askable_in k ≡ true → (0x20 ≤ c) × (c < 0x36E)) c 0x378 _ _ (λ h. never) (λ h. never))))))))

held_in_askable : (k : Kind) (c : ℕ) → askable_in k ≡ true → (held_in k c ≡ 15) × (written_in k c ≡ 15)
unfolding askable_in held_in written_in
held_in_askable Register c e = never e
held_in_askable Data c e = (refl, refl)
held_in_askable Display c e = (refl, refl)
held_in_askable Scan c e = (refl, refl)
held_in_askable Sound c e = never e
held_in_askable Unmapped c e = never e

pub held_askable : (c : ℕ) → askable_of c ≡ true → held_of c ≡ 15
unfolding askable_of held_of
held_askable c e = (held_in_askable (kind_of c) c e).0

pub kept_askable : (old c v : ℕ) → askable_of c ≡ true → old < 16 → v < 16 → kept_of old c v ≡ v
unfolding askable_of kept_of written_of below
kept_askable old c v e h k =
    rw (held_in_askable (kind_of c) c e).1
    (eqb-true _ _ (below_pair 16 16 (λ o n. eqb (bit_or (bit_and o 240) (bit_and n 15)) n) old v refl h k))

plain_askable : (s : State) (k : Kind) (c : ℕ) → askable_in k ≡ true → plain_in k s.memory c ≡ at s.memory c
unfolding askable_in plain_in
plain_askable s Register c e = never e
plain_askable s Data c e = refl
plain_askable s Display c e = refl
plain_askable s Scan c e = refl
plain_askable s Sound c e = never e
plain_askable s Unmapped c e = never e

pub value_askable : (s : State) (c : ℕ) → askable_of c ≡ true → value_of s c ≡ at s.memory c
unfolding askable_of value_of plain_of
value_askable s c e =
    let low = (past_registers c e).0 in
    rw (ne_eqb c 0x04 (omega arith), ne_eqb c 0x05 (omega arith), ne_eqb c 0x08 (omega arith), ne_eqb c 0x09 (omega arith), ne_eqb c 0x0A (omega arith), ne_eqb c 0x0B (omega arith))
    (plain_askable s (kind_of c) c e)

-- Which addresses name a cell: its own, and $00F.

pub names_itself : (c : ℕ) → names c c ≡ true
unfolding names
names_itself c = rw (eq-eqb c c refl)

pub names_pointed : (c : ℕ) → names 0x0F c ≡ true
unfolding names
names_pointed c = by_eq (λ b. b ≡ true) 0x0F c _ _ (λ e. refl) (λ n. refl)

pub names_only : (x c : ℕ) → names x c ≡ true → (x ≡ c) ⊎ (x ≡ 0x0F)
unfolding names
names_only x c = by_eq (λ b. b ≡ true → (x ≡ c) ⊎ (x ≡ 0x0F)) x c _ _ (λ e t. inl e) (λ n t. inr (eqb-true x 0x0F t))
