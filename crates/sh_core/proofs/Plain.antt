-- A cell of data, display or scan lies past the registers, reads as what it holds, and takes the four bits written; the record notices neither.
use mathlib.Core.Path.{◌≡◌, refl}
use mathlib.Core.Bool.{true}
use Prim.Native.Nat.{ℕ, ◌≤◌}
use native.Mathlib.Omega.{arith}
use lib.Bits.{bit_and, bit_or}
use lib.ListN.{set}
use borrow.Author.Tests.{ne_eqb}
use Rattle.lent.specs.Lent.{at}
use Rattle.lent.proofs.Laws.{by_lt, never}
use Rattle.sh_map.specs.declared.map.Kind.{Kind}
use Rattle.sh_map.specs.declared.map.Kind.TheVariants.{Register, Data, Display, Scan, Sound, Unmapped}
use Rattle.sh_map.specs.Map.{kind_of, written_in, written_of, askable_in, askable_of}
use Rattle.sh_state.specs.State.{State, state}
use Rattle.sh_cells.specs.Cells.{plain_in, plain_of, value_of, seen_of}
use Rattle.sh_writes.specs.Writes.{kept_of, noticed_of, write_of}

pub past_registers : (c : ℕ) → askable_of c ≡ true → 0x20 ≤ c
unfolding askable_of askable_in kind_of
past_registers c = by_lt (λ k. askable_in k ≡ true → 0x20 ≤ c) c 0x020 _ _ (λ h. never) (λ low e. low)

written_in_lem : (k : Kind) (c : ℕ) → askable_in k ≡ true → written_in k c ≡ 15
unfolding askable_in written_in
written_in_lem Register c e = never e
written_in_lem Data c e = refl
written_in_lem Display c e = refl
written_in_lem Scan c e = refl
written_in_lem Sound c e = never e
written_in_lem Unmapped c e = never e

plain_in_lem : (s : State) (k : Kind) (c : ℕ) → askable_in k ≡ true → plain_in k s.memory c ≡ at s.memory c
unfolding askable_in plain_in
plain_in_lem s Register c e = never e
plain_in_lem s Data c e = refl
plain_in_lem s Display c e = refl
plain_in_lem s Scan c e = refl
plain_in_lem s Sound c e = never e
plain_in_lem s Unmapped c e = never e

module _ (s : State) (a : ℕ) (e : askable_of a ≡ true) where
  pub value_plain : value_of s a ≡ at s.memory a
  unfolding askable_of value_of plain_of
  value_plain =
      let low = past_registers a e in
      rw (ne_eqb a 0x04 (omega arith), ne_eqb a 0x05 (omega arith), ne_eqb a 0x08 (omega arith), ne_eqb a 0x09 (omega arith), ne_eqb a 0x0A (omega arith), ne_eqb a 0x0B (omega arith))
      (plain_in_lem s (kind_of a) a e)

  pub seen_plain : seen_of s a ≡ s.machine
  unfolding seen_of
  seen_plain =
      let low = past_registers a e in
      rw (ne_eqb a 0x04 (omega arith), ne_eqb a 0x05 (omega arith), ne_eqb a 0x1E (omega arith))

  noticed_plain : (v : ℕ) → noticed_of s a v ≡ s.machine
  unfolding noticed_of
  noticed_plain v =
      let low = past_registers a e in
      rw (ne_eqb a 0x02 (omega arith), ne_eqb a 0x03 (omega arith), ne_eqb a 0x04 (omega arith), ne_eqb a 0x05 (omega arith), ne_eqb a 0x1A (omega arith), ne_eqb a 0x1E (omega arith))

  kept_plain : (old v : ℕ) → kept_of old a v ≡ bit_or (bit_and old 240) (bit_and v 15)
  unfolding askable_of kept_of written_of
  kept_plain old v = rw (written_in_lem (kind_of a) a e)

  pub write_plain : (v : ℕ) → write_of s a v ≡ state s.machine (set s.memory a (bit_or (bit_and (at s.memory a) 240) (bit_and v 15)))
  unfolding write_of
  write_plain v = rw (noticed_plain v, kept_plain (at s.memory a) v)
