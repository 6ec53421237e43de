-- `tones::step`: shift, mask and exclusive or make the same as the definition of every byte, which is computed.
use native.Mathlib.Omega.{arith}
use lib.Bits.{bit_and, bit_or, bit_xor}
use Rattle.tones.proofs.Table.{made, same_at}
use mathlib.Core.Path.{refl, ◌≡◌}
use Rattle.tones.specs.Tones.{shifted_of}
use Prim.Native.Nat.{ℕ, ◌%◌, ◌*◌, ◌/◌}
use Rattle.tones.proofs.step.Goals as goal

abbrev code : ℕ → ℕ
code v = bit_or (bit_and (v * 2 % 256) 0x7F) (bit_and (bit_xor (v / 64) (v / 32)) 1)

same : made code 256 0 ≡ made shifted_of 256 0
unfolding made shifted_of
same = refl

pub returns : goal.returns
returns c = same_at code shifted_of 256 c.args.v same (omega arith)
