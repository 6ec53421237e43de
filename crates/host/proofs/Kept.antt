-- A well-formed machine passes through its 45 bytes unchanged: no rule lets a word of the record outgrow two bytes.
use Rattle.std.specs.Prelude.{Ok}
use mathlib.Core.Path.{◌≡◌, refl}
use Prim.Native.Nat.{ℕ, ◌%◌, ◌<◌}
use native.Mathlib.Omega.{arith}
use lib.Dec.{ltb}
use borrow.Author.Tests.{ltb-true}
use Rattle.lent.specs.Lent.{at}
use Rattle.sh_rules.specs.Judge.{state_judged}
use Rattle.sh_periods.specs.Periods.{ratios, ratio_of, periods, period_of}
use Rattle.sh_state.specs.State.{State}
use Rattle.sh_map.proofs.Below.{below, below_at}
use Rattle.sh_rules.proofs.Fits.{fit_of}
use Rattle.wire.specs.Record.{record_of, bytes_of}
use Rattle.wire.proofs.Trips.{Sized, there_and_back}

ratio_sized : (mode : ℕ) → ratio_of mode < 65536
unfolding ratio_of ratios below
ratio_sized mode = ltb-true _ 65536 (below_at 8 (λ i. ltb (at ratios i) 65536) (mode % 8) refl (omega arith))

period_sized : (control : ℕ) → period_of control < 65536
unfolding period_of periods below
period_sized control = ltb-true _ 65536 (below_at 8 (λ i. ltb (at periods i) 65536) (control % 8) refl (omega arith))

well_formed_sized : (s : State) → state_judged s ≡ Ok tt → Sized s.machine
well_formed_sized s e =
    let f = (fit_of s e).machine in
    record {
      pc = omega (arith, f.pc);
      prescaler = omega (arith, f.prescaler, ratio_sized (at s.memory 0x02));
      watchdog = omega (arith, f.watchdog, period_sized (at s.memory 0x1E));
      address = omega (arith, f.address);
      first = omega (arith, f.channels.first.count);
      second = omega (arith, f.channels.second.count);
      eight = f.levels;
      entries = λ k. omega (arith, f.entries k);
    }

pub well_formed_kept : (s : State) → state_judged s ≡ Ok tt → record_of (bytes_of s.machine) ≡ s.machine
well_formed_kept s e = there_and_back s.machine (well_formed_sized s e)
