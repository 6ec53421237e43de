-- What three bodies that are not turned down are.
use Rattle.std.specs.Prelude.{Ok}
use mathlib.Core.Path.{◌≡◌}
use mathlib.Core.Bool.{true}
use mathlib.Core.List.{List}
use Prim.Native.Nat.{ℕ}
use native.Mathlib.Omega.{arith}
use lib.ListN.{length}
use Rattle.lent.specs.Lent.{both}
use Rattle.lent.proofs.Laws.{both_true}
use Rattle.sh_rules.proofs.Laws.{first_fine}
use Rattle.body.specs.Body.{length_fits, values_judged}
use Rattle.body.proofs.Fine.{told_fine, wiring_length, program_length, level_length}
use Rattle.book_write.specs.Writing.{bodies_judged, Lengths}

-- bodies that are not turned down
module _ (p w v : List ℕ) (e : bodies_judged p w v ≡ Ok tt) where
  pub fine_fits : (length_fits 1 (length p) ≡ true) × ((length_fits 2 (length w) ≡ true) × (length_fits 3 (length v) ≡ true))
  unfolding bodies_judged
  fine_fits =
      let t = told_fine _ _ (first_fine _ _ e).0 in
      let a = both_true (length_fits 1 (length p)) (both (length_fits 2 (length w)) (length_fits 3 (length v))) t in
      let b = both_true (length_fits 2 (length w)) (length_fits 3 (length v)) a.1 in
      (a.0, (b.0, b.1))

  pub fine_values : values_judged w v ≡ Ok tt
  unfolding bodies_judged
  fine_values = (first_fine _ _ e).1

  pub fine_lengths : Lengths p w v
  fine_lengths =
      let f = wiring_length (length w) fine_fits.1.0 in
      record { program = program_length (length p) fine_fits.0; wiring = omega arith; level = level_length (length v) fine_fits.1.1 }
