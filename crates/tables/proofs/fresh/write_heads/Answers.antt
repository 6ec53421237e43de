-- `tables::fresh::write_heads`: the numbers noted in the cells' slots stand in front of those of the addresses.
use Prim.Native.Nat.{ℕ, ◌+◌, ◌-◌, ◌≤◌}
use mathlib.Core.Path.{◌≡◌, ◌∙◌, ap}
use mathlib.Core.List.{List, ◌++◌}
use native.Mathlib.Omega.{arith}
use lib.ListN.{length, take, drop, length-append, get_or-append}
use Rattle.std.proofs.lemmas.List.{length-take, length-drop, get_or-take, get_or-drop, get_or-append_right}
use Rattle.tables.specs.Pass.{Headed}
use Rattle.tables.proofs.fresh.write_heads.Goals as goal

copied : (h t s : List ℕ) → length h ≡ 1153 → 5120 ≤ length t → s ≡ take 1024 (drop 128 h) → Headed h t (s ++ drop 1024 t)
copied h t s m n e =
    let l : length s ≡ 1024 = ap length e ∙ simp (length-take, length-drop) (omega arith) in
    record {
      size = omega (arith, length-append s (drop 1024 t), length-drop 1024 t);
      heads = λ i k.
          let z : 128 + i ≡ i + 128 = omega arith in
          get_or-append s (drop 1024 t) 0 i (omega arith) ∙ (rw (e, get_or-take 1024 (drop 128 h) i 0 k) (rw (get_or-drop, z)));
      others = λ i k.
          let z : 1024 + (i - 1024) ≡ i = omega arith in
          get_or-append_right s (drop 1024 t) 1024 i 0 l k ∙ rw (get_or-drop, z);
    }

pub slice_bounds-copy_from_slice-end-2 : goal.slice_bounds-copy_from_slice-end-2
slice_bounds-copy_from_slice-end-2 c = simp length-take (omega (arith, c.requires.1))

pub copy_from_slice-requires : goal.copy_from_slice-requires
copy_from_slice-requires c = simp (length-take, length-drop) (omega (arith, c.requires.0, c.requires.1))

pub returns : goal.returns
returns c = copied c.args.heads.now c.args.tables.now _ c.requires.0 c.requires.1 c.copy_from_slice.ensures.after
