-- The slots in which addresses are noted, by the ranges of the map.
use mathlib.Core.Path.{◌≡◌, ◌∙◌, refl, ap}
use mathlib.Core.Bool.{Bool, not}
use mathlib.Core.List.{List}
use Prim.Native.Nat.{ℕ, ◌<◌}
use lib.Dec.{ltb, eqb}
use lib.ListN.{replicate, length-replicate, get_or-replicate}
use borrow.Author.Tests.{ltb-true, ltb-false, eqb-true}
use Rattle.lent.specs.Lent.{pick, both, at}
use Rattle.lent.proofs.Laws.{test}
use Rattle.sh_map.specs.Map.{kind_of, askable_in, askable_of}
use Rattle.sh_map.proofs.Below.{below, below_at}
use Rattle.tables.specs.Key.{keeps_of}
use Rattle.tables.specs.Pass.{place_of, Ruled, Noted}

abbrev within : ℕ → ℕ → ℕ → Bool
within f e x = both (not (ltb x f)) (ltb x e)

noted_at : (f e : ℕ) (t t' : List ℕ) → Noted f e t t' → (x : ℕ) → at t' x ≡ pick (within f e x) x (at t x)
noted_at f e t t' n x =
    test (ltb x f) (λ k. rw k (n.below x (ltb-true x f k)))
    (λ k. test (ltb x e) (λ j. rw (k, j) (n.inside x (ltb-false x f k) (ltb-true x e j))) (λ j. rw (k, j) (n.above x (ltb-false x e j))))

-- $00F, data, display and scan, behind the slots for none
abbrev ranged : ℕ → ℕ
ranged x =
    pick (within 0x3D8 0x3EE x) x
    (pick (within 0x380 0x3C9 x) x
    (pick (within 0x0A0 0x1F0 x) x
    (pick (within 0x08F 0x090 x) x 1152)))

-- the ranges are those of the map, computed
ranged_place : (x : ℕ) → x < 1152 → ranged x ≡ place_of x
unfolding below place_of keeps_of askable_of askable_in kind_of
ranged_place x h = eqb-true _ _ (below_at 1152 (λ i. eqb (ranged i) (place_of i)) x refl h)

pub noted_all : (a b c d : List ℕ) → Noted 0x08F 0x090 (replicate 1152 1152) a → Noted 0x0A0 0x1F0 a b → Noted 0x380 0x3C9 b c → Noted 0x3D8 0x3EE c d → Ruled place_of 1152 d
noted_all a b c d e f g h = (
  h.size ∙ (g.size ∙ (f.size ∙ (e.size ∙ length-replicate {A = ℕ} 1152 1152))),
  λ x k.
      noted_at 0x3D8 0x3EE c d h x
      ∙ (ap (pick (within 0x3D8 0x3EE x) x) (noted_at 0x380 0x3C9 b c g x)
      ∙ (ap (λ (v : ℕ). pick (within 0x3D8 0x3EE x) x (pick (within 0x380 0x3C9 x) x v)) (noted_at 0x0A0 0x1F0 a b f x)
      ∙ (ap (λ (v : ℕ). pick (within 0x3D8 0x3EE x) x (pick (within 0x380 0x3C9 x) x (pick (within 0x0A0 0x1F0 x) x v)))
      (noted_at 0x08F 0x090 (replicate 1152 1152) a e x ∙ ap (pick (within 0x08F 0x090 x) x) (get_or-replicate {A = ℕ} 1152 x 1152 0 k)) ∙ ranged_place x k))),
)
