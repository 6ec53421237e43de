-- The pass over a script that finds every byte known.
use Rattle.std.specs.Prelude.{None, Option, Result}
use mathlib.Core.Path.{◌≡◌, ◌∙◌, refl, ap, sym}
use mathlib.Core.Bool.{Bool, true, false}
use mathlib.Core.List.{List, [], ◌∷◌, ◌++◌}
use Prim.Native.Nat.{ℕ, zero, suc, ◌+◌, ◌-◌, ◌<◌, ◌≤◌}
use native.Mathlib.Omega.{arith}
use native.Mathlib.Nat.{le_refl}
use lib.ListN.{length, take, drop, drop_of_length-le}
use Rattle.std.proofs.lemmas.List.{take-append-drop, drop-drop}
use Rattle.lent.specs.Lent.{at, both, joined_of, fails_from}
use Rattle.lent.proofs.Laws.{drop_more, both_true, test}
use Rattle.lent.proofs.Bits.{joined_above}
use Rattle.sh_known.specs.Known.{known_of}
use Rattle.call_run.specs.Run.{unknown_from, all_known_of}

-- The pass over all bytes, part by part: ok is what it found before, k what it finds in the next part, r what it has found then.
pub both_swap : (a b c : Bool) → both (both a b) c ≡ both b (both a c)
both_swap true true c = refl
both_swap true false c = refl
both_swap false true c = refl
both_swap false false c = refl

pub both_done : (a : Bool) → a ≡ both a true
both_done true = refl
both_done false = refl

cycle_known : {e : ℕ} → e ≡ 0 → true ≡ known_of e
unfolding known_of
cycle_known z = rw z

-- one byte more is found
module _ (l : List ℕ) where
  pub known_more : {i : ℕ} {k r : Bool} (ok : Bool) → i < length l → k ≡ known_of (at l i) → r ≡ both k ok → both r (all_known_of (drop (i + 1) l)) ≡ both ok (all_known_of (drop i l))
  unfolding all_known_of
  known_more {i} {k} ok h e f = rw (f, drop_more l i h, ← e) (both_swap k ok (all_known_of (drop (i + 1) l)))

  -- nothing stands behind the last
  pub known_end : (ok : Bool) {i : ℕ} → length l ≤ i → both ok (all_known_of (drop i l)) ≡ all_known_of l → ok ≡ all_known_of l
  unfolding all_known_of
  known_end ok {i} h e =
      let d : drop i l ≡ [] = drop_of_length-le l h in
      both_done ok ∙ (ap (λ (q : List ℕ). both ok (all_known_of q)) (sym d) ∙ e)

-- bytes whose bits taken together are 0 are cycles
cycles_known : (l : List ℕ) → ((k : ℕ) → k < length l → at l k ≡ 0) → all_known_of l ≡ true
unfolding all_known_of
cycles_known [] z = refl
cycles_known (e ∷ l) z = rw (← cycle_known (z 0 (omega arith))) (cycles_known l (λ k h. z (suc k) (omega arith)))

pub joined_known : (l : List ℕ) {b : ℕ} → b ≡ joined_of l 0 (length l - 0) → b ≡ 0 → true ≡ all_known_of l
joined_known l p t = sym (cycles_known l (λ k h. omega (arith, joined_above l 0 (length l) k (omega arith) h, p, t)))

known_append : (a b : List ℕ) → all_known_of (a ++ b) ≡ both (all_known_of a) (all_known_of b)
unfolding all_known_of
known_append [] b = refl
known_append (e ∷ a) b = test (known_of e) (λ t. rw (t, known_append a b)) (λ f. rw f)

-- a part of n bytes more is found
pub part_known : (l : List ℕ) (i n : ℕ) {part : List ℕ} {k r : Bool} (ok : Bool) → part ≡ take n (drop i l) → k ≡ all_known_of part → r ≡ both k ok → both r (all_known_of (drop (i + n) l)) ≡ both ok (all_known_of (drop i l))
part_known l i n {part} {k} ok p e f =
    let g : all_known_of (drop i l) ≡ both k (all_known_of (drop (i + n) l)) =
    ap all_known_of (sym (take-append-drop n (drop i l)))
    ∙ (known_append (take n (drop i l)) (drop n (drop i l))
    ∙ (ap (λ (q : List ℕ). both (all_known_of q) (all_known_of (drop n (drop i l)))) (sym p)
    ∙ (ap (λ (b : Bool). both b (all_known_of (drop n (drop i l)))) (sym e) ∙ ap (λ (q : List ℕ). both k (all_known_of q)) (drop-drop n i l)))) in
    rw (f, g) (both_swap k ok (all_known_of (drop (i + n) l)))

pub none_unknown : (l : List ℕ) (i : ℕ) → all_known_of l ≡ true → None ≡ unknown_from l i
unfolding all_known_of fails_from
none_unknown [] i h = refl
none_unknown (e ∷ l) i h = let b = both_true (known_of e) (all_known_of l) h in rw b.0 (none_unknown l (i + 1) b.1)
