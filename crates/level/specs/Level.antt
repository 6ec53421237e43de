-- The level (01, "Panel book"): "Code = 8 x high + low; level = code - ground, from -63 to 63".
use Rattle.std.specs.Prelude.{ℕ, ◌+◌, ◌*◌, List, ltb, ℤ, pos, ◌-ℤ◌, Err, Ok, Result}
use Rattle.lent.specs.Lent.{pick, at}
use Rattle.refusal.specs.declared.Refusal.TheVariants as refusal
use Rattle.sh_rules.specs.Judge.{first_of, memory_judged}
use Rattle.body.specs.Body.{high_cell, low_cell, ground_code, level_judged}
use Rattle.refusal.specs.Told.{Said, done_told, refused_told}
use Rattle.refusal.specs.declared.Refusal.{Refusal}

-- "Code = 8 x high + low"
abbrev pub code_of : ℕ → ℕ → ℕ
code_of high low = 8 * high + low

-- 9: "a level digit above 7", with it "0 high, 1 low"; "in a level the high digit" first
unfoldable pub level_at : ℕ → ℕ → ℕ → Result ℤ Refusal
level_at high low ground_stop =
    pick (ltb 7 high) (Err (refusal.Digit 0))
    (pick (ltb 7 low) (Err (refusal.Digit 1))
    (Ok (pos (code_of high low) -ℤ pos ground_stop)))

-- the digits in a body's two cells, and its ground code
unfoldable pub level_in : List ℕ → List ℕ → Result ℤ Refusal
level_in memory level = level_at (at memory (high_cell level)) (at memory (low_cell level)) (ground_code level)

unfoldable pub levelled_of : Result (Unit {0}) Refusal → Result ℤ Refusal → Result ℤ Refusal
levelled_of (Ok tt) l = l
levelled_of (Err why) l = Err why

-- THE LEVEL: 2, 3, 10, 11, then 9; "A digit is judged only where the body is good"
unfoldable pub level_of : List ℕ → List ℕ → Result ℤ Refusal
level_of memory level = levelled_of (first_of (memory_judged memory) (level_judged level)) (level_in memory level)

-- what is told of a level: the level, or what stood there
pub record Levels : Type 0 where
  pub told : Said
  pub level : ℤ

abbrev pub levels : Said → ℤ → Levels
levels t k = record { told = t; level = k }

unfoldable pub levelled_told : Result ℤ Refusal → ℤ → Levels
levelled_told (Ok v) old = levels done_told v
levelled_told (Err why) old = levels (refused_told why) old
