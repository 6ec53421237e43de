-- The codes both ways: each operation and condition has a code of its own in its row of 01, and each code of a row is its operation's or condition's.
use mathlib.Core.Path.{◌≡◌, refl}
use mathlib.Core.Bool.{true}
use Prim.Native.Nat.{ℕ, ◌+◌, ◌-◌, ◌<◌, ◌≤◌}
use native.Mathlib.Omega.{arith}
use lib.Dec.{ltb, eqb}
use borrow.Author.Tests.{lt-ltb, eqb-true}
use Rattle.lent.specs.Lent.{pick}
use Rattle.word.specs.declared.Operation.{Operation}
use Rattle.word.specs.declared.Operation.TheVariants.{Adc, Add, Sbc, Sub, Eor, Or, And}
use Rattle.word.specs.declared.ImmediateOperation.{ImmediateOperation}
use Rattle.word.specs.declared.ImmediateOperation.TheVariants.{Adi, Adim, Sbi, Sbim, Eorim, Orim, Andim}
use Rattle.word.specs.declared.Condition.{Condition}
use Rattle.word.specs.declared.Condition.TheVariants.{Bnz, Bnc, Baz, Bc, Ba0, Ba1, Ba2, Ba3}
use Rattle.word.specs.Codes.{operation_of, immediate_of, condition_of, operation_code, immediate_code, condition_code}
use Rattle.word.proofs.Every.{every, every_at}
use denote.Enum.Declared.{tag_of}
use Rattle.word.specs.contracts.Operation as operation
use Rattle.word.specs.contracts.ImmediateOperation as immediate
use Rattle.word.specs.contracts.Condition as condition

-- each code is of its own operation or condition, and lies in its row of 01
pub operation_back : (o : Operation) → (operation_of (operation_code o) ≡ o) × (operation_code o < 7)
unfolding operation_of
operation_back Adc = (refl, omega arith)
operation_back Add = (refl, omega arith)
operation_back Sbc = (refl, omega arith)
operation_back Sub = (refl, omega arith)
operation_back Eor = (refl, omega arith)
operation_back Or = (refl, omega arith)
operation_back And = (refl, omega arith)

pub immediate_back : (o : ImmediateOperation) → (immediate_of (immediate_code o) ≡ o) × (8 ≤ immediate_code o) × (immediate_code o < 15)
unfolding immediate_of
immediate_back Adi = (refl, omega arith, omega arith)
immediate_back Adim = (refl, omega arith, omega arith)
immediate_back Sbi = (refl, omega arith, omega arith)
immediate_back Sbim = (refl, omega arith, omega arith)
immediate_back Eorim = (refl, omega arith, omega arith)
immediate_back Orim = (refl, omega arith, omega arith)
immediate_back Andim = (refl, omega arith, omega arith)

pub condition_back : (c : Condition) → (condition_of (condition_code c) ≡ c) × (16 ≤ condition_code c) × (condition_code c < 24)
unfolding condition_of
condition_back Bnz = (refl, omega arith, omega arith)
condition_back Bnc = (refl, omega arith, omega arith)
condition_back Baz = (refl, omega arith, omega arith)
condition_back Bc = (refl, omega arith, omega arith)
condition_back Ba0 = (refl, omega arith, omega arith)
condition_back Ba1 = (refl, omega arith, omega arith)
condition_back Ba2 = (refl, omega arith, omega arith)
condition_back Ba3 = (refl, omega arith, omega arith)

-- a map of codes that leaves each code of a row of eight as it is, computed
row_same : (f : ℕ → ℕ) (from to : ℕ) → every (λ n. pick (ltb n to) (eqb (f n) n) true) 3 from ≡ true → to ≤ from + 8 → (n : ℕ) → from ≤ n → n < to → f n ≡ n
row_same f from to e s n l h =
    let z : from + (n - from) ≡ n = omega arith in
    let t = rw (z, lt-ltb n to h) at (every_at (λ n. pick (ltb n to) (eqb (f n) n) true) 3 from (n - from) e (omega arith)) in
    eqb-true (f n) n t

pub operation_code_lem : (n : ℕ) → n < 7 → operation_code (operation_of n) ≡ n
unfolding every operation_of
operation_code_lem n h = row_same (λ n. operation_code (operation_of n)) 0 7 refl (omega arith) n (omega arith) h

pub immediate_code_lem : (n : ℕ) → 8 ≤ n → n < 15 → immediate_code (immediate_of n) ≡ n
unfolding every immediate_of
immediate_code_lem n l h = row_same (λ n. immediate_code (immediate_of n)) 8 15 refl (omega arith) n l h

pub condition_code_lem : (n : ℕ) → 16 ≤ n → n < 24 → condition_code (condition_of n) ≡ n
unfolding every condition_of
condition_code_lem n l h = row_same (λ n. condition_code (condition_of n)) 16 24 refl (omega arith) n l h

-- what an operation or a condition is cast to is its code
pub operation_cast : (o : Operation) → tag_of operation.the_type o ≡ operation_code o
operation_cast Adc = refl
operation_cast Add = refl
operation_cast Sbc = refl
operation_cast Sub = refl
operation_cast Eor = refl
operation_cast Or = refl
operation_cast And = refl

pub immediate_cast : (o : ImmediateOperation) → tag_of immediate.the_type o + 8 ≡ immediate_code o
immediate_cast Adi = refl
immediate_cast Adim = refl
immediate_cast Sbi = refl
immediate_cast Sbim = refl
immediate_cast Eorim = refl
immediate_cast Orim = refl
immediate_cast Andim = refl

pub condition_cast : (c : Condition) → tag_of condition.the_type c + 16 ≡ condition_code c
condition_cast Bnz = refl
condition_cast Bnc = refl
condition_cast Baz = refl
condition_cast Bc = refl
condition_cast Ba0 = refl
condition_cast Ba1 = refl
condition_cast Ba2 = refl
condition_cast Ba3 = refl
