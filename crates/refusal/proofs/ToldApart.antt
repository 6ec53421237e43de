-- The number and the value tell the reason: no two reasons share both.
use mathlib.Core.Path.{◌≡◌, refl}
use mathlib.Core.Bool.{cond}
use Prim.Native.Nat.{ℕ}
use lib.Dec.{eqb}
use Rattle.refusal.specs.declared.Refusal.{Refusal}
use Rattle.refusal.specs.declared.Refusal.TheVariants.{ProgramLength, MemoryLength, CellRule, Record, UnknownEvent, UnlistedWord, Room, NotAskable, Digit, Contents, Body, Options, Field, Listing, Car, CutEntry, Tables}
use Rattle.refusal.specs.Refusal.{number_of, value_of}

-- the reason of a number and a value
abbrev reason_of : ℕ → ℕ → Refusal
reason_of n v =
    cond (eqb n 1) (ProgramLength v)
    (cond (eqb n 2) (MemoryLength v)
    (cond (eqb n 3) (CellRule v)
    (cond (eqb n 4) Record
    (cond (eqb n 5) (UnknownEvent v)
    (cond (eqb n 6) (UnlistedWord v)
    (cond (eqb n 7) (Room v)
    (cond (eqb n 8) (NotAskable v)
    (cond (eqb n 9) (Digit v)
    (cond (eqb n 10) Contents
    (cond (eqb n 11) (Body v)
    (cond (eqb n 12) (Options v)
    (cond (eqb n 13) Field
    (cond (eqb n 26) (Listing v)
    (cond (eqb n 27) (Car v)
    (cond (eqb n 28) (CutEntry v)
    Tables)))))))))))))))

reason_back : (a : Refusal) → reason_of (number_of a) (value_of a) ≡ a
reason_back (ProgramLength v) = refl
reason_back (MemoryLength v) = refl
reason_back (CellRule v) = refl
reason_back Record = refl
reason_back (UnknownEvent v) = refl
reason_back (UnlistedWord v) = refl
reason_back (Room v) = refl
reason_back (NotAskable v) = refl
reason_back (Digit v) = refl
reason_back Contents = refl
reason_back (Body v) = refl
reason_back (Options v) = refl
reason_back Field = refl
reason_back (Listing v) = refl
reason_back (Car v) = refl
reason_back (CutEntry v) = refl
reason_back Tables = refl

pub told_apart : (a b : Refusal) → number_of a ≡ number_of b → value_of a ≡ value_of b → a ≡ b
told_apart a b n v =
    let p = reason_back a in
    let q = reason_back b in
    cc
