-- fresh, for C (01, "Reset"): 2, 4 for a record that is not 45 bytes, 12; a refusal leaves memory and record.
use Rattle.std.specs.Prelude.{ℕ, List, ltb, eqb, length}
use Rattle.lent.specs.Lent.{pick}
use Rattle.refusal.specs.declared.Refusal.TheVariants as refusal
use Rattle.refusal.specs.Told.{refused_told}
use Rattle.call_fresh.specs.Fresh.{fresh_call_of}
use Rattle.host.specs.Step.{Stepped, stepped, step_told}

unfoldable pub host_fresh_of : ℕ → List ℕ → List ℕ → Stepped
host_fresh_of options l b =
    pick (eqb (length l) 1024)
    (pick (eqb (length b) 45)
    (pick (ltb options 8) (step_told (fresh_call_of options l)) (stepped (refused_told (refusal.Options options)) l b))
    (stepped (refused_told refusal.Record) l b))
    (stepped (refused_told (refusal.MemoryLength (length l))) l b)
