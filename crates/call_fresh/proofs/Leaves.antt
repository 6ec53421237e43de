-- "A refusal changes no lent byte" (01, the table): a fresh machine that is refused leaves the memory.
use Rattle.std.specs.Prelude.{Err}
use mathlib.Core.Path.{◌≡◌, refl}
use mathlib.Core.List.{List}
use Prim.Native.Nat.{ℕ}
use lib.Dec.{ltb, eqb}
use lib.ListN.{length}
use Rattle.lent.proofs.Laws.{by_choice}
use Rattle.refusal.specs.declared.Refusal.{Refusal}
use Rattle.answer.specs.Answer.{Answered}
use Rattle.call_fresh.specs.Fresh.{fresh_call_of}

pub fresh_leaves : (options : ℕ) (l : List ℕ) (why : Refusal) → (fresh_call_of options l).outcome ≡ Err why → (fresh_call_of options l).after.memory ≡ l
unfolding fresh_call_of
fresh_leaves options l =
    let Says : Answered → Type 0 = λ a. (why : Refusal) → a.outcome ≡ Err why → a.after.memory ≡ l in
    by_choice Says (eqb (length l) 1024) _ _
    (by_choice Says (ltb options 8) _ _ (λ why f. cc) (λ why f. refl))
    (λ why f. refl)
