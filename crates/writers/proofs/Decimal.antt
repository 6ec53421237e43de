-- Demand 3 of DAA and of DAS, which adjust the cell (02, P6): at an address that has one of them some machine has the cell changed exactly when the word names the cell or $00F.
use Rattle.std.specs.Prelude.{Ok}
use mathlib.Core.Path.{◌≡◌, ◌∙◌, refl, sym}
use mathlib.Core.Bool.{true}
use mathlib.Core.List.{List}
use Prim.Native.Nat.{ℕ, ◌<◌}
use Rattle.lent.specs.Lent.{at}
use Rattle.word.specs.declared.Instruction.{Instruction}
use Rattle.word.specs.declared.Instruction.TheVariants.{Daa, Das}
use Rattle.word.specs.Word.{decode_of}
use Rattle.sh_map.specs.Map.{askable_of}
use Rattle.writers.specs.Statement.{Changes}
use Rattle.writers.specs.Test.{names, writes_in, writes_by, writes_of}
use Rattle.writers.proofs.Exact.{sound, complete}

module _ (p : List ℕ) (a x c : ℕ) (h : askable_of c ≡ true) (k : a < 4096) where
  abbrev pub Exact : Instruction → Type 0
  Exact i = decode_of (at p a) ≡ Ok i → (Changes p a c → names x c ≡ true) × (names x c ≡ true → Changes p a c)

  exact : (i : Instruction) → writes_in i c ≡ names x c → Exact i
  unfolding writes_of writes_by
  exact i w e = (λ d. sym w ∙ (rw e at (sound p a c h d)), λ n. complete p a c h k (rw e (w ∙ n)))

  pub daa_exact : Exact (Daa x)
  unfolding writes_in
  daa_exact = exact (Daa x) refl

  pub das_exact : Exact (Das x)
  unfolding writes_in
  das_exact = exact (Das x) refl
