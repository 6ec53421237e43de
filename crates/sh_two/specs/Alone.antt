-- One car over the entries of both, as the run finds it: part by part.
use Rattle.std.specs.Prelude.{ℕ, ◌+◌, ◌-◌, ◌*◌, ◌/◌, ◌<◌, ◌≤◌, ◌≡◌, false, List, [], ◌∷◌, eqb, length, take, drop}
use Rattle.lent.specs.Lent.{pick}
use Rattle.sh_run.specs.declared.Stop.{Stop}
use Rattle.sh_run.specs.declared.Stop.TheVariants as stop
use Rattle.sh_two.specs.Two.{Entry, entries_of, Car, stopped_of, taken_of}

-- a car as its entries leave it, and how many entries of both are read until it stops, or at the end
pub record Alone : Type 0 where
  pub after : Car
  pub entries : ℕ

abbrev pub alone : Car → ℕ → Alone
alone c n = record { after = c; entries = n }

unfoldable pub alone_of : List ℕ → List Entry → Car → ℕ → Alone
alone_of p [] c n = alone c n
alone_of p (x ∷ entries) c n =
    pick (stopped_of (taken_of p x c).why) (alone (taken_of p x c) (n + 1)) (alone_of p entries (taken_of p x c) (n + 1))

-- a car that stopped, or goes on with the entries
unfoldable pub on_of : List ℕ → List Entry → Car → ℕ → Alone
on_of p entries c n = pick (stopped_of c.why) (alone c n) (alone_of p entries c n)

-- the entries of a script from place i on; and below another
abbrev pub from : List ℕ → ℕ → List Entry
from script i = entries_of (drop (i * 2) script)

unfoldable pub part_of : List ℕ → ℕ → ℕ → List Entry
part_of script i end = take (end - i) (from script i)

-- how many entries there are up to the car's entry number j, counted from 1, with it
unfoldable pub through_of : ℕ → List Entry → ℕ → ℕ
through_of k [] j = 0
through_of k (x ∷ entries) j =
    pick (eqb j 0) 0 (through_of k entries (pick (eqb x.car k) (j - 1) j) + 1)

-- how many entries of a part are read where a run of the car's own did n events: the one that reached the address is done, the one before an unlisted word is not
unfoldable pub read_of : ℕ → List Entry → Stop → ℕ → ℕ
read_of k part stop.Address n = through_of k part n
read_of k part stop.Unlisted n = through_of k part (n + 1)
read_of k part stop.End n = length part

-- from the car c before entry `first` to the car d after the entries before n, which has stopped or goes on
pub record Parted (p : List ℕ) (script : List ℕ) (c : Car) (first : ℕ) (d : Car) (n : ℕ) : Type 0 where
  pub same : on_of p (from script n) d n ≡ alone_of p (from script first) c first
  pub on : stopped_of d.why ≡ false → (first < n) × (n ≤ length script / 2)
