-- Edges of a port's pins (003, 6; 01, "Edges": only on input bits, HOUSE).
use Rattle.std.specs.Prelude.{ℕ, ◌+◌, ◌*◌, ◌/◌, ◌%◌, eqb}
use Rattle.lent.specs.Lent.{pick}

-- one bit: old and new pin, control (0 input), direction (0 falling, 1 rising); 1 for an edge
unfoldable pub edge_of : ℕ → ℕ → ℕ → ℕ → ℕ
edge_of old new control rising =
    pick (eqb control 0) (pick (eqb old new) 0 (pick (eqb new rising) 1 0)) 0

-- the four bits of a port
unfoldable pub edges_of : ℕ → ℕ → ℕ → ℕ → ℕ
edges_of old new control rising =
    edge_of (old % 2) (new % 2) (control % 2) rising
    + 2 * edge_of (old / 2 % 2) (new / 2 % 2) (control / 2 % 2) rising
    + 4 * edge_of (old / 4 % 2) (new / 4 % 2) (control / 4 % 2) rising
    + 8 * edge_of (old / 8 % 2) (new / 8 % 2) (control / 8 % 2) rising
