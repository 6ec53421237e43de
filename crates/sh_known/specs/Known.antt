-- Which bytes are events (01, "Events"; 02, P1).
use Rattle.std.specs.Prelude.{ℕ, Bool, true, false, ltb, eqb}
use Rattle.lent.specs.Lent.{pick}

-- $00-$03, $05 and $10-$4F; other bytes are unknown
unfoldable pub known_of : ℕ → Bool
known_of e = pick (ltb e 0x04) true (pick (eqb e 0x05) true (pick (ltb e 0x10) false (ltb e 0x50)))
