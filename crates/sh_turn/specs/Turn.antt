-- A word that moves the stack, is on a register, adjusts or jumps by the table, on the machine, PC, AC and CY. `proofs/Turns.antt` has that
-- it is the instruction.
use Rattle.std.specs.Prelude.{ℕ, ◌+◌, ◌*◌, ◌/◌, ◌%◌, Bool, true, false, List, ltb, eqb, set}
use Rattle.lent.specs.Lent.{pick, at}
use Rattle.word.specs.declared.Operation.{Operation}
use Rattle.word.specs.declared.Operation.TheVariants.{Add, Sub, Eor, Or, And}
use Rattle.word.specs.Codes.{operation_of}
use Rattle.alu.specs.declared.Sum.{Sum}
use Rattle.alu.specs.Alu.{calculated_of, loaded_of, decimal_added_of, decimal_subtracted_of}
use Rattle.sh_map.specs.Map.{askable_of}
use Rattle.sh_state.specs.declared.machine.Machine.{Machine}
use Rattle.sh_state.specs.Record.{entry_of, push_of, pop_of, newest_of}
use Rattle.sh_cells.specs.Cells.{target_of, port_of}
use Rattle.sh_execute.specs.Execute.{next_of, within_of}
use Rattle.sh_core.specs.declared.Core.{Core}
use Rattle.sh_turn.specs.declared.Turned.{Turned}
use Rattle.sh_core.specs.Quick.{Quick, quickly, core, stays_of, got_of, gone_of, put_of}

-- the machine, PC, AC and CY with the memory after a word
pub record Turn : Type 0 where
  pub machine : Machine
  pub core : Core
  pub memory : List ℕ

abbrev pub turn : Machine → Core → List ℕ → Turn
turn m c l = record { machine = m; core = c; memory = l }

abbrev pub turned : Machine → Core → Turned
turned m c = record { machine = m; core = c }

abbrev pub turning : Turned → List ℕ → Turn
turning r l = turn r.machine r.core l

-- what a register that shows no clock reads as
unfoldable pub shown_of : Machine → List ℕ → ℕ → ℕ
shown_of m l a =
    pick (eqb a 0x08) (port_of m.pina (at l 0x08) (at l 0x16))
    (pick (eqb a 0x09) (port_of m.pinb (at l 0x09) (at l 0x17))
    (pick (eqb a 0x0A) (port_of m.pinc (at l 0x0A) (at l 0x18))
    (pick (eqb a 0x0B) (port_of m.pind (at l 0x0B) (at l 0x19)) (at l a))))

-- the bits that a write to a register stores
unfoldable pub mask_of : ℕ → ℕ
mask_of a =
    pick (eqb a 0x06) 0
    (pick (eqb a 0x07) 7
    (pick (eqb a 0x0C) 12
    (pick (eqb a 0x0F) 0
    (pick (eqb a 0x11) 7
    (pick (eqb a 0x12) 7
    (pick (eqb a 0x14) 11
    (pick (eqb a 0x1F) 0 15)))))))

-- a register whose read does nothing and shows no clock
unfoldable pub readable_of : ℕ → Bool
readable_of a = pick (ltb a 0x20) (pick (eqb a 0x04) false (pick (eqb a 0x05) false (pick (eqb a 0x1E) false true))) false

-- a register whose write does nothing to the record
unfoldable pub writable_of : ℕ → Bool
writable_of a = pick (ltb a 0x02) true (pick (ltb a 0x06) false (pick (eqb a 0x1A) false (pick (eqb a 0x1E) false true)))

unfoldable pub put_masked_of : Core → List ℕ → ℕ → Sum → Quick
put_masked_of c l a r = quickly (got_of c r) (set l a (port_of (at l a) r.value (mask_of a)))

unfoldable pub put_register_of : Core → List ℕ → ℕ → Sum → Quick
put_register_of c l a r = pick (writable_of a) (put_masked_of c l a r) (quickly (stays_of c) l)

-- a result in AC and the register, or in AC only
unfoldable pub takes_of : Core → List ℕ → ℕ → Sum → Bool → Quick
takes_of c l a r writes = pick writes (put_register_of c l a r) (quickly (got_of c r) l)

-- an immediate form's operation by its code, and whether it writes
unfoldable pub code_of : ℕ → Operation
code_of n =
    pick (eqb n 8) Add
    (pick (eqb n 9) Add
    (pick (eqb n 10) Sub
    (pick (eqb n 11) Sub
    (pick (eqb n 12) Eor
    (pick (eqb n 13) Or And)))))

unfoldable pub writes_of : ℕ → Bool
writes_of n = pick (eqb n 8) false (pick (eqb n 10) false true)

-- the results of a word on a cell that reads as x
unfoldable pub transferred_of : Core → ℕ → ℕ → Sum
transferred_of c x w = pick (eqb (w / 1024 % 2) 1) (loaded_of c.ac c.cy) (loaded_of x c.cy)

unfoldable pub ac_result_of : Core → ℕ → ℕ → Sum
ac_result_of c x w = pick (ltb (w / 2048) 7) (calculated_of (operation_of (w / 2048)) x c.ac c.cy) (transferred_of c x w)

unfoldable pub immediate_result_of : Core → ℕ → ℕ → Sum
immediate_result_of c x w = pick (ltb (w / 2048) 15) (calculated_of (code_of (w / 2048)) x (w / 128 % 16) c.cy) (loaded_of (w / 128 % 16) c.cy)

unfoldable pub ac_word_of : Machine → Core → List ℕ → ℕ → ℕ → Quick
ac_word_of m c l w a = pick (readable_of a) (takes_of c l a (ac_result_of c (shown_of m l a) w) (eqb (w / 1024 % 2) 1)) (quickly (stays_of c) l)

unfoldable pub immediate_word_of : Machine → Core → List ℕ → ℕ → ℕ → Quick
immediate_word_of m c l w a = pick (readable_of a) (takes_of c l a (immediate_result_of c (shown_of m l a) w) (writes_of (w / 2048))) (quickly (stays_of c) l)

unfoldable pub cell_turn_of : Machine → Core → List ℕ → ℕ → Quick
cell_turn_of m c l w = pick (ltb w 0x4000) (ac_word_of m c l w (target_of l (w % 1024))) (immediate_word_of m c l w (target_of l (w % 128)))

-- DAA and DAS on data, display and scan
unfoldable pub adjusted_of : Core → List ℕ → ℕ → ℕ → Quick
adjusted_of c l w a =
    pick (eqb (w / 128) 0x196) (put_of c l a (decimal_added_of (at l a) c.cy))
    (pick (eqb (w / 128) 0x19A) (put_of c l a (decimal_subtracted_of (at l a) c.cy)) (quickly (stays_of c) l))

unfoldable pub decimal_of : Core → List ℕ → ℕ → ℕ → Quick
decimal_of c l w a = pick (askable_of a) (adjusted_of c l w a) (quickly (stays_of c) l)

-- where TJMP goes
unfoldable pub table_of : Core → List ℕ → ℕ
table_of c l = c.pc / 256 * 256 + (at l 0x0E % 16 * 16 + c.ac % 16)

-- the words that leave the stack
unfoldable pub other_turn_of : Machine → Core → List ℕ → ℕ → Quick
other_turn_of m c l w =
    pick (ltb w 0x8000) (cell_turn_of m c l w)
    (pick (eqb (w / 2048) 25) (decimal_of c l w (target_of l (w % 128)))
    (pick (eqb w 0xF7FF) (quickly (gone_of c (table_of c l)) l) (quickly (stays_of c) l)))

-- CALL, RTNI, RTNW
unfoldable pub called_of : Machine → Core → ℕ → Turned
called_of m c t = turned (push_of m (entry_of c.cy (next_of c.pc))) (gone_of c (within_of c.pc t))

unfoldable pub returned_of : Machine → Core → Turned
returned_of m c = turned (pop_of m) (core (newest_of m % 4096) c.ac (newest_of m / 4096 % 2) true)

unfoldable pub returned_with_of : Machine → Core → List ℕ → ℕ → ℕ → Turn
returned_with_of m c l h v = turn (pop_of m) (core (newest_of m % 4096) v c.cy true) (set l 0x0E h)

unfoldable pub alone_of : Machine → Quick → Turn
alone_of m q = turn m q.core q.memory

unfoldable pub turn_of : Machine → Core → List ℕ → ℕ → Turn
turn_of m c l w =
    pick (eqb (w / 2048) 24) (turning (called_of m c (w % 2048)) l)
    (pick (eqb w 0xD400) (turning (returned_of m c) l)
    (pick (eqb (w / 256) 0xD0) (returned_with_of m c l (w / 16 % 16) (w % 16)) (alone_of m (other_turn_of m c l w))))
