-- The number and the value of each reason (01, "What comes back when a call is turned down"): the table's first column, its words, its last column; and of those that 02 adds.
use Rattle.std.specs.Prelude.{ℕ}
use Rattle.refusal.specs.declared.Refusal.{Refusal}
use Rattle.refusal.specs.declared.Refusal.TheVariants.{ProgramLength, MemoryLength, CellRule, Record, UnknownEvent, UnlistedWord, Room, NotAskable, Digit, Contents, Body, Options, Field, Listing, Car, CutEntry, Tables}

-- No.
abbrev pub number_of : Refusal → ℕ
number_of (ProgramLength v) = 1  -- program not 4,096 words
number_of (MemoryLength v) = 2  -- memory not 1,024 bytes
number_of (CellRule v) = 3  -- a cell breaks the memory rules
number_of Record = 4  -- record bytes of another number than the record has, or record not well formed
number_of (UnknownEvent v) = 5  -- unknown event
number_of (UnlistedWord v) = 6  -- a cycle would execute an unlisted word; or an unlisted word is read
number_of (Room v) = 7  -- output has too little room
number_of (NotAskable v) = 8  -- asked cell isn't data, display or scan
number_of (Digit v) = 9  -- a level digit above 7
number_of Contents = 10  -- contents or file length wrong
number_of (Body v) = 11  -- a body value out of its rule, or equal level cells
number_of (Options v) = 12  -- options above 7, asked of a fresh machine
number_of Field = 13  -- instruction field out of range; 02, P7: replacing at an address above 4,095
number_of (Listing v) = 26  -- 02, P3: a text that isn't such a listing
number_of (Car v) = 27  -- 02, P5: a car above 1
number_of (CutEntry v) = 28  -- 02, P5: a cut entry
number_of Tables = 29  -- 02, P7: tables that don't match the program they are given with

-- With it
abbrev pub value_of : Refusal → ℕ
value_of (ProgramLength v) = v  -- length
value_of (MemoryLength v) = v  -- length
value_of (CellRule v) = v  -- lowest address
value_of Record = 0  -- 0
value_of (UnknownEvent v) = v  -- first place
value_of (UnlistedWord v) = v  -- its address; the word, where a word is read
value_of (Room v) = v  -- room needed
value_of (NotAskable v) = v  -- address
value_of (Digit v) = v  -- 0 high, 1 low
value_of Contents = 0  -- 0
value_of (Body v) = v  -- body kind
value_of (Options v) = v  -- value
value_of Field = 0  -- 0
value_of (Listing v) = v  -- 02, P3: the first bad line, counted from 0
value_of (Car v) = v  -- 02, P5: the byte's place
value_of (CutEntry v) = v  -- 02, P5: the byte's place
value_of Tables = 0  -- 02, P7: none is named
