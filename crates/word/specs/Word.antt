-- Which instruction a word is, and which word an instruction is (003, section 17; 01, "Instruction words").
use Rattle.std.specs.Prelude.{ℕ, ◌+◌, ◌*◌, ◌/◌, ◌%◌, Bool, true, ltb, eqb, Err, Ok, Result}
use Rattle.lent.specs.Lent.{pick, both}
use Rattle.refusal.specs.declared.Refusal.TheVariants.{UnlistedWord, Field}
use Rattle.word.specs.declared.Instruction.{Instruction}
use Rattle.word.specs.declared.Instruction.TheVariants.{Accumulator, Memory, Lda, Sta, Immediate, Ldi, Branch, Call, Daa, Das, Rtnw, Rtni, Halt, Stop, Jmp, Shr, Tjmp, Nop}
use Rattle.word.specs.Codes.{operation_of, immediate_of, condition_of, operation_code, immediate_code, condition_code}
use Rattle.refusal.specs.Told.{Said, done_told, refused_told}
use Rattle.refusal.specs.declared.Refusal.{Refusal}

-- The fields of a word, in section 17's letters.

-- bits 15-11, which choose
abbrev pub code : ℕ → ℕ
code w = w / 2048

-- bit 10: 0bbb without the memory, 1bbb with it
abbrev pub memory_bit : ℕ → ℕ
memory_bit w = w / 1024 % 2

-- bbb xxx xxxx, bits 9-0: bank x 128 + X
abbrev pub address : ℕ → ℕ
address w = w % 1024

-- xxx xxxx, bits 6-0: X in bank 0
abbrev pub field_x : ℕ → ℕ
field_x w = w % 128

-- iiii, bits 10-7
abbrev pub immediate : ℕ → ℕ
immediate w = w / 128 % 16

-- xxxx xxx xxxx, bits 10-0
abbrev pub target : ℕ → ℕ
target w = w % 2048

-- accumulator type, codes 0-6: 00ooo 1bbb xxx xxxx with the memory, 00ooo 0bbb xxx xxxx without
unfoldable pub accumulator_of : ℕ → Result Instruction Refusal
accumulator_of w =
    pick (eqb (memory_bit w) 1) (Ok (Memory (operation_of (code w)) (address w)))
    (Ok (Accumulator (operation_of (code w)) (address w)))

-- transfer, code 7: 00111 1bbb xxx xxxx is STA, 00111 0bbb xxx xxxx is LDA
unfoldable pub transfer_of : ℕ → Result Instruction Refusal
transfer_of w = pick (eqb (memory_bit w) 1) (Ok (Sta (address w))) (Ok (Lda (address w)))

-- what is listed of codes 25-27, 30 and 31
unfoldable pub control_of : ℕ → Result Instruction Refusal
control_of w =
    pick (eqb (w / 128) 0x196) (Ok (Daa (field_x w)))  -- 11001 0110 xxx xxxx: $CB00-$CB7F
    (pick (eqb (w / 128) 0x19A) (Ok (Das (field_x w)))  -- 11001 1010 xxx xxxx: $CD00-$CD7F
    (pick (eqb (w / 256) 0xD0) (Ok (Rtnw (w / 16 % 16) (w % 16)))  -- 11010 000h hhh llll: $D000-$D0FF
    (pick (eqb w 0xD400) (Ok Rtni)
    (pick (eqb w 0xD800) (Ok Halt)
    (pick (eqb w 0xDC00) (Ok Stop)
    (pick (eqb w 0xF000) (Ok Shr)
    (pick (eqb w 0xF7FF) (Ok Tjmp)
    (pick (eqb w 0xFFFF) (Ok Nop)
    (Err (UnlistedWord w))))))))))  -- 01: "Reading an unlisted word also answers 6, with the word"

-- The instruction of a word; a word that is not listed is refused.
unfoldable pub decode_of : ℕ → Result Instruction Refusal
decode_of w =
    pick (ltb (code w) 7) (accumulator_of w)  -- 01: codes 0-6
    (pick (eqb (code w) 7) (transfer_of w)  -- code 7
    (pick (ltb (code w) 15) (Ok (Immediate (immediate_of (code w)) (field_x w) (immediate w)))  -- codes 8-14: 01ooo iiii xxx xxxx
    (pick (eqb (code w) 15) (Ok (Ldi (field_x w) (immediate w)))  -- code 15: 01111 iiii xxx xxxx
    (pick (ltb (code w) 24) (Ok (Branch (condition_of (code w)) (target w)))  -- codes 16-23: 10ccc xxxx xxx xxxx
    (pick (eqb (code w) 24) (Ok (Call (target w)))  -- 11000 xxxx xxx xxxx: $C000-$C7FF
    (pick (eqb (w / 4096) 14) (Ok (Jmp (w % 4096)))  -- 1110p xxxx xxx xxxx: $E000-$EFFF
    (control_of w)))))))

-- Whether each field of an instruction fits its bits (refusal 13).
abbrev pub in_range : Instruction → Bool
in_range (Accumulator o a) = ltb a 1024
in_range (Memory o a) = ltb a 1024
in_range (Lda a) = ltb a 1024
in_range (Sta a) = ltb a 1024
in_range (Immediate o x i) = both (ltb x 128) (ltb i 16)
in_range (Ldi x i) = both (ltb x 128) (ltb i 16)
in_range (Branch c t) = ltb t 2048
in_range (Call t) = ltb t 2048
in_range (Daa x) = ltb x 128
in_range (Das x) = ltb x 128
in_range (Rtnw h l) = both (ltb h 16) (ltb l 16)
in_range Rtni = true
in_range Halt = true
in_range Stop = true
in_range (Jmp t) = ltb t 4096
in_range Shr = true
in_range Tjmp = true
in_range Nop = true

-- The word of an instruction whose fields are in range.
abbrev pub word_of : Instruction → ℕ
word_of (Accumulator o a) = operation_code o * 2048 + a  -- 00ooo 0bbb xxx xxxx
word_of (Memory o a) = operation_code o * 2048 + 1024 + a  -- 00ooo 1bbb xxx xxxx
word_of (Lda a) = 0x3800 + a  -- 00111 0bbb xxx xxxx
word_of (Sta a) = 0x3C00 + a  -- 00111 1bbb xxx xxxx
word_of (Immediate o x i) = immediate_code o * 2048 + i * 128 + x  -- 01ooo iiii xxx xxxx
word_of (Ldi x i) = 0x7800 + i * 128 + x  -- 01111 iiii xxx xxxx
word_of (Branch c t) = condition_code c * 2048 + t  -- 10ccc xxxx xxx xxxx
word_of (Call t) = 0xC000 + t  -- 11000 xxxx xxx xxxx
word_of (Daa x) = 0xCB00 + x  -- 11001 0110 xxx xxxx
word_of (Das x) = 0xCD00 + x  -- 11001 1010 xxx xxxx
word_of (Rtnw h l) = 0xD000 + h * 16 + l  -- 11010 000h hhh llll
word_of Rtni = 0xD400  -- 11010 1000 000 0000
word_of Halt = 0xD800  -- 11011 0000 000 0000
word_of Stop = 0xDC00  -- 11011 1000 000 0000
word_of (Jmp t) = 0xE000 + t  -- 1110p xxxx xxx xxxx
word_of Shr = 0xF000  -- 11110 0000 000 0000
word_of Tjmp = 0xF7FF  -- 11110 1111 111 1111
word_of Nop = 0xFFFF  -- 11111 1111 111 1111

-- An instruction written: its word, or 13 where a field is out of range.
unfoldable pub encode_of : Instruction → Result ℕ Refusal
encode_of i = pick (in_range i) (Ok (word_of i)) (Err Field)

-- what is told of a word that is read; the instruction is in the answer
unfoldable pub decoded_told : Result Instruction Refusal → Said
decoded_told (Ok i) = done_told
decoded_told (Err why) = refused_told why

-- what is told of an instruction that is written; its word is in the answer
unfoldable pub encoded_told : Result ℕ Refusal → Said
encoded_told (Ok w) = done_told
encoded_told (Err why) = refused_told why
