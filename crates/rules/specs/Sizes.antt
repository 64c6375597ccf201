-- The numbers that document 01 fixes, and 02 §5.
use Rattle.std.specs.Prelude.{ℕ, ◌+◌, ◌*◌}

-- 02 §5: "Names run from 1 to 4,095."
abbrev pub name_count : ℕ
name_count = 4095

-- "There are 1,024 cells."
abbrev pub cell_count : ℕ
cell_count = 1024

-- "64 temporaries t0–t63"
abbrev pub temporary_count : ℕ
temporary_count = 64

-- "A source table has 1 to 256 records, a target table 1 to 4,096."
abbrev pub source_limit : ℕ
source_limit = 256

abbrev pub target_limit : ℕ
target_limit = 4096

-- "the inputs (8 bytes each, 1–256 of them)"
abbrev pub input_limit : ℕ
input_limit = 256

-- 02 §5: "Each memory has 4,095 block records", of 8 bytes, in front of cells and marks: 32,760 bytes
abbrev pub blocks_length : ℕ
blocks_length = name_count * 8

-- "then 1,024 cells of 16": 02 §5, "49,144 bytes"
abbrev pub memory_length : ℕ
memory_length = blocks_length + cell_count * 16

-- "then 1,024 marks of one byte": 02 §5, "33,784"
abbrev pub observation_length : ℕ
observation_length = blocks_length + cell_count
