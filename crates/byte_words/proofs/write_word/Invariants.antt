-- The bytes so far are the first digits, and `rest` has the others.
use Rattle.std.proofs.Common.{◌≡◌, ◌-◌, take, drop}
use Rattle.rules.specs.Words.{digits}
use Rattle.byte_words.proofs.write_word.Given as goal

abbrev pub invariant-loop-byte : goal.invariant-loop-byte
invariant-loop-byte l = record {
  written : take l.byte-index l.byte-items ≡ take l.byte-index (digits l.n l.v);
  others : drop l.byte-index (digits l.n l.v) ≡ digits (l.n - l.byte-index) l.rest;
}
