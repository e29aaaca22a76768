use Rattle.std.proofs.Common.{◌≡◌, ◌≤◌, drop, Some}
use Rattle.console.specs.Numbers.{read_on}
use Rattle.console.proofs.numbers.member_number.Given as goal

abbrev pub invariant-loop-byte : goal.invariant-loop-byte
invariant-loop-byte l = (read_on (Some 0) l.word ≡ read_on (Some l.number) (drop l.byte-index l.word)) × (l.number ≤ 1000)
