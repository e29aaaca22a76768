use Rattle.std.proofs.Common.{◌≡◌, [], map, drop, vec_items, string_bytes}
use Rattle.console.specs.Numbers.{numbers_after}
use Rattle.console.proofs.members.member_words.Given as goal

abbrev pub invariant-loop-word : goal.invariant-loop-word
invariant-loop-word l = numbers_after [] (map string_bytes l.words) ≡ numbers_after (vec_items l.numbers) (map string_bytes (drop l.word-index l.words))
