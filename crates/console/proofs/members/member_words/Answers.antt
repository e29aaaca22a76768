use Rattle.std.proofs.Common.{ℕ, ◌+◌, List, map, drop, vec_items, string_bytes, sym, ap, ◌∙◌}
use Rattle.console.specs.Numbers.{number_in, numbers_after}
use Rattle.console.proofs.WordLists.{words_more, words_bad, words_all}
use Rattle.console.proofs.members.member_words.Goals as goal

pub returns-in_default : goal.returns-in_default
returns-in_default c =
    c.loop-word.invariant
    ∙ words_bad string_bytes (vec_items c.loop-word.numbers) c.args.words.now c.loop-word.word-index c.word-item.result c.loop-word-test.true c.word-item.is
    (c.in_default.ensures ∙ ap number_in c.as_bytes.ensures.value)

pub loop-word-preserved : goal.loop-word-preserved
loop-word-preserved c =
    c.loop-word.invariant
    ∙ (words_more string_bytes (vec_items c.loop-word.numbers) c.args.words.now c.loop-word.word-index c.word-item.result c.in-Some.number c.loop-word-test.true c.word-item.is
    (c.in-Some.ensures ∙ ap number_in c.as_bytes.ensures.value)
    ∙ ap (λ (xs : List ℕ). numbers_after xs (map string_bytes (drop (c.loop-word.word-index + 1) c.args.words.now))) (sym c.in_ok-push.ensures.items))

pub returns : goal.returns
returns c = c.loop-word.invariant ∙ words_all string_bytes (vec_items c.loop-word.numbers) c.args.words.now c.loop-word.word-index c.loop-word-test.false
