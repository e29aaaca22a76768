use Rattle.std.proofs.Common.{ℕ, ◌+◌, length, drop, Some, sym, ap, ◌∙◌, arith}
use Rattle.std.proofs.lemmas.Bool.{eqb-false}
use Rattle.console.specs.Numbers.{read_on}
use Rattle.console.proofs.Digits.{number_of, read_more, read_bad, read_all}
use Rattle.console.proofs.numbers.member_number.Goals as goal

pub returns-in_err-digit : goal.returns-in_err-digit
returns-in_err-digit c =
    let word = c.args.word.now in
    c.from_residual.ensures ∙ (read_bad word c.loop-byte.byte-index c.loop-byte.number c.loop-byte-test.true c.in_err-digit.ensures
    ∙ (sym c.loop-byte.invariant.0 ∙ sym (number_of word (eqb-false (length word) 0 (sym c.if-is_empty.ensures)))))

pub loop-byte-preserved : goal.loop-byte-preserved
loop-byte-preserved c =
    let word = c.args.word.now in (
      c.loop-byte.invariant.0
          ∙ (read_more word c.loop-byte.byte-index c.loop-byte.number c.in_ok-digit.digit c.loop-byte-test.true c.in_ok-digit.ensures
          ∙ ap (λ (k : ℕ). read_on (Some k) (drop (c.loop-byte.byte-index + 1) word)) (sym c.min-number.ensures)),
      omega (arith, c.min-number.ensures),
    )

pub returns : goal.returns
returns c =
    let word = c.args.word.now in
    read_all word c.loop-byte.byte-index c.loop-byte.number c.loop-byte-test.false
    ∙ (sym c.loop-byte.invariant.0 ∙ sym (number_of word (eqb-false (length word) 0 (sym c.if-is_empty.ensures))))
