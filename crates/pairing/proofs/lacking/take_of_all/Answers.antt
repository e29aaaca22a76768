use Rattle.std.proofs.Common.{◌+◌, ◌-◌, sym, ◌∙◌, arith}
use Rattle.std.proofs.lemmas.Result.{err_from_is_err_and}
use Rattle.sheets.specs.Numbers.{lists_in, numbers}
use Rattle.sheets.specs.Sheets.{circle_of}
use Rattle.sheets.specs.declared.refusal.Refusal.TheVariants.{NoCoins}
use Rattle.pairing.proofs.Taking.{dealt_more, dealt-short, dealt_all, drawn_err, drawn_ok}
use Rattle.pairing.proofs.lacking.take_of_all.Goals as goal

pub returns-in_err-ok_or : goal.returns-in_err-ok_or
returns-in_err-ok_or c =
    let p = err_from_is_err_and c.from_residual.result c.from_residual.ensures.1 in
    let at = c.loop-member.member in
    let h = drawn_err at c.args.sheet.now.t c.threshold.result (lists_in c.loop-member.coins) (lists_in c.draw.new.self) c.draw.result NoCoins c.in_err-ok_or.field-0.0 c.threshold.ensures c.draw.ensures.drawn (sym c.ok_or.ensures.value ∙ c.in_err-ok_or.was) in
    rw (p.1, p.2)
    (dealt-short (circle_of c.args.sheet.now) (numbers c.args.coins.now) (at - 1) at (numbers c.loop-member.coins) (omega arith) (omega (arith, c.members-member-end.ensures)) h.0 c.loop-member.invariant, h.1)

pub loop-member-preserved : goal.loop-member-preserved
loop-member-preserved c =
    let at = c.loop-member.member in
    let h = drawn_ok at c.args.sheet.now.t c.threshold.result (lists_in c.loop-member.coins) (lists_in c.draw.new.self) c.draw.result NoCoins c.in_ok-ok_or.field-0 c.threshold.ensures c.draw.ensures.drawn (sym c.ok_or.ensures.value ∙ c.in_ok-ok_or.was) in
    dealt_more (circle_of c.args.sheet.now) (numbers c.args.coins.now) (at - 1) at (numbers c.loop-member.coins) (omega arith) (numbers c.draw.new.self) (at + 1 - 1) (omega arith)
    (omega (arith, c.members-member-end.ensures)) h.0 h.1 c.loop-member.invariant

pub returns-in_ok-ok_or : goal.returns-in_ok-ok_or
returns-in_ok-ok_or c =
    let z = circle_of c.args.sheet.now in
    let at = c.loop-member.member in
    let h = drawn_ok at c.args.sheet.now.t c.threshold.result (lists_in c.loop-member.coins) (lists_in c.draw.new.self) c.draw.result NoCoins c.in_ok-ok_or.field-0 c.threshold.ensures c.draw.ensures.drawn (sym c.ok_or.ensures.value ∙ c.in_ok-ok_or.was) in
    dealt_all z (numbers c.args.coins.now) at (numbers c.draw.new.self) (omega (arith, c.members-member-end.ensures))
    (dealt_more z (numbers c.args.coins.now) (at - 1) at (numbers c.loop-member.coins) (omega arith) (numbers c.draw.new.self) at (omega arith)
    (omega (arith, c.members-member-end.ensures)) h.0 h.1 c.loop-member.invariant)
