use Rattle.std.proofs.Common.{vec_items, ap, rules}
use Rattle.files.specs.Circles.{figures_one, formed}
use Rattle.files.specs.Lists.{lists}
use Rattle.files.specs.Words.{words}
use Rattle.files.proofs.EachSteps.{each_more, each_stop, each_left, each_all, one_more}
use Rattle.files.proofs.Refused.{malformed_so}
use Rattle.files.proofs.circle.read_lists.Goals as goal

pub returns-in_err-part : goal.returns-in_err-part
returns-in_err-part c =
    let bad = c.in_err-part.ensures in
    malformed_so lists _ _ _ c.from_residual.ensures.1 bad.0
    (ap formed (each_stop figures_one c.args.n c.loop.counter _ c.loop.rest.now c.args.bytes.now (search rules) (rw bad.1) c.loop.invariant))

pub loop-preserved : goal.loop-preserved
loop-preserved c =
    each_more figures_one c.args.n c.loop.counter (lists c.loop.lists) _ c.loop.rest.now c.args.bytes.now (words c.in_ok-part.part.now) c.in_ok-part.after.now
    (search rules) (rw c.in_ok-part.ensures) (one_more vec_items _ _ _ _ c.in_ok-push.ensures.items c.in_ok-split_words.ensures) c.loop.invariant

pub returns-in_err-check_end : goal.returns-in_err-check_end
returns-in_err-check_end c =
    let bad = c.in_err-check_end.ensures in
    malformed_so lists _ _ _ c.from_residual-in_err-check_end.ensures.1 bad.0
    (ap formed (each_left figures_one c.args.n c.loop.counter _ c.loop.rest.now c.args.bytes.now (search rules) bad.1 c.loop.invariant))

pub returns : goal.returns
returns c =
    ap formed (each_all figures_one c.args.n c.loop.counter _ c.loop.rest.now c.args.bytes.now (search rules) c.in_ok-check_end.ensures c.loop.invariant)
