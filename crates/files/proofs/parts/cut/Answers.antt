use Rattle.std.proofs.Common.{arith}
use Rattle.std.proofs.lemmas.Option.{MatchOption-at_some}
use Rattle.std.proofs.lemmas.Result.{err_from_is_err_and}
use Rattle.files.proofs.CutSteps.{no_count, cut_counted, cut_told}
use Rattle.files.proofs.parts.cut.Goals as goal

pub returns-in_err-count : goal.returns-in_err-count
returns-in_err-count c =
    let p = err_from_is_err_and c.from_residual.result c.from_residual.ensures.1 in
    rw (p.1, p.2) (no_count c.args.bytes.now c.split_first_chunk.result _ c.in_err-count.field-0.0 c.in_err-count.ensures.value c.split_first_chunk.ensures.cases)

pub returns : goal.returns
returns c =
    let front = MatchOption-at_some _ _ _ c.in_ok-count.ensures.ok_part c.split_first_chunk.ensures.cases in
    rw c.ok_or-2.ensures.value
    (cut_told c.args.bytes.now c.in_ok-count.rest.now c.from_be_bytes.result c.split_at_checked.result
    (cut_counted c.args.bytes.now c.in_ok-count.count.now c.in_ok-count.rest.now c.from_be_bytes.result (omega (arith, front.2)) front.0 front.1 c.from_be_bytes.ensures)
    c.split_at_checked.ensures.cases)
