use Rattle.std.proofs.Common.{◌≡◌, ℕ, map, length, get_or, vec_items, vec_len, sym, ap, ◌∙◌, inr, arith, rules}
use Rattle.std.specs.List.{list_any}
use Rattle.std.proofs.lemmas.List.{length-map}
use Rattle.std.proofs.lemmas.Result.{err_from_is_err_and}
use Rattle.sheets.specs.Reading.{malformed, line_of, verdict_on}
use Rattle.sheets.proofs.Verdicts.{Framed, Shape, Clean, all_parts, parts_of_tail, verdict_lines, shape_from, clean-from, good-from}
use Rattle.sheets.proofs.sheet.Sheet.read.Goals as goal

pub invariant_of-result : goal.invariant_of-result
invariant_of-result c =
    let bs = c.args.bytes.now in
    let n : ℕ = get_or bs 1 0 in
    let count : ℕ = c.from_be_bytes-count.result in
    let shape : Shape n (get_or bs 2 0) count = shape_from n (get_or bs 2 0) count (sym c.if-is_bad_shape.ensures) in
    let clean : Clean n (vec_items c.in_ok-lines.lines) =
    clean-from n (vec_items c.in_ok-lines.lines) (ap (verdict_on n) (sym c.deref.ensures.value) ∙ c.in_ok-judge.ensures) in
    let h : Framed bs count = record { kind = search rules; five = search rules; counted = search rules; long = search rules } in
    let long : vec_len c.in_ok-lines.lines ≡ count =
    omega (arith, c.in_ok-lines.lines.ok.0, ap length c.in_ok-lines.ensures.1, length-map c.as_chunks.result.0.now line_of, c.as_chunks.ensures.front_len, h.long) in
    record {
      few = shape.few;
      enough = shape.enough;
      some = omega (arith, shape.some, long);
      short = omega (arith, shape.short, long);
      well = good-from n (vec_items c.in_ok-lines.lines) clean;
      given = clean.given;
    }

pub returns-in_err-judge : goal.returns-in_err-judge
returns-in_err-judge c =
    let bs = c.args.bytes.now in
    let h : Framed bs c.from_be_bytes-count.result = record { kind = search rules; five = search rules; counted = search rules; long = search rules } in
    let all = all_parts bs c.from_be_bytes-count.result h c.as_chunks.ensures.front in
    let p = err_from_is_err_and c.from_residual-in_err-judge.result c.from_residual-in_err-judge.ensures.1 in
    rw (p.1, p.2)
    (inr (verdict_lines bs c.from_be_bytes-count.result h (ap (list_any malformed) (sym all) ∙ c.in_ok-lines.ensures.0) (sym c.if-is_bad_shape.ensures) c.deref.result.now
    (c.deref.ensures.value ∙ (c.in_ok-lines.ensures.1 ∙ ap (map line_of) all)) ∙ c.in_err-judge.ensures))

pub returns : goal.returns
returns c =
    let bs = c.args.bytes.now in
    let h : Framed bs c.from_be_bytes-count.result = record { kind = search rules; five = search rules; counted = search rules; long = search rules } in
    let all = all_parts bs c.from_be_bytes-count.result h c.as_chunks.ensures.front in (
      verdict_lines bs c.from_be_bytes-count.result h (ap (list_any malformed) (sym all) ∙ c.in_ok-lines.ensures.0) (sym c.if-is_bad_shape.ensures) c.deref.result.now
          (c.deref.ensures.value ∙ (c.in_ok-lines.ensures.1 ∙ ap (map line_of) all)) ∙ c.in_ok-judge.ensures,
      record {
        members = search rules;
        threshold = search rules;
        same = c.in_ok-lines.ensures.1 ∙ ap (map line_of) (all ∙ parts_of_tail bs c.from_be_bytes-count.result h.counted);
      },
    )
