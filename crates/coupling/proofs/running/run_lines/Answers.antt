use Rattle.std.proofs.Common.{ℕ, ◌+◌, List, length, get_or, drop, vec_items, sym, ap, refl, ◌∙◌, subst, Bor}
use Rattle.std.proofs.lemmas.List.{length-map, drop_all}
use Rattle.std.proofs.lemmas.Result.{err_from_is_err_and}
use Rattle.sheets.specs.Families.{family, of}
use Rattle.sheets.specs.Numbers.{lists_in, numbers}
use Rattle.sheets.specs.declared.lists.Lists.{Lists}
use Rattle.sheets.specs.declared.line.Line.{Line}
use Rattle.sheets.specs.declared.line.Line.TheVariants.{Input}
use Rattle.runs.specs.Setups.{circle_in}
use Rattle.coupling.specs.Growing.{lists, Grown}
use Rattle.coupling.specs.Sides.{higher}
use Rattle.coupling.proofs.Beside.{Beside, beside_start, beside_here, steady, side, side', s, s', beside-more, beside_end}
use Rattle.coupling.proofs.running.run_lines.Goals as goal

pub loop-line-init : goal.loop-line-init
loop-line-init c =
    let z = circle_in c.args.shifter.now.setup in
    let g = higher z c.args.shifter.now.mask in
    let ls = c.args.lines.now in
    let F = numbers c.args.figures in
    let F' = numbers c.args.other_figures in
    let C = lists_in c.args.coins in
    let one = c.in_ok-first.ensures in
    let two = c.in_ok-second.ensures in
    let p = c.in_ok-first.first in
    let q = c.in_ok-second.second in
    let paired = lists c.in_ok-paired.paired in
    let as_many = c.in_ok-paired.ensures.0 ∙ (ap length c.deref.ensures.value ∙ sym (length-map c.args.coins.lists.items (λ (r : Bor (List ℕ)). r.now))) in
    subst (λ (l : Lists). Beside z g ls F F' (of C) (length C) ls (of C) (numbers l) (vec_items p.held) (vec_items p.opened) (numbers q.figures) (vec_items q.held) (vec_items q.opened) paired) (sym one.whole)
    (subst (λ (l : Lists). Beside z g ls F F' (of C) (length C) ls (of C) F (vec_items p.held) (vec_items p.opened) (numbers l) (vec_items q.held) (vec_items q.opened) paired) (sym two.whole)
    (beside_start z g ls F F' (of C) (length C) (vec_items p.held) (vec_items q.held) (vec_items p.opened) (vec_items q.opened) paired
    one.unmade two.unmade one.unopened two.unopened as_many c.in_ok-paired.ensures.1
    c.requires.well c.requires.figs c.requires.figs' c.requires.enough))

pub do_both-requires : goal.do_both-requires
do_both-requires c =
    let z = circle_in c.args.shifter.now.setup in
    let g = higher z c.args.shifter.now.mask in
    let ls = c.args.lines.now in
    let F = numbers c.args.figures in
    let F' = numbers c.args.other_figures in
    let C = lists_in c.args.coins in
    let coins = numbers c.loop-line.coins in
    let figures = numbers c.loop-line.first.figures in
    let rows = vec_items c.loop-line.first.held in
    let shown = vec_items c.loop-line.first.opened in
    let figures' = numbers c.loop-line.second.figures in
    let rows' = vec_items c.loop-line.second.held in
    let shown' = vec_items c.loop-line.second.opened in
    let paired = lists c.loop-line.paired in
    let k = c.loop-line.line-index in
    let l = get_or ls k (Input 0) in
    let rest = drop (k + 1) ls in
    let h = beside_here z g ls F F' (of C) (length C) k (Input 0) coins figures rows shown figures' rows' shown' paired c.loop-line-test.true c.loop-line.invariant in
    steady z g ls F F' (of C) (length C) l rest coins figures rows shown figures' rows' shown' paired h

pub returns-in_err-do_both : goal.returns-in_err-do_both
returns-in_err-do_both c =
    let z = circle_in c.args.shifter.now.setup in
    let g = higher z c.args.shifter.now.mask in
    let ls = c.args.lines.now in
    let F = numbers c.args.figures in
    let F' = numbers c.args.other_figures in
    let C = lists_in c.args.coins in
    let coins = numbers c.loop-line.coins in
    let figures = numbers c.loop-line.first.figures in
    let rows = vec_items c.loop-line.first.held in
    let shown = vec_items c.loop-line.first.opened in
    let figures' = numbers c.loop-line.second.figures in
    let rows' = vec_items c.loop-line.second.held in
    let shown' = vec_items c.loop-line.second.opened in
    let paired = lists c.loop-line.paired in
    let k = c.loop-line.line-index in
    let l = get_or ls k (Input 0) in
    let rest = drop (k + 1) ls in
    let h = beside_here z g ls F F' (of C) (length C) k (Input 0) coins figures rows shown figures' rows' shown' paired c.loop-line-test.true c.loop-line.invariant in
    let e = err_from_is_err_and c.from_residual-in_err-do_both.result c.from_residual-in_err-do_both.ensures.1 in
    rw (e.1, e.2)
    (c.in_err-do_both.ensures (s z g ls F F' (of C) (length C) l rest coins figures rows shown figures' rows' shown' paired h) (s' z g ls F F' (of C) (length C) l rest coins figures rows shown figures' rows' shown' paired h) refl (side z g ls F F' (of C) (length C) l rest coins figures rows shown figures' rows' shown' paired h) (side' z g ls F F' (of C) (length C) l rest coins figures rows shown figures' rows' shown' paired h))

pub loop-line-preserved : goal.loop-line-preserved
loop-line-preserved c =
    let z = circle_in c.args.shifter.now.setup in
    let g = higher z c.args.shifter.now.mask in
    let ls = c.args.lines.now in
    let F = numbers c.args.figures in
    let F' = numbers c.args.other_figures in
    let C = lists_in c.args.coins in
    let coins = numbers c.loop-line.coins in
    let figures = numbers c.loop-line.first.figures in
    let rows = vec_items c.loop-line.first.held in
    let shown = vec_items c.loop-line.first.opened in
    let figures' = numbers c.loop-line.second.figures in
    let rows' = vec_items c.loop-line.second.held in
    let shown' = vec_items c.loop-line.second.opened in
    let paired = lists c.loop-line.paired in
    let k = c.loop-line.line-index in
    let l = get_or ls k (Input 0) in
    let rest = drop (k + 1) ls in
    let h = beside_here z g ls F F' (of C) (length C) k (Input 0) coins figures rows shown figures' rows' shown' paired c.loop-line-test.true c.loop-line.invariant in
    beside-more z g ls F F' (of C) (length C) l rest coins figures rows shown figures' rows' shown' paired h
    (numbers c.do_both.new.coins) (numbers c.do_both.new.first.figures) (vec_items c.do_both.new.first.held) (vec_items c.do_both.new.first.opened)
    (numbers c.do_both.new.second.figures) (vec_items c.do_both.new.second.held) (vec_items c.do_both.new.second.opened) (lists c.do_both.new.paired)
    (c.in_ok-do_both.ensures (s z g ls F F' (of C) (length C) l rest coins figures rows shown figures' rows' shown' paired h) (s' z g ls F F' (of C) (length C) l rest coins figures rows shown figures' rows' shown' paired h) refl (side z g ls F F' (of C) (length C) l rest coins figures rows shown figures' rows' shown' paired h) (side' z g ls F F' (of C) (length C) l rest coins figures rows shown figures' rows' shown' paired h))

pub returns : goal.returns
returns c =
    let z = circle_in c.args.shifter.now.setup in
    let g = higher z c.args.shifter.now.mask in
    let ls = c.args.lines.now in
    let F = numbers c.args.figures in
    let F' = numbers c.args.other_figures in
    let C = lists_in c.args.coins in
    let coins = lists_in c.loop-line.coins in
    let figures = numbers c.loop-line.first.figures in
    let rows = vec_items c.loop-line.first.held in
    let shown = vec_items c.loop-line.first.opened in
    let figures' = numbers c.loop-line.second.figures in
    let rows' = vec_items c.loop-line.second.held in
    let shown' = vec_items c.loop-line.second.opened in
    let paired = lists c.loop-line.paired in
    beside_end z g ls F F' C coins figures rows shown figures' rows' shown' paired (lists c.append_each.new.lists)
    (subst (λ (left : List Line). Beside z g ls F F' (of C) (length C) left (of coins) figures rows shown figures' rows' shown' paired) (drop_all c.loop-line.line-index ls c.loop-line-test.false) c.loop-line.invariant)
    (subst (λ xs. Grown (lists c.loop-line.paired) (family xs) (lists c.append_each.new.lists)) c.deref-2.ensures.value c.in_ok-append_each.ensures)
