use Rattle.std.proofs.Common.{◌≡◌, ◌≤◌, length, vec_items, ◌∙◌, rules}
use Rattle.std.proofs.lemmas.Result.{err_from_is_err_and}
use Rattle.std.proofs.lemmas.List.{length-map}
use Rattle.sheets.specs.Families.{family, of}
use Rattle.sheets.specs.Numbers.{numbers}
use Rattle.runs.specs.Short.{short_at}
use Rattle.runs.specs.Setups.{circle_in}
use Rattle.runs.specs.Watching.{watches}
use Rattle.coupling.specs.Growing.{lists}
use Rattle.coupling.specs.Sides.{higher, DrawnAs}
use Rattle.coupling.proofs.Abreast.{lent_small, only_memory, first_steady, both}
use Rattle.coupling.proofs.shifter.Shifter.do_both.Goals as goal

pub advance-requires : goal.advance-requires
advance-requires c =
    let z = circle_in c.args.self.now.setup in
    let lent = family c.lend_draws-lent.result in
    let long : length lent ≡ 15 = length-map c.lend_draws-lent.result _ ∙ search rules in
    (search rules, lent_small z c.args.line c.paired_draws-draws.result lent long c.paired_draws-draws.ensures.small c.lend_draws-lent.ensures)

pub returns-in_err-do_line : goal.returns-in_err-do_line
returns-in_err-do_line c s s' e h h' =
    let z = circle_in c.args.self.now.setup in
    let coins = numbers c.args.coins.now in
    let figures = numbers c.args.first.now.figures in
    let p = err_from_is_err_and c.from_residual-in_err-do_line.result c.from_residual-in_err-do_line.ensures.1 in
    rw (p.1, p.2)
    (only_memory c.in_err-do_line.field-0.0 (short_at z c.args.line figures coins)
    (first_steady z c.args.line coins figures (vec_items c.args.first.now.held) (numbers c.args.second.now.figures) (vec_items c.args.second.now.held) c.requires)
    (c.in_err-do_line.ensures s.held h.same_rows))

pub returns : goal.returns
returns c s s' e h h' =
    let z = circle_in c.args.self.now.setup in
    let lent = family c.lend_draws-lent.result in
    let long : length lent ≡ 15 = length-map c.lend_draws-lent.result _ ∙ search rules in
    let few : z.n ≤ 15 = search rules in
    let drew : DrawnAs z (higher z c.args.self.now.mask) c.args.line s s' c.paired_draws-draws.result =
    c.paired_draws-draws.ensures.places s s' e
    h h' in
    both z (watches c.args.self.now.setup.watched) (higher z c.args.self.now.mask) c.args.line s s' (numbers c.args.coins.now) (numbers c.args.first.now.figures) (vec_items c.args.first.now.held) (numbers c.args.second.now.figures) (vec_items c.args.second.now.held)
    e h h' c.requires few c.paired_draws-draws.result lent long c.lend_draws-lent.ensures drew
    (vec_items c.do_line.new.self.held) (numbers c.do_line.new.self.figures) (numbers c.do_line.new.coins)
    (vec_items c.args.first.now.opened) (vec_items c.do_line.new.self.opened) (vec_items c.args.first.now.seen) (vec_items c.do_line.new.self.seen)
    (vec_items c.advance.new.self.held) (numbers c.advance.new.self.figures) (of (family c.advance.new.coins))
    (vec_items c.args.second.now.opened) (vec_items c.advance.new.self.opened) (vec_items c.args.second.now.seen) (vec_items c.advance.new.self.seen)
    (lists c.args.paired.now) (lists c.append_each.new.lists) c.advance.result
    (c.in_ok-do_line.ensures s.held h.same_rows) (c.advance.ensures.done s'.held h'.same_rows)
    c.in_ok-append_each.ensures
