use Rattle.std.proofs.Common.{◌≡◌, get_or, vec_items, refl, Some, subst, rules}
use Rattle.sheets.specs.Drawing.{DrawnFrom}
use Rattle.sheets.specs.Families.{family, of}
use Rattle.sheets.proofs.Taken.{left_small}
use Rattle.runs.specs.Setups.{circle_in}
use Rattle.runs.specs.Watching.{watches}
use Rattle.runs.proofs.Entered.{entered_as}
use Rattle.runs.proofs.setup.Setup.put_in.Goals as goal

pub returns-clause-entered : goal.returns-clause-entered
returns-clause-entered c =
    let before = family c.args.figures.now in
    let found : c.draw.result ≡ Some c.in_ok-figure.figure = search rules in
    let drew = subst (DrawnFrom c.args.member 1 before (family c.draw.new.lists)) found c.draw.ensures in
    entered_as (circle_in c.args.self.now) (watches c.args.self.now.watched) c.args.member (get_or c.in_ok-figure.figure.now 0 0)
    (of (family c.args.figures.now)) (of (family c.draw.new.lists)) (of (family c.args.coins.now)) (of (family c.deal_out.new.coins))
    c.in_ok-figure.figure.now (vec_items c.args.seen.now) (vec_items c.note_own.new.seen) (vec_items c.note_coins.new.seen) (vec_items c.deal_out.new.seen)
    c.deal_out.result drew.0 drew.1 refl drew.2 c.in_ok-note_own.ensures c.in_ok-note_coins.ensures c.deal_out.ensures.dealt

pub returns-clause-small : goal.returns-clause-small
returns-clause-small c = (left_small c.args.member 1 (family c.args.figures.now) (family c.draw.new.lists) c.draw.result c.requires.0 c.draw.ensures, c.deal_out.ensures.small)

pub returns-in_err-note_own-clause-small : goal.returns-in_err-note_own-clause-small
returns-in_err-note_own-clause-small c = (left_small c.args.member 1 (family c.args.figures.now) (family c.draw.new.lists) c.draw.result c.requires.0 c.draw.ensures, c.requires.1)

pub returns-in_err-note_coins-clause-small : goal.returns-in_err-note_coins-clause-small
returns-in_err-note_coins-clause-small c = (left_small c.args.member 1 (family c.args.figures.now) (family c.draw.new.lists) c.draw.result c.requires.0 c.draw.ensures, c.requires.1)
