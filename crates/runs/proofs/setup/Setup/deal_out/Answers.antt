use Rattle.std.proofs.Common.{◌≡◌, vec_items, Some, subst, rules}
use Rattle.sheets.specs.Drawing.{DrawnFrom}
use Rattle.sheets.specs.Families.{family, of}
use Rattle.sheets.proofs.Taken.{left_small, drawn_small}
use Rattle.runs.specs.Setups.{circle_in}
use Rattle.runs.specs.Watching.{watches}
use Rattle.runs.proofs.Dealt.{dealt_out}
use Rattle.runs.proofs.setup.Setup.deal_out.Goals as goal

pub deal-row-requires : goal.deal-row-requires
deal-row-requires c =
    let found : c.draw.result ≡ Some c.in_ok-drawn.drawn = search rules in
    let small = drawn_small c.args.member c.args.self.now.t (family c.args.coins.now) (family c.draw.new.lists) c.draw.result c.requires.1 c.draw.ensures in
    (c.requires.0, search (rules, found, small))

pub returns-clause-dealt : goal.returns-clause-dealt
returns-clause-dealt c =
    let before = family c.args.coins.now in
    let found : c.draw.result ≡ Some c.in_ok-drawn.drawn = search rules in
    let drew = subst (DrawnFrom c.args.member c.args.self.now.t before (family c.draw.new.lists)) found c.draw.ensures in
    dealt_out (circle_in c.args.self.now) (watches c.args.self.now.watched) c.args.member c.args.secret
    (of (family c.args.coins.now)) (of (family c.draw.new.lists)) (vec_items c.args.seen.now) (vec_items c.note_shares.new.seen)
    c.deal-row.result c.in_ok-drawn.drawn.now
    (search rules) drew.0 drew.1 drew.2 c.deal-row.ensures c.in_ok-note_shares.ensures

pub returns-clause-small : goal.returns-clause-small
returns-clause-small c = left_small c.args.member c.args.self.now.t (family c.args.coins.now) (family c.draw.new.lists) c.draw.result c.requires.1 c.draw.ensures

pub returns-in_err-note_shares-clause-small : goal.returns-in_err-note_shares-clause-small
returns-in_err-note_shares-clause-small c = left_small c.args.member c.args.self.now.t (family c.args.coins.now) (family c.draw.new.lists) c.draw.result c.requires.1 c.draw.ensures
