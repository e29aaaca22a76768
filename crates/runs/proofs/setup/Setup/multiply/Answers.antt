use Rattle.std.proofs.Common.{vec_items}
use Rattle.sheets.specs.Families.{family, of}
use Rattle.runs.specs.Setups.{circle_in}
use Rattle.runs.specs.Watching.{watches}
use Rattle.runs.proofs.Producing.{producing}
use Rattle.runs.proofs.setup.Setup.multiply.Goals as goal

pub returns-clause-product : goal.returns-clause-product
returns-clause-product c f g ea eb =
    let noted = c.in_ok-note_all_coins.ensures in
    producing (circle_in c.args.self.now) (watches c.args.self.now.watched) f g (of (family c.args.coins.now)) (of (family c.deal_products.new.coins))
    (vec_items c.args.seen.now) (vec_items c.note_all_coins.new.seen) (vec_items c.deal_products.new.seen) c.deal_products.result
    noted.0 noted.1 (c.deal_products.ensures.multiplied f g ea eb)
