use Rattle.std.proofs.Common.{sym, refl, ◌∙◌}
use Rattle.sheets.specs.Numbers.{lists_in}
use Rattle.sheets.specs.Sheets.{circle_of}
use Rattle.sheets.specs.declared.refusal.Refusal.TheVariants.{NoFigure, NoCoins}
use Rattle.pairing.proofs.Taking.{taken_input, taken_product, drawn_ok}
use Rattle.pairing.proofs.lacking.Left.take.Goals as goal

pub returns-in_ok-ok_or-in-Input-3 : goal.returns-in_ok-ok_or-in-Input-3
returns-in_ok-ok_or-in-Input-3 c =
    let self = c.args.self.now in
    let w = c.in-Input.member in
    let one = drawn_ok w 1 1 (lists_in self.figures) (lists_in c.draw.new.self) c.draw.result NoFigure c.in_ok-ok_or-in-Input.field-0
    refl c.draw.ensures.drawn (sym c.ok_or.ensures.value ∙ c.in_ok-ok_or-in-Input.was) in
    let other = drawn_ok w 1 1 (lists_in self.other_figures) (lists_in c.draw-in-Input.new.self) c.draw-in-Input.result NoFigure c.in_ok-ok_or-in-Input-2.field-0
    refl c.draw-in-Input.ensures.drawn (sym c.ok_or-in-Input.ensures.value ∙ c.in_ok-ok_or-in-Input-2.was) in
    let coins = drawn_ok w c.args.sheet.now.t c.threshold-t.result (lists_in self.coins) (lists_in c.draw-in-Input-2.new.self) c.draw-in-Input-2.result NoCoins c.in_ok-ok_or-in-Input-3.field-0
    c.threshold-t.ensures c.draw-in-Input-2.ensures.drawn (sym c.ok_or-in-Input-2.ensures.value ∙ c.in_ok-ok_or-in-Input-3.was) in
    taken_input (circle_of c.args.sheet.now) c.args.line w self _ c.in-Input.is one.0 other.0 coins.0 one.1 other.1 coins.1

pub returns-in-Product : goal.returns-in-Product
returns-in-Product c =
    taken_product (circle_of c.args.sheet.now) c.args.line c.in-Product.field-0 c.in-Product.field-1 c.args.self.now _ c.take_of_all.result c.in-Product.is refl refl c.take_of_all.ensures
