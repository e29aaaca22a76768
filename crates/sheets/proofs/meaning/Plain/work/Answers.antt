use Rattle.std.proofs.Common.{◌≡◌, Some, subst, rules}
use Rattle.sheets.specs.Drawing.{DrawnFrom}
use Rattle.sheets.specs.Numbers.{lists_in}
use Rattle.sheets.proofs.Works.{worked_input}
use Rattle.sheets.proofs.meaning.Plain.work.Goals as goal

pub returns-in_ok-push-in-Input : goal.returns-in_ok-push-in-Input
returns-in_ok-push-in-Input c =
    let figure = c.in_ok-figure-in-Input.figure in
    let before = lists_in c.args.self.now.figures in
    let left = lists_in c.draw.new.self in
    let found : c.draw.result ≡ Some figure = search rules in
    let drew = subst (DrawnFrom c.in-Input.member 1 before left) found c.draw.ensures.drawn in
    rw c.in_ok-push-in-Input.ensures.items
    (worked_input c.args.line c.in-Input.member before left c.args.self.now.values.items
    c.args.self.now.opened.items figure.now c.in-Input.is drew.0 drew.1 drew.2)
