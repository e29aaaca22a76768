use Rattle.std.proofs.Common.{◌≡◌, cond, sym, ◌∙◌, arith, rules}
use Rattle.std.specs.List.{sum_by}
use Rattle.std.proofs.lemmas.Iterator.{YieldsList-from_slice}
use Rattle.std.proofs.lemmas.Iterator.Adapters.{fits_from_length, at_most_from_yields_List}
use Rattle.sheets.specs.Lines.{deals}
use Rattle.sheets.specs.Sheets.{circle_of}
use Rattle.sheets.proofs.Needed.{coins_are, at_most}
use Rattle.sheets.proofs.sheet.Sheet.coins_needed.Goals as goal

pub sum-requires-clause-fits : goal.sum-requires-clause-fits
sum-requires-clause-fits c =
    let z = circle_of c.args.self.now in
    fits_from_length _ _ 4096 _
    (at_most_from_yields_List (YieldsList-from_slice c.deref.result.now cc) (omega (arith, c.deref.ensures.len, c.args.self.now.short)))
    c.map.ensures.closure (omega arith)
    (λ l r q k. let gave : r ≡ cond (deals z l.now c.args.member) z.t 0 = search rules in (search rules, omega (arith, at_most (deals z l.now c.args.member) r z.t gave, c.args.self.now.enough, c.args.self.now.few)))

pub returns : goal.returns
returns c =
    let z = circle_of c.args.self.now in
    let each : c.sum.result ≡ sum_by (λ l. cond (deals z l c.args.member) z.t 0) c.args.self.now.lines.items = search rules in
    each ∙ sym (coins_are z c.args.member c.args.self.now.lines.items)
