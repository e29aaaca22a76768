use Rattle.std.proofs.Common.{◌≡◌, sym, ◌∙◌, rules}
use Rattle.std.specs.List.{count_by}
use Rattle.sheets.specs.Lines.{gives}
use Rattle.sheets.proofs.Needed.{figures_are}
use Rattle.sheets.proofs.needs.figures_in.Goals as goal

pub returns : goal.returns
returns c =
    let counted : c.count.result ≡ count_by (λ l. gives l c.args.member) c.args.lines.now = search rules in
    counted ∙ sym (figures_are c.args.member c.args.lines.now)
