use Rattle.files.proofs.FigureLaws.{figure_answers}
use Rattle.files.proofs.laws.figure_answers_law.Goals as goal

pub returns : goal.returns
returns c = figure_answers
