use Rattle.sheets.proofs.Judgement.{judgement}
use Rattle.sheets.proofs.laws.judgement_law.Goals as goal

pub returns : goal.returns
returns c = judgement
