use Rattle.files.proofs.CoinLaws.{coin_words}
use Rattle.files.proofs.laws.coin_words_law.Goals as goal

pub returns : goal.returns
returns c = coin_words
