use Rattle.som_cmd.proofs.CountLaws.{asks_count, count_spelled}
use Rattle.som_cmd.proofs.laws.count_law.Goals as goal

pub returns : goal.returns
returns c = λ word n. (count_spelled word n, asks_count word n)
