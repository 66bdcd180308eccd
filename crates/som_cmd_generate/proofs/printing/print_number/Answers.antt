use Rattle.som_cmd_generate.specs.GenerateAnswer.{numbered_line}
use Rattle.som_io.proofs.ShownLaws.{front_none}
use Rattle.som_cmd_generate.proofs.printing.print_number.Goals as goal

pub returns-in-Err-clause-text : goal.returns-in-Err-clause-text
returns-in-Err-clause-text g c = front_none (g.K.Sink.written c.args.out.now) (numbered_line c.args.front.now c.args.number)
