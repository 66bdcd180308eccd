use Rattle.som_cliimage.proofs.Ready.{ready, turned_names, turned_fits}
use Rattle.som_cliimage.proofs.numbered.number_program.Goals as goal

pub returns-clause-names : goal.returns-clause-names
returns-clause-names c = turned_names c.args.program.now (ready c.args.program.now c.requires.conforms c.requires.within).turns c.number_all.result c.number_all.ensures

pub returns-clause-fits : goal.returns-clause-fits
returns-clause-fits c = turned_fits c.args.program.now (ready c.args.program.now c.requires.conforms c.requires.within).turns c.number_all.result c.number_all.ensures
