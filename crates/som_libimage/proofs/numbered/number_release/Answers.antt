use Rattle.som_libimage.proofs.Ready.{ready}
use Rattle.som_libimage.proofs.Turned.{turned_fits, turned_names}
use Rattle.som_libimage.proofs.numbered.number_release.Goals as goal

pub returns-clause-names : goal.returns-clause-names
returns-clause-names c = turned_names c.args.release.now (ready c.args.release.now c.requires.conforms c.requires.within).turns c.number_all.result c.number_all.ensures

pub returns-clause-fits : goal.returns-clause-fits
returns-clause-fits c = turned_fits c.args.release.now (ready c.args.release.now c.requires.conforms c.requires.within).turns c.number_all.result c.number_all.ensures
