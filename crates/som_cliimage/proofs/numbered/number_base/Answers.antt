use Rattle.som_order.specs.Names.{texts}
use Rattle.som_cliimage.proofs.Ready.{ready, base_named, base_directory, base_known}
use Rattle.som_cliimage.proofs.numbered.number_base.Goals as goal

pub class_names-requires : goal.class_names-requires
class_names-requires c =
    let p = c.args.program.now in
    base_named p (ready p c.requires.conforms c.requires.within) c.in_ok-directory.directory c.in_ok-directory.ensures

pub number_each-requires-clause-directory : goal.number_each-requires-clause-directory
number_each-requires-clause-directory c =
    let p = c.args.program.now in
    base_directory p (ready p c.requires.conforms c.requires.within) c.in_ok-directory.directory c.in_ok-directory.ensures (texts c.in_ok-names.names.keys) c.in_ok-names.ensures

pub number_each-requires-clause-known : goal.number_each-requires-clause-known
number_each-requires-clause-known c =
    let p = c.args.program.now in
    base_known p (ready p c.requires.conforms c.requires.within) c.in_ok-directory.directory c.in_ok-directory.ensures c.as_slice.result.now c.as_slice.ensures
