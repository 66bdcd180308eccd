use Rattle.std.proofs.Common.{arith}
use Rattle.som_cliimage.proofs.Naming.{few_own, own_fit, selects_known}
use Rattle.som_cliimage.proofs.named.name_program.Goals as goal

pub name_classes-requires-clause-faces : goal.name_classes-requires-clause-faces
name_classes-requires-clause-faces c = own_fit c.args.base.now c.args.own.now c.args.directory.now c.requires.directory c.requires.own

pub name_classes-requires-clause-selects : goal.name_classes-requires-clause-selects
name_classes-requires-clause-selects c = selects_known c.args.base.now c.args.own.now c.args.directory.now c.requires.directory c.args.selects.now c.requires.selects

pub name_classes-requires-clause-few : goal.name_classes-requires-clause-few
name_classes-requires-clause-few c = omega (arith, few_own c.args.base.now c.args.own.now c.requires.base c.requires.own, c.len.ensures)
