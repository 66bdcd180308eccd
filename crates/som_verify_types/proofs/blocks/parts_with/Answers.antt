use Rattle.std.proofs.lemmas.Result.{err_from_is_err_and}
use Rattle.som_verify_classes.specs.Modules.{classes_of}
use Rattle.som_verify_classes.proofs.Unbroken.{names_apart, no_breach}
use Rattle.som_verify_types.proofs.blocks.parts_with.Goals as goal

pub returns-in_err-table-clause-fault : goal.returns-in_err-table-clause-fault
returns-in_err-table-clause-fault c =
    let p = err_from_is_err_and c.from_residual-in_err-table.result c.from_residual-in_err-table.ensures.1 in
    rw (p.1, p.2) (no_breach _ c.in_err-table.field-0.0 (names_apart (classes_of c.args.classes.now) c.requires.names) c.in_err-table.ensures.tells)
