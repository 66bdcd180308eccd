use Rattle.std.proofs.Common.{◌≤◌, arith, ap, length}
use Rattle.som_class_methods.proofs.Facts.{facts}
use Rattle.som_class_methods.proofs.Owning.{before_all}
use Rattle.som_class_methods.proofs.owners.Owners.method_token.Goals as goal

pub owner_in-requires-clause-before : goal.owner_in-requires-clause-before
owner_in-requires-clause-before c =
    let k = c.args.numbers.now in
    let le : length k.classes ≤ length c.as_slice.result.now = omega (arith, c.requires.owners.each, ap length c.as_slice.ensures) in
    before_all k (facts k.classes c.requires.faces) c.requires.owners.first c.args.method.now.class c.args.method.now.name (length c.as_slice.result.now) le c.requires.entry
