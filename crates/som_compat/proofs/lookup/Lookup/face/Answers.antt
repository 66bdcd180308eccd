use Rattle.std.proofs.Common.{◌≡◌, ◌∙◌, ◌+◌, ◌-◌, arith, sym, ap}
use Rattle.som_verify_classes.specs.Places.{class_of_place}
use Rattle.som_compat.specs.Views.{classes_of}
use Rattle.som_compat.proofs.Placed.{shown_at}
use Rattle.som_compat.proofs.lookup.Lookup.face.Goals as goal

pub returns : goal.returns
returns c =
    let e : c.args.place - 4 + 4 ≡ c.args.place = omega arith in
    ap (class_of_place (classes_of c.args.self.now.faces.now)) (sym e) ∙ shown_at c.args.self.now.faces.now (c.args.place - 4) _ (omega arith)
