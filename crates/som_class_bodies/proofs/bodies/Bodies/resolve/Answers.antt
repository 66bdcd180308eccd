use Rattle.std.proofs.Common.{◌∙◌, ℕ, List, Option, ap, subst, sym}
use Rattle.som_tables.specs.Rows.{Added, HasToken, inherited}
use Rattle.som_class_bodies.specs.Bodies.{MethodRows}
use Rattle.som_class_bodies.proofs.Facts.{rows_answer}
use Rattle.som_class_bodies.proofs.bodies.Bodies.resolve.Goals as goal

pub resolve-requires : goal.resolve-requires
resolve-requires g c =
    let e = ap (λ (z : MethodRows). z.rows) c.self.view_is in
    subst (λ (z : List (Option (Added ℕ))). HasToken z c.args.class c.args.method) (sym e)
    (rows_answer c.args.classes.now c.know_loaded.ensures c.args.self.now c.requires.bodies c.args.class c.args.method c.requires.row c.requires.method c.requires.below).0

pub returns-clause-body : goal.returns-clause-body
returns-clause-body g c =
    let e = ap (λ (z : MethodRows). z.rows) c.self.view_is in
    (rows_answer c.args.classes.now c.know_loaded.ensures c.args.self.now c.requires.bodies c.args.class c.args.method c.requires.row c.requires.method c.requires.below).1 c.resolve.result
    (c.resolve.ensures.cell ∙ ap (λ (z : List (Option (Added ℕ))). inherited z c.args.class c.args.method) e)
