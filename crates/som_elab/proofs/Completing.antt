-- Classes with the bodies that were made for them.
use Rattle.std.proofs.Common.{◌≡◌, List, [], ◌∷◌, map, zip, Result, Ok, Err, refl, ap, ◌∙◌}
use Rattle.som_model.specs.declared.class.Body.{Body}
use Rattle.som_model.specs.declared.class.Override.{Override}
use Rattle.som_model.specs.declared.class.ClassDecl.{ClassDecl}
use Rattle.som_model.specs.declared.class.Select.{Select}
use Rattle.som_model.specs.declared.key.Module.{Module}
use Rattle.som_model.specs.Class.{class_in}
use Rattle.som_model.specs.Steps.{◌>>=◌}
use Rattle.som_ast.specs.declared.body.BodyText.{BodyText}
use Rattle.som_sema_drafts.specs.Drafts.{InterfaceDraft, plain_drafts}
use Rattle.som_sema_decls.specs.Finished.{selects_at}
use Rattle.som_sema_drafts.specs.declared.drafts.Draft.{Draft}
use Rattle.som_elab.specs.declared.class_bodies.ClassBodies.{ClassBodies}
use Rattle.som_elab_body.specs.Expressions.{Among}
use Rattle.som_elab.specs.Blocks.{Refusal, elaborated_each, entry_bodies, override_blocks, with_blocks}
use Rattle.som_elab.specs.Contexts.{class_steps, completed, each_steps}

-- a class and its bodies that are passed together
abbrev pub passed : Draft × ClassBodies → Draft × ClassBodies
passed p = (p.0, p.1)

-- the class that they make
abbrev pub filled : Draft × ClassBodies → ClassDecl
filled p = with_blocks p.0.decl p.1.bodies p.1.overrides p.1.selects

pub filled_completed : (ds : List Draft) (bs : List ClassBodies) → map filled (zip ds bs) ≡ completed (plain_drafts ds) bs
filled_completed [] bs = refl
filled_completed (d ∷ ds) [] = refl
filled_completed (d ∷ ds) (b ∷ bs) = ap (λ z. filled (d, b) ∷ z) (filled_completed ds bs)

-- ---- bodies of all classes, and then the classes

abbrev class_of_bodies : InterfaceDraft → ClassBodies → ClassDecl
class_of_bodies d b = with_blocks d.class b.bodies b.overrides b.selects

class_by : (d : InterfaceDraft) (selects : List Select) (r : Result (List Body) Refusal) (s : Result (List Override) Refusal)
    → (r >>= λ own. s >>= λ others. Ok (with_blocks d.class own others selects))
    ≡ ((r >>= λ own. s >>= λ others. let made : ClassBodies = record { bodies = own; overrides = others; selects = selects } in Ok made) >>= λ b. Ok (class_of_bodies d b))
class_by d selects (Ok own) (Ok others) = refl
class_by d selects (Ok own) (Err e) = refl
class_by d selects (Err e) s = refl

more_by : (d : InterfaceDraft) (ds : List InterfaceDraft) (r : Result ClassBodies Refusal) (s : Result (List ClassBodies) Refusal)
    → ((r >>= λ b. Ok (class_of_bodies d b)) >>= λ c. (s >>= λ bs. Ok (completed ds bs)) >>= λ cs. Ok (c ∷ cs))
    ≡ ((r >>= λ b. s >>= λ bs. Ok (b ∷ bs)) >>= λ bs. Ok (completed (d ∷ ds) bs))
more_by d ds (Ok b) (Ok bs) = refl
more_by d ds (Ok b) (Err e) = refl
more_by d ds (Err e) s = refl

pub each_completed : (a : Among) (m : Module) (bs : List BodyText) (ds : List InterfaceDraft) → elaborated_each a m bs ds ≡ (each_steps a m bs ds >>= λ cs. Ok (completed ds cs))
each_completed a m bs [] = refl
each_completed a m bs (d ∷ ds) =
    ap (λ (z : Result ClassDecl Refusal). z >>= λ c. elaborated_each a m bs ds >>= λ cs. Ok (c ∷ cs))
    (class_by d (selects_at a.classes (class_in m d.class).key d) (entry_bodies a bs d (class_in m d.class) d.class.face.entries) (override_blocks a bs (class_in m d.class) d.class.overrides))
    ∙ ap (λ (z : Result (List ClassDecl) Refusal). (class_steps a bs d (class_in m d.class) >>= λ b. Ok (class_of_bodies d b)) >>= λ c. z >>= λ cs. Ok (c ∷ cs)) (each_completed a m bs ds)
    ∙ more_by d ds (class_steps a bs d (class_in m d.class)) (each_steps a m bs ds)
