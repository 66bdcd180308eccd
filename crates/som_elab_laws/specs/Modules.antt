-- What whole texts say.
use Rattle.std.specs.Prelude.{◌≡◌, List, [], ◌∷◌}
use Rattle.som_model.specs.declared.class.ClassDecl.{ClassDecl}
use Rattle.som_model.specs.declared.key.Module.{Module}
use Rattle.som_model.specs.declared.key.Module.TheVariants as modules
use Rattle.som_model.specs.declared.program.ClientProgram.{ClientProgram}
use Rattle.som_model.specs.declared.program.Interface.{Interface}
use Rattle.som_model.specs.declared.program.Release.{Release}
use Rattle.som_model.specs.Class.{class_in}
use Rattle.som_model.specs.Typing.{in_main}
use Rattle.som_ast.specs.declared.interface.IdlInterface.{IdlInterface}
use Rattle.som_ast.specs.declared.body.BlockText.{BlockText}
use Rattle.som_ast.specs.declared.body.BodyText.{BodyText}
use Rattle.som_sema_drafts.specs.Drafts.{InterfaceDraft}
use Rattle.som_sema_drafts.specs.Items.{chosen, overridden}
use Rattle.som_elab_body.specs.Expressions.{Among}
use Rattle.som_elab.specs.Elaboration.{drafts_over, among_over, nothing_before}
use Rattle.som_elab_laws.specs.Bodies.{EntriesSay, OverridesSay, SelectsSay}
use Rattle.som_elab_laws.specs.Statements.{BlockSays}

-- a class is what its interface declares, with the bodies that the texts say, with an override for each method that its text overrides, and a select for each that it selects
pub record ClassSays (a : Among) (m : Module) (bs : List BodyText) (d : InterfaceDraft) (c : ClassDecl) : Type 0 where
  pub face : c.face ≡ d.class.face
  pub variables : c.variables ≡ d.class.variables
  pub bodies : EntriesSay a bs (class_in m d.class) d.text c.face.entries c.bodies
  pub overrides : OverridesSay a bs (class_in m d.class) (overridden d.text.items) c.overrides
  pub selects : SelectsSay a (class_in m d.class) (chosen d.text.items) c.selects

-- a class for each interface, in their order
pub data ClassesSay (a : Among) (m : Module) (bs : List BodyText) : List InterfaceDraft → List ClassDecl → Type 0 where
  no_class : ClassesSay a m bs [] []
  one_class : {d : InterfaceDraft} {ds : List InterfaceDraft} {c : ClassDecl} {cs : List ClassDecl} → ClassSays a m bs d c → ClassesSay a m bs ds cs → ClassesSay a m bs (d ∷ ds) (c ∷ cs)

-- the texts of a library say this release
abbrev pub ReleaseSays : List IdlInterface → List BodyText → Release → Type 0
ReleaseSays is bs r = ClassesSay (among_over modules.Library nothing_before is) modules.Library bs (drafts_over modules.Library nothing_before is) r.classes

-- the texts of a client say this program against a base
pub record ProgramSays (base : Interface) (is : List IdlInterface) (bs : List BodyText) (main : BlockText) (p : ClientProgram) : Type 0 where
  pub base_is : p.base ≡ base
  pub classes : ClassesSay (among_over modules.Client base is) modules.Client bs (drafts_over modules.Client base is) p.classes
  pub main_says : BlockSays (among_over modules.Client base is) in_main [] main p.main
