-- What the code knows where it makes the bodies of classes, and what it makes of each.
use Rattle.std.specs.Prelude.{◌≡◌, ℕ, ◌≤◌, List, [], ◌∷◌, ◌++◌, map, length, codes, Option, Some, None, Result, Ok}
use Rattle.som_model.specs.declared.key.MethodRef.{MethodRef}
use Rattle.som_model.specs.declared.key.Module.{Module}
use Rattle.som_model.specs.declared.syntax.Block.{Block}
use Rattle.som_model.specs.declared.class.Sig.{Sig}
use Rattle.som_model.specs.declared.class.Way.{Way}
use Rattle.som_model.specs.declared.class.Entry.TheVariants as entries
use Rattle.som_model.specs.declared.class.ClassDecl.{ClassDecl}
use Rattle.som_model.specs.declared.class.Override.{Override}
use Rattle.som_model.specs.declared.limits.TheConstants.{MAX_LOCALS, MAX_PARAMETERS}
use Rattle.som_model.specs.Lists.{Mem}
use Rattle.som_model.specs.Class.{Class, class_in}
use Rattle.som_model.specs.Steps.{◌>>=◌}
use Rattle.som_ast.specs.declared.body.BodyText.{BodyText}
use Rattle.som_ast.specs.declared.body.BlockText.{BlockText}
use Rattle.som_verify_types.specs.Bodies.{AllSigsKnown}
use Rattle.som_sema_names.specs.Searching.{IsSearch}
use Rattle.som_verify_forms.specs.Knowing.{IsKnowledge, all_of}
use Rattle.som_verify_classes.specs.Modules.{classes_of}
use Rattle.som_sema_drafts.specs.declared.types.Refused.{Refused}
use Rattle.som_sema_drafts.specs.declared.types.Refused.TheVariants as refusals
use Rattle.som_elab_methods.specs.Limits.{limit_passed}
use Rattle.som_sema_drafts.specs.Drafts.{InterfaceDraft, draft_classes}
use Rattle.som_sema_decls.specs.Finished.{selects_at}
use Rattle.som_sema_drafts.specs.Items.{or_object}
use Rattle.som_elab.specs.declared.contexts.ModuleContext.{ModuleContext}
use Rattle.som_elab.specs.declared.class_bodies.ClassBodies.{ClassBodies}
use Rattle.som_elab.specs.declared.all_bodies.AllBodies.{AllBodies}
use Rattle.som_elab_body.specs.declared.fault.BodyFault.{BodyFault}
use Rattle.som_elab_body.specs.declared.fault.BodyFault.TheVariants as faults
use Rattle.som_elab_methods.specs.Bodies.{bodies_breach, texts_for}
use Rattle.som_elab_body.specs.Code.{among_by}
use Rattle.som_elab_body.specs.Expressions.{Among}
use Rattle.som_elab.specs.Blocks.{Refusal, elaborated_main, entry_bodies, keeping, obeying, override_blocks, text_block, with_blocks}

abbrev pub classes_in : ModuleContext → List Class
classes_in g = all_of g.known

abbrev pub among_in : ModuleContext → Among
among_in g = among_by g.known g.scope.now

-- no method that these classes introduce has more parameters than a method may have
pub record FewParameters (cs : List Class) : Type 0 where
  pub by : (c : Class) (name : List ℕ) (sig : Sig) (way : Way) → Mem c cs → Mem (entries.Introduced name sig way) c.decl.face.entries → length sig.params ≤ MAX_PARAMETERS

-- what is known is known, with the classes that introduce each name, and the signatures of methods are of known types and within the limit
pub record IsModuleContext (g : ModuleContext) : Type 0 where
  pub known : IsKnowledge g.known
  pub signatures : AllSigsKnown (all_of g.known) (classes_of g.known.classes.now)
  pub few : FewParameters (all_of g.known)
  pub search : IsSearch (all_of g.known) g.known.lists.now g.search

-- what is wrong with the body of a member of a class, as it is answered
abbrev pub refused_as : List ℕ → List ℕ → BodyFault → Refused
refused_as class member (faults.Rule rule) = refusals.Rule (record { rule = rule; class = class; member = member })
refused_as class member faults.TooManyLocals = refusals.Limit (codes "locals") MAX_LOCALS
refused_as class member faults.NoMemory = refusals.NoMemory

-- an override by its signature
abbrev pub signed_steps : Among → List BodyText → Class → MethodRef → Sig → Result Override Refusal
signed_steps a bs c method sig =
    text_block a c method.name sig (texts_for bs c.decl.face.name method.name) >>= λ block. Ok (record { method = method; block = block })

-- the bodies of a class, and what its text selects
abbrev pub class_steps : Among → List BodyText → InterfaceDraft → Class → Result ClassBodies Refusal
class_steps a bs d c =
    entry_bodies a bs d c d.class.face.entries >>= λ own. override_blocks a bs c d.class.overrides >>= λ others.
    Ok (record { bodies = own; overrides = others; selects = selects_at a.classes c.key d })

-- the bodies of classes of a module, one after the other
abbrev pub each_steps : Among → Module → List BodyText → List InterfaceDraft → Result (List ClassBodies) Refusal
each_steps a m bs [] = Ok []
each_steps a m bs (d ∷ ds) = class_steps a bs d (class_in m d.class) >>= λ c. each_steps a m bs ds >>= λ cs. Ok (c ∷ cs)

-- classes with their bodies, one by one
abbrev pub completed : List InterfaceDraft → List ClassBodies → List ClassDecl
completed [] cs = []
completed (d ∷ ds) [] = []
completed (d ∷ ds) (c ∷ cs) = with_blocks d.class c.bodies c.overrides c.selects ∷ completed ds cs

-- each class has as many parents as its text names, where one is SOMObject if it names none
pub record ParentsCounted (ds : List InterfaceDraft) : Type 0 where
  pub by : (d : InterfaceDraft) → Mem d ds → length (or_object d.text.parents) ≡ length d.class.face.parents

-- the classes of interfaces stand after others, whose methods have no more parameters than they may have
pub record StandAfterOthers (m : Module) (cs : List Class) (ds : List InterfaceDraft) : Type 0 where
  pub front : List Class
  pub are : cs ≡ front ++ map (class_in m) (draft_classes ds)
  pub few : FewParameters front
  pub parents : ParentsCounted ds

-- what is known before the limits of the own classes are kept
pub record IsUnlimitedContext (g : ModuleContext) (ds : List InterfaceDraft) : Type 0 where
  pub known : IsKnowledge g.known
  pub signatures : AllSigsKnown (all_of g.known) (classes_of g.known.classes.now)
  pub stand : StandAfterOthers g.scope.now.module (classes_of g.known.classes.now) ds
  pub search : IsSearch (all_of g.known) g.known.lists.now g.search

-- the block of main, which is empty where there is no main
abbrev pub main_block : Among → Option BlockText → Result Block Refusal
main_block a None = Ok (record { statements = [] })
main_block a (Some text) = elaborated_main a text

-- the bodies of classes and of main, as far as they stand for something
abbrev pub module_steps : Among → Module → List BodyText → List InterfaceDraft → Option BlockText → Result AllBodies Refusal
module_steps a m bs ds main = each_steps a m bs ds >>= λ cs. main_block a main >>= λ block. Ok (record { classes = cs; main = block })

-- the bodies of classes and of main, where the rules on bodies and the limits come first
abbrev pub checked_steps : Among → Module → List BodyText → List InterfaceDraft → Option BlockText → Result AllBodies Refusal
checked_steps a m bs ds main = obeying (bodies_breach a.classes ds bs) (keeping (limit_passed ds) (module_steps a m bs ds main))
