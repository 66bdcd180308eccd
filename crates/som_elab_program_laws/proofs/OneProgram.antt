-- Texts that conform say one release, or one client program.
use Rattle.std.proofs.Common.{◌≡◌, inl, inr, List, [], ◌∷◌, map, None, Ok, refl, sym, ap, ◌∙◌, subst}
use Rattle.som_model.specs.declared.class.ClassDecl.{ClassDecl}
use Rattle.som_model.specs.declared.key.Module.{Module}
use Rattle.som_model.specs.declared.key.Module.TheVariants as modules
use Rattle.som_model.specs.declared.program.ClientProgram.{ClientProgram}
use Rattle.som_model.specs.declared.program.Interface.{Interface}
use Rattle.som_model.specs.declared.program.Release.{Release}
use Rattle.som_model.specs.declared.syntax.Block.{Block}
use Rattle.som_model.specs.Classes.{interface_classes}
use Rattle.som_model.specs.Lists.{Mem}
use Rattle.som_ast.specs.declared.interface.IdlInterface.{IdlInterface}
use Rattle.som_ast.specs.declared.body.BlockText.{BlockText}
use Rattle.som_ast.specs.declared.body.BodyText.{BodyText}
use Rattle.som_verify_classes.specs.Faces.{faces_breach}
use Rattle.som_sema.specs.Building.{texts_breach}
use Rattle.som_sema_drafts.specs.Drafts.{InterfaceDraft}
use Rattle.som_elab.specs.Elaboration.{among_over, drafts_over, nothing_before}
use Rattle.som_elab.proofs.Conforms.{declarations_hold}
use Rattle.som_elab.proofs.Declared.{drafts_are, own}
use Rattle.som_elab_laws.specs.Conforming.{ClientConforms, LibraryConforms, ModuleConforms}
use Rattle.som_elab_laws.specs.Modules.{ClassSays, ClassesSay, ProgramSays, ReleaseSays, no_class, one_class}
use Rattle.som_elab_laws.proofs.KeepingLaws.{keeping_law}
use Rattle.som_elab_program_laws.proofs.OneBody.{one_main}
use Rattle.som_elab_program_laws.proofs.OneClass.{one_class as one_of}

module _ (m : Module) (base : Interface) (is : List IdlInterface) (bs : List BodyText) where
  each_one : ((i : IdlInterface) → Mem i is → (x y : ClassDecl) → ClassSays (among_over m base is) m bs (own m base is i) x → ClassSays (among_over m base is) m bs (own m base is i) y → x ≡ y)
      → (ks : List IdlInterface) → ((i : IdlInterface) → Mem i ks → Mem i is) → (xs ys : List ClassDecl)
      → ClassesSay (among_over m base is) m bs (map (own m base is) ks) xs → ClassesSay (among_over m base is) m bs (map (own m base is) ks) ys → xs ≡ ys
  each_one one [] part xs ys no_class no_class = refl
  each_one one (i ∷ ks) part xs ys (one_class {c = u} {cs = us} p ps) (one_class {c = v} {cs = vs} q qs) =
      ap (λ z. z ∷ us) (one i (part i (inl refl)) u v p q) ∙ ap (λ z. v ∷ z) (each_one one ks (λ j n. part j (inr n)) us vs ps qs)

  -- the classes of a module
  pub one_classes : faces_breach (interface_classes base) ≡ None → ModuleConforms m base is bs → (xs ys : List ClassDecl)
      → ClassesSay (among_over m base is) m bs (drafts_over m base is) xs → ClassesSay (among_over m base is) m bs (drafts_over m base is) ys → xs ≡ ys
  one_classes conforms k xs ys p q =
      let rules : texts_breach m base is ≡ None = (keeping_law m base is conforms).1 k.rules in
      let holds = declarations_hold m base is conforms rules in
      each_one (λ i n. one_of m base is bs holds.classes rules k.bodies k.blocks i n) is (λ i n. n) xs ys
      (subst (λ (ds : List InterfaceDraft). ClassesSay (among_over m base is) m bs ds xs) (drafts_are m base is) p)
      (subst (λ (ds : List InterfaceDraft). ClassesSay (among_over m base is) m bs ds ys) (drafts_are m base is) q)

pub one_release : (is : List IdlInterface) (bs : List BodyText) (r s : Release) → LibraryConforms is bs → ReleaseSays is bs r → ReleaseSays is bs s → r ≡ s
one_release is bs r s k p q =
    ap (λ (z : List ClassDecl). let x : Release = record { classes = z } in x) (one_classes modules.Library nothing_before is bs refl k r.classes s.classes p q)

pub one_program : (base : Interface) (is : List IdlInterface) (bs : List BodyText) (main : BlockText) (p q : ClientProgram) → faces_breach (interface_classes base) ≡ None → ClientConforms base is bs main
    → ProgramSays base is bs main p → ProgramSays base is bs main q → p ≡ q
one_program base is bs main p q conforms k s t =
    let main_is = k.main_stands in
    let a = among_over modules.Client base is in
    let classes = one_classes modules.Client base is bs conforms k.classes p.classes q.classes s.classes t.classes in
    let mains = one_main a main main_is.0 p.main main_is.1 s.main_says ∙ sym (one_main a main main_is.0 q.main main_is.1 t.main_says) in
    ap (λ (z : Interface). let x : ClientProgram = record p { base = z } in x) (s.base_is ∙ sym t.base_is)
    ∙ ap (λ (z : List ClassDecl). let x : ClientProgram = record q { classes = z; main = p.main } in x) classes
    ∙ ap (λ (z : Block). let x : ClientProgram = record q { main = z } in x) mains
