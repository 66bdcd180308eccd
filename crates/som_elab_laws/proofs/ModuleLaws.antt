-- Releases and client programs are what their texts say.
use Rattle.std.proofs.Common.{◌≡◌, inl, inr, List, [], ◌∷◌, map, flat_map, None, Ok, refl, sym, subst}
use Rattle.std.specs.Prelude.{codes}
use Rattle.som_model.specs.declared.class.ClassDecl.{ClassDecl}
use Rattle.som_model.specs.declared.key.Module.{Module}
use Rattle.som_model.specs.declared.key.Module.TheVariants as modules
use Rattle.som_model.specs.declared.program.ClientProgram.{ClientProgram}
use Rattle.som_model.specs.declared.program.Interface.{Interface}
use Rattle.som_model.specs.declared.program.Release.{Release}
use Rattle.som_model.specs.Classes.{interface_classes}
use Rattle.som_model.specs.Lists.{Mem, first}
use Rattle.som_model.specs.Steps.{◌>>=◌}
use Rattle.som_model.specs.Typing.{in_main}
use Rattle.som_model.proofs.StepLaws.{same_answer, went}
use Rattle.som_ast.specs.declared.interface.IdlInterface.{IdlInterface}
use Rattle.som_ast.specs.declared.body.BlockText.{BlockText}
use Rattle.som_ast.specs.declared.body.BodyText.{BodyText}
use Rattle.som_verify_classes.specs.Faces.{faces_breach}
use Rattle.som_verify_classes.proofs.Conformity.{or_none}
use Rattle.som_sema.specs.Building.{texts_breach}
use Rattle.som_sema_drafts.specs.Drafts.{InterfaceDraft}
use Rattle.som_elab_body.specs.Statements.{elaborated_block}
use Rattle.som_elab_methods.specs.Bodies.{bodies_breach, text_s13, text_s14}
use Rattle.som_elab.specs.Elaboration.{classes_over, drafts_over, among_over, classes_passed, elaborated_classes, elaborated_program, elaborated_release, nothing_before}
use Rattle.som_elab.specs.Blocks.{elaborated_class, elaborated_each, elaborated_main, keeping, obeying}
use Rattle.som_elab_methods.specs.Limits.{limit_passed}
use Rattle.som_elab.proofs.Apart.{kept, obeyed}
use Rattle.som_elab.proofs.BodiesOfClasses.{refused_ok}
use Rattle.som_elab.proofs.Conforms.{declarations_hold}
use Rattle.som_elab.proofs.Declared.{drafts_are, own}
use Rattle.som_elab_laws.specs.Modules.{ClassSays, ClassesSay, ProgramSays, ReleaseSays, no_class, one_class}
use Rattle.som_elab_laws.proofs.BodyLaws.{class_says}
use Rattle.som_elab_laws.proofs.StatementLaws.{text_says}

module _ (m : Module) (base : Interface) (is : List IdlInterface) (bs : List BodyText) where
  each_says : ((i : IdlInterface) → Mem i is → (c : ClassDecl) → elaborated_class (among_over m base is) m bs (own m base is i) ≡ Ok c → ClassSays (among_over m base is) m bs (own m base is i) c)
      → (ks : List IdlInterface) → ((i : IdlInterface) → Mem i ks → Mem i is) → (cs : List ClassDecl) → elaborated_each (among_over m base is) m bs (map (own m base is) ks) ≡ Ok cs
      → ClassesSay (among_over m base is) m bs (map (own m base is) ks) cs
  each_says one [] part cs h = subst (ClassesSay (among_over m base is) m bs []) (same_answer h) no_class
  each_says one (i ∷ ks) part cs h =
      let a = among_over m base is in
      let x = went (elaborated_class a m bs (own m base is i)) (λ c. elaborated_each a m bs (map (own m base is) ks) >>= λ cs. Ok (c ∷ cs)) cs h in
      let y = went (elaborated_each a m bs (map (own m base is) ks)) (λ cs. Ok (x.value ∷ cs)) cs x.further in
      subst (ClassesSay a m bs (own m base is i ∷ map (own m base is) ks)) (same_answer y.further)
      (one_class (one i (part i (inl refl)) x.value x.first) (each_says one ks (λ j k. part j (inr k)) y.value y.first))

  -- the classes of a module
  pub classes_say : (cs : List ClassDecl) → faces_breach (interface_classes base) ≡ None → elaborated_classes m base is bs ≡ Ok cs → ClassesSay (among_over m base is) m bs (drafts_over m base is) cs
  classes_say cs conforms h =
      let each = elaborated_each (among_over m base is) m bs (drafts_over m base is) in
      let bodies = bodies_breach (classes_over m base is) (drafts_over m base is) bs in
      let limited = keeping (limit_passed (drafts_over m base is)) each in
      let p = kept (classes_passed m is) (obeying (texts_breach m base is) (obeying bodies limited)) cs h in
      let q = obeyed (texts_breach m base is) (obeying bodies limited) cs p.1 in
      let r = obeyed bodies limited cs q.1 in
      let s = or_none (first (flat_map (text_s13 (classes_over m base is) (drafts_over m base is)) bs)) (first (flat_map (text_s14 bs) (drafts_over m base is))) r.0 in
      let e = kept (limit_passed (drafts_over m base is)) each cs r.1 in
      let holds = declarations_hold m base is conforms q.0 in
      subst (λ (ds : List InterfaceDraft). ClassesSay (among_over m base is) m bs ds cs) (sym (drafts_are m base is))
      (each_says (λ i n. class_says m base is bs holds.classes q.0 s.0 s.1 i n) is (λ i n. n) cs
      (subst (λ (ds : List InterfaceDraft). elaborated_each (among_over m base is) m bs ds ≡ Ok cs) (drafts_are m base is) e.1))

pub release_says : (is : List IdlInterface) (bs : List BodyText) (r : Release) → elaborated_release is bs ≡ Ok r → ReleaseSays is bs r
unfolding elaborated_release
release_says is bs r h =
    let x = went (elaborated_classes modules.Library nothing_before is bs) (λ cs. Ok (record { classes = cs })) r h in
    subst (ReleaseSays is bs) (same_answer x.further) (classes_say modules.Library nothing_before is bs x.value refl x.first)

pub program_says : (base : Interface) (is : List IdlInterface) (bs : List BodyText) (main : BlockText) (p : ClientProgram) → faces_breach (interface_classes base) ≡ None → elaborated_program base is bs main ≡ Ok p
    → ProgramSays base is bs main p
unfolding elaborated_program
program_says base is bs main p conforms h =
    let a = among_over modules.Client base is in
    let x = went (elaborated_classes modules.Client base is bs) (λ cs. elaborated_main a main >>= λ block. Ok (record { base = base; classes = cs; main = block })) p h in
    let y = went (elaborated_main a main) (λ block. Ok (record { base = base; classes = x.value; main = block })) p x.further in
    subst (ProgramSays base is bs main) (same_answer y.further) (record {
      base_is = refl;
      classes = classes_say modules.Client base is bs x.value conforms x.first;
      main_says = text_says a in_main main [] y.value (refused_ok (codes "main") (codes "-") (elaborated_block a in_main main []) y.value y.first);
    })
