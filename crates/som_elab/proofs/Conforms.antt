-- What texts stand for conforms.
use Rattle.std.proofs.Common.{◌≡◌, inl, inr, List, [], ◌∷◌, ◌++◌, length, map, flat_map, take, drop, Option, Some, None, Result, Ok, refl, sym, ap, ◌∙◌, subst}
use Rattle.std.proofs.lemmas.List.{map-append}
use Rattle.som_model.specs.declared.key.Module.{Module}
use Rattle.som_model.specs.declared.key.Module.TheVariants as modules
use Rattle.som_model.specs.declared.class.ClassDecl.{ClassDecl}
use Rattle.som_model.specs.declared.class.ClassFace.{ClassFace}
use Rattle.som_model.specs.declared.class.Override.{Override}
use Rattle.som_model.specs.declared.class.Select.{Select}
use Rattle.som_model.specs.declared.program.ClientProgram.{ClientProgram}
use Rattle.som_model.specs.declared.program.Interface.{Interface}
use Rattle.som_model.specs.declared.program.Release.{Release}
use Rattle.som_model.specs.Lists.{Mem, first, or_else}
use Rattle.som_model.specs.Steps.{◌>>=◌}
use Rattle.som_model.specs.Class.{Class, bare, class_in, introduced}
use Rattle.som_model.specs.Classes.{client_classes, interface_classes}
use Rattle.som_model.specs.Conforming.{ProgramOk, ReleaseOk, all_of_program, class_typed, first_of_members, first_of_names, main_typed, main_breach}
use Rattle.som_model.specs.Kernel.{kernel}
use Rattle.som_model.specs.Rules.{RuleBreach, s5}
use Rattle.som_model.specs.Typing.{class_facts, in_main}
use Rattle.som_model.specs.TypedBlocks.{block_scope}
use Rattle.som_model.proofs.StepLaws.{same_answer, went}
use Rattle.som_model.proofs.ListLaws.{drop_front}
use Rattle.std.specs.Prelude.{codes}
use Rattle.som_model_laws.proofs.Members.{mem_split}
use Rattle.som_ast.specs.declared.interface.IdlInterface.{IdlInterface}
use Rattle.som_ast.specs.declared.body.BlockText.{BlockText}
use Rattle.som_ast.specs.declared.body.BodyText.{BodyText}
use Rattle.som_verify_classes.specs.Faces.{faces_breach}
use Rattle.som_verify_classes.specs.Modules.{AreDeclared}
use Rattle.som_verify_classes.specs.Places.{with_kernel}
use Rattle.som_verify_classes.specs.Plainly.{BodiesFit, ClassesHold, Fits, SelectsInherited, TypesKnown}
use Rattle.som_verify_classes.proofs.Before.{both_none, none_both}
use Rattle.som_verify_classes.proofs.DeclaredClasses.{faces_declared, long_map, map_declared}
use Rattle.som_verify_classes.proofs.Conformity.{or_none}
use Rattle.som_verify_classes.proofs.PlainFaces.{classes_say}
use Rattle.som_verify_classes.proofs.PlainLists.{map_mem, says_each}
use Rattle.som_verify_classes.proofs.PlainMembers.{types_say}
use Rattle.som_verify_classes.proofs.PlainWhole.{say_program, say_rules}
use Rattle.som_sema_decls.specs.Known.{after_base}
use Rattle.som_sema.specs.Building.{declarations, module_over, texts_breach}
use Rattle.som_elab_methods.specs.Limits.{Passed, limit_passed}
use Rattle.som_sema_drafts.specs.Drafts.{InterfaceDraft, draft_classes, draft_of}
use Rattle.som_sema_decls.specs.Finished.{declare_selecting, selects_at}
use Rattle.som_sema.proofs.TextsConform.{texts_conform, texts_select}
use Rattle.som_elab_body.specs.Expressions.{Among}
use Rattle.som_elab_body.specs.Statements.{elaborated_block}
use Rattle.som_elab_methods.specs.Bodies.{bodies_breach, text_s13, text_s14}
use Rattle.som_elab.specs.Elaboration.{classes_over, drafts_over, among_over, classes_passed, elaborated_classes, elaborated_program, elaborated_release, nothing_before}
use Rattle.som_elab.specs.Blocks.{Refusal, elaborated_class, elaborated_each, elaborated_main, entry_bodies, keeping, obeying, override_blocks, with_blocks}
use Rattle.som_elab.proofs.BodiesOfClasses.{ClassStands, class_stands, methods_kept, refused_ok, same_but_bodies}
use Rattle.som_elab.proofs.Declared.{drafts_are, draft_classes_are, own}
use Rattle.som_elab.proofs.Plain.{facts_other, plain, selecting, sig_other}
use Rattle.som_elab.proofs.PlainRules.{classes_other, selects_other, types_other}
use Rattle.som_elab_body.proofs.TypedBodies.{text_typed}

kept : {A : Type 0} (o : Option Passed) (further : Result A Refusal) (r : A) → keeping o further ≡ Ok r → further ≡ Ok r
kept None further r e = e
kept (Some p) further r e = absurd (let z = e in cc)

obeyed : {A : Type 0} (o : Option RuleBreach) (further : Result A Refusal) (r : A) → obeying o further ≡ Ok r → (o ≡ None) × (further ≡ Ok r)
obeyed None further r e = (refl, e)
obeyed (Some b) further r e = absurd (let z = e in cc)

-- ---- classes with their bodies, one by one

module _ (a : Among) (m : Module) (bs : List BodyText) where
  class_same : (d : InterfaceDraft) (c : ClassDecl) → elaborated_class a m bs d ≡ Ok c → plain (class_in m d.class) ≡ plain (class_in m c)
  class_same d c h =
      let here = class_in m d.class in
      let x = went (entry_bodies a bs d here d.class.face.entries) (λ made. override_blocks a bs here d.class.overrides >>= λ others. Ok (with_blocks d.class made others (selects_at a.classes here.key d))) c h in
      let y = went (override_blocks a bs here d.class.overrides) (λ others. Ok (with_blocks d.class x.value others (selects_at a.classes here.key d))) c x.further in
      same_but_bodies m d.class x.value y.value (selects_at a.classes here.key d) (methods_kept a bs here d.class.overrides y.value y.first)
      ∙ ap (λ (z : ClassDecl). plain (class_in m z)) (same_answer y.further)

  each_same : (ds : List InterfaceDraft) (cs : List ClassDecl) → elaborated_each a m bs ds ≡ Ok cs → map plain (map (class_in m) (draft_classes ds)) ≡ map plain (map (class_in m) cs)
  each_same [] cs h = ap (λ (z : List ClassDecl). map plain (map (class_in m) z)) (same_answer h)
  each_same (d ∷ ds) cs h =
      let x = went (elaborated_class a m bs d) (λ c. elaborated_each a m bs ds >>= λ cs. Ok (c ∷ cs)) cs h in
      let y = went (elaborated_each a m bs ds) (λ cs. Ok (x.value ∷ cs)) cs x.further in
      ap (λ z. z ∷ map plain (map (class_in m) (draft_classes ds))) (class_same d x.value x.first)
      ∙ ap (λ z. plain (class_in m x.value) ∷ z) (each_same ds y.value y.first)
      ∙ ap (λ (z : List ClassDecl). map plain (map (class_in m) z)) (same_answer y.further)

  -- classes with bodies are what their texts declare but for these bodies, selects included
  module _ (fill : IdlInterface → ClassDecl) (of_text : IdlInterface → InterfaceDraft)
      (fills : (i : IdlInterface) (c : ClassDecl) → elaborated_class a m bs (of_text i) ≡ Ok c → selecting (class_in m (fill i)) ≡ selecting (class_in m c)) where
    each_selecting : (is : List IdlInterface) (cs : List ClassDecl) → elaborated_each a m bs (map of_text is) ≡ Ok cs → map selecting (map (class_in m) (map fill is)) ≡ map selecting (map (class_in m) cs)
    each_selecting [] cs h = ap (λ (z : List ClassDecl). map selecting (map (class_in m) z)) (same_answer h)
    each_selecting (i ∷ is) cs h =
        let x = went (elaborated_class a m bs (of_text i)) (λ c. elaborated_each a m bs (map of_text is) >>= λ cs. Ok (c ∷ cs)) cs h in
        let y = went (elaborated_each a m bs (map of_text is)) (λ cs. Ok (x.value ∷ cs)) cs x.further in
        ap (λ z. z ∷ map selecting (map (class_in m) (map fill is))) (fills i x.value x.first)
        ∙ ap (λ z. selecting (class_in m x.value) ∷ z) (each_selecting is y.value y.first)
        ∙ ap (λ (z : List ClassDecl). map selecting (map (class_in m) z)) (same_answer y.further)

  of_draft : (ds : List InterfaceDraft) (cs : List ClassDecl) → elaborated_each a m bs ds ≡ Ok cs → (c : ClassDecl) → Mem c cs → (d : InterfaceDraft) × Mem d ds × (elaborated_class a m bs d ≡ Ok c)
  of_draft [] cs h c n = absurd (subst (λ (z : List ClassDecl). Mem c z) (sym (same_answer h)) n)
  of_draft (d ∷ ds) cs h c n =
      let x = went (elaborated_class a m bs d) (λ c. elaborated_each a m bs ds >>= λ cs. Ok (c ∷ cs)) cs h in
      let y = went (elaborated_each a m bs ds) (λ cs. Ok (x.value ∷ cs)) cs x.further in
      elim (subst (λ (z : List ClassDecl). Mem c z) (sym (same_answer y.further)) n) [
        | inl e ↦ (d, inl refl, x.first ∙ ap Ok (sym e))
        | inr k ↦ (let r = of_draft ds y.value y.first c k in (r.0, inr r.1, r.2))
      ]

-- ---- the classes of a module

record Stand (m : Module) (base : Interface) (is : List IdlInterface) (cs : List ClassDecl) : Type 0 where
  classes : ClassesHold (after_base m (interface_classes base) cs)
  base_types : TypesKnown (with_kernel (interface_classes base)) (interface_classes base)
  own_types : TypesKnown (with_kernel (after_base m (interface_classes base) cs)) (map (class_in m) cs)
  bodies : BodiesFit (map (class_in m) cs)
  blocks : first (flat_map (class_typed (with_kernel (after_base m (interface_classes base) cs))) (map (class_in m) cs)) ≡ None
  facts : class_facts (with_kernel (after_base m (interface_classes base) cs)) ≡ class_facts (classes_over m base is)

module _ (m : Module) (base : Interface) (is : List IdlInterface) (conforms : faces_breach (interface_classes base) ≡ None) (rules : texts_breach m base is ≡ None) where
  abbrev before : List Class
  before = interface_classes base

  abbrev done : List Class
  done = map (class_in m) (declarations m base is)

  abbrev after : List Class
  after = after_base m before (declarations m base is)

  after_declared : AreDeclared after
  after_declared = record {
    by = λ c n. elim (mem_split c before done n) [
      | inl k ↦ (faces_declared modules.Library base.classes).by c k
      | inr k ↦ (map_declared m (declarations m base is)).by c k
    ];
  }

  abbrev types_breach : List Class → Option RuleBreach
  types_breach rest = first (flat_map (s5 (kernel ++ take (length base.classes) after)) (take (length base.classes) after) ++ flat_map (s5 (kernel ++ after)) rest)

  pub record DeclarationsHold : Type 0 where
    pub classes : ClassesHold after
    pub base_types : TypesKnown (with_kernel before) before
    pub own_types : TypesKnown (with_kernel after) done

  rest_is : drop (length base.classes) after ≡ done
  rest_is = ap (λ n. drop n after) (sym (long_map (λ (f : ClassFace). class_in modules.Library (bare f)) base.classes)) ∙ drop_front before done

  pub declarations_hold : DeclarationsHold
  declarations_hold =
      let e = texts_conform m base is conforms rules in
      let p = or_none (first_of_names kernel after) (or_else (types_breach (drop (length base.classes) after)) (first_of_members kernel after)) e in
      let q = or_none (types_breach (drop (length base.classes) after)) (first_of_members kernel after) p.1 in
      let t = none_both (flat_map (s5 (kernel ++ take (length base.classes) after)) (take (length base.classes) after)) (flat_map (s5 (kernel ++ after)) (drop (length base.classes) after)) q.0 in
      let b = or_none (first_of_names kernel before) (or_else (first (flat_map (s5 (with_kernel before)) before)) (first_of_members kernel before)) conforms in
      let f = or_none (first (flat_map (s5 (with_kernel before)) before)) (first_of_members kernel before) b.1 in
      record {
        classes = classes_say after after_declared p.0 q.1;
        base_types = types_say (with_kernel before) before f.0;
        own_types = types_say (with_kernel after) done (subst (λ (z : List Class). first (flat_map (s5 (kernel ++ after)) z) ≡ None) rest_is t.1);
      }

  module _ (bs : List BodyText) (s13 : first (flat_map (text_s13 (classes_over m base is) (drafts_over m base is)) bs) ≡ None)
      (cs : List ClassDecl) (made : elaborated_each (among_over m base is) m bs (drafts_over m base is) ≡ Ok cs) where
    abbrev finished : List Class
    finished = after_base m before cs

    own_same : map plain done ≡ map plain (map (class_in m) cs)
    own_same = ap (λ (z : List ClassDecl). map plain (map (class_in m) z)) (sym (draft_classes_are m base is)) ∙ each_same (among_over m base is) m bs (drafts_over m base is) cs made

    after_same : map plain after ≡ map plain finished
    after_same = map-append plain before done ∙ ap (λ z. map plain before ++ z) own_same ∙ sym (map-append plain before (map (class_in m) cs))

    -- ---- what texts select

    abbrev selects_of : InterfaceDraft → List Select
    selects_of d = selects_at (classes_over m base is) (class_in m d.class).key d

    abbrev fill : IdlInterface → ClassDecl
    fill i = record (own m base is i).class { selects = selects_of (own m base is i) }

    fills : (i : IdlInterface) (c : ClassDecl) → elaborated_class (among_over m base is) m bs (own m base is i) ≡ Ok c → selecting (class_in m (fill i)) ≡ selecting (class_in m c)
    fills i c h =
        let a = among_over m base is in
        let d = own m base is i in
        let here = class_in m d.class in
        let x = went (entry_bodies a bs d here d.class.face.entries) (λ made. override_blocks a bs here d.class.overrides >>= λ others. Ok (with_blocks d.class made others (selects_of d))) c h in
        let y = went (override_blocks a bs here d.class.overrides) (λ others. Ok (with_blocks d.class x.value others (selects_of d))) c x.further in
        ap (λ (os : List Override). let z : Class = record { key = here.key; decl = record { face = d.class.face; variables = d.class.variables; bodies = []; overrides = os; selects = selects_of d } } in z)
        (methods_kept a bs here d.class.overrides y.value y.first)
        ∙ ap (λ (z : ClassDecl). selecting (class_in m z)) (same_answer y.further)

    abbrev texts_known : List Class
    texts_known = with_kernel (after_base m before (draft_classes (map (draft_of (module_over m base is)) is)))

    fill_all : (ks : List IdlInterface) → map (declare_selecting texts_known (classes_over m base is) m) (map (draft_of (module_over m base is)) ks) ≡ map fill ks
    fill_all [] = refl
    fill_all (i ∷ ks) = ap (λ z. fill i ∷ z) (fill_all ks)

    finished_selects : SelectsInherited finished
    finished_selects =
        let made_own = subst (λ (z : List InterfaceDraft). elaborated_each (among_over m base is) m bs z ≡ Ok cs) (drafts_are m base is) made in
        let own_full = map (class_in m) (map fill is) in
        let same = map-append selecting before own_full ∙ ap (λ z. map selecting before ++ z) (each_selecting (among_over m base is) m bs fill (own m base is) fills is cs made_own)
        ∙ sym (map-append selecting before (map (class_in m) cs)) in
        selects_other (before ++ own_full) finished same
        (subst (λ (z : List ClassDecl). SelectsInherited (before ++ map (class_in m) z)) (fill_all is) (texts_select m base is conforms rules))

    all_same : map plain (with_kernel after) ≡ map plain (with_kernel finished)
    all_same = ap (λ z. map plain kernel ++ z) after_same

    facts_same : class_facts (with_kernel finished) ≡ class_facts (classes_over m base is)
    facts_same = facts_other (with_kernel finished) (with_kernel after) (sym all_same)

    stands : (c : ClassDecl) → Mem c cs → ClassStands (with_kernel finished) m c
    stands c n =
        let r = of_draft (among_over m base is) m bs (drafts_over m base is) cs made c n in
        let s = map_mem (own m base is) r.0 is (subst (λ z. Mem r.0 z) (drafts_are m base is) r.1) in
        class_stands m base is bs declarations_hold.classes rules s13 (with_kernel finished) facts_same (sig_other (with_kernel finished) (with_kernel after) (sym all_same)) s.0 s.1 c
        (ap (elaborated_class (among_over m base is) m bs) (sym s.2) ∙ r.2)

    of_class : (c : Class) → Mem c (map (class_in m) cs) → (d : ClassDecl) × Mem d cs × (c ≡ class_in m d)
    of_class c n = map_mem (class_in m) c cs n

    module_stands : Stand m base is cs
    module_stands = record {
      classes = classes_other after finished after_same finished_selects declarations_hold.classes;
      base_types = declarations_hold.base_types;
      own_types = types_other (with_kernel after) (with_kernel finished) done (map (class_in m) cs) all_same own_same declarations_hold.own_types;
      bodies = record {
        as_many = λ c n.
            (let r = of_class c n in
            subst (λ (z : Class). length z.decl.bodies ≡ length (introduced z.decl.face.entries)) (sym r.2) (stands r.0 r.1).long);
        fit = λ c k sig b n p q.
            (let r = of_class c n in
            subst (λ (z : Class). Fits z.decl.variables sig b) (sym r.2) ((stands r.0 r.1).fit k sig b (rw r.2 at p) (rw r.2 at q)));
      };
      blocks = says_each (class_typed (with_kernel finished)) (map (class_in m) cs) (λ c n.
          (let r = of_class c n in
          subst (λ (z : Class). first (class_typed (with_kernel finished) z) ≡ None) (sym r.2) (ap first (stands r.0 r.1).typed)));
      facts = facts_same;
    }

all_stand : (m : Module) (base : Interface) (is : List IdlInterface) (bs : List BodyText) (cs : List ClassDecl) → faces_breach (interface_classes base) ≡ None → elaborated_classes m base is bs ≡ Ok cs → Stand m base is cs
all_stand m base is bs cs conforms h =
    let made = elaborated_each (among_over m base is) m bs (drafts_over m base is) in
    let bodies = bodies_breach (classes_over m base is) (drafts_over m base is) bs in
    let limited = keeping (limit_passed (drafts_over m base is)) made in
    let p = kept (classes_passed m is) (obeying (texts_breach m base is) (obeying bodies limited)) cs h in
    let q = obeyed (texts_breach m base is) (obeying bodies limited) cs p in
    let r = obeyed bodies limited cs q.1 in
    let s = or_none (first (flat_map (text_s13 (classes_over m base is) (drafts_over m base is)) bs)) (first (flat_map (text_s14 bs) (drafts_over m base is))) r.0 in
    module_stands m base is conforms q.0 bs s.0 cs (kept (limit_passed (drafts_over m base is)) made cs r.1)

-- ---- releases

pub release_conforms : (is : List IdlInterface) (bs : List BodyText) (r : Release) → elaborated_release is bs ≡ Ok r → ReleaseOk r
unfolding elaborated_release
release_conforms is bs r h =
    let x = went (elaborated_classes modules.Library nothing_before is bs) (λ cs. Ok (record { classes = cs })) r h in
    let s = all_stand modules.Library nothing_before is bs x.value refl x.first in
    subst ReleaseOk (same_answer x.further)
    (record { rules = say_rules (record { classes = x.value }) (record { faces = record { classes = s.classes; types = s.own_types }; bodies = s.bodies }); blocks = s.blocks })

-- ---- client programs

pub program_conforms : (base : Interface) (is : List IdlInterface) (bs : List BodyText) (main : BlockText) (p : ClientProgram) → faces_breach (interface_classes base) ≡ None → elaborated_program base is bs main ≡ Ok p → ProgramOk p
unfolding elaborated_program
program_conforms base is bs main p conforms h =
    let a = among_over modules.Client base is in
    let x = went (elaborated_classes modules.Client base is bs) (λ cs. elaborated_main a main >>= λ block. Ok (record { base = base; classes = cs; main = block })) p h in
    let y = went (elaborated_main a main) (λ block. Ok (record { base = base; classes = x.value; main = block })) p x.further in
    let s = all_stand modules.Client base is bs x.value conforms x.first in
    let made : ClientProgram = record { base = base; classes = x.value; main = y.value } in
    let t = text_typed a in_main main [] y.value (refused_ok (codes "main") (codes "-") (elaborated_block a in_main main []) y.value y.first) in
    let no_breach : main_typed (all_of_program made) y.value ≡ [] =
    ap main_breach (ap (λ w. block_scope w in_main y.value []) s.facts ∙ t.1) in
    subst ProgramOk (same_answer y.further) (record {
      rules = say_program made (record { classes = s.classes; base_types = s.base_types; own_types = s.own_types; bodies = s.bodies });
      blocks = both_none (flat_map (class_typed (all_of_program made)) (client_classes made)) (main_typed (all_of_program made) y.value) s.blocks (ap first no_breach);
    })
