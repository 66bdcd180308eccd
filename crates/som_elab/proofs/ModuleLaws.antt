-- What texts come to as a whole.
use Rattle.std.proofs.Common.{◌≡◌, ℕ, ◌<◌, ◌≤◌, Bool, true, false, if◌then◌else◌, nat_le, List, [], ◌∷◌, length, map, Option, Some, None, Result, Ok, Err, refl, sym, ap, ◌∙◌, subst, arith, le-leb, leb-true}
use Rattle.std.specs.Prelude.{codes}
use Rattle.std.proofs.lemmas.List.{length-map}
use Rattle.som_model.specs.declared.key.Module.{Module}
use Rattle.som_model.specs.declared.key.Module.TheVariants as modules
use Rattle.som_model.specs.declared.syntax.Block.{Block}
use Rattle.som_model.specs.declared.class.ClassDecl.{ClassDecl}
use Rattle.som_model.specs.declared.program.Interface.{Interface}
use Rattle.som_model.specs.Lists.{first, or_else}
use Rattle.som_model.specs.Rules.{RuleBreach}
use Rattle.som_model.specs.Class.{Class, class_in}
use Rattle.som_model.specs.Classes.{interface_classes}
use Rattle.som_model.specs.Steps.{◌>>=◌}
use Rattle.som_ast.specs.declared.interface.IdlInterface.{IdlInterface}
use Rattle.som_ast.specs.declared.body.BodyText.{BodyText}
use Rattle.som_ast.specs.declared.body.BlockText.{BlockText}
use Rattle.som_verify_classes.specs.Faces.{classes_breach, faces_breach}
use Rattle.som_verify_classes.specs.Places.{with_kernel}
use Rattle.som_verify_classes.specs.Told.{Tells}
use Rattle.som_verify_classes.specs.declared.types.VerifyFault.{VerifyFault}
use Rattle.som_verify_classes.specs.declared.types.VerifyFault.TheVariants as broken
use Rattle.som_sema_drafts.specs.declared.types.Refused.{Refused}
use Rattle.som_sema_drafts.specs.declared.types.Refused.TheVariants as refusals
use Rattle.som_sema_decls.specs.Known.{after_base}
use Rattle.som_sema_drafts.specs.Refusals.{refused_by}
use Rattle.som_sema.specs.Building.{FacesTold, declarations, module_over, most_classes, texts_breach}
use Rattle.som_elab_methods.specs.Limits.{KeepsLimit, Passed, limit_passed}
use Rattle.som_sema_drafts.specs.Drafts.{InterfaceDraft, draft_classes}
use Rattle.som_elab.specs.declared.class_bodies.ClassBodies.{ClassBodies}
use Rattle.som_elab.specs.declared.all_bodies.AllBodies.{AllBodies}
use Rattle.som_elab.specs.declared.elaborated.ElaboratedModule.{ElaboratedModule}
use Rattle.som_elab.specs.Elaboration.{drafts_of_classes, classes_over, drafts_over, among_over, classes_passed}
use Rattle.som_elab_methods.specs.Bodies.{bodies_breach}
use Rattle.som_elab_body.specs.Expressions.{Among}
use Rattle.som_elab.specs.Blocks.{Answers, Refusal, elaborated_each, keeping, obeying}
use Rattle.som_sema.proofs.TextsConform.{texts_conform}
use Rattle.som_elab.specs.Contexts.{FewParameters, checked_steps, completed, each_steps, main_block}
use Rattle.som_elab.specs.Modules.{elaborated_module}
use Rattle.som_elab.proofs.Completing.{each_completed}
use Rattle.som_elab.proofs.Gathering.{stops}

-- ---- rules and limits that come first

module _ {A : Type 0} (further : Result A Refusal) where
  pub obeyed : (o : Option RuleBreach) (r : Result A Refused) → o ≡ None → Answers further r → Answers (obeying o further) r
  obeyed o r e t = subst (λ (z : Option RuleBreach). Answers (obeying z further) r) (sym e) t

  pub disobeyed : (o : Option RuleBreach) (e : VerifyFault) (r : Refused) → r ≡ refused_by e → Tells {A = Unit {0}} o (Err e) → Answers {A = A} (obeying o further) (Err r)
  disobeyed o (broken.Rule b) r is t = rw is (ap (λ (z : Option RuleBreach). obeying z further) t)
  disobeyed o broken.NoMemory r is t = rw is tt

  pub kept : (o : Option Passed) (r : Result A Refused) → o ≡ None → Answers further r → Answers (keeping o further) r
  kept o r e t = subst (λ (z : Option Passed). Answers (keeping z further) r) (sym e) t

  pub passed : (o : Option Passed) (e : Refused) → KeepsLimit o (Err e) → Answers {A = A} (keeping o further) (Err e)
  passed o (refusals.Rule b) t = absurd t
  passed o (refusals.Limit q n) t = ap (λ (z : Option Passed). keeping z further) t
  passed o refusals.NoMemory t = tt

-- one rule and then another
pub both_tell : (a b : Option RuleBreach) (r : Result (Unit {0}) VerifyFault) → a ≡ None → Tells b r → Tells (or_else a b) r
both_tell a b r e t = subst (λ (z : Option RuleBreach). Tells (or_else z b) r) (sym e) t

-- ---- the limit of classes

few_passed : (m : Module) (is : List IdlInterface) → length is ≤ most_classes m → classes_passed m is ≡ None
few_passed m is le = let t : nat_le (length is) (most_classes m) ≡ true = le-leb (length is) (most_classes m) le in rw t refl

many_passed : (m : Module) (is : List IdlInterface) → most_classes m < length is → classes_passed m is ≡ Some (record { quantity = codes "classes"; number = most_classes m })
many_passed m is lt = by (nat_le (length is) (most_classes m)) refl
  where
    by : (b : Bool) → nat_le (length is) (most_classes m) ≡ b
        → first (if b then [] else (let p : Passed = record { quantity = codes "classes"; number = most_classes m } in p) ∷ []) ≡ Some (record { quantity = codes "classes"; number = most_classes m })
    by true e = absurd (omega (arith, lt, leb-true (length is) (most_classes m) e))
    by false e = refl

-- ---- interfaces with their declarations

classes_of_drafts : (is : List IdlInterface) (cs : List ClassDecl) → length cs ≡ length is → draft_classes (drafts_of_classes is cs) ≡ cs
classes_of_drafts [] [] e = refl
classes_of_drafts [] (c ∷ cs) e = absurd (omega (arith, e))
classes_of_drafts (i ∷ is) [] e = absurd (omega (arith, e))
classes_of_drafts (i ∷ is) (c ∷ cs) e = ap (λ z. c ∷ z) (classes_of_drafts is cs (omega (arith, e)))

pub declared_over : (m : Module) (base : Interface) (is : List IdlInterface) → draft_classes (drafts_over m base is) ≡ declarations m base is
declared_over m base is = classes_of_drafts is (declarations m base is) (length-map _ _ ∙ length-map _ _)

-- ---- the whole

module _ (m : Module) (base : Interface) (is : List IdlInterface) (bs : List BodyText) (main : Option BlockText) where
  abbrev finish : AllBodies → ElaboratedModule
  finish w = record { classes = completed (drafts_over m base is) w.classes; main = w.main }

  abbrev and_main : List ClassDecl → Result ElaboratedModule Refusal
  and_main cs = main_block (among_over m base is) main >>= λ block. Ok (record { classes = cs; main = block })

  rest_by : (each : Result (List ClassBodies) Refusal) (block : Result Block Refusal)
      → ((each >>= λ cs. Ok (completed (drafts_over m base is) cs)) >>= λ cs. block >>= λ b. let w : ElaboratedModule = record { classes = cs; main = b } in Ok w)
      ≡ ((each >>= λ cs. block >>= λ b. let w : AllBodies = record { classes = cs; main = b } in Ok w) >>= λ w. Ok (finish w))
  rest_by (Ok cs) (Ok b) = refl
  rest_by (Ok cs) (Err e) = refl
  rest_by (Err e) block = refl

  gate_by : (o : Option RuleBreach) (p : Option Passed) (x : Result (List ClassDecl) Refusal) (y : Result AllBodies Refusal)
      → (x >>= and_main) ≡ (y >>= λ w. Ok (finish w)) → (obeying o (keeping p x) >>= and_main) ≡ (obeying o (keeping p y) >>= λ w. Ok (finish w))
  gate_by (Some b) p x y e = refl
  gate_by None (Some q) x y e = refl
  gate_by None None x y e = e

  each_is : (elaborated_each (among_over m base is) m bs (drafts_over m base is) >>= and_main)
      ≡ ((each_steps (among_over m base is) m bs (drafts_over m base is) >>= λ cs. main_block (among_over m base is) main >>= λ b. let w : AllBodies = record { classes = cs; main = b } in Ok w) >>= λ w. Ok (finish w))
  each_is =
      ap (λ (z : Result (List ClassDecl) Refusal). z >>= and_main) (each_completed (among_over m base is) m bs (drafts_over m base is))
      ∙ rest_by (each_steps (among_over m base is) m bs (drafts_over m base is)) (main_block (among_over m base is) main)

  module _ (few : length is ≤ most_classes m) where
    limited : elaborated_module m base is bs main
        ≡ (obeying (texts_breach m base is) (obeying (bodies_breach (classes_over m base is) (drafts_over m base is) bs)
        (keeping (limit_passed (drafts_over m base is)) (elaborated_each (among_over m base is) m bs (drafts_over m base is)))) >>= and_main)
    limited =
        ap (λ (z : Option Passed). keeping z (obeying (texts_breach m base is) (obeying (bodies_breach (classes_over m base is) (drafts_over m base is) bs)
        (keeping (limit_passed (drafts_over m base is)) (elaborated_each (among_over m base is) m bs (drafts_over m base is))))) >>= and_main) (few_passed m is few)

    module_is : texts_breach m base is ≡ None → elaborated_module m base is bs main ≡ (checked_steps (among_over m base is) m bs (drafts_over m base is) main >>= λ w. Ok (finish w))
    module_is e =
        limited
        ∙ ap (λ (z : Option RuleBreach). obeying z (obeying (bodies_breach (classes_over m base is) (drafts_over m base is) bs)
        (keeping (limit_passed (drafts_over m base is)) (elaborated_each (among_over m base is) m bs (drafts_over m base is)))) >>= and_main) e
        ∙ gate_by (bodies_breach (classes_over m base is) (drafts_over m base is) bs) (limit_passed (drafts_over m base is)) _ _ each_is

    -- bodies that are refused
    pub bodies_refused : (e : Refused) → texts_breach m base is ≡ None → Answers {A = AllBodies} (checked_steps (among_over m base is) m bs (drafts_over m base is) main) (Err e)
        → Answers {A = ElaboratedModule} (elaborated_module m base is bs main) (Err e)
    bodies_refused e none t =
        subst (λ (z : Result ElaboratedModule Refusal). Answers {A = ElaboratedModule} z (Err e)) (sym (module_is none))
        (stops (checked_steps (among_over m base is) m bs (drafts_over m base is) main) (λ w. Ok (finish w)) e t)

    -- bodies that are made
    pub bodies_made : (w : AllBodies) → texts_breach m base is ≡ None → checked_steps (among_over m base is) m bs (drafts_over m base is) main ≡ Ok w → elaborated_module m base is bs main ≡ Ok (finish w)
    bodies_made w none t = module_is none ∙ ap (λ (z : Result AllBodies Refusal). z >>= λ w. Ok (finish w)) t

  -- faces that are refused
  pub faces_refused : (e : Refused) → FacesTold m base is (Err e) → Answers {A = ElaboratedModule} (elaborated_module m base is bs main) (Err e)
  faces_refused (refusals.Rule b) t =
      limited t.0
      ∙ ap (λ (z : Option RuleBreach). obeying z (obeying (bodies_breach (classes_over m base is) (drafts_over m base is) bs)
      (keeping (limit_passed (drafts_over m base is)) (elaborated_each (among_over m base is) m bs (drafts_over m base is)))) >>= and_main) t.1
  faces_refused (refusals.Limit q n) t =
      let p : classes_passed m is ≡ Some (record { quantity = q; number = n }) =
      many_passed m is t.0 ∙ ap (λ z. Some (record { quantity = z; number = most_classes m })) (sym t.1) ∙ ap (λ z. Some (record { quantity = q; number = z })) (sym t.2) in
      ap (λ (z : Option Passed). keeping z (obeying (texts_breach m base is) (obeying (bodies_breach (classes_over m base is) (drafts_over m base is) bs)
      (keeping (limit_passed (drafts_over m base is)) (elaborated_each (among_over m base is) m bs (drafts_over m base is))))) >>= and_main) p
  faces_refused refusals.NoMemory t = tt

-- want of memory tells nothing
pub no_memory : {A : Type 0} (comes : Result A Refusal) (fault : VerifyFault) (r : Refused) → r ≡ refused_by fault → fault ≡ broken.NoMemory → Answers {A = A} comes (Err r)
no_memory {A} comes fault r e f = subst (λ (z : Refused). Answers {A = A} comes (Err z)) (sym (e ∙ ap refused_by f)) tt

-- ---- from the faces on

module _ (m : Module) (base : Interface) (is shown : List IdlInterface) (cs : List ClassDecl) (ds : List InterfaceDraft) (faces : FacesTold m base is (Ok cs)) (same : shown ≡ is) (drafted : ds ≡ drafts_of_classes shown cs) where
  pub faces_shown : texts_breach m base shown ≡ None
  faces_shown = ap (texts_breach m base) same ∙ faces.1

  pub drafts_shown : ds ≡ drafts_over m base shown
  drafts_shown = drafted ∙ ap (drafts_of_classes shown) (faces.2 ∙ ap (declarations m base) (sym same))

  drafts_same : ds ≡ drafts_over m base is
  drafts_same = drafts_shown ∙ ap (drafts_over m base) same

  module _ (bs texts : List BodyText) (main : Option BlockText) (given : texts ≡ bs) where
    checked_is : checked_steps (among_over m base shown) m texts ds main ≡ checked_steps (among_over m base is) m bs (drafts_over m base is) main
    checked_is =
        ap (λ (z : List IdlInterface). checked_steps (among_over m base z) m texts ds main) same
        ∙ ap (λ (z : List BodyText). checked_steps (among_over m base is) m z ds main) given
        ∙ ap (λ (z : List InterfaceDraft). checked_steps (among_over m base is) m bs z main) drafts_same

    pub shown_refused : (e : Refused) → Answers {A = AllBodies} (checked_steps (among_over m base shown) m texts ds main) (Err e) → Answers {A = ElaboratedModule} (elaborated_module m base is bs main) (Err e)
    shown_refused e t = bodies_refused m base is bs main faces.0 e faces.1 (subst (λ (z : Result AllBodies Refusal). Answers {A = AllBodies} z (Err e)) checked_is t)

    pub shown_made : (w : AllBodies) → checked_steps (among_over m base shown) m texts ds main ≡ Ok w → elaborated_module m base is bs main ≡ Ok (record { classes = completed ds w.classes; main = w.main })
    shown_made w t =
        bodies_made m base is bs main faces.0 w faces.1 (sym checked_is ∙ t)
        ∙ ap (λ (z : List InterfaceDraft). let r : ElaboratedModule = record { classes = completed z w.classes; main = w.main } in Ok r) (sym drafts_same)

-- ---- what is known over a base

module _ (m : Module) (base : Interface) (is : List IdlInterface) (own : Module) (bares : List ClassDecl) (ds : List InterfaceDraft) (module_of : List ℕ → Module)
    (at : own ≡ m) (known : map (class_in modules.Library) bares ≡ interface_classes base) (drafted : ds ≡ drafts_over m base is) (named : module_of ≡ module_over m base is) where
  abbrev all_known : List Class
  all_known = after_base own (map (class_in modules.Library) bares) (draft_classes ds)

  known_are : all_known ≡ after_base m (interface_classes base) (declarations m base is)
  known_are =
      ap (λ z. after_base z (map (class_in modules.Library) bares) (draft_classes ds)) at
      ∙ ap (λ z. after_base m z (draft_classes ds)) known
      ∙ ap (λ (z : List InterfaceDraft). after_base m (interface_classes base) (draft_classes z)) drafted
      ∙ ap (after_base m (interface_classes base)) (declared_over m base is)

  pub rules_over : length bares ≡ length base.classes → faces_breach (interface_classes base) ≡ None → texts_breach m base is ≡ None → classes_breach (length bares) all_known ≡ None
  rules_over long e f = ap (λ z. classes_breach z all_known) long ∙ ap (classes_breach (length base.classes)) known_are ∙ texts_conform m base is e f

  pub few_over : FewParameters (interface_classes base) → FewParameters (map (class_in modules.Library) bares)
  few_over few = subst FewParameters (sym known) few

  pub steps_over : (bs : List BodyText) (main : Option BlockText) (r : Result AllBodies Refused) → Answers (checked_steps (record { classes = with_kernel all_known; module_of = module_of }) own bs ds main) r
      → Answers (checked_steps (among_over m base is) m bs ds main) r
  steps_over bs main r t =
      subst (λ (z : Among). Answers (checked_steps z m bs ds main) r)
      (ap (λ (z : List Class). let a : Among = record { classes = with_kernel z; module_of = module_of } in a) known_are
      ∙ ap (λ (z : List ℕ → Module). let a : Among = record { classes = classes_over m base is; module_of = z } in a) named)
      (subst (λ (z : Module). Answers (checked_steps (record { classes = with_kernel all_known; module_of = module_of }) z bs ds main) r) at t)
