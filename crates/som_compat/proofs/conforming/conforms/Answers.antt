use Rattle.std.proofs.Common.{◌≡◌, ◌∙◌, List, map, refl, sym, ap, subst, arith}
use Rattle.std.specs.Prelude.{All}
use Rattle.som_model.specs.declared.class.ClassFace.{ClassFace}
use Rattle.som_model.specs.declared.class.ClassDecl.{ClassDecl}
use Rattle.som_model.specs.Class.{bare}
use Rattle.som_verify_classes.specs.Faces.{faces_breach}
use Rattle.som_verify_classes.specs.Told.{of_release}
use Rattle.som_compat.specs.Conditions.{IsCounted}
use Rattle.som_compat.specs.Views.{shown}
use Rattle.som_compat.proofs.Known.{interface_is}
use Rattle.som_compat.proofs.conforming.conforms.Goals as goal

-- the classes that the rules were asked of
same : (faces own : List ClassFace) (decls lent : List ClassDecl) → own ≡ faces → decls ≡ map bare own → lent ≡ decls → of_release lent ≡ map shown faces
same faces own decls lent e f g = ap of_release (g ∙ f ∙ ap (map bare) e) ∙ sym (interface_is faces)

pub returns-in-Ok : goal.returns-in-Ok
returns-in-Ok c = (
  (λ _. record {
    rules = ap faces_breach (sym (same c.args.interface.now.classes c.as_slice-faces.result.now c.in_ok-classes.classes.items c.deref.result.now c.as_slice-faces.ensures c.in_ok-classes.ensures c.deref.ensures.value)) ∙ c.in-Ok.ensures;
    classes = let e = c.as_slice-faces.ensures in let f = c.if-faces.false in rw (sym e) (omega (arith, f));
    counts = subst (λ (z : List ClassFace). All IsCounted z) c.as_slice-faces.ensures (c.are_counted.ensures.0 c.if-not-are_counted.false);
  }),
  (λ k. refl),
)

pub returns-in-Err-Rule : goal.returns-in-Err-Rule
returns-in-Err-Rule c = (
  (λ e. absurd (cc)),
  (λ k. let h = rw c.in-Err-Rule.field-0-is at c.in-Err-Rule.ensures in
      let none = ap faces_breach (same c.args.interface.now.classes c.as_slice-faces.result.now c.in_ok-classes.classes.items c.deref.result.now c.as_slice-faces.ensures c.in_ok-classes.ensures c.deref.ensures.value) ∙ k.rules in
      absurd (cc)),
)
