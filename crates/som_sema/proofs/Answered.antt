-- From drafts to the answer.
use Rattle.std.proofs.Common.{◌≡◌, ℕ, ◌≤◌, List, length, map, Err, sym, ap, ◌∙◌}
use Rattle.som_model.specs.declared.key.Module.{Module}
use Rattle.som_model.specs.declared.class.ClassDecl.{ClassDecl}
use Rattle.som_model.specs.declared.program.Interface.{Interface}
use Rattle.som_model.specs.Class.{Class}
use Rattle.som_model.specs.Classes.{interface_classes}
use Rattle.som_ast.specs.declared.interface.IdlInterface.{IdlInterface}
use Rattle.som_verify_classes.specs.Told.{Tells}
use Rattle.som_verify_classes.specs.declared.types.VerifyFault.{VerifyFault}
use Rattle.som_verify_classes.specs.declared.types.VerifyFault.TheVariants as verify
use Rattle.som_sema_drafts.specs.declared.types.Refused.{Refused}
use Rattle.som_sema_drafts.specs.Refusals.{refused_by}
use Rattle.som_sema.specs.Building.{FacesTold, declarations, declared_all, draft_rules_breach, module_over, most_classes, texts_breach}
use Rattle.som_sema_drafts.specs.Drafts.{InterfaceDraft, draft_of}

module _ (own_module : Module) (base : Interface) (is : List IdlInterface) (h : List ℕ → Module) (m : Module) (bs : List Class) (ds : List InterfaceDraft)
    (names : h ≡ module_over own_module base is) (own : m ≡ own_module) (known : bs ≡ interface_classes base) (made : ds ≡ map (draft_of h) is) where
  drafts_same : ds ≡ map (draft_of (module_over own_module base is)) is
  drafts_same = made ∙ ap (λ (z : List ℕ → Module). map (draft_of z) is) names

  -- the first breach of the drafts is that of the texts
  pub breach_is : draft_rules_breach h m bs ds ≡ texts_breach own_module base is
  breach_is =
      ap (λ (z : List ℕ → Module). draft_rules_breach z m bs ds) names
      ∙ ap (λ z. draft_rules_breach (module_over own_module base is) z bs ds) own
      ∙ ap (λ z. draft_rules_breach (module_over own_module base is) own_module z ds) known
      ∙ ap (draft_rules_breach (module_over own_module base is) own_module (interface_classes base)) drafts_same

  -- the declarations of the drafts are those of the texts
  pub declared_are : declared_all m bs ds ≡ declarations own_module base is
  declared_are =
      ap (λ z. declared_all z bs ds) own
      ∙ ap (λ z. declared_all own_module z ds) known
      ∙ ap (declared_all own_module (interface_classes base)) drafts_same

-- a breach is answered
pub err_told : (m : Module) (base : Interface) (is shown : List IdlInterface) (e : VerifyFault) (r : Refused) → shown ≡ is → r ≡ refused_by e → length is ≤ most_classes m
    → Tells {A = List ClassDecl} (texts_breach m base shown) (Err e) → FacesTold m base is (Err r)
err_told m base is shown (verify.Rule b) r s e few t = rw e (few, ap (texts_breach m base) (sym s) ∙ t)
err_told m base is shown verify.NoMemory r s e few t = rw e tt
