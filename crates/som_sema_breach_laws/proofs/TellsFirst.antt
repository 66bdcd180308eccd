-- The breach that is the first is told.
use Rattle.std.proofs.Common.{◌≡◌, List, Option, Some, None, refl, sym, ap, ◌∙◌}
use Rattle.som_model.specs.declared.key.Module.{Module}
use Rattle.som_model.specs.declared.program.Interface.{Interface}
use Rattle.som_model.specs.Rules.{RuleBreach}
use Rattle.som_ast.specs.declared.interface.IdlInterface.{IdlInterface}
use Rattle.som_sema.specs.Building.{texts_breach}
use Rattle.som_sema_breach_laws.specs.Telling.{IsFirstTold, text_rules}
use Rattle.som_sema_breach_laws.proofs.Firsts.{none_told}
use Rattle.som_sema_breach_laws.proofs.OneTold.{no_first, one_told}
use Rattle.som_sema_breach_laws.proofs.Telling.{first_told, told_is}

module _ (m : Module) (base : Interface) (is : List IdlInterface) (b : RuleBreach) (f : IsFirstTold m base is b) where
  -- a rule is broken, so that something is told
  not_none : texts_breach m base is ≡ None → ⊥
  not_none e =
      no_first (f.rule f.before f.interface) b
      (none_told (text_rules m base is) is (sym (told_is m base is) ∙ e) f.place f.rule f.is_rule f.before f.interface f.after f.parts) f.member

  -- and what is told is the first, of which there is one
  by_told : (o : Option RuleBreach) → texts_breach m base is ≡ o → o ≡ Some b
  by_told None e = absurd (not_none e)
  by_told (Some a) e = ap (λ z. Some z) (one_told m base is a b (first_told m base is a e) f)

  pub tells_first : texts_breach m base is ≡ Some b
  tells_first = by_told (texts_breach m base is) refl
