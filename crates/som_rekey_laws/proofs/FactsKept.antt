-- What typing asks of classes, under new keys.
use Rattle.std.proofs.Common.{◌≡◌, true, List, Option, Some, None, is_some, unwrap_or, refl, sym, ap, ◌∙◌}
use Rattle.std.specs.Option.{option_map}
use Rattle.som_model.specs.declared.key.ClassKey.{ClassKey}
use Rattle.som_model.specs.Class.{Class}
use Rattle.som_model.specs.Classes.{class_at}
use Rattle.som_model.specs.Kernel.{som_class}
use Rattle.som_model.specs.Typing.{class_facts, running_facts}
use Rattle.som_rekey_laws.specs.Rekeying.{ModuleChange, rekey, rekey_class, rekey_classes}
use Rattle.som_rekey_laws.specs.Apart.{Names, is_named, IsApart, KeepsKernel, AreNamed, AreTargetsNamed, AreMetaclassesNamed}
use Rattle.som_rekey_laws.specs.AlikeFacts.{AreFactsAlike}
use Rattle.som_rekey_laws.proofs.Places.{class_kept, descent_kept}
use Rattle.som_rekey_laws.proofs.OwnersKept.{owner_kept, owner_signature_kept}
use Rattle.som_rekey_laws.proofs.BodiesKept.{class_stays, some_there}
use Rattle.som_rekey_laws.proofs.MetasKept.{meta_kept}

-- the class of a class's own object, as far as it is declared
abbrev object_class : Option Class → ClassKey
object_class None = som_class
object_class (Some c) = unwrap_or c.decl.face.metaclass som_class

or_kept : {A B : Type 0} (g : A → B) (o : Option A) (x : A) → unwrap_or (option_map g o) (g x) ≡ g (unwrap_or o x)
or_kept g None x = refl
or_kept g (Some y) x = refl

object_kept : (f : ModuleChange) (o : Option Class) → rekey f som_class ≡ som_class → object_class (option_map (rekey_class f) o) ≡ rekey f (object_class o)
object_kept f None e = sym e
object_kept f (Some c) e = ap (unwrap_or (option_map (rekey f) c.decl.face.metaclass)) (sym e) ∙ or_kept (rekey f) c.decl.face.metaclass som_class

module _ (f : ModuleChange) (names : Names) (kk : KeepsKernel f names) (cs : List Class) (is : IsApart f names) (are : AreNamed names cs) (targets : AreTargetsNamed names cs) where
  known_kept : (k : ClassKey) → is_named names k ≡ true → is_some (class_at (rekey_classes f cs) (rekey f k)) ≡ is_some (class_at cs k)
  known_kept k n = ap is_some (class_kept f names cs is are k n) ∙ some_there (rekey_class f) (class_at cs k)

  declared_object_kept : (k : ClassKey) → is_named names k ≡ true → object_class (class_at (rekey_classes f cs) (rekey f k)) ≡ rekey f (object_class (class_at cs k))
  declared_object_kept k n = ap object_class (class_kept f names cs is are k n) ∙ object_kept f (class_at cs k) (class_stays f names kk)

  pub facts_kept : AreFactsAlike f names (class_facts cs) (class_facts (rekey_classes f cs))
  unfolding class_facts
  facts_kept = record {
    is_known = known_kept;
    is_a = descent_kept f names cs is are;
    class_object = declared_object_kept;
    owner = owner_kept f names cs is are targets;
    signature = owner_signature_kept f names cs is are targets;
  }

  pub running_kept : AreMetaclassesNamed names cs → AreFactsAlike f names (running_facts cs) (running_facts (rekey_classes f cs))
  unfolding running_facts
  running_kept metas = record {
    is_known = known_kept;
    is_a = descent_kept f names cs is are;
    class_object = meta_kept f names kk cs is are metas;
    owner = owner_kept f names cs is are targets;
    signature = owner_signature_kept f names cs is are targets;
  }
