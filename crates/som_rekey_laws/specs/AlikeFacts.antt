-- What typing asks of classes, under new keys.
use Rattle.std.specs.Prelude.{◌≡◌, true}
use Rattle.std.specs.Option.{option_map}
use Rattle.som_model.specs.declared.key.ClassKey.{ClassKey}
use Rattle.som_model.specs.declared.key.MethodRef.{MethodRef}
use Rattle.som_model.specs.Typing.{ClassFacts}
use Rattle.som_rekey_laws.specs.Rekeying.{ModuleChange, rekey, rekey_method, rekey_sig}
use Rattle.som_rekey_laws.specs.Apart.{Names, is_named}

-- the answers to each question about these names are those to the same question under new keys, but for the keys in them
pub record AreFactsAlike (f : ModuleChange) (names : Names) (old new : ClassFacts) : Type 0 where
  pub is_known : (k : ClassKey) → is_named names k ≡ true → new.is_known (rekey f k) ≡ old.is_known k
  pub is_a : (k a : ClassKey) → is_named names k ≡ true → is_named names a ≡ true → new.is_a (rekey f k) (rekey f a) ≡ old.is_a k a
  pub class_object : (k : ClassKey) → is_named names k ≡ true → new.class_object (rekey f k) ≡ rekey f (old.class_object k)
  pub owner : (r : MethodRef) → is_named names r.class ≡ true → new.owner (rekey_method f r) ≡ rekey_method f (old.owner r)
  pub signature : (r : MethodRef) → is_named names r.class ≡ true → new.signature (rekey_method f r) ≡ option_map (rekey_sig f) (old.signature r)
