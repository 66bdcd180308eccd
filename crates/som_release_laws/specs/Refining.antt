-- When typing by other facts finds well typed whatever it found well typed by some.
use Rattle.std.specs.Prelude.{◌≡◌, true, not, ◌&&◌, List, Some}
use Rattle.som_model.specs.declared.key.ClassKey.{ClassKey}
use Rattle.som_model.specs.declared.key.MethodRef.{MethodRef}
use Rattle.som_model.specs.declared.class.Sig.{Sig}
use Rattle.som_model.specs.Lists.{Mem}
use Rattle.som_model.specs.Keys.{same_key}
use Rattle.som_model.specs.Named.{Named, AClass, AMethod}
use Rattle.som_model.specs.Typing.{ClassFacts}

pub record Refines (w v : ClassFacts) : Type 0 where
  -- what is known stays known, and descends from what it descended from
  pub known : (k : ClassKey) → w.is_known k ≡ true → v.is_known k ≡ true
  pub is_a : (k a : ClassKey) → w.is_a k a ≡ true → v.is_a k a ≡ true
  pub through : (a b c : ClassKey) → v.is_a a b ≡ true → v.is_a b c ≡ true → v.is_a a c ≡ true
  -- the type of a class object descends from what it was
  pub object : (k : ClassKey) → w.is_known k ≡ true → v.is_a (v.class_object k) (w.class_object k) ≡ true
  -- signatures stay, and are of methods of known classes
  pub signature : (r : MethodRef) (s : Sig) → w.signature r ≡ Some s → v.signature r ≡ Some s
  pub referred : (r : MethodRef) (s : Sig) → w.signature r ≡ Some s → w.is_known r.class ≡ true
  -- an owner that was a proper ancestor of a class has an owner that is one
  pub proper : (r : MethodRef) (s : Sig) (c : ClassKey) → w.signature r ≡ Some s
      → (not (same_key (w.owner r).class c) && w.is_a c (w.owner r).class) ≡ true → (not (same_key (v.owner r).class c) && v.is_a c (v.owner r).class) ≡ true

-- each class that is named is known, and each method has a signature
pub record AreKnown (w : ClassFacts) (names : List Named) : Type 0 where
  pub classes : (k : ClassKey) → Mem (AClass k) names → w.is_known k ≡ true
  pub methods : (r : MethodRef) → Mem (AMethod r) names → (s : Sig) × (w.signature r ≡ Some s)
