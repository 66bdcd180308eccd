-- What speaks of some names alone: blocks, types, classes, and the place where code stands.
use Rattle.std.specs.Prelude.{◌≡◌, true, List, Some}
use Rattle.som_model.specs.declared.key.ClassKey.{ClassKey}
use Rattle.som_model.specs.declared.key.MethodRef.{MethodRef}
use Rattle.som_model.specs.declared.key.ValueType.{ValueType}
use Rattle.som_model.specs.declared.syntax.Block.{Block}
use Rattle.som_model.specs.declared.class.Sig.{Sig}
use Rattle.som_model.specs.Lists.{Mem}
use Rattle.som_model.specs.Class.{Class}
use Rattle.som_model.specs.Named.{Named, AClass, type_names, sig_names, block_names, face_names, decl_names}
use Rattle.som_model.specs.Typing.{ClassFacts, CodePlace}
use Rattle.som_rekey_laws.specs.Apart.{Names, is_named}

-- each class that is named is of these names, or made of them; a method and a proxy are named with their classes
abbrev pub AreOf : Names → List Named → Type 0
AreOf names ns = (k : ClassKey) → Mem (AClass k) ns → is_named names k ≡ true

-- a block names classes of these names alone
abbrev pub IsBlockNamed : Names → Block → Type 0
IsBlockNamed names b = AreOf names (block_names b)

-- a type is of a class of these names, or of none
abbrev pub IsTypeNamed : Names → ValueType → Type 0
IsTypeNamed names t = AreOf names (type_names t)

-- each of these types is of a class of these names, or of none
abbrev pub AreTypesNamed : Names → List ValueType → Type 0
AreTypesNamed names ts = (t : ValueType) → Mem t ts → IsTypeNamed names t

-- a class has a key of these names, and its face names classes of them alone
pub record IsFaceNamed (names : Names) (c : Class) : Type 0 where
  pub key : is_named names c.key ≡ true
  pub named : AreOf names (face_names c.decl.face)

-- each of these classes has a key of these names, and a face that names classes of them alone, whatever else it declares
abbrev pub AreFacesNamed : Names → List Class → Type 0
AreFacesNamed names cs = (c : Class) → Mem c cs → IsFaceNamed names c

-- a class has a key of these names, and its whole declaration names classes of them alone
pub record IsClassNamed (names : Names) (c : Class) : Type 0 where
  pub key : is_named names c.key ≡ true
  pub named : AreOf names (decl_names c.decl)

-- each of these classes has a key of these names, and a declaration that names classes of them alone
abbrev pub AreClassesNamed : Names → List Class → Type 0
AreClassesNamed names cs = (c : Class) → Mem c cs → IsClassNamed names c

-- code stands in a class of these names, or in none, and answers a type of them
pub record IsPlaceNamed (names : Names) (at : CodePlace) : Type 0 where
  pub class_ : (c : Class) → at.class ≡ Some c → IsClassNamed names c
  pub result : IsTypeNamed names at.result

-- what is asked of these names is answered with classes of these names
pub record AreAnswersNamed (names : Names) (w : ClassFacts) : Type 0 where
  pub class_object : (k : ClassKey) → is_named names k ≡ true → is_named names (w.class_object k) ≡ true
  pub owner : (r : MethodRef) → is_named names r.class ≡ true → is_named names (w.owner r).class ≡ true
  pub signature : (r : MethodRef) (s : Sig) → is_named names r.class ≡ true → w.signature r ≡ Some s → AreOf names (sig_names s)
