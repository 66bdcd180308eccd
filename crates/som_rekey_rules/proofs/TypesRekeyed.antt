-- Types under new keys: what tests on types and what answers of classes say of them.
use Rattle.std.proofs.Common.{◌≡◌, inl, inr, true, ◌&&◌, List, [], ◌∷◌, ◌++◌, map, flat_map, refl, ap, ◌∙◌}
use Rattle.som_model.specs.declared.key.ClassKey.{ClassKey}
use Rattle.som_model.specs.declared.key.ValueType.{ValueType}
use Rattle.som_model.specs.declared.key.ValueType.TheVariants as types
use Rattle.som_model.specs.declared.class.Sig.{Sig}
use Rattle.som_model.specs.Lists.{Mem}
use Rattle.som_model.specs.Named.{Named, AClass, type_names, sig_names}
use Rattle.som_model.specs.Typing.{ClassFacts, ExprType, Of, PlainNil, fits, all_fit, descends_to, kind_is_known}
use Rattle.som_model_laws.proofs.Members.{mem_left, mem_right}
use Rattle.som_model_laws.proofs.Lists.{mem_flat}
use Rattle.som_rekey_laws.specs.Rekeying.{ModuleChange, rekey, rekey_type}
use Rattle.som_rekey_laws.specs.Apart.{Names, is_named}
use Rattle.som_rekey_laws.specs.AlikeFacts.{AreFactsAlike}
use Rattle.som_rekey_rules.specs.NamesAlone.{AreOf, IsTypeNamed, AreTypesNamed}
use Rattle.som_rekey_rules.specs.NewTypes.{rekey_expr_type}

-- ---- what is named, by its parts

pub left_of : (names : Names) (ns ms : List Named) → AreOf names (ns ++ ms) → AreOf names ns
left_of names ns ms h k m = h k (mem_left (AClass k) ns ms m)

pub right_of : (names : Names) (ns ms : List Named) → AreOf names (ns ++ ms) → AreOf names ms
right_of names ns ms h k m = h k (mem_right (AClass k) ns ms m)

pub each_of : {A : Type 0} (names : Names) (g : A → List Named) (xs : List A) → AreOf names (flat_map g xs) → (x : A) → Mem x xs → AreOf names (g x)
each_of names g xs h x m k i = h k (mem_flat g (AClass k) x xs m i)

pub none_of : (names : Names) → AreOf names []
none_of names k m = absurd m

pub class_of : (names : Names) (k : ClassKey) → is_named names k ≡ true → IsTypeNamed names (types.Class k)
class_of names k h q (inl e) = let z : q ≡ k = cc in ap (is_named names) z ∙ h
class_of names k h q (inr m) = absurd m

pub key_of : (names : Names) (k : ClassKey) → IsTypeNamed names (types.Class k) → is_named names k ≡ true
key_of names k h = h k (inl refl)

pub params_of : (names : Names) (s : Sig) → AreOf names (sig_names s) → AreTypesNamed names s.params
params_of names s h t m = each_of names type_names s.params (right_of names (type_names s.result) (flat_map type_names s.params) h) t m

pub result_of : (names : Names) (s : Sig) → AreOf names (sig_names s) → IsTypeNamed names s.result
result_of names s h = left_of names (type_names s.result) (flat_map type_names s.params) h

-- ---- types of expressions

-- the type of an expression is of these names
abbrev pub IsAnswerNamed : Names → ExprType → Type 0
IsAnswerNamed names (Of kind) = IsTypeNamed names kind
IsAnswerNamed names PlainNil = AreOf names []

abbrev pub AreAnswersOf : Names → List ExprType → Type 0
AreAnswersOf names ts = (t : ExprType) → Mem t ts → IsAnswerNamed names t

-- what looks into no class says the same of a type under its new key
pub type_alike : {B : Type 0} (f : ModuleChange) (g : ExprType → B) → ((a b : ClassKey) → g (Of (types.Class a)) ≡ g (Of (types.Class b))) → (t : ExprType) → g (rekey_expr_type f t) ≡ g t
type_alike f g same (Of types.Void) = refl
type_alike f g same (Of types.Long) = refl
type_alike f g same (Of types.Boolean) = refl
type_alike f g same (Of types.Str) = refl
type_alike f g same (Of (types.Class k)) = same (rekey f k) k
type_alike f g same PlainNil = refl

module _ (f : ModuleChange) (names : Names) (old new : ClassFacts) (like : AreFactsAlike f names old new) where
  pub descends_kept : (k : ClassKey) (t : ExprType) → is_named names k ≡ true → IsAnswerNamed names t → descends_to new (rekey f k) (rekey_expr_type f t) ≡ descends_to old k t
  descends_kept k (Of types.Void) n l = refl
  descends_kept k (Of types.Long) n l = refl
  descends_kept k (Of types.Boolean) n l = refl
  descends_kept k (Of types.Str) n l = refl
  descends_kept k (Of (types.Class c)) n l = like.is_a c k (key_of names c l) n
  descends_kept k PlainNil n l = refl

  pub fits_kept : (kind : ValueType) (t : ExprType) → IsTypeNamed names kind → IsAnswerNamed names t → fits new (rekey_type f kind) (rekey_expr_type f t) ≡ fits old kind t
  fits_kept types.Void t n l = type_alike f (fits old types.Void) (λ a b. refl) t
  fits_kept types.Long t n l = type_alike f (fits old types.Long) (λ a b. refl) t
  fits_kept types.Boolean t n l = type_alike f (fits old types.Boolean) (λ a b. refl) t
  fits_kept types.Str t n l = type_alike f (fits old types.Str) (λ a b. refl) t
  fits_kept (types.Class k) PlainNil n l = refl
  fits_kept (types.Class k) (Of kind) n l = descends_kept k (Of kind) (key_of names k n) l

  pub all_fit_kept : (kinds : List ValueType) (ts : List ExprType) → AreTypesNamed names kinds → AreAnswersOf names ts → all_fit new (map (rekey_type f) kinds) (map (rekey_expr_type f) ts) ≡ all_fit old kinds ts
  all_fit_kept [] [] n l = refl
  all_fit_kept [] (t ∷ ts) n l = refl
  all_fit_kept (kind ∷ kinds) [] n l = refl
  all_fit_kept (kind ∷ kinds) (t ∷ ts) n l =
      ap (λ b. b && all_fit new (map (rekey_type f) kinds) (map (rekey_expr_type f) ts)) (fits_kept kind t (n kind (inl refl)) (l t (inl refl)))
      ∙ ap (λ b. fits old kind t && b) (all_fit_kept kinds ts (λ x m. n x (inr m)) (λ x m. l x (inr m)))

  pub kind_kept : (kind : ValueType) → IsTypeNamed names kind → kind_is_known new (rekey_type f kind) ≡ kind_is_known old kind
  kind_kept types.Void n = refl
  kind_kept types.Long n = refl
  kind_kept types.Boolean n = refl
  kind_kept types.Str n = refl
  kind_kept (types.Class k) n = like.is_known k (key_of names k n)
