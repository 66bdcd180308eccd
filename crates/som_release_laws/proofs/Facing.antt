-- What the faces of a class are asked among some classes, holds of them among those that still have what these have.
use Rattle.std.proofs.Common.{◌≡◌, ℕ, inl, inr, Bool, true, false, not, ◌&&◌, List, [], ◌++◌, flat_map, Option, Some, None, refl, sym, ap, subst, true≢false}
use Rattle.std.specs.Prelude.{is_some}
use Rattle.som_model.specs.declared.key.ClassKey.{ClassKey}
use Rattle.som_model.specs.declared.key.ValueType.{ValueType}
use Rattle.som_model.specs.declared.key.ValueType.TheVariants as types
use Rattle.som_model.specs.declared.class.Entry.{Entry}
use Rattle.som_model.specs.declared.class.Entry.TheVariants as entries
use Rattle.som_model.specs.declared.class.Variable.{Variable}
use Rattle.som_model.specs.Lists.{Mem, every, option_list}
use Rattle.som_model.specs.Keys.{same_key}
use Rattle.som_model.specs.Ancestors.{Descends}
use Rattle.som_model.specs.Class.{Class}
use Rattle.som_model.specs.Classes.{class_at, hierarchy, is_a}
use Rattle.som_model.specs.Kernel.{kernel, som_class}
use Rattle.som_model.specs.Rules.{RuleBreach, demand, demand_of, is_known, is_proper, is_value_type, is_void, s4, s5}
use Rattle.som_model.proofs.KeyLaws.{both}
use Rattle.som_model_laws.proofs.Laws.{descends_test}
use Rattle.som_model.specs.Loads.{IsOrdered}
use Rattle.som_model_laws.proofs.Standing.{falls, tells}
use Rattle.som_model_laws.proofs.Lists.{every_mem, mem_every}
use Rattle.som_release_laws.specs.Growing.{Grows}
use Rattle.som_release_laws.proofs.Lists.{both_none, both_true, flat_less, none_left}

pub demanded : (n : ℕ) (c : Class) (b : Bool) → demand n c b ≡ [] → b ≡ true
demanded n c true e = refl
demanded n c false e = absurd (cc)

pub demand_met : (n : ℕ) (c : Class) (b : Bool) → b ≡ true → demand n c b ≡ []
demand_met n c b e = rw e refl

pub demanded_of : (n : ℕ) (c : Class) (member : List ℕ) (b : Bool) → demand_of n c member b ≡ [] → b ≡ true
demanded_of n c member true e = refl
demanded_of n c member false e = absurd (cc)

pub demand_of_met : (n : ℕ) (c : Class) (member : List ℕ) (b : Bool) → b ≡ true → demand_of n c member b ≡ []
demand_of_met n c member b e = rw e refl

-- a demand that holds of less
less_demand : (n : ℕ) (c : Class) (member : List ℕ) (a b : Bool) → (a ≡ true → b ≡ true) → demand_of n c member a ≡ [] → demand_of n c member b ≡ []
less_demand n c member a b f e = demand_of_met n c member b (f (demanded_of n c member a e))

every_less : {A : Type 0} (f g : A → Bool) → ((x : A) → f x ≡ true → g x ≡ true) → (xs : List A) → every f xs ≡ true → every g xs ≡ true
every_less f g h xs e = mem_every g xs (λ x m. h x (every_mem f x xs e m))

is_there : (o : Option Class) → is_some o ≡ true → (c : Class) × (o ≡ Some c)
is_there None e = absurd (true≢false (sym e))
is_there (Some c) e = (c, refl)

-- the metaclass of a class descends from SOMClass
pub s4_says : (cs : List Class) (c : Class) (m : ClassKey) → s4 cs c ≡ [] → c.decl.face.metaclass ≡ Some m → is_a cs m som_class ≡ true
s4_says cs c m e is = every_mem (λ k. is_a cs k som_class) m (option_list c.decl.face.metaclass) (demanded 4 c _ e) (subst (λ (o : Option ClassKey). Mem m (option_list o)) (sym is) (inl refl))

pub says_s4 : (cs : List Class) (c : Class) → ((m : ClassKey) → c.decl.face.metaclass ≡ Some m → is_a cs m som_class ≡ true) → s4 cs c ≡ []
says_s4 cs c f = demand_met 4 c _ (mem_every (λ k. is_a cs k som_class) (option_list c.decl.face.metaclass) (λ m n. f m (one c.decl.face.metaclass m n)))
  where
    one : (o : Option ClassKey) (k : ClassKey) → Mem k (option_list o) → o ≡ Some k
    one None k m = absurd m
    one (Some x) k (inl e) = ap (λ z. Some z) (sym e)
    one (Some x) k (inr m) = absurd m

-- types, where more is known

module _ (olds news : List Class) (more : (k : ClassKey) → is_some (class_at olds k) ≡ true → is_some (class_at news k) ≡ true) where
  type_more : (t : ValueType) → is_known olds t ≡ true → is_known news t ≡ true
  type_more types.Void e = refl
  type_more types.Long e = refl
  type_more types.Boolean e = refl
  type_more types.Str e = refl
  type_more (types.Class k) e = more k e

  value_more : (t : ValueType) → is_value_type olds t ≡ true → is_value_type news t ≡ true
  value_more t e = let r = both (not (is_void t)) (is_known olds t) e in both_true (not (is_void t)) (is_known news t) r.0 (type_more t r.1)

  abbrev types_of : (ValueType → Bool) → (ValueType → Bool) → Class → Entry → List RuleBreach
  types_of known value c (entries.Introduced name sig way) = demand_of 5 c name (known sig.result && every value sig.params)
  types_of known value c (entries.Moved name to) = []

  entry_more : (c : Class) (e : Entry) → types_of (is_known olds) (is_value_type olds) c e ≡ [] → types_of (is_known news) (is_value_type news) c e ≡ []
  entry_more c (entries.Introduced name sig way) e = less_demand 5 c name _ _ (λ t.
      let r = both (is_known olds sig.result) (every (is_value_type olds) sig.params) t in
      both_true _ _ (type_more sig.result r.0) (every_less (is_value_type olds) (is_value_type news) value_more sig.params r.1)) e
  entry_more c (entries.Moved name to) e = refl

  pub s5_more : (c : Class) → s5 olds c ≡ [] → s5 news c ≡ []
  s5_more c e =
      let r = none_left (flat_map (types_of (is_known olds) (is_value_type olds) c) c.decl.face.entries) (flat_map (λ v. demand_of 5 c v.name (is_value_type olds v.kind)) c.decl.variables) e in
      both_none (flat_map (types_of (is_known news) (is_value_type news) c) c.decl.face.entries) (flat_map (λ v. demand_of 5 c v.name (is_value_type news v.kind)) c.decl.variables)
      (flat_less (types_of (is_known olds) (is_value_type olds) c) (types_of (is_known news) (is_value_type news) c) (entry_more c) c.decl.face.entries r.0)
      (flat_less (λ (v : Variable). demand_of 5 c v.name (is_value_type olds v.kind)) (λ (v : Variable). demand_of 5 c v.name (is_value_type news v.kind)) (λ v d. less_demand 5 c v.name _ _ (value_more v.kind) d) c.decl.variables r.1)

-- descent by its test

pub tested : (cs : List Class) → IsOrdered cs → (x a : ClassKey) → is_a (kernel ++ cs) x a ≡ true → Descends (hierarchy (kernel ++ cs)) x a
tested cs o x a e = (descends_test (hierarchy (kernel ++ cs)) (tells cs o) (falls cs o) x a).0 e

pub tests : (cs : List Class) → IsOrdered cs → (x a : ClassKey) → Descends (hierarchy (kernel ++ cs)) x a → is_a (kernel ++ cs) x a ≡ true
tests cs o x a d = (descends_test (hierarchy (kernel ++ cs)) (tells cs o) (falls cs o) x a).1 d

module _ (olds news : List Class) (oa : IsOrdered olds) (ob : IsOrdered news) (grows : Grows (kernel ++ olds) (kernel ++ news)) where
  pub is_a_grows : (x a : ClassKey) → is_a (kernel ++ olds) x a ≡ true → is_a (kernel ++ news) x a ≡ true
  is_a_grows x a e = tests news ob x a (grows.descends x a (tested olds oa x a e))

  pub known_grows : (k : ClassKey) → is_some (class_at (kernel ++ olds) k) ≡ true → is_some (class_at (kernel ++ news) k) ≡ true
  known_grows k e =
      let c = is_there (class_at (kernel ++ olds) k) e in
      ap is_some (grows.known k c.0 c.1).1

  pub s4_grows : (c : Class) → s4 (kernel ++ olds) c ≡ [] → s4 (kernel ++ news) c ≡ []
  s4_grows c e = says_s4 (kernel ++ news) c (λ m is. is_a_grows m som_class (s4_says (kernel ++ olds) c m e is))

  pub s5_grows : (c : Class) → s5 (kernel ++ olds) c ≡ [] → s5 (kernel ++ news) c ≡ []
  s5_grows c e = s5_more (kernel ++ olds) (kernel ++ news) known_grows c e

  pub proper_grows : (c : Class) (to : ClassKey) → is_proper (kernel ++ olds) c to ≡ true → is_proper (kernel ++ news) c to ≡ true
  proper_grows c to e =
      let r = both (not (same_key to c.key)) (is_a (kernel ++ olds) c.key to) e in
      both_true (not (same_key to c.key)) (is_a (kernel ++ news) c.key to) r.0 (is_a_grows c.key to r.1)
