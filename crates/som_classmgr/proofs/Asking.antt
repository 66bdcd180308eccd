-- What a program that runs asks of a linked kernel is told by its classes and their numbers.
use Rattle.std.proofs.Common.{◌≡◌, ◌↔◌, ◌⊎◌, ℕ, zero, suc, ◌<◌, ◌≤◌, ◌&&◌, nat_lt, inl, inr, Bool, true, false, if◌then◌else◌, List, [], ◌∷◌, length, get_or, Option, Some, None, IsSome, is_some, OnOk, Result, slice_get, slice_index_or, refl, sym, ap, ◌∙◌, subst, arith, true≢false}
use Rattle.std.proofs.lemmas.Option.{same_Some, slice_get_within}
use Rattle.som_model.specs.declared.key.ClassKey.{ClassKey}
use Rattle.som_model.specs.declared.key.ClassKey.TheOpen.{ClassKey-F}
use Rattle.som_model.specs.declared.key.ClassKey.TheVariants as keys
use Rattle.som_model.specs.declared.key.ValueType.{ValueType}
use Rattle.som_model.specs.declared.key.ValueType.TheVariants as types
use Rattle.som_model.specs.declared.key.Module.TheVariants as modules
use Rattle.som_model.specs.declared.class.Variable.{Variable}
use Rattle.som_model.specs.Lists.{Mem}
use Rattle.som_model.specs.Keys.{same_key}
use Rattle.som_model.specs.Ancestors.{Descends, itself, by_parent}
use Rattle.som_model.specs.Class.{Class, bare, class_in}
use Rattle.som_model.specs.Classes.{class_at, hierarchy, is_a, parents_of, variable_type}
use Rattle.som_model.specs.Kernel.{class_mgr_face, som_class_mgr, som_object}
use Rattle.som_model.specs.Made.{ComesOf, IsMade, metaclass, parent, root}
use Rattle.som_model.specs.Metaclass.{meta}
use Rattle.som_model.specs.Rules.{is_void}
use Rattle.som_semantics.specs.State.{Nil, Value, zero_of}
use Rattle.som_semantics.specs.World.{world}
use Rattle.som_model.proofs.KeyLaws.{exact_keys}
use Rattle.som_model.proofs.NamedLaws.{hierarchy_parents, out_named}
use Rattle.som_model_laws.proofs.Laws.{descends_test}
use Rattle.som_model_laws.proofs.Members.{not_true}
use Rattle.som_model_laws.proofs.Lists.{map_mem, mem_get}
use Rattle.som_model_laws.proofs.Standing as standing
use Rattle.som_meta.specs.Numbering.{IsNumbered, IsToken, Numbering, key_at, names_of}
use Rattle.som_class_ids.specs.declared.position.Kind.{Kind}
use Rattle.som_class_ids.specs.declared.position.Kind.TheVariants as kinds
use Rattle.som_class_ids.proofs.Adding.{out_derived, out_proxy}
use Rattle.som_class_ids.proofs.Declaring.{at_mem, mem_at}
use Rattle.som_class_ids.proofs.Making.{some_class}
use Rattle.som_class_table.specs.Loaded.{AreLoaded}
use Rattle.som_class_table.proofs.Bodies.{found, key_0, made_unknown}
use Rattle.som_class_variables.specs.Variables.{object_variables, own_variables, place_in, types_of, variables_in}
use Rattle.som_class_variables.proofs.Placing.{falls, place_kind, places_differ, tells}
use Rattle.som_class_table.specs.Making.{IsMarked}
use Rattle.som_values.specs.Variables.{AreDisjoint}
use Rattle.som_interp_state.specs.Settings as settings
use Rattle.som_interp_state.specs.Asked.{Agree, CanLoad, HaveNumbers, IsClosed, is_proxy, target_after}
use Rattle.som_class_loaded.specs.Made.{IsReached}
use Rattle.som_class_kernel.specs.Linked.{IsLinked, IsMadeIn, Linkage}
use Rattle.som_classmgr.specs.Asking.{answers_of, is_made, is_token, kind_at, linked_of, places_of}
use Rattle.som_classmgr.proofs.Reached.{comes_there, number, ok_then}
use Rattle.som_classmgr.proofs.Reading.{declared_key}

lt_told : (a b : ℕ) → (nat_lt a b ≡ true) ↔ (a < b)
lt_told a b = (λ e. grind arith, λ lt. grind (arith, lt))

both_told : (a b : Bool) → (a && b) ≡ true → (a ≡ true) × (b ≡ true)
both_told true b e = (refl, e)
both_told false b e = absurd (true≢false (sym e))

and_told : (a b : Bool) → a ≡ true → b ≡ true → (a && b) ≡ true
and_told a b x y = rw (x, y) refl

-- tokens
pub token_told : (k : Numbering) (t : ℕ × ℕ) → (is_token k t ≡ true) ↔ IsToken k t
token_told k t = (
  (λ e. let b = both_told (nat_lt t.0 (length k.keys)) (nat_lt t.1 (length (names_of k t.0))) e in ((lt_told t.0 (length k.keys)).0 b.0, (lt_told t.1 (length (names_of k t.0))).0 b.1)),
  (λ is. and_told (nat_lt t.0 (length k.keys)) (nat_lt t.1 (length (names_of k t.0))) ((lt_told t.0 (length k.keys)).1 is.0) ((lt_told t.1 (length (names_of k t.0))).1 is.1)),
)

abbrev pub kind_in : Option Class → ℕ → ValueType
kind_in None n = types.Void
kind_in (Some c) n = kind_at c.decl.variables n

kind_there : (vs : List Variable) (i : ℕ) → i < length (types_of vs) → slice_get (types_of vs) i ≡ Some (kind_at vs i)
kind_there [] i lt = absurd (omega (arith, lt))
kind_there (v ∷ vs) zero lt = refl
kind_there (v ∷ vs) (suc i) lt = kind_there vs i (omega (arith, lt))

kind_known : (vs : List Variable) (i : ℕ) → is_void (kind_at vs i) ≡ false → i < length (types_of vs)
kind_known [] i e = absurd (true≢false e)
kind_known (v ∷ vs) zero e = omega arith
kind_known (v ∷ vs) (suc i) e = (let lt = kind_known vs i e in omega (arith, lt))

-- the zero values of variables in a list
pub zero_there : (vs : List Variable) (i : ℕ) (v : Variable) (z : Value) → i < length vs → v ≡ slice_index_or vs i v → z ≡ zero_of v.kind → z ≡ zero_of (kind_at vs i)
zero_there [] i v z lt is e = absurd (omega (arith, lt))
zero_there (x ∷ vs) zero v z lt is e = e ∙ ap (λ (y : Variable). zero_of y.kind) is
zero_there (x ∷ vs) (suc i) v z lt is e = zero_there vs i v z (omega (arith, lt)) is e

pub zero_past : (vs : List Variable) (i : ℕ) → length vs ≤ i → Nil ≡ zero_of (kind_at vs i)
zero_past [] i le = refl
zero_past (x ∷ vs) zero le = absurd (omega (arith, le))
zero_past (x ∷ vs) (suc i) le = zero_past vs i (omega (arith, le))

pub kind_declared : (k : Numbering) → AreLoaded k → (n : ℕ) (c : Class) → slice_get k.classes n ≡ Some c → (i : ℕ) → kind_at c.decl.variables i ≡ variable_type k.classes (key_at k n) i
kind_declared k l n c at i = (let e = found k l n c at in rw e refl)

pub kind_made : (k : Numbering) → AreLoaded k → (n : ℕ) → IsNumbered k n → length k.classes ≤ n → (i : ℕ) → Nil ≡ zero_of (variable_type k.classes (key_at k n) i)
kind_made k l n num le i = (let e = made_unknown k l n num le in rw e refl)

-- a place that is told
pub record IsPlace (cs : List Class) (x a : ClassKey) (i p : ℕ) : Type 0 where
  pub below : is_a cs x a ≡ true
  pub few : i < length (own_variables cs a)
  pub is : p ≡ place_in cs x a i

pub place_told : (cs : List Class) (x a : ClassKey) (i p : ℕ) → places_of cs x a i ≡ Some p → IsPlace cs x a i p
place_told cs x a i p e = by (is_a cs x a) refl (nat_lt i (length (own_variables cs a))) refl e
  where
    by : (b : Bool) → is_a cs x a ≡ b → (c : Bool) → nat_lt i (length (own_variables cs a)) ≡ c → (if b && c then Some (place_in cs x a i) else None) ≡ Some p → IsPlace cs x a i p
    by true below true few z = record { below = below; few = (lt_told i (length (own_variables cs a))).0 few; is = sym (same_Some _ _ z) }
    by true below false few z = absurd (cc)
    by false below c few z = absurd (cc)

pub place_there : (cs : List Class) (x a : ClassKey) (i : ℕ) → is_a cs x a ≡ true → i < length (own_variables cs a) → places_of cs x a i ≡ Some (place_in cs x a i)
place_there cs x a i below few = (let c = (lt_told i (length (own_variables cs a))).1 few in rw (below, c) refl)

module _ (k : Numbering) (l : AreLoaded k) where
  -- a class with variables of its own has a number
  pub numbered_own : (a : ClassKey) (i : ℕ) → i < length (own_variables k.classes a) → (n : ℕ) × IsNumbered k n × (key_at k n ≡ a)
  numbered_own a i lt = by (class_at k.classes a) refl
    where
      by : (o : Option Class) → class_at k.classes a ≡ o → (n : ℕ) × IsNumbered k n × (key_at k n ≡ a)
      by None e = absurd (let none : length (variables_in (class_at k.classes a)) ≡ 0 = ap (λ z. length (variables_in z)) e in omega (arith, none, lt))
      by (Some c) e =
          let f = standing.found_is l.others l.loads.faces.ordered a c (ap (λ (z : List Class). class_at z a) (sym l.is) ∙ e) in
          let i = mem_get k.classes c (subst (λ (z : List Class). Mem c z) (sym l.is) f.0) in
          (i.0, l.first.numbered i.0 c i.1, l.first.key i.0 c i.1 ∙ f.1)

  pub below_told : (x a : ClassKey) → is_a k.classes x a ≡ true → Descends (hierarchy k.classes) x a
  below_told x a e = (descends_test (hierarchy k.classes) (tells k l) (falls k l) x a).0 e

  -- two variables of an object have two places
  pub disjoint : (n : ℕ) → IsNumbered k n → (x : ClassKey) → key_at k n ≡ x → AreDisjoint (places_of k.classes x)
  disjoint n num x at a c i j p e f =
      let r = place_told k.classes x a i p e in
      let s = place_told k.classes x c j p f in
      let na = numbered_own a i r.few in
      let nc = numbered_own c j s.few in
      let few : i < length (own_variables k.classes (key_at k na.0)) = subst (λ z. i < length (own_variables k.classes z)) (sym na.2) r.few in
      let more : j < length (own_variables k.classes (key_at k nc.0)) = subst (λ z. j < length (own_variables k.classes z)) (sym nc.2) s.few in
      let below : Descends (hierarchy k.classes) (key_at k n) (key_at k na.0) = subst (λ z. Descends (hierarchy k.classes) z (key_at k na.0)) (sym at) (subst (λ z. Descends (hierarchy k.classes) x z) (sym na.2) (below_told x a r.below)) in
      let under : Descends (hierarchy k.classes) (key_at k n) (key_at k nc.0) = subst (λ z. Descends (hierarchy k.classes) z (key_at k nc.0)) (sym at) (subst (λ z. Descends (hierarchy k.classes) x z) (sym nc.2) (below_told x c s.below)) in
      let one : place_in k.classes (key_at k n) (key_at k na.0) i ≡ p = ap (λ z. place_in k.classes z (key_at k na.0) i) at ∙ ap (λ z. place_in k.classes x z i) na.2 ∙ sym r.is in
      let two : place_in k.classes (key_at k n) (key_at k nc.0) j ≡ p = ap (λ z. place_in k.classes z (key_at k nc.0) j) at ∙ ap (λ z. place_in k.classes x z j) nc.2 ∙ sym s.is in
      let same = places_differ k l n (nc.0, j) (na.0, i) (nc.1, more) (na.1, few) under below (two ∙ sym one) in
      (sym nc.2 ∙ ap (λ (z : ℕ × ℕ). key_at k z.0) same ∙ na.2, ap (λ (z : ℕ × ℕ). z.1) same)

  -- the type of a variable stands at its place
  pub typed_place : (n : ℕ) → IsNumbered k n → (a : ClassKey) (i p : ℕ) → places_of k.classes (key_at k n) a i ≡ Some p → slice_get (object_variables k.classes (key_at k n)) p ≡ Some (variable_type k.classes a i)
  typed_place n num a i p e =
      let r = place_told k.classes (key_at k n) a i p e in
      let na = numbered_own a i r.few in
      let few : i < length (own_variables k.classes (key_at k na.0)) = subst (λ z. i < length (own_variables k.classes z)) (sym na.2) r.few in
      let below : Descends (hierarchy k.classes) (key_at k n) (key_at k na.0) = subst (λ z. Descends (hierarchy k.classes) (key_at k n) z) (sym na.2) (below_told (key_at k n) a r.below) in
      let kind = place_kind k l n (na.0, i) (na.1, few) below in
      let at : p ≡ place_in k.classes (key_at k n) (key_at k na.0) i = r.is ∙ ap (λ z. place_in k.classes (key_at k n) z i) (sym na.2) in
      ap (slice_get (object_variables k.classes (key_at k n))) at ∙ kind ∙ ap (λ z. slice_get (own_variables k.classes z) i) na.2 ∙ own_kind a i r.few
    where
      own_kind : (a : ClassKey) (i : ℕ) → i < length (own_variables k.classes a) → slice_get (own_variables k.classes a) i ≡ Some (variable_type k.classes a i)
      own_kind a i lt = by (class_at k.classes a) refl
        where
          by : (o : Option Class) → class_at k.classes a ≡ o → slice_get (own_variables k.classes a) i ≡ Some (variable_type k.classes a i)
          by None e = absurd (let none : length (variables_in (class_at k.classes a)) ≡ 0 = ap (λ z. length (variables_in z)) e in omega (arith, none, lt))
          by (Some c) e = rw e (kind_there c.decl.variables i (subst (λ z. i < length (variables_in z)) e lt))

  -- a place of a variable is below their number
  pub place_low : (n : ℕ) → IsNumbered k n → (a : ClassKey) (i p : ℕ) → places_of k.classes (key_at k n) a i ≡ Some p → p < length (object_variables k.classes (key_at k n))
  place_low n num a i p e = slice_get_within (object_variables k.classes (key_at k n)) p (variable_type k.classes a i) (typed_place n num a i p e)

  -- a variable that has a type has a place in each object of a class below
  pub placed_variable : (n : ℕ) (a : ClassKey) (i : ℕ) → is_a k.classes (key_at k n) a ≡ true → is_void (variable_type k.classes a i) ≡ false → IsSome (places_of k.classes (key_at k n) a i)
  placed_variable n a i below typed = ap is_some (place_there k.classes (key_at k n) a i below (few (class_at k.classes a) refl))
    where
      few : (o : Option Class) → class_at k.classes a ≡ o → i < length (own_variables k.classes a)
      few None e = absurd (true≢false (let t : is_void (variable_type k.classes a i) ≡ true = ap (λ z. is_void (kind_in z i)) e in sym t ∙ typed))
      few (Some c) e = (let at : own_variables k.classes a ≡ types_of c.decl.variables = ap variables_in e in
          let lt = kind_known c.decl.variables i (sym (ap (λ z. is_void (kind_in z i)) e) ∙ typed) in let long = ap length at in omega (arith, lt, long))

target_told : (x : ClassKey) (count q : ℕ) → target_after x count ≡ Some q → q ≡ count
target_told x count q e = by (is_proxy x) e
  where
    by : (b : Bool) → (if b then Some count else None) ≡ Some q → q ≡ count
    by true z = sym (same_Some count q z)
    by false z = absurd (cc)

-- SOMClassMgr has the number 2
mgr_class : Class
mgr_class = class_in modules.Kernel (bare class_mgr_face)

pub key_2 : (k : Numbering) → AreLoaded k → key_at k 2 ≡ som_class_mgr
unfolding mgr_class
key_2 k l = l.first.key 2 mgr_class (ap (λ (z : List Class). slice_get z 2) l.is)

pub numbered_2 : (k : Numbering) → AreLoaded k → IsNumbered k 2
unfolding mgr_class
numbered_2 k l = l.first.numbered 2 mgr_class (ap (λ (z : List Class). slice_get z 2) l.is)

pub answers_are : (cs : List Class) → answers_of cs ≡ world cs
unfolding world
answers_are cs = refl

-- ---- which keys are made

pub made_told : (ks : List ClassKey) (ms : List Bool) (x : ClassKey) → is_made ks ms x ≡ true → (n : ℕ) × (n < length ks) × IsMarked ms n × (get_or ks n som_object ≡ x)
made_told [] ms x e = absurd (true≢false (sym e))
made_told (k ∷ ks) [] x e = absurd (true≢false (sym e))
made_told (k ∷ ks) (true ∷ ms) x e = by (λ z. made_told ks ms x z) (same_key k x) refl e
  where
    by : (is_made ks ms x ≡ true → (n : ℕ) × (n < length ks) × IsMarked ms n × (get_or ks n som_object ≡ x)) → (b : Bool) → same_key k x ≡ b → (if b then true else is_made ks ms x) ≡ true
        → (n : ℕ) × (n < length (k ∷ ks)) × IsMarked (true ∷ ms) n × (get_or (k ∷ ks) n som_object ≡ x)
    by later true same z = (0, omega arith, refl, exact_keys.two k x same)
    by later false same z = (let r = later z in (suc r.0, (let lt = r.1 in omega (arith, lt)), r.2, r.3))
made_told (k ∷ ks) (false ∷ ms) x e = (let r = made_told ks ms x e in (suc r.0, (let lt = r.1 in omega (arith, lt)), r.2, r.3))

pub made_there : (ks : List ClassKey) (ms : List Bool) (n : ℕ) → n < length ks → IsMarked ms n → is_made ks ms (get_or ks n som_object) ≡ true
made_there [] ms n lt m = absurd (omega (arith, lt))
made_there (k ∷ ks) [] n lt m = absurd (true≢false (sym m))
made_there (k ∷ ks) (true ∷ ms) zero lt m = (let one = exact_keys.one k in rw one refl)
made_there (k ∷ ks) (false ∷ ms) zero lt m = absurd (true≢false (sym m))
made_there (k ∷ ks) (b ∷ ms) (suc n) lt m = later (b && same_key k (get_or ks n som_object)) (made_there ks ms n (omega (arith, lt)) m)
  where
    later : (t : Bool) → is_made ks ms (get_or ks n som_object) ≡ true → (if t then true else is_made ks ms (get_or ks n som_object)) ≡ true
    later true e = refl
    later false e = e

-- ---- all that is asked speaks of the same classes

module _ (l : Linkage) (linked : IsLinked l) (loaded : AreLoaded l.classes) where
  abbrev ks : List ClassKey
  ks = l.classes.keys

  abbrev cs : List Class
  cs = l.classes.classes

  abbrev made : ClassKey → Bool
  made = is_made ks l.parts.made

  -- the number of what comes of a class that has one
  run_of : (n : ℕ) → IsNumbered l.classes n → IsMade cs l.main (key_at l.classes n)
  run_of n num = (linked.numbered (key_at l.classes n)).0 (at_mem ks n num)

  numbered_key : (x : ClassKey) → IsMade cs l.main x → (n : ℕ) × IsNumbered l.classes n × (key_at l.classes n ≡ x)
  numbered_key x m = mem_at ks x ((linked.numbered x).1 m)

  pub meta_numbered : (n : ℕ) → IsNumbered l.classes n → (m : ℕ) × IsNumbered l.classes m × (key_at l.classes m ≡ meta cs (key_at l.classes n))
  meta_numbered n num = numbered_key (meta cs (key_at l.classes n)) (metaclass (key_at l.classes n) (run_of n num))

  -- an ancestor of a class that has a number has one
  pub below_numbered : (x a : ClassKey) → Descends (hierarchy cs) x a → (n : ℕ) → IsNumbered l.classes n → key_at l.classes n ≡ x → (m : ℕ) × IsNumbered l.classes m × (key_at l.classes m ≡ a)
  below_numbered x a itself n num e = (n, num, e)
  below_numbered x a (by_parent p mem d) n num e =
      let above : Mem p (parents_of cs x) = subst (λ z. Mem p z) (hierarchy_parents cs x) mem in
      let r = numbered_key p (parent x p (subst (IsMade cs l.main) e (run_of n num)) above) in
      below_numbered p a d r.0 r.1 r.2

  pub not_below : (n : ℕ) (a : ClassKey) → IsNumbered l.classes n → ((m : ℕ) → IsNumbered l.classes m → key_at l.classes m ≡ a → ⊥) → is_a cs (key_at l.classes n) a ≡ false
  not_below n a num none = not_true (is_a cs (key_at l.classes n) a) (λ t. let r = below_numbered (key_at l.classes n) a (below_told l.classes loaded (key_at l.classes n) a t) n num refl in none r.0 r.1 r.2)

  pub made_number : (n : ℕ) → IsNumbered l.classes n → made (key_at l.classes n) ≡ true → IsMadeIn l n
  made_number n num t = (let r = made_told ks l.parts.made (key_at l.classes n) t in subst (IsMadeIn l) (loaded.apart r.0 n r.1 num r.3) r.2)

  pub number_made : (n : ℕ) → IsMadeIn l n → made (key_at l.classes n) ≡ true
  number_made n im = made_there ks l.parts.made n (number l linked n im) im

  pub linked_is : settings.IsLinked (linked_of l.classes)
  linked_is = record {
    apart = loaded.apart;
    variables = λ n num. disjoint l.classes loaded n num (key_at l.classes n) refl;
    target = λ n num c m p q e f same. (
        let lt = place_low l.classes loaded n num c m p e in
        let at = target_told (key_at l.classes n) (length (object_variables cs (key_at l.classes n))) q f in
        omega (arith, lt, at, same));
    statics = λ n num. (let m = meta_numbered n num in disjoint l.classes loaded m.0 m.1 (meta cs (key_at l.classes n)) m.2);
  }

  pub agree : Agree ks (answers_of cs) l.classes (linked_of l.classes)
  agree = record {
    numbers = refl;
    answers = answers_are cs;
    linked_numbers = refl;
    linked_answers = refl;
    tokens = token_told l.classes;
    methods = λ t. refl;
    first = λ n c e. (loaded.first.numbered n c e, loaded.first.key n c e);
    statics = λ n m num im e. ap (places_of cs) (sym e);
    places = λ n m i num im below typed. placed_variable l.classes loaded n (key_at l.classes m) i below typed;
    linked = linked_is;
  }

  pub can_load : CanLoad cs l.main
  can_load = record { others = linked.others; is = linked.is; loads = linked.loads }

  comes_made : (x y : ClassKey) → made x ≡ true → ComesOf cs (x ∷ []) y → made y ≡ true
  comes_made x y t d =
      let r = made_told ks l.parts.made x t in
      let s = comes_there l linked (x ∷ []) (λ z m. elim m [ inl e ↦ (r.0, r.2, r.3 ∙ sym e) | inr n ↦ absurd n ]) y d in
      subst (λ z. made z ≡ true) s.2 (number_made s.0 s.1)

  pub closed : IsClosed (answers_of cs) made
  closed = record {
    object = subst (λ z. made z ≡ true) (key_0 l.classes loaded) (number_made 0 (linked.kernel_made 0 (omega arith)));
    manager = subst (λ z. made z ≡ true) (key_2 l.classes loaded) (number_made 2 (linked.kernel_made 2 (omega arith)));
    parents = λ x p t m. comes_made x p t (parent x p (root x (inl refl)) m);
    meta = λ x t. comes_made x (meta cs x) t (metaclass x (root x (inl refl)));
  }

  pub have_numbers : HaveNumbers ks cs l.main made
  have_numbers = record {
    all = λ x m. numbered_key x m;
    numbered = λ x t. (let r = made_told ks l.parts.made x t in (r.0, r.1, r.3));
  }

-- ---- what reaching for a class changes

module _ (old new : Linkage) (same : new.classes ≡ old.classes) where
  moved : (n : ℕ) (x : ClassKey) → n < length old.classes.keys → get_or old.classes.keys n som_object ≡ x → IsMarked new.parts.made n → is_made new.classes.keys new.parts.made x ≡ true
  moved n x lt e m =
      subst (λ (k : Numbering). is_made k.keys new.parts.made x ≡ true) (sym same)
      (subst (λ z. is_made old.classes.keys new.parts.made z ≡ true) e (made_there old.classes.keys new.parts.made n lt m))

  pub still_made : ((n : ℕ) → IsMarked old.parts.made n → IsMarked new.parts.made n) → (x : ClassKey) → is_made old.classes.keys old.parts.made x ≡ true → is_made new.classes.keys new.parts.made x ≡ true
  still_made keeps x t = (let r = made_told old.classes.keys old.parts.made x t in moved r.0 x r.1 r.3 (keeps r.0 r.2))

  pub reached_made : {T E : Type 0} (r : Result T E) (class : ℕ) → IsNumbered old.classes class → OnOk r ((n : ℕ) → IsReached old.classes old.parts.made class n → IsMadeIn new n)
      → OnOk r (is_made new.classes.keys new.parts.made (key_at old.classes class) ≡ true)
  reached_made r class num ok = ok_then r (λ all. moved class (key_at old.classes class) num refl (all class (inr (num, root (key_at old.classes class) (inl refl))))) ok

  pub only_made : (class : ℕ) → ((n : ℕ) → IsMadeIn new n → IsReached old.classes old.parts.made class n) → (x : ClassKey) → is_made new.classes.keys new.parts.made x ≡ true
      → (is_made old.classes.keys old.parts.made x ≡ true) ⊎ ComesOf old.classes.classes (key_at old.classes class ∷ []) x
  only_made class only x t =
      let r = made_told old.classes.keys new.parts.made x (subst (λ (k : Numbering). is_made k.keys new.parts.made x ≡ true) same t) in
      elim (only r.0 r.2) [
        | inl o ↦ inl (subst (λ z. is_made old.classes.keys old.parts.made z ≡ true) r.3 (made_there old.classes.keys old.parts.made r.0 r.1 o))
        | inr h ↦ inr (subst (λ z. ComesOf old.classes.classes (key_at old.classes class ∷ []) z) r.3 h.1)
      ]

-- ---- proxies

abbrev proxy_layer : ClassKey-F ClassKey → Bool
proxy_layer (ClassKey-F.Named m name) = false
proxy_layer (ClassKey-F.Derived parents) = false
proxy_layer (ClassKey-F.Proxy of) = true

pub proxy_yes : (x of : ClassKey) → x ≡ keys.Proxy of → true ≡ is_proxy x
proxy_yes x of e = sym (ap is_proxy e ∙ ap proxy_layer (out_proxy of))

pub proxy_no : (k : Numbering) → AreLoaded k → (n : ℕ) (kind : Kind) → (kind ≡ kinds.Proxy → ⊥) → (kind ≡ kinds.Declared → n < length k.classes) → (kind ≡ kinds.Derived → key_at k n ≡ keys.Derived ((hierarchy k.classes).parents (key_at k n)))
    → false ≡ is_proxy (key_at k n)
proxy_no k l n kinds.Declared other declared derived =
    let c = some_class k.classes n (declared refl) in
    let d = declared_key k l n c.0 c.1 in
    sym (ap is_proxy d.is ∙ ap proxy_layer (out_named d.module_ d.name))
proxy_no k l n kinds.Derived other declared derived = sym (ap is_proxy (derived refl) ∙ ap proxy_layer (out_derived ((hierarchy k.classes).parents (key_at k n))))
proxy_no k l n kinds.Proxy other declared derived = absurd (other refl)

pub target_numbered : (k : Numbering) → AreLoaded k → (n : ℕ) (of : ClassKey) → IsNumbered k n → key_at k n ≡ keys.Proxy of → (m : ℕ) × IsNumbered k m × (key_at k m ≡ of)
target_numbered k l n of num e =
    let c = map_mem (λ (z : Class). z.key) of k.classes (l.targets n of num e) in
    let i = mem_get k.classes c.0 c.1 in
    (i.0, l.first.numbered i.0 c.0 i.1, l.first.key i.0 c.0 i.1 ∙ sym c.2)
