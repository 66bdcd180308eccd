-- The search for a class by its name alone, module by module.
use Rattle.std.proofs.Common.{◌≡◌, ℕ, zero, suc, ◌+◌, ◌-◌, ◌<◌, ◌≤◌, true, false, List, [], ◌∷◌, ◌++◌, length, drop, get_or, max, slice_get, Option, Some, None, is_some, refl, sym, ap, ◌∙◌, subst, arith}
use Rattle.std.specs.Option.{IfNone, IfSome, option_map}
use Rattle.som_model.specs.declared.key.Module.{Module}
use Rattle.som_model.specs.declared.key.Module.TheVariants as modules
use Rattle.som_model.specs.declared.key.ClassKey.{ClassKey, out-ClassKey}
use Rattle.som_model.specs.declared.key.ClassKey.TheVariants as keys
use Rattle.som_model.specs.Lists.{Mem, first_some, or_else}
use Rattle.som_model.specs.Keys.{same_key}
use Rattle.som_model.specs.Class.{Class}
use Rattle.som_model.specs.Classes.{class_at}
use Rattle.som_model.specs.Loads.{keys_of}
use Rattle.som_semantics.specs.World.{named_class}
use Rattle.som_model.proofs.KeyLaws.{exact_keys}
use Rattle.som_model_laws.proofs.Lists.{find_mem, get_mem, mem_map}
use Rattle.som_class_ids.specs.declared.keyed.Keyed.{Keyed}
use Rattle.som_class_ids.specs.Classes.{AreDeclared, class_of, classes_of}
use Rattle.som_class_ids.specs.Levels.{found_in, highest_of, key_if, level_in, levels_down}
use Rattle.som_class_ids.specs.declared.position.Position.{Position}
use Rattle.som_class_ids.specs.Numbers.{IsNumbers, at, keys_by}
use Rattle.som_class_ids.proofs.Declaring.{class_get, classes_length, found, found_number, key_is, not_found}
use Rattle.som_class_ids.proofs.Numbered.{declared_key}

first_both : {A B : Type 0} (f : A → Option B) (xs ys : List A) → first_some f (xs ++ ys) ≡ or_else (first_some f xs) (first_some f ys)
first_both f [] ys = refl
first_both {A} {B} f (x ∷ xs) ys = by (f x) (first_both f xs ys)
  where
    by : (o : Option B) → first_some f (xs ++ ys) ≡ or_else (first_some f xs) (first_some f ys) → or_else o (first_some f (xs ++ ys)) ≡ or_else (or_else o (first_some f xs)) (first_some f ys)
    by None so = so
    by (Some b) so = refl

-- module by module
module _ (cs : List Class) (name : List ℕ) where
  abbrev f : Module → Option ClassKey
  f = found_in cs name

  searched_so : named_class cs name ≡ first_some (found_in cs name) (modules.Client ∷ levels_down (highest_of cs) ++ modules.Library ∷ modules.Kernel ∷ [])
  searched_so = refl

  named_by : named_class cs name ≡ or_else (or_else (found_in cs name modules.Client) (first_some (found_in cs name) (levels_down (highest_of cs)))) (or_else (found_in cs name modules.Library) (or_else (found_in cs name modules.Kernel) None))
  named_by = searched_so ∙ first_both (found_in cs name) (modules.Client ∷ levels_down (highest_of cs)) (modules.Library ∷ modules.Kernel ∷ [])

taken : {K : Type 0} (key : ℕ → K) (o : Option ℕ) (q rest : Option K) → is_some o ≡ true → option_map key o ≡ q → option_map key o ≡ or_else q rest
taken key None q rest t e = absurd (cc)
taken key (Some n) q rest t e = subst (λ z. Some (key n) ≡ or_else z rest) e refl

passed : {K : Type 0} (key : ℕ → K) (o : Option ℕ) (q rest : Option K) → is_some o ≡ false → option_map key o ≡ q → or_else q rest ≡ rest
passed key None q rest t e = subst (λ z. or_else z rest ≡ rest) e refl
passed key (Some n) q rest t e = absurd (cc)

or_none : {K : Type 0} (o : Option K) → or_else o None ≡ o
or_none None = refl
or_none (Some x) = refl

module _ (cs : List Class) (name : List ℕ) (key : ℕ → ClassKey) (client upper library own : Option ℕ) (client_so : option_map key client ≡ found_in cs name modules.Client) where
  abbrev later : Option ClassKey
  later = or_else (found_in cs name modules.Library) (or_else (found_in cs name modules.Kernel) None)

  abbrev levels : Option ClassKey
  levels = first_some (found_in cs name) (levels_down (highest_of cs))

  pub in_client : is_some client ≡ true → option_map key client ≡ named_class cs name
  in_client t = taken key client (or_else (found_in cs name modules.Client) levels) later t (taken key client (found_in cs name modules.Client) levels t client_so) ∙ sym (named_by cs name)

  module _ (not_client : is_some client ≡ false) (upper_so : option_map key upper ≡ first_some (found_in cs name) (levels_down (highest_of cs))) where
    pub in_upper : is_some upper ≡ true → option_map key upper ≡ named_class cs name
    in_upper t = taken key upper (or_else (found_in cs name modules.Client) levels) later t (upper_so ∙ sym (passed key client (found_in cs name modules.Client) levels not_client client_so)) ∙ sym (named_by cs name)

    module _ (not_upper : is_some upper ≡ false) (library_so : option_map key library ≡ found_in cs name modules.Library) where
      past : named_class cs name ≡ or_else (found_in cs name modules.Library) (or_else (found_in cs name modules.Kernel) None)
      past = named_by cs name ∙ ap (λ o. or_else o later) (passed key client (found_in cs name modules.Client) levels not_client client_so) ∙ passed key upper levels later not_upper upper_so

      pub in_library : is_some library ≡ true → option_map key library ≡ named_class cs name
      in_library t = taken key library (found_in cs name modules.Library) (or_else (found_in cs name modules.Kernel) None) t library_so ∙ sym past

      pub in_kernel : is_some library ≡ false → option_map key own ≡ found_in cs name modules.Kernel → option_map key own ≡ named_class cs name
      in_kernel t own_so = own_so ∙ sym (or_none (found_in cs name modules.Kernel)) ∙ sym (passed key library (found_in cs name modules.Library) (or_else (found_in cs name modules.Kernel) None) t library_so) ∙ sym past

-- level by level

levels_step : (n : ℕ) → (n ≡ 0 → ⊥) → levels_down n ≡ modules.Upper n ∷ levels_down (n - 1)
levels_step zero ne = absurd (ne refl)
levels_step (suc n) ne = let e : suc n - 1 ≡ n = omega arith in ap (λ z. modules.Upper (suc n) ∷ levels_down z) (sym e)

module _ (cs : List Class) (name : List ℕ) (n : ℕ) (some_level : n ≡ 0 → ⊥) where
  pub at_level : (k : ClassKey) → Some k ≡ found_in cs name (modules.Upper n) → Some k ≡ first_some (found_in cs name) (levels_down n)
  at_level k e = ap (λ o. or_else o (first_some (found_in cs name) (levels_down (n - 1)))) e ∙ ap (first_some (found_in cs name)) (sym (levels_step n some_level))

  pub below_level : (o : Option ClassKey) → None ≡ found_in cs name (modules.Upper n) → o ≡ first_some (found_in cs name) (levels_down (n - 1)) → o ≡ first_some (found_in cs name) (levels_down n)
  below_level o none e = e ∙ ap (λ q. or_else q (first_some (found_in cs name) (levels_down (n - 1)))) none ∙ ap (first_some (found_in cs name)) (sym (levels_step n some_level))

-- the class of a name in a module

module _ (ks : List Keyed) (d : AreDeclared (classes_of ks)) (home : Module) (name : List ℕ) where
  pub in_within : (o : Option ℕ) → IfSome o (λ n. (k : Keyed) × (slice_get ks n ≡ Some k) × (same_key k.key (keys.Named home name) ≡ true)) → IfSome o (λ n. n < length ks)
  in_within None h = h
  in_within (Some n) h = (found_number ks n h.0 (keys.Named home name) h.1 h.2).0

  none_at : (Mem (keys.Named home name) (keys_of (classes_of ks)) → ⊥) → (o : Option Class) → class_at (classes_of ks) (keys.Named home name) ≡ o → None ≡ key_if o
  none_at none None e = refl
  none_at none (Some c) e =
      let r = find_mem _ (classes_of ks) c e in
      absurd (none (subst (λ z. Mem z (keys_of (classes_of ks))) (exact_keys.two c.key (keys.Named home name) r.1) (mem_map (λ (z : Class). z.key) c (classes_of ks) r.0)))

  pub in_key : (o : Option ℕ) → IfSome o (λ n. (k : Keyed) × (slice_get ks n ≡ Some k) × (same_key k.key (keys.Named home name) ≡ true))
      → IfNone o ((n : ℕ) (k : Keyed) → slice_get ks n ≡ Some k → k.decl.face.name ≡ name → same_key k.key (keys.Named home name) ≡ true → ⊥)
      → option_map (at (keys_of (classes_of ks))) o ≡ found_in (classes_of ks) name home
  in_key None h none = none_at (not_found ks d home name none) (class_at (classes_of ks) (keys.Named home name)) refl
  in_key (Some n) h none =
      let is = class_get ks n h.0 h.1 in
      let so = found (classes_of ks) d (class_of h.0) (keys.Named home name) (get_mem (classes_of ks) n (class_of h.0) is) (exact_keys.two h.0.key (keys.Named home name) h.2) in
      ap (λ k. Some k) (key_is (classes_of ks) n (class_of h.0) is) ∙ sym (ap key_if so)

-- the highest level

max_joined : (a b c : ℕ) → max (max a b) c ≡ max a (max b c)
max_joined a b c = omega arith

max_none : (a : ℕ) → max a 0 ≡ a
max_none a = omega arith

pub higher_more : (ks : List Keyed) (i : ℕ) (k : Keyed) (r whole : ℕ) → i < length ks → k ≡ get_or ks i k → max r (highest_of (classes_of (drop i ks))) ≡ whole
    → max (max r (level_in (out-ClassKey k.key))) (highest_of (classes_of (drop (i + 1) ks))) ≡ whole
higher_more [] i k r whole lt is e = absurd (omega (arith, lt))
higher_more (d ∷ ks) zero k r whole lt is e =
    max_joined r (level_in (out-ClassKey k.key)) (highest_of (classes_of ks)) ∙ ap (λ (z : Keyed). max r (max (level_in (out-ClassKey z.key)) (highest_of (classes_of ks)))) is ∙ e
higher_more (d ∷ ks) (suc i) k r whole lt is e =
    let s : suc i + 1 ≡ suc (i + 1) = omega arith in
    ap (λ j. max (max r (level_in (out-ClassKey k.key))) (highest_of (classes_of (drop j (d ∷ ks))))) s ∙ higher_more ks i k r whole (omega (arith, lt)) is e

drop_none : (j : ℕ) → drop {A = Keyed} j [] ≡ []
drop_none zero = refl
drop_none (suc j) = refl

pub higher_all : (ks : List Keyed) (i r whole : ℕ) → length ks ≤ i → max r (highest_of (classes_of (drop i ks))) ≡ whole → r ≡ whole
higher_all [] i r whole le e = sym (ap (λ l. max r (highest_of (classes_of l))) (drop_none i) ∙ max_none r) ∙ e
higher_all (d ∷ ks) zero r whole le e = absurd (omega (arith, le))
higher_all (d ∷ ks) (suc i) r whole le e = higher_all ks i r whole (omega (arith, le)) e

-- what is declared has the same key among all numbers
module _ (kl : List Keyed) (ps : List Position) (ok : IsNumbers (classes_of kl) ps) where
  pub within_kept : (o : Option ℕ) → IfSome o (λ n. n < length kl) → IfSome o (λ n. n < length (classes_of kl))
  within_kept None h = h
  within_kept (Some n) h = omega (arith, h, classes_length kl)

  pub keys_kept : (o : Option ℕ) → IfSome o (λ n. n < length kl) → option_map (at (keys_by (classes_of kl) ps)) o ≡ option_map (at (keys_of (classes_of kl))) o
  keys_kept None h = refl
  keys_kept (Some n) h = ap (λ k. Some k) (declared_key kl ps ok n h)

  pub number_kept : (key : ClassKey) (o : Option ℕ) → IfSome o (λ n. (n < length kl) × (at (keys_of (classes_of kl)) n ≡ key)) → IfSome o (λ n. (n < length (classes_of kl)) × (at (keys_by (classes_of kl) ps) n ≡ key))
  number_kept key None h = h
  number_kept key (Some n) h = (let lt = h.0 in omega (arith, lt, classes_length kl), declared_key kl ps ok n h.0 ∙ h.1)
