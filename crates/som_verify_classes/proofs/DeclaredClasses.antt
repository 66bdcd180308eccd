-- Declared classes as the classes that they are.
use Rattle.std.proofs.Common.{◌≡◌, ℕ, zero, suc, ◌+◌, ◌<◌, inl, inr, List, [], ◌∷◌, length, map, take, drop, slice_get, slice_index_or, Some, refl, sym, ap, subst, arith}
use Rattle.som_model.specs.Lists.{Mem}
use Rattle.som_model.specs.Class.{Class, bare, class_in}
use Rattle.som_model.specs.Rules.{name_of}
use Rattle.som_model.specs.declared.key.Module.{Module}
use Rattle.som_model.specs.declared.key.ClassKey.TheVariants as keys
use Rattle.som_model.specs.declared.class.ClassDecl.{ClassDecl}
use Rattle.som_model.specs.declared.class.ClassFace.{ClassFace}
use Rattle.som_model.proofs.NamedLaws.{out_named}
use Rattle.som_verify_classes.specs.declared.types.Declared.{Declared}
use Rattle.som_verify_classes.specs.Modules.{class_of, classes_of, module_in, module_of, AreDeclared}
use Rattle.som_verify_classes.specs.Places.{with_kernel}

pub long_map : {A B : Type 0} (f : A → B) (xs : List A) → length (map f xs) ≡ length xs
long_map f [] = refl
long_map f (x ∷ xs) = ap suc (long_map f xs)

pub module_there : (m : Module) (d : ClassDecl) → module_of (class_in m d) ≡ m
module_there m d = ap module_in (out_named m d.face.name)

-- the key of a declared class is its module and its name
pub declared_in : (m : Module) (d : ClassDecl) → (class_in m d).key ≡ keys.Named (module_of (class_in m d)) (name_of (class_in m d))
declared_in m d = ap (λ z. keys.Named z d.face.name) (sym (module_there m d))

pub map_declared : (m : Module) (ds : List ClassDecl) → AreDeclared (map (class_in m) ds)
map_declared m ds = record { by = each ds }
  where
    each : (ds : List ClassDecl) (c : Class) → Mem c (map (class_in m) ds) → c.key ≡ keys.Named (module_of c) (name_of c)
    each [] c n = absurd n
    each (d ∷ ds) c (inl e) = subst (λ (z : Class). z.key ≡ keys.Named (module_of z) (name_of z)) (sym e) (declared_in m d)
    each (d ∷ ds) c (inr n) = each ds c n

pub faces_declared : (m : Module) (fs : List ClassFace) → AreDeclared (map (λ f. class_in m (bare f)) fs)
faces_declared m fs = record { by = each fs }
  where
    each : (fs : List ClassFace) (c : Class) → Mem c (map (λ f. class_in m (bare f)) fs) → c.key ≡ keys.Named (module_of c) (name_of c)
    each [] c n = absurd n
    each (f ∷ fs) c (inl e) = subst (λ (z : Class). z.key ≡ keys.Named (module_of z) (name_of z)) (sym e) (declared_in m (bare f))
    each (f ∷ fs) c (inr n) = each fs c n

pub are_declared : (ds : List Declared) → AreDeclared (classes_of ds)
are_declared ds = record { by = each ds }
  where
    each : (ds : List Declared) (c : Class) → Mem c (classes_of ds) → c.key ≡ keys.Named (module_of c) (name_of c)
    each [] c n = absurd n
    each (d ∷ ds) c (inl e) = subst (λ (z : Class). z.key ≡ keys.Named (module_of z) (name_of z)) (sym e) (declared_in d.module d.decl.now)
    each (d ∷ ds) c (inr n) = each ds c n

-- the class at a place
pub item_of : (ds : List Declared) (i : ℕ) (d : Declared) → i < length ds → class_of (slice_index_or ds i d) ≡ slice_index_or (classes_of ds) i (class_of d)
item_of [] i d lt = absurd (omega arith)
item_of (x ∷ ds) zero d lt = refl
item_of (x ∷ ds) (suc i) d lt = item_of ds i d (omega arith)

pub at_of : (ds : List Declared) (i : ℕ) (d : Declared) → slice_get ds i ≡ Some d → slice_get (classes_of ds) i ≡ Some (class_of d)
at_of [] i d e = absurd (cc)
at_of (x ∷ ds) zero d e = let same : x ≡ d = cc in ap (λ z. Some (class_of z)) same
at_of (x ∷ ds) (suc i) d e = at_of ds i d e

-- the class of an item
pub item_at : (ds : List Declared) (i : ℕ) (d : Declared) → i < length ds → d ≡ slice_index_or ds i d → slice_get (classes_of ds) i ≡ Some (class_of d)
item_at [] i d lt is = absurd (omega arith)
item_at (x ∷ ds) zero d lt is = ap (λ z. Some (class_of z)) (sym is)
item_at (x ∷ ds) (suc i) d lt is = item_at ds i d (omega arith) is

pub take_map : {A B : Type 0} (f : A → B) (xs : List A) (i : ℕ) → take i (map f xs) ≡ map f (take i xs)
take_map f xs zero = refl
take_map f [] (suc i) = refl
take_map f (x ∷ xs) (suc i) = ap (λ z. f x ∷ z) (take_map f xs i)

pub drop_map : {A B : Type 0} (f : A → B) (xs : List A) (i : ℕ) → drop i (map f xs) ≡ map f (drop i xs)
drop_map f xs zero = refl
drop_map f [] (suc i) = refl
drop_map f (x ∷ xs) (suc i) = drop_map f xs i

-- the number of all classes
pub known_number : (ds : List Declared) → length ds + 4 ≡ length (with_kernel (classes_of ds))
known_number ds = omega (arith, long_map class_of ds)
