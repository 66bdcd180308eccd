-- All levels, class by class.
use Rattle.std.proofs.Common.{◌≡◌, ℕ, zero, suc, ◌+◌, ◌*◌, ◌<◌, ◌≤◌, inl, inr, List, [], ◌∷◌, ◌++◌, map, flat_map, drop, length, Some, None, slice_index_or, refl, sym, ap, ◌∙◌, subst, arith, append_assoc}
use Rattle.std.specs.Prelude.{Result, Ok, Err, IfOk}
use Rattle.std.proofs.lemmas.List.{map-append}
use Rattle.som_model.specs.declared.limits.TheConstants.{MAX_ENTRIES}
use Rattle.som_model.specs.declared.class.ClassFace.{ClassFace}
use Rattle.som_model.specs.declared.program.Interface.{Interface}
use Rattle.som_model.specs.Lists.{Mem, first}
use Rattle.som_model.specs.Class.{Class, bare, class_in}
use Rattle.som_model.specs.Kernel.{kernel}
use Rattle.som_model.specs.Compatible.{CompatBreach}
use Rattle.som_model_laws.proofs.Members.{mem_split}
use Rattle.som_model_laws.proofs.Lists.{map_mem}
use Rattle.som_compat.specs.Conditions.{IsCounted}
use Rattle.som_level_laws.specs.Levels.{CompatibleLevels, all_levels, breaks_from, classes_of_level, first_level_break, level_class_breaks, level_classes, level_module, levels_from}
use Rattle.som_level_laws.proofs.Breaks.{kept_none, none_kept}
use Rattle.som_release_laws.proofs.Along.{kept_itself}
use Rattle.som_verify_classes.specs.Modules.{module_of}
use Rattle.som_verify_classes.specs.Places.{class_of_place, nobody}
use Rattle.som_verify_classes.proofs.DeclaredClasses.{long_map, module_there}
use Rattle.som_compat_levels.specs.declared.breach.LevelFault.{LevelFault}
use Rattle.som_compat_levels.specs.Conditions.{AreComparable, AreLoadableLevels, IsWithinCounts}
use Rattle.som_compat_levels.specs.Pairs.{AreBegun, ArePaired}
use Rattle.som_compat_levels.specs.Standing.{AreStanding}
use Rattle.som_compat_levels.specs.Told.{TellsLevels, first_leveled, level_of, leveled_breaks}
use Rattle.som_compat.proofs.Ending.{passes, stops}
use Rattle.som_compat_levels.proofs.Failing.{first_mapped, nothing_mapped}
use Rattle.som_compat_levels.proofs.Lists.{drop_at}

-- breaches by level and by class

map_flat : {A B C : Type 0} (g : B → C) (f : A → List B) (xs : List A) → map g (flat_map f xs) ≡ flat_map (λ x. map g (f x)) xs
map_flat g f [] = refl
map_flat g f (x ∷ xs) = map-append g (f x) (flat_map f xs) ∙ ap (λ z. map g (f x) ++ z) (map_flat g f xs)

flat_both : {A B : Type 0} (f : A → List B) (xs ys : List A) → flat_map f (xs ++ ys) ≡ flat_map f xs ++ flat_map f ys
flat_both f [] ys = refl
flat_both f (x ∷ xs) ys = ap (λ z. f x ++ z) (flat_both f xs ys) ∙ sym (append_assoc (f x) (flat_map f xs) (flat_map f ys))

flat_on : {A B : Type 0} (f g : A → List B) (xs : List A) → ((a : A) → Mem a xs → f a ≡ g a) → flat_map f xs ≡ flat_map g xs
flat_on f g [] e = refl
flat_on f g (x ∷ xs) e = ap (λ z. z ++ flat_map f xs) (e x (inl refl)) ∙ ap (λ z. g x ++ z) (flat_on f g xs (λ a m. e a (inr m)))

level_is : (k : ℕ) → level_of (level_module k) ≡ k
level_is zero = refl
level_is (suc k) = refl

class_level : (k : ℕ) (i : Interface) (c : Class) → Mem c (classes_of_level k i) → level_of (module_of c) ≡ k
class_level k i c m =
    let r = map_mem (λ (f : ClassFace). class_in (level_module k) (bare f)) c i.classes m in
    ap (λ z. level_of (module_of z)) r.2 ∙ ap level_of (module_there (level_module k) (bare r.0)) ∙ level_is k

module _ (O N : List Class) where
  breaks_flat : (k : ℕ) (is : List Interface) → flat_map (leveled_breaks O N) (levels_from k is) ≡ breaks_from O N k is
  breaks_flat k [] = refl
  breaks_flat k (i ∷ is) =
      flat_both (leveled_breaks O N) (classes_of_level k i) (levels_from (suc k) is)
      ∙ ap (λ z. z ++ flat_map (leveled_breaks O N) (levels_from (suc k) is)) (
      flat_on (leveled_breaks O N) (λ c. map (λ (b : CompatBreach). (k, b)) (level_class_breaks O N c)) (classes_of_level k i) (λ c m. ap (λ (n : ℕ). map (λ (b : CompatBreach). (n, b)) (level_class_breaks O N c)) (class_level k i c m))
      ∙ sym (map_flat (λ (b : CompatBreach). (k, b)) (level_class_breaks O N) (classes_of_level k i)))
      ∙ ap (λ z. map (λ (b : CompatBreach). (k, b)) (flat_map (level_class_breaks O N) (classes_of_level k i)) ++ z) (breaks_flat (suc k) is)

pub first_is : (olds news : List Interface) (O N : List Class) → O ≡ all_levels olds → N ≡ all_levels news → first_leveled O N ≡ first_level_break olds news
first_is olds news O N e f =
    ap (λ z. first_leveled z N) e ∙ ap (λ z. first_leveled (all_levels olds) z) f
    ∙ ap first (breaks_flat (all_levels olds) (all_levels news) 0 olds)

-- levels that can be loaded can stand

few_classes : (k : ℕ) (is : List Interface) → ((i : Interface) → Mem i is → IsWithinCounts i) → length (levels_from k is) ≤ length is * 4096
few_classes k [] f = omega arith
few_classes k (i ∷ is) f =
    let here = (f i (inl refl)).classes in
    let long = long_map (λ (z : ClassFace). class_in (level_module k) (bare z)) i.classes in
    let rest = few_classes (suc k) is (λ j m. f j (inr m)) in
    let sum = long_both (classes_of_level k i) (levels_from (suc k) is) in
    omega (arith, here, long, rest, sum)
  where
    long_both : {A : Type 0} (xs ys : List A) → length (xs ++ ys) ≡ length xs + length ys
    long_both [] ys = omega arith
    long_both (x ∷ xs) ys = let e = long_both xs ys in omega (arith, e)

all_mem : (fs : List ClassFace) → ((k : ℕ) (d : ClassFace) → k < length fs → IsCounted (slice_index_or fs k d)) → (f : ClassFace) → Mem f fs → IsCounted f
all_mem [] all f m = absurd m
all_mem (x ∷ fs) all f (inl e) = subst IsCounted (sym e) (all 0 x (omega arith))
all_mem (x ∷ fs) all f (inr m) = all_mem fs (λ k d lt. all (suc k) d (omega arith)) f m

counted : (k : ℕ) (is : List Interface) → ((i : Interface) → Mem i is → IsWithinCounts i) → (c : Class) → Mem c (levels_from k is) → IsCounted c.decl.face
counted k [] f c m = absurd m
counted k (i ∷ is) f c m = elim (mem_split c (classes_of_level k i) (levels_from (suc k) is) m) [
  | inl h ↦ (
      let r = map_mem (λ (z : ClassFace). class_in (level_module k) (bare z)) c i.classes h in
      subst (λ (z : Class). IsCounted z.decl.face) (sym r.2) (all_mem i.classes (f i (inl refl)).counts r.0 r.1))
  | inr h ↦ counted (suc k) is (λ j n. f j (inr n)) c h
]

few_kernel : (c : Class) → Mem c kernel → length c.decl.face.entries ≤ MAX_ENTRIES
few_kernel c (inl e) = subst (λ (z : Class). length z.decl.face.entries ≤ MAX_ENTRIES) (sym e) (omega arith)
few_kernel c (inr (inl e)) = subst (λ (z : Class). length z.decl.face.entries ≤ MAX_ENTRIES) (sym e) (omega arith)
few_kernel c (inr (inr (inl e))) = subst (λ (z : Class). length z.decl.face.entries ≤ MAX_ENTRIES) (sym e) (omega arith)
few_kernel c (inr (inr (inr (inl e)))) = subst (λ (z : Class). length z.decl.face.entries ≤ MAX_ENTRIES) (sym e) (omega arith)
few_kernel c (inr (inr (inr (inr m)))) = absurd m

pub standing : (is : List Interface) (cs : List Class) → AreLoadableLevels is → cs ≡ all_levels is → AreStanding cs
standing is cs l e = subst AreStanding (sym e) (record {
  own = level_classes is;
  are = refl;
  load = l.faces;
  parents = λ c m. (counted 0 is l.counts c m).some;
  few = let n = few_classes 0 is l.counts in let f = l.few in omega (arith, n, f);
  counted = λ c m. elim (mem_split c kernel (level_classes is) m) [
    | inl k ↦ few_kernel c k
    | inr k ↦ (counted 0 is l.counts c k).entries
  ];
})

pub kept_levels : (olds news : List Interface) (r : Result (Unit {0}) LevelFault) → AreComparable olds news → TellsLevels (first_level_break olds news) r → IfOk r (λ _. CompatibleLevels olds news)
kept_levels olds news (Ok u) c t = none_kept olds news c.old.faces.ordered c.new.faces.ordered t
kept_levels olds news (Err e) c t = tt

-- the kernel's classes are pairs

module _ (O N : List Class) (so : AreStanding O) (sn : AreStanding N) where
  kernel_pairs : (p : ℕ) → p < 4 → (p < length N) × (class_of_place N p ≡ class_of_place O p)
  kernel_pairs = subst (λ z. (p : ℕ) → p < 4 → (p < length N) × (class_of_place N p ≡ class_of_place z p)) (sym so.are)
      (subst (λ z. (p : ℕ) → p < 4 → (p < length z) × (class_of_place z p ≡ class_of_place (kernel ++ so.own) p)) (sym sn.are) same)
    where
      same : (p : ℕ) → p < 4 → (p < length (kernel ++ sn.own)) × (class_of_place (kernel ++ sn.own) p ≡ class_of_place (kernel ++ so.own) p)
      same zero lt = (omega arith, refl)
      same (suc zero) lt = (omega arith, refl)
      same (suc (suc zero)) lt = (omega arith, refl)
      same (suc (suc (suc zero))) lt = (omega arith, refl)
      same (suc (suc (suc (suc p)))) lt = absurd (omega arith)

  pub first_pairs : (pairs : List ℕ) → length pairs ≡ length O → ((p : ℕ) → p < length O → slice_index_or pairs p 0 ≡ p) → 4 ≤ length O → ArePaired O N 4 pairs
  first_pairs pairs long by four = record {
    long = long;
    by = λ p lt. (let r = kernel_pairs p lt in rw (by p (omega (arith, lt, four))) (record { within = r.0; same = ap (λ (z : Class). z.key) r.1 }));
  }

  pub first_begun : (pairs : List ℕ) → ((p : ℕ) → p < length O → slice_index_or pairs p 0 ≡ p) → 4 ≤ length O → AreBegun O N 4 pairs
  first_begun pairs by four p lt i name at = let r = kernel_pairs p lt in rw (by p (omega (arith, lt, four)), r.1) at

pub four_classes : (cs : List Class) → AreStanding cs → 4 ≤ length cs
four_classes cs s = subst (λ z. 4 ≤ length z) (sym s.are) (omega arith)

-- one class more

empty : {A : Type 0} (xs : List A) → None ≡ first xs → xs ≡ []
empty [] e = refl
empty (x ∷ xs) e = absurd (cc)

module _ (O N : List Class) (i level : ℕ) (lt : i < length O) (level_at : level ≡ level_of (module_of (class_of_place O i))) where
  abbrev at : Class
  at = class_of_place O i

  abbrev with_level : CompatBreach → ℕ × CompatBreach
  with_level b = (level_of (module_of at), b)

  split : flat_map (leveled_breaks O N) (drop i O) ≡ leveled_breaks O N at ++ flat_map (leveled_breaks O N) (drop (i + 1) O)
  split = ap (flat_map (leveled_breaks O N)) (drop_at O i nobody lt)

  pub class_passes : None ≡ first (level_class_breaks O N at) → first (flat_map (leveled_breaks O N) (drop (i + 1) O)) ≡ first (flat_map (leveled_breaks O N) (drop i O))
  class_passes e =
      passes (leveled_breaks O N at) (flat_map (leveled_breaks O N) (drop (i + 1) O)) (first (flat_map (leveled_breaks O N) (drop (i + 1) O)))
      (sym (nothing_mapped with_level (level_class_breaks O N at) (empty (level_class_breaks O N at) e))) refl
      ∙ ap first (sym split)

  pub class_stops : (b : CompatBreach) → Some b ≡ first (level_class_breaks O N at) → Some (level, b) ≡ first (flat_map (leveled_breaks O N) (drop i O))
  class_stops b e =
      ap (λ (z : ℕ). Some (z, b)) level_at
      ∙ stops (leveled_breaks O N at) (flat_map (leveled_breaks O N) (drop (i + 1) O)) (with_level b) (sym (first_mapped with_level (level_class_breaks O N at) b (sym e)))
      ∙ ap first (sym split)

-- levels that are the same keep all
pub same_keep : (olds news : List Interface) → AreComparable olds news → olds ≡ news → (first_level_break olds news ≡ None) × CompatibleLevels olds news
same_keep olds news c e =
    let kept : CompatibleLevels olds olds = kept_itself (level_classes olds) c.old.faces in
    subst (λ (z : List Interface). (first_level_break olds z ≡ None) × CompatibleLevels olds z) e
    (kept_none olds olds c.old.faces.ordered c.old.faces.ordered kept, kept)
