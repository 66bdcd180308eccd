-- What is told of a level is told of one of those that there are.
use Rattle.std.proofs.Common.{◌≡◌, ◌⊎◌, inl, inr, ℕ, zero, suc, ◌+◌, ◌<◌, ◌≤◌, List, [], ◌∷◌, ◌++◌, drop, length, map, flat_map, slice_get, Option, Some, None, refl, sym, ap, ◌∙◌, arith}
use Rattle.std.proofs.lemmas.List.{length-map}
use Rattle.som_model.specs.declared.class.ClassFace.{ClassFace}
use Rattle.som_model.specs.declared.program.Interface.{Interface}
use Rattle.som_model.specs.declared.program.Release.{Release}
use Rattle.som_model.specs.Class.{Class, bare, class_in, interface_of}
use Rattle.som_model.specs.Compatible.{CompatBreach, release_of}
use Rattle.som_model.specs.Kernel.{kernel}
use Rattle.som_model.specs.Lists.{Mem, first, or_else}
use Rattle.som_model.specs.Rules.{RuleBreach, s1, s8}
use Rattle.som_model_laws.proofs.Lists.{flat_mem, map_mem}
use Rattle.som_model_laws.proofs.Members.{mem_split}
use Rattle.som_rekey_laws.specs.Rekeying.{rekey_class, rekey_face}
use Rattle.som_verify_classes.specs.Modules.{module_of}
use Rattle.som_verify_classes.proofs.DeclaredClasses.{module_there}
use Rattle.som_level_laws.specs.Levels.{classes_of_level, first_level_break, level_classes, level_module, levels_from}
use Rattle.som_level_programs.specs.ByLevels.{level_change, levels_below, split}
use Rattle.som_level_programs.specs.Towers.{LevelProgram, own_interface}
use Rattle.som_compat_levels.specs.Told.{level_of}
use Rattle.som_flat_laws.specs.Flat.{flat_interface, flat_module}
use Rattle.som_flat_laws.proofs.Lists.{first_mem}
use Rattle.som_flat.specs.Breaches.{at_level, flat_breach, introduced_again, named_again}
use Rattle.som_towerimage.specs.declared.level.Level.{Level}
use Rattle.som_tower.specs.Towers.{AreLibraries, plain, tower_break}

-- ---- classes of levels

module_level : (k : ℕ) → level_of (level_module k) ≡ k
module_level zero = refl
module_level (suc k) = refl

class_level : (k : ℕ) (i : Interface) (c : Class) → Mem c (classes_of_level k i) → level_of (module_of c) ≡ k
class_level k i c m =
    let r = map_mem (λ (f : ClassFace). class_in (level_module k) (bare f)) c i.classes m in
    ap (λ (z : Class). level_of (module_of z)) r.2 ∙ ap level_of (module_there (level_module k) (bare r.0)) ∙ module_level k

level_bound : (k : ℕ) (is : List Interface) (c : Class) → Mem c (levels_from k is) → level_of (module_of c) < k + length is
level_bound k [] c m = absurd m
level_bound k (i ∷ is) c m = elim (mem_split c (classes_of_level k i) (levels_from (suc k) is) m) [
  | inl here ↦ (let e = class_level k i c here in omega (arith, e))
  | inr more ↦ (let rest = level_bound (suc k) is c more in omega (arith, rest))
]

-- ---- the flat interface

-- what is told is told of one of these classes
abbrev Teller : List Class → ℕ × RuleBreach → Type 0
Teller cs p = (c : Class) × Mem c cs × (p.0 ≡ level_of (module_of c))

at_class : (c : Class) (bs : List RuleBreach) (p : ℕ × RuleBreach) → Mem p (at_level c bs) → p.0 ≡ level_of (module_of c)
at_class c bs p m = let r = map_mem (λ (b : RuleBreach). (level_of (module_of c), b)) p bs m in ap (λ (z : ℕ × RuleBreach). z.0) r.2

again_teller : (before cs : List Class) (p : ℕ × RuleBreach) → Mem p (named_again before cs) → Teller cs p
again_teller before [] p m = absurd m
again_teller before (c ∷ cs) p m = elim (mem_split p (at_level c (s1 before c)) (named_again (before ++ c ∷ []) cs) m) [
  | inl here ↦ (c, inl refl, at_class c (s1 before c) p here)
  | inr more ↦ (let t = again_teller (before ++ c ∷ []) cs p more in (t.0, inr t.1, t.2))
]

either : {A : Type 0} (a b : Option A) (x : A) → or_else a b ≡ Some x → (a ≡ Some x) ⊎ (b ≡ Some x)
either None b x e = inr e
either (Some y) b x e = inl e

teller : (is : List Interface) (p : ℕ × RuleBreach) → flat_breach is ≡ Some p → Teller (level_classes is) p
teller is p e = elim (either (first (named_again kernel (level_classes is))) (first (flat_map (introduced_again is) (level_classes is))) p e) [
  | inl names ↦ again_teller kernel (level_classes is) p (first_mem (named_again kernel (level_classes is)) p names)
  | inr members ↦ (let c = flat_mem (introduced_again is) p (level_classes is) (first_mem (flat_map (introduced_again is) (level_classes is)) p members) in
      (c.0, c.1, at_class c.0 (s8 (release_of (flat_interface is)) (rekey_class flat_module c.0)) p c.2))
]

pub flat_level : (is : List Interface) (level : ℕ) (b : RuleBreach) → flat_breach is ≡ Some (level, b) → level < length is
flat_level is level b e =
    let t = teller is (level, b) e in
    let at = t.2 in
    let bound = level_bound 0 is t.0 t.1 in
    omega (arith, at, bound)

-- ---- levels that don't keep something

long_split : {A : Type 0} (sizes : List ℕ) (xs : List A) → length (split sizes xs) ≡ length sizes
long_split [] xs = refl
long_split (size ∷ sizes) xs = ap suc (long_split sizes (drop size xs))

long_below : (l : LevelProgram) → length (levels_below l.sizes l.client l.program.base) ≡ length l.sizes
long_below l =
    length-map (split l.sizes l.program.base.classes) (λ (faces : List ClassFace). let i : Interface = record { classes = map (rekey_face (level_change l.sizes l.client l.program.base)) faces } in i)
    ∙ long_split l.sizes l.program.base.classes

-- a class of which newer levels don't keep all stands at one of the older ones
abbrev pub BreachesAtLevels : Type 0
BreachesAtLevels = (olds news : List Interface) (found : ℕ × CompatBreach) → first_level_break olds news ≡ Some found → found.0 < length olds

break_level : BreachesAtLevels → (n : ℕ) (is : List Interface) (ls : List LevelProgram) (found : ℕ × CompatBreach) → ((l : LevelProgram) → Mem l ls → length l.sizes ≤ n) → tower_break is ls ≡ Some found → found.0 < n
break_level law n is [] found few e = absurd (let z = e in cc)
break_level law n is (l ∷ ls) found few e = elim (either (first_level_break (levels_below l.sizes l.client l.program.base) is) (tower_break (is ++ own_interface l ∷ []) ls) found e) [
  | inl here ↦ (let at = law (levels_below l.sizes l.client l.program.base) is found here in let long = long_below l in let f = few l (inl refl) in omega (arith, at, long, f))
  | inr more ↦ break_level law n (is ++ own_interface l ∷ []) ls found (λ x m. few x (inr m)) more
]

at_place : {A : Type 0} (xs : List A) (x : A) → Mem x xs → (i : ℕ) × (i < length xs) × (slice_get xs i ≡ Some x)
at_place [] x m = absurd m
at_place (y ∷ ys) x (inl e) = (0, omega arith, ap (λ z. Some z) (sym e))
at_place (y ∷ ys) x (inr m) = let r = at_place ys x m in (suc r.0, (let lt = r.1 in omega (arith, lt)), r.2)

pub tower_level : BreachesAtLevels → (base : Release) (uppers : List Level) (found : ℕ × CompatBreach) → AreLibraries base uppers → tower_break (interface_of base ∷ []) (map plain uppers) ≡ Some found → found.0 < length uppers + 1
tower_level law base uppers found ok e =
    break_level law (length uppers + 1) (interface_of base ∷ []) (map plain uppers) found
    (λ l m. (let q = map_mem plain l uppers m in
    let at = at_place uppers q.0 q.1 in
    let many : length q.0.sizes ≡ at.0 + 1 = (ok.each at.0 q.0 at.2).levels in
    let same : length l.sizes ≡ length q.0.sizes = ap (λ (z : LevelProgram). length z.sizes) q.2 in
    let lt = at.1 in
    omega (arith, many, same, lt))) e
