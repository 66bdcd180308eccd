-- A pair with nothing in the way binds, and can be loaded.
use Rattle.std.proofs.Common.{◌≡◌, ℕ, zero, suc, ◌≤◌, ◌<◌, ◌⊎◌, inl, inr, List, [], ◌∷◌, ◌++◌, map, length, get_or, Option, Some, None, Result, Ok, Err, IfOk, refl, sym, ap, subst, ◌∙◌, arith}
use Rattle.std.specs.Option.{option_map}
use Rattle.std.proofs.lemmas.List.{length-map, length-append}
use Rattle.som_model.specs.declared.class.ClassDecl.{ClassDecl}
use Rattle.som_model.specs.declared.class.ClassFace.{ClassFace}
use Rattle.som_model.specs.declared.key.Module.{Module}
use Rattle.som_model.specs.declared.key.Module.TheVariants as modules
use Rattle.som_model.specs.declared.program.ClientProgram.{ClientProgram}
use Rattle.som_model.specs.declared.program.Release.{Release}
use Rattle.som_model.specs.declared.limits.TheConstants.{MAX_LAID_CLASSES}
use Rattle.som_model.specs.Lists.{Mem, or_else}
use Rattle.som_model.specs.Class.{Class, bare, class_in, interface_of}
use Rattle.som_model.specs.Classes.{client_classes, interface_classes, library_classes}
use Rattle.som_model.specs.Conforming.{ProgramOk, ReleaseOk}
use Rattle.som_model.specs.Compatible.{CompatBreach, first_break}
use Rattle.som_model.specs.Counts.{ClassCounted, FaceCounted}
use Rattle.som_model.specs.Binds.{Binds}
use Rattle.som_model.specs.Loads.{Loads}
use Rattle.som_model.specs.declared.program.Interface.{Interface}
use Rattle.som_compat.specs.declared.breach.Breach.{Breach}
use Rattle.som_compat.specs.Told.{told, told_by}
use Rattle.som_compat.specs.Conditions.{Conforms, IsCounted}
use Rattle.som_compat.proofs.Released.{interface_conforms}
use Rattle.som_verify.proofs.BaseAlone.{base_keeps}
use Rattle.som_release_laws.specs.Releasing.{HaveParents}
use Rattle.som_release_laws.proofs.Clients.{client_kept}
use Rattle.som_link_check.specs.declared.fault.LinkFault.{LinkFault}
use Rattle.som_link_check.specs.declared.fault.LinkFault.TheVariants as faults
use Rattle.som_link_check.specs.Told.{Tells, TellsBreach}
use Rattle.som_link_check.specs.Pairs.{Obstacle, DoesntKeep, ReleaseCounted, ProgramCounted}

-- ---- what is told

-- what is in the way is told first, whatever is looked at after it
pub told_first : (A B : Type 0) (o rest : Option Obstacle) (e : LinkFault) → Tells {A = A} o (Err e) → Tells {A = B} (or_else o rest) (Err e)
told_first A B o rest (faults.NotConforming client broken) h = rw h refl
told_first A B o rest (faults.Incompatible rule class name place) h = (h.0, rw h.1 refl, h.2)
told_first A B o rest faults.NoMemory h = h

-- where nothing is in the way there, what is looked at after it is told
pub told_after : {A : Type 0} (o rest : Option Obstacle) (r : Result A LinkFault) → o ≡ None → Tells rest r → Tells (or_else o rest) r
told_after o rest r e h = subst (λ (x : Option Obstacle). Tells (or_else x rest) r) (sym e) h

-- what a library with this interface doesn't keep
pub base_told : (A : Type 0) (p : ClientProgram) (r : Release) (shown : Interface) (breach : Breach) (answer : Result (Unit {0}) Breach) (e : LinkFault)
    → shown.classes ≡ (interface_of r).classes → told_by answer ≡ first_break p.base shown → answer ≡ Err breach → TellsBreach (told breach) e
    → Tells {A = A} (option_map DoesntKeep (first_break p.base (interface_of r))) (Err e)
base_told A p r shown breach answer e same found is h = kept_told A (first_break p.base (interface_of r)) (told breach) e (breach_is p r shown breach answer same found is) h
  where
    breach_is : (p : ClientProgram) (r : Release) (shown : Interface) (breach : Breach) (answer : Result (Unit {0}) Breach)
        → shown.classes ≡ (interface_of r).classes → told_by answer ≡ first_break p.base shown → answer ≡ Err breach → first_break p.base (interface_of r) ≡ Some (told breach)
    breach_is p r shown breach answer same found is = ap (λ (cs : List ClassFace). first_break p.base (record { classes = cs })) (sym same) ∙ sym found ∙ ap told_by is

    kept_told : (A : Type 0) (o : Option CompatBreach) (b : CompatBreach) (e : LinkFault) → o ≡ Some b → TellsBreach b e → Tells {A = A} (option_map DoesntKeep o) (Err e)
    kept_told A o b (faults.NotConforming client broken) is h = absurd h
    kept_told A o b (faults.Incompatible rule class name place) is h = (b, rw is refl, h)
    kept_told A o b faults.NoMemory is h = tt

-- ---- elements by place and by membership

mem_at : {A : Type 0} (xs : List A) (k : ℕ) (d : A) → k < length xs → Mem (get_or xs k d) xs
mem_at [] k d lt = absurd (omega (arith, lt))
mem_at (x ∷ xs) zero d lt = inl refl
mem_at (x ∷ xs) (suc k) d lt = inr (mem_at xs k d (omega (arith, lt)))

mem_map : {A B : Type 0} (f : A → B) (xs : List A) (y : B) → Mem y (map f xs) → (x : A) × Mem x xs × (y ≡ f x)
mem_map f [] y m = absurd m
mem_map f (x ∷ xs) y (inl e) = (x, inl refl, e)
mem_map f (x ∷ xs) y (inr m) = let h = mem_map f xs y m in (h.0, inr h.1, h.2)

mem_append : {A : Type 0} (xs ys : List A) (y : A) → Mem y (xs ++ ys) → Mem y xs ⊎ Mem y ys
mem_append [] ys y m = inr m
mem_append (x ∷ xs) ys y (inl e) = inl (inl e)
mem_append (x ∷ xs) ys y (inr m) = elim (mem_append xs ys y m) [ inl h ↦ inl (inr h) | inr h ↦ inr h ]

-- ---- what is compared may be

face_counted : (f : ClassFace) → FaceCounted f → IsCounted f
face_counted f c = record { some = c.some_parent; parents = c.parents; entries = c.order }

pub base_conforms : (p : ClientProgram) → ProgramOk p → ProgramCounted p → Conforms p.base
base_conforms p ok c = record { rules = base_keeps p ok.rules; classes = c.few_faces; counts = λ k d lt. face_counted (get_or p.base.classes k d) (c.each_face (get_or p.base.classes k d) (mem_at p.base.classes k d lt)) }

pub release_conforms : (r : Release) → ReleaseOk r → ReleaseCounted r → Conforms (interface_of r)
release_conforms r ok c = interface_conforms r ok (let few = c.few in omega (arith, few)) (λ k d lt. face_counted (get_or r.classes k d).face ((c.each (get_or r.classes k d) (mem_at r.classes k d lt)).face))

-- ---- a pair that passes

counted_in : (m : Module) (ds : List ClassDecl) → ((d : ClassDecl) → Mem d ds → ClassCounted d) → (c : Class) → Mem c (map (class_in m) ds) → ClassCounted c.decl
counted_in m ds each c mem = let h = mem_map (class_in m) ds c mem in subst (λ (x : Class). ClassCounted x.decl) (sym h.2) (each h.0 h.1)

library_counted : (r : Release) (p : ClientProgram) → ReleaseCounted r → ProgramCounted p → (c : Class) → Mem c (library_classes r ++ client_classes p) → ClassCounted c.decl
library_counted r p cr cp c m = elim (mem_append (library_classes r) (client_classes p) c m) [
  | inl h ↦ counted_in modules.Library r.classes cr.each c h
  | inr h ↦ counted_in modules.Client p.classes cp.each c h
]

have_parents : (cs : List Class) → ((c : Class) → Mem c cs → ClassCounted c.decl) → HaveParents cs
have_parents cs each c m = (each c m).face.some_parent

base_parents : (p : ClientProgram) → ProgramCounted p → HaveParents (interface_classes p.base ++ client_classes p)
base_parents p cp c m = elim (mem_append (interface_classes p.base) (client_classes p) c m) [
  | inl h ↦ let x = mem_map (λ f. class_in modules.Library (bare f)) p.base.classes c h in subst (λ (y : Class). 1 ≤ length y.decl.face.parents) (sym x.2) ((cp.each_face x.0 x.1).some_parent)
  | inr h ↦ (counted_in modules.Client p.classes cp.each c h).face.some_parent
]

few_enough : (r : Release) (p : ClientProgram) → ReleaseCounted r → ProgramCounted p → length (library_classes r ++ client_classes p) ≤ MAX_LAID_CLASSES
few_enough r p cr cp =
    let a = cr.few in
    let b = cp.few in
    let u = length-append (library_classes r) (client_classes p) in
    let v = length-map r.classes (class_in modules.Library) in
    let w = length-map p.classes (class_in modules.Client) in
    omega (arith, a, b, u, v, w)

pub passes : (r : Release) (p : ClientProgram) → ReleaseCounted r → ProgramCounted p → ReleaseOk r → ProgramOk p → first_break p.base (interface_of r) ≡ None → Binds p r × Loads (library_classes r ++ client_classes p) p.main
passes r p cr cp ok_r ok_p e =
    let kept = client_kept p r ok_p ok_r (base_parents p cp) (have_parents (library_classes r) (counted_in modules.Library r.classes cr.each)) e in
    (kept.0, kept.1 (few_enough r p cr cp) (library_counted r p cr cp) cp.main)

none_kept : (o : Option CompatBreach) → option_map DoesntKeep o ≡ None → o ≡ None
none_kept None e = refl
none_kept (Some b) e = absurd (cc)

-- a library that isn't refused binds
pub bound : (r : Release) (p : ClientProgram) → ReleaseCounted r → ProgramCounted p → ReleaseOk r → ProgramOk p → (answer : Result (Unit {0}) LinkFault)
    → Tells (option_map DoesntKeep (first_break p.base (interface_of r))) answer → IfOk answer (λ _. Binds p r)
bound r p cr cp ok_r ok_p (Ok u) t = (passes r p cr cp ok_r ok_p (none_kept (first_break p.base (interface_of r)) t)).0
bound r p cr cp ok_r ok_p (Err e) t = tt
