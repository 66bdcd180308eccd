-- Compatibility goes along a list of releases, whatever lies between, and clients of any are kept by the last.
use Rattle.std.proofs.Common.{◌≡◌, ℕ, zero, suc, inl, inr, List, [], ◌∷◌, ◌++◌, map, flat_map, take, Some, None, slice_get, refl, sym, ap, ◌∙◌, subst}
use Rattle.som_model.specs.declared.key.Module.TheVariants as modules
use Rattle.som_model.specs.declared.key.ClassKey.{ClassKey}
use Rattle.som_model.specs.declared.class.Entry.TheVariants as entries
use Rattle.som_model.specs.declared.class.ClassFace.{ClassFace}
use Rattle.som_model.specs.declared.class.ClassDecl.{ClassDecl}
use Rattle.som_model.specs.declared.program.Interface.{Interface}
use Rattle.som_model.specs.declared.program.Release.{Release}
use Rattle.som_model.specs.Lists.{Mem, doubles, first, or_else}
use Rattle.som_model.specs.Keys.{same_key}
use Rattle.som_model.specs.Class.{Class, bare, class_in, interface_of}
use Rattle.som_model.specs.Classes.{interface_classes, library_classes}
use Rattle.som_model.specs.Kernel.{kernel}
use Rattle.som_model.specs.Rules.{s5, s14}
use Rattle.som_model.specs.Compatible.{Compatible, EachNext, class_breaks, release_of}
use Rattle.som_model.specs.Conforming.{ReleaseOk, faces_breach, first_of_members, first_of_names}
use Rattle.som_model.specs.Loads.{HasOwnKey, IsOrdered, keys_of}
use Rattle.som_verify_classes.proofs.FacesOnly.{face_only}
use Rattle.som_verify_classes.proofs.Conformity.{or_none}
use Rattle.som_model_laws.specs.Keeping.{ClassesKeep}
use Rattle.som_model_laws.proofs.Keeping.{goes_along, keeps_itself}
use Rattle.som_model_laws.proofs.Lists.{map_mem}
use Rattle.som_release_laws.proofs.Comparing.{keep_says, says_keep}
use Rattle.som_release_laws.proofs.Ruled.{face_own, library_own, nothing, ordered}

emptied : {A : Type 0} (xs : List A) → xs ≡ [] → first xs ≡ None
emptied xs e = ap first e

-- the faces of an interface's classes are all that there is of them
same_faces : (fs : List ClassFace) → map face_only (map (λ (f : ClassFace). class_in modules.Library (bare f)) fs) ≡ map (λ (f : ClassFace). class_in modules.Library (bare f)) fs
same_faces [] = refl
same_faces (f ∷ fs) = ap (λ (l : List Class). class_in modules.Library (bare f) ∷ l) (same_faces fs)

release_faces : (ds : List ClassDecl) → map face_only (map (class_in modules.Library) ds) ≡ map (λ (f : ClassFace). class_in modules.Library (bare f)) (map (λ (d : ClassDecl). d.face) ds)
release_faces [] = refl
release_faces (d ∷ ds) = ap (λ (l : List Class). class_in modules.Library (bare d.face) ∷ l) (release_faces ds)

pub interface_ordered : (i : Interface) → faces_breach (interface_classes i) ≡ None → IsOrdered (interface_classes i)
interface_ordered i e =
    let cs = interface_classes i in
    let a = or_none (first_of_names kernel cs) (or_else (first (flat_map (s5 (kernel ++ cs)) cs)) (first_of_members kernel cs)) e in
    let b = or_none (first (flat_map (s5 (kernel ++ cs)) cs)) (first_of_members kernel cs) a.1 in
    ordered cs (face_own i.classes) a.0 b.1

-- ---- the interface of a release is ordered where its classes are

map_get : {A B : Type 0} (f : A → B) (xs : List A) (i : ℕ) (y : B) → slice_get (map f xs) i ≡ Some y → (x : A) × (slice_get xs i ≡ Some x) × (y ≡ f x)
map_get f [] i y e = absurd (cc)
map_get f (x ∷ xs) zero y e = (x, refl, cc)
map_get f (x ∷ xs) (suc i) y e = map_get f xs i y e

map_take : {A B : Type 0} (f : A → B) (i : ℕ) (xs : List A) → take i (map f xs) ≡ map f (take i xs)
map_take f zero xs = refl
map_take f (suc i) [] = refl
map_take f (suc i) (x ∷ xs) = ap (λ z. f x ∷ z) (map_take f i xs)

same_keys : (cs : List Class) → keys_of (map face_only cs) ≡ keys_of cs
same_keys [] = refl
same_keys (c ∷ cs) = ap (λ z. c.key ∷ z) (same_keys cs)

keys_earlier : (cs : List Class) (i : ℕ) (k : ClassKey) → Mem k (keys_of (kernel ++ take i cs)) → Mem k (keys_of (kernel ++ take i (map face_only cs)))
keys_earlier cs i k m = subst (λ z. Mem k z) (sym (ap (λ (z : List Class). keys_of (kernel ++ z)) (map_take face_only i cs) ∙ ap (λ z. keys_of kernel ++ z) (same_keys (take i cs)))) m

pub faces_ordered : (cs : List Class) → IsOrdered cs → IsOrdered (map face_only cs)
faces_ordered cs o = record {
  own = λ c m. (let d = map_mem face_only c cs m in let k = o.own d.0 d.1 in
      subst HasOwnKey (sym d.2) (record { module_ = k.module_; outside = k.outside; is = k.is }));
  differ = ap (doubles same_key []) (same_keys cs) ∙ o.differ;
  parents = λ i c k e m. (let d = map_get face_only cs i c e in keys_earlier cs i k (o.parents i d.0 k d.1 (subst (λ (z : Class). Mem k z.decl.face.parents) d.2 m)));
  metaclasses = λ i c k e is. (let d = map_get face_only cs i c e in keys_earlier cs i k (o.metaclasses i d.0 k d.1 (ap (λ (z : Class). z.decl.face.metaclass) (sym d.2) ∙ is)));
  targets = λ i c name to e m. (let d = map_get face_only cs i c e in keys_earlier cs i to (o.targets i d.0 name to d.1 (subst (λ (z : Class). Mem (entries.Moved name to) z.decl.face.entries) d.2 m)));
}

pub release_ordered : (r : Release) → ReleaseOk r → IsOrdered (library_classes r)
release_ordered r ok =
    let cs = library_classes r in
    let all = kernel ++ cs in
    let a = or_none (first_of_names kernel cs) (or_else (first (flat_map (s5 all) cs)) (or_else (first_of_members kernel cs) (first (flat_map s14 cs)))) ok.rules in
    let b = or_none (first (flat_map (s5 all) cs)) (or_else (first_of_members kernel cs) (first (flat_map s14 cs))) a.1 in
    let d = or_none (first_of_members kernel cs) (first (flat_map s14 cs)) b.1 in
    ordered cs (library_own r.classes) a.0 d.0

pub shown_ordered : (r : Release) → ReleaseOk r → IsOrdered (interface_classes (interface_of r))
shown_ordered r ok = subst IsOrdered (release_faces r.classes) (faces_ordered (library_classes r) (release_ordered r ok))

-- compatibility of interfaces as what is kept

pub keeps : (old new : Interface) → IsOrdered (interface_classes old) → IsOrdered (interface_classes new) → Compatible old new → ClassesKeep (interface_classes old) (interface_classes new)
keeps old new oo on e = says_keep (interface_classes old) (interface_classes new) oo on
    (subst (λ (z : List Class). flat_map (class_breaks (release_of old) (kernel ++ z)) (interface_classes old) ≡ []) (sym (same_faces new.classes)) (nothing (flat_map (class_breaks (release_of old) (release_of new)) (interface_classes old)) e))

pub kept : (old new : Interface) → IsOrdered (interface_classes old) → IsOrdered (interface_classes new) → ClassesKeep (interface_classes old) (interface_classes new) → Compatible old new
kept old new oo on k = emptied _ (subst (λ (z : List Class). flat_map (class_breaks (release_of old) (kernel ++ z)) (interface_classes old) ≡ []) (same_faces new.classes) (keep_says (interface_classes old) (interface_classes new) oo on k))

-- what a release keeps, by all that it has
pub release_keeps : (old : Interface) (r : Release) → IsOrdered (interface_classes old) → IsOrdered (library_classes r) → Compatible old (interface_of r) → ClassesKeep (interface_classes old) (library_classes r)
release_keeps old r oo on e = says_keep (interface_classes old) (library_classes r) oo on
    (subst (λ (z : List Class). flat_map (class_breaks (release_of old) (kernel ++ z)) (interface_classes old) ≡ []) (sym (release_faces r.classes)) (nothing (flat_map (class_breaks (release_of old) (release_of (interface_of r))) (interface_classes old)) e))

pub along : (old mid new : Interface) → IsOrdered (interface_classes old) → IsOrdered (interface_classes mid) → IsOrdered (interface_classes new) → Compatible old mid → Compatible mid new → Compatible old new
along old mid new oo om on a b = kept old new oo on (goes_along (interface_classes old) (interface_classes mid) (interface_classes new) oo om on (keeps old mid oo om a) (keeps mid new om on b))

pub itself_kept : (i : Interface) → IsOrdered (interface_classes i) → Compatible i i
itself_kept i o = kept i i o o (keeps_itself (interface_classes i) o)

-- along a list that was accepted

abbrev Shows : Release → Release → Type 0
Shows a b = Compatible (interface_of a) (interface_of b)

from_first : (a : Release) (rs : List Release) (last : Release) → ((r : Release) → Mem r (a ∷ (rs ++ last ∷ [])) → ReleaseOk r) → EachNext Shows (a ∷ (rs ++ last ∷ [])) → Shows a last
from_first a [] last ok next = next.0
from_first a (b ∷ rs) last ok next =
    along (interface_of a) (interface_of b) (interface_of last) (shown_ordered a (ok a (inl refl))) (shown_ordered b (ok b (inr (inl refl)))) (shown_ordered last (ok last (inr (inr (at_end rs last)))))
    next.0 (from_first b rs last (λ r m. ok r (inr m)) next.1)
  where
    at_end : (xs : List Release) (x : Release) → Mem x (xs ++ x ∷ [])
    at_end [] x = inl refl
    at_end (y ∷ xs) x = inr (at_end xs x)

rest_next : (a : Release) (rs : List Release) (last : Release) → EachNext Shows (a ∷ (rs ++ last ∷ [])) → EachNext Shows (rs ++ last ∷ [])
rest_next a [] last next = tt
rest_next a (b ∷ rs) last next = next.1

pub to_last : (rs : List Release) (last r : Release) → ((x : Release) → Mem x (rs ++ last ∷ []) → ReleaseOk x) → EachNext Shows (rs ++ last ∷ []) → Mem r (rs ++ last ∷ []) → Shows r last
to_last [] last r ok next (inl e) = subst (λ z. Shows z last) (sym e) (itself_kept (interface_of last) (shown_ordered last (ok last (inl refl))))
to_last [] last r ok next (inr m) = absurd m
to_last (a ∷ rs) last r ok next (inl e) = subst (λ z. Shows z last) (sym e) (from_first a rs last ok next)
to_last (a ∷ rs) last r ok next (inr m) = to_last rs last r (λ x n. ok x (inr n)) (rest_next a rs last next) m
