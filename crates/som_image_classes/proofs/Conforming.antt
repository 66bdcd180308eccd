-- In a release that conforms names differ.
use Rattle.std.proofs.Common.{◌≡◌, ℕ, Bool, true, false, not, if◌then◌else◌, true≢false, List, [], ◌∷◌, ◌++◌, map, Option, Some, None, refl, sym, ap, subst, ◌∙◌, append_assoc}
use Rattle.std.specs.Prelude.{flat_map}
use Rattle.std.specs.List.{AllByRecursion}
use Rattle.std.specs.Str.{bytes_eq}
use Rattle.std.proofs.lemmas.List.{append-nil, map-append}
use Rattle.std.proofs.lemmas.List.Concat.{flat_map-cons}
use Rattle.std.proofs.lemmas.List.Elements.{All-from_recursion}
use Rattle.som_model.specs.declared.key.Module.{Module}
use Rattle.som_model.specs.declared.key.Module.TheVariants as modules
use Rattle.som_model.specs.declared.class.ClassFace.{ClassFace}
use Rattle.som_model.specs.declared.class.ClassDecl.{ClassDecl}
use Rattle.som_model.specs.declared.program.Release.{Release}
use Rattle.som_model.specs.Lists.{some, among, doubles, first, or_else}
use Rattle.som_model.specs.Class.{Class, class_in, entry_name, interface_of}
use Rattle.som_model.specs.Kernel.{kernel}
use Rattle.som_model.specs.Classes.{library_classes}
use Rattle.som_model.specs.Rules.{RuleBreach, name_of, breach, s1, s6}
use Rattle.som_model.specs.Conforming.{each_after, ReleaseOk}
use Rattle.som_image_decode.specs.Naming.{Differ}
use Rattle.som_image_classes.specs.Interfaces.{NamesDiffer}

-- ---- nothing is broken

pub neither_is : {A : Type 0} (a b : Option A) → or_else a b ≡ None → (a ≡ None) × (b ≡ None)
neither_is None b h = (refl, h)
neither_is (Some x) b h = absurd cc

pub none_first : {A : Type 0} (xs : List A) → first xs ≡ None → xs ≡ []
none_first [] h = refl
none_first (x ∷ xs) h = absurd cc

pub both_empty : {A : Type 0} (xs ys : List A) → xs ++ ys ≡ [] → (xs ≡ []) × (ys ≡ [])
both_empty [] ys h = (refl, h)
both_empty (x ∷ xs) ys h = absurd cc

none_mapped : {A B : Type 0} (f : A → B) (xs : List A) → map f xs ≡ [] → xs ≡ []
none_mapped f [] h = refl
none_mapped f (x ∷ xs) h = absurd cc

-- a demand that isn't broken
pub not_broken : (b : Bool) (x : RuleBreach) → (if not b then [] else x ∷ []) ≡ [] → b ≡ false
not_broken false x h = refl
not_broken true x h = absurd cc

-- ---- names of classes

rest : (b c : Bool) → (if b then true else c) ≡ false → c ≡ false
rest true c h = absurd (true≢false h)
rest false c h = h

some_back : {A : Type 0} (test : A → Bool) (xs ys : List A) → some test (xs ++ ys) ≡ false → some test ys ≡ false
some_back test [] ys h = h
some_back test (x ∷ xs) ys h = some_back test xs ys (rest (test x) (some test (xs ++ ys)) h)

pub names_joined : (cs : List Class) (c : Class) → map name_of (cs ++ c ∷ []) ≡ map name_of cs ++ name_of c ∷ []
names_joined [] c = refl
names_joined (b ∷ cs) c = ap (λ (ns : List (List ℕ)). name_of b ∷ ns) (names_joined cs c)

names_kept : (cs : List Class) → map (λ (f : ClassFace). f.name) (map (λ (c : Class). c.decl.face) cs) ≡ map name_of cs
names_kept [] = refl
names_kept (c ∷ cs) = ap (λ (ns : List (List ℕ)). name_of c ∷ ns) (names_kept cs)

-- after some classes and those that were seen
names_differ : (before seen cs : List Class) → each_after s1 (before ++ seen) cs ≡ [] → doubles bytes_eq (map name_of seen) (map name_of cs) ≡ []
names_differ before seen [] h = refl
names_differ before seen (c ∷ cs) h =
    let name : List ℕ = name_of c in
    let b = both_empty (s1 (before ++ seen) c) (each_after s1 ((before ++ seen) ++ c ∷ []) cs) h in
    let new : among name (map name_of (before ++ seen)) ≡ false = not_broken (among name (map name_of (before ++ seen))) _ b.0 in
    let fresh : some (bytes_eq name) (map name_of seen) ≡ false = some_back (bytes_eq name) (map name_of before) (map name_of seen) (subst (λ (ns : List (List ℕ)). some (bytes_eq name) ns ≡ false) (map-append name_of before seen) new) in
    let next : each_after s1 (before ++ (seen ++ c ∷ [])) cs ≡ [] = subst (λ (l : List Class). each_after s1 l cs ≡ []) (append_assoc before seen (c ∷ [])) b.1 in
    let later = subst (λ (ns : List (List ℕ)). doubles bytes_eq ns (map name_of cs) ≡ []) (names_joined seen c) (names_differ before (seen ++ c ∷ []) cs next) in
    ap (λ (x : Bool). if x then name ∷ doubles bytes_eq (map name_of seen) (map name_of cs) else doubles bytes_eq (map name_of seen ++ name ∷ []) (map name_of cs)) fresh ∙ later

-- ---- names of entries

entries_differ : (cs : List Class) → flat_map s6 cs ≡ [] → AllByRecursion (λ (f : ClassFace). Differ (map entry_name f.entries)) (map (λ (c : Class). c.decl.face) cs)
entries_differ [] h = tt
entries_differ (c ∷ cs) h =
    let b = both_empty (s6 c) (flat_map s6 cs) (sym (flat_map-cons s6 c cs) ∙ h) in
    (none_mapped (breach 6 c) (doubles bytes_eq [] (map entry_name c.decl.face.entries)) b.0, entries_differ cs b.1)

-- where S1 and S6 hold, names differ
pub faces_names : (before cs : List Class) → each_after s1 before cs ≡ [] → flat_map s6 cs ≡ [] → NamesDiffer (map (λ (c : Class). c.decl.face) cs)
faces_names before cs once entries = record {
  classes = subst Differ (sym (names_kept cs)) (names_differ before [] cs (subst (λ (l : List Class). each_after s1 l cs ≡ []) (sym (append-nil before)) once));
  entries = All-from_recursion (λ (f : ClassFace). Differ (map entry_name f.entries)) (map (λ (c : Class). c.decl.face) cs) (entries_differ cs entries);
}

-- the faces of declared classes
pub declared_faces : (home : Module) (ds : List ClassDecl) → map (λ (c : Class). c.decl.face) (map (class_in home) ds) ≡ map (λ (c : ClassDecl). c.face) ds
declared_faces home [] = refl
declared_faces home (c ∷ ds) = ap (λ (fs : List ClassFace). c.face ∷ fs) (declared_faces home ds)

pub conforming_names : (r : Release) → ReleaseOk r → NamesDiffer (interface_of r).classes
conforming_names r ok =
    let names = neither_is _ _ ok.rules in
    let s1_holds = neither_is _ _ names.0 in
    let others = neither_is _ _ names.1 in
    let members = neither_is _ _ others.1 in
    let s6_holds = neither_is _ _ members.0 in
    let own : List Class = library_classes r in
    subst NamesDiffer (declared_faces modules.Library r.classes) (faces_names kernel own (none_first (each_after s1 kernel own) s1_holds.0) (none_first (flat_map s6 own) s6_holds.0))
