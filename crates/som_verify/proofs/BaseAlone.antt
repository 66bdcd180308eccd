-- The faces that a client program was compiled against keep the rules by themselves: what comes after them changes nothing among them.
use Rattle.std.proofs.Common.{◌≡◌, ℕ, zero, suc, ◌<◌, inl, inr, List, [], ◌∷◌, ◌++◌, map, take, length, slice_get, Some, None, refl, sym, ap, ◌∙◌, subst}
use Rattle.som_model.specs.declared.key.Module.{Module}
use Rattle.som_model.specs.declared.key.Module.TheVariants as modules
use Rattle.som_model.specs.declared.key.ClassKey.{ClassKey}
use Rattle.som_model.specs.declared.key.ClassKey.TheVariants as keys
use Rattle.som_model.specs.declared.class.Entry.TheVariants as entries
use Rattle.som_model.specs.declared.class.Override.{Override}
use Rattle.som_model.specs.declared.class.Select.{Select}
use Rattle.som_model.specs.declared.class.ClassFace.{ClassFace}
use Rattle.som_model.specs.declared.program.ClientProgram.{ClientProgram}
use Rattle.som_model.specs.Lists.{Mem}
use Rattle.som_model.specs.Ancestors.{Descends, itself, by_parent}
use Rattle.som_model.specs.Class.{Class, bare, class_in}
use Rattle.som_model.specs.Classes.{class_at, client_classes, hierarchy, interface_classes, parents_in}
use Rattle.som_model.specs.Conforming.{declared_program_breach, faces_breach}
use Rattle.som_model.specs.Kernel.{class_face, kernel, object_face, som_class, som_object}
use Rattle.som_model.specs.Owner.{owner}
use Rattle.som_model.specs.Rules.{name_of}
use Rattle.som_model.proofs.NamedLaws.{hierarchy_parents, parents_named}
use Rattle.som_model_laws.proofs.Members.{mem_left, mem_right, mem_split}
use Rattle.som_verify_classes.specs.Modules.{AreDeclared, module_of}
use Rattle.som_verify_classes.specs.Places.{IsTable, key_at, with_kernel}
use Rattle.som_verify_classes.specs.Plainly.{ClassesHold, EntriesDiffer, Introduces, IntroducedOnce, IsAbove, IsAmong, MetaclassesDescend, MovedUp, NamesApart, OverridesInherited, ParentsBefore, ParentsDiffer, SelectsInherited, VariablesDiffer, program_classes}
use Rattle.som_verify_classes.proofs.ClassTable.{is_table}
use Rattle.som_verify_classes.proofs.DeclaredClasses.{faces_declared}
use Rattle.som_verify_classes.proofs.Falling.{mem_there}
use Rattle.som_verify_classes.proofs.Finding.{kernel_declared}
use Rattle.som_verify_classes.proofs.KeyLists.{class_there}
use Rattle.som_verify_classes.proofs.Conformity.{none_or}
use Rattle.som_verify_classes.proofs.PlainFaces.{say_member_rules, say_names_rules}
use Rattle.som_verify_classes.proofs.PlainMembers.{say_types}
use Rattle.som_verify_classes.proofs.PlainNames.{say_names}
use Rattle.som_verify_classes.proofs.PlainWhole.{program_declared, program_says}

get_front : {A : Type 0} (xs ys : List A) (i : ℕ) (x : A) → slice_get xs i ≡ Some x → slice_get (xs ++ ys) i ≡ Some x
get_front [] ys i x e = absurd (cc)
get_front (z ∷ xs) ys zero x e = e
get_front (z ∷ xs) ys (suc i) x e = get_front xs ys i x e

take_front : {A : Type 0} (xs ys : List A) (i : ℕ) (x : A) → slice_get xs i ≡ Some x → take i (xs ++ ys) ≡ take i xs
take_front [] ys i x e = absurd (cc)
take_front (z ∷ xs) ys zero x e = refl
take_front (z ∷ xs) ys (suc i) x e = ap (λ l. z ∷ l) (take_front xs ys i x e)

mem_taken : {A : Type 0} (xs : List A) (i : ℕ) (a : A) → Mem a (take i xs) → Mem a xs
mem_taken [] zero a m = m
mem_taken [] (suc i) a m = m
mem_taken (x ∷ xs) zero a m = absurd m
mem_taken (x ∷ xs) (suc i) a (inl e) = inl e
mem_taken (x ∷ xs) (suc i) a (inr m) = inr (mem_taken xs i a m)

get_mem : {A : Type 0} (xs : List A) (a : A) → Mem a xs → (i : ℕ) × (slice_get xs i ≡ Some a)
get_mem [] a m = absurd m
get_mem (x ∷ xs) a (inl e) = (0, ap (λ z. Some z) (sym e))
get_mem (x ∷ xs) a (inr m) = let r = get_mem xs a m in (suc r.0, r.1)

-- the parents of the kernel's classes are the kernel's

one_parent : (k of : ClassKey) (c : Class) → Mem c kernel → c.key ≡ of → Mem k (of ∷ []) → IsAmong kernel k
one_parent k of c m e (inl is) = record { class = c; there = m; named = e ∙ sym is }
one_parent k of c m e (inr z) = absurd z

kernel_among : (c : Class) → Mem c kernel → (k : ClassKey) → Mem k c.decl.face.parents → IsAmong kernel k
kernel_among c (inl e) k n = absurd (subst (λ (z : Class). Mem k z.decl.face.parents) e n)
kernel_among c (inr (inl e)) k n = one_parent k som_object (class_in modules.Kernel (bare object_face)) (inl refl) refl (subst (λ (z : Class). Mem k z.decl.face.parents) e n)
kernel_among c (inr (inr (inl e))) k n = one_parent k som_object (class_in modules.Kernel (bare object_face)) (inl refl) refl (subst (λ (z : Class). Mem k z.decl.face.parents) e n)
kernel_among c (inr (inr (inr (inl e)))) k n = one_parent k som_class (class_in modules.Kernel (bare class_face)) (inr (inl refl)) refl (subst (λ (z : Class). Mem k z.decl.face.parents) e n)
kernel_among c (inr (inr (inr (inr z)))) k n = absurd z

-- a class is found by its key, and has the parents of its face
module _ (cs : List Class) (declared : AreDeclared cs) (differ : NamesApart cs) where
  at_key : (c : Class) → Mem c (with_kernel cs) → class_at (with_kernel cs) c.key ≡ Some c
  at_key c m =
      let r = mem_there (with_kernel cs) c m in
      let key : key_at (with_kernel cs) r.0 ≡ c.key = ap (λ (z : Class). z.key) r.2 in
      ap (class_at (with_kernel cs)) (sym key) ∙ class_there cs (map name_of (with_kernel cs)) (is_table cs (map name_of (with_kernel cs)) declared refl (say_names cs differ)) r.0 r.1 ∙ ap (λ z. Some z) r.2

  parents_are : (c : Class) → Mem c (with_kernel cs) → (hierarchy (with_kernel cs)).parents c.key ≡ c.decl.face.parents
  parents_are c m =
      let all = with_kernel cs in
      let named : c.key ≡ keys.Named (module_of c) (name_of c) = (kernel_declared cs declared).by c m in
      subst (λ (k : ClassKey). (hierarchy all).parents k ≡ parents_in (class_at all k)) (sym named) (hierarchy_parents all (keys.Named (module_of c) (name_of c)) ∙ parents_named all (module_of c) (name_of c))
      ∙ ap parents_in (at_key c m)

  key_once : (c d : Class) → Mem c (with_kernel cs) → Mem d (with_kernel cs) → c.key ≡ d.key → c ≡ d
  key_once c d m n e = let h : Some c ≡ Some d = sym (at_key c m) ∙ ap (class_at (with_kernel cs)) e ∙ at_key d n in cc

module _ (base own : List Class) (declared : AreDeclared (base ++ own)) (base_declared : AreDeclared base) (h : ClassesHold (base ++ own)) where
  abbrev whole : List Class
  whole = base ++ own

  mem_whole : (c : Class) → Mem c (with_kernel base) → Mem c (with_kernel whole)
  mem_whole c m = elim (mem_split c kernel base m) [
    | inl k ↦ mem_left c kernel whole k
    | inr k ↦ mem_right c kernel whole (mem_left c base own k)
  ]

  names : NamesApart base
  names = record {
    own = record { by = λ i j x y p q e. h.names.own.by i j x y (get_front base own i x p) (get_front base own j y q) e };
    kernels = λ c d m n e. h.names.kernels c d m (mem_left d base own n) e;
  }

  stand : ParentsBefore base
  stand = record {
    parents = λ i c k at m. subst (λ z. IsAmong (with_kernel z) k) (take_front base own i c at) (h.stand.parents i c k (get_front base own i c at) m);
    metaclass = λ i c k at m. subst (λ z. IsAmong (with_kernel z) k) (take_front base own i c at) (h.stand.metaclass i c k (get_front base own i c at) m);
  }

  from_first : (i : ℕ) (k : ClassKey) → IsAmong (with_kernel (take i base)) k → IsAmong (with_kernel base) k
  from_first i k a = record {
    class = a.class;
    there = elim (mem_split a.class kernel (take i base) a.there) [ inl m ↦ mem_left a.class kernel base m | inr m ↦ mem_right a.class kernel base (mem_taken base i a.class m) ];
    named = a.named;
  }

  -- each parent of these is one of these
  parent_among : (c : Class) → Mem c (with_kernel base) → (k : ClassKey) → Mem k c.decl.face.parents → IsAmong (with_kernel base) k
  parent_among c m k n = elim (mem_split c kernel base m) [
    | inl q ↦ (let a = kernel_among c q k n in record { class = a.class; there = mem_left a.class kernel base a.there; named = a.named })
    | inr q ↦ (let g = get_mem base c q in from_first g.0 k (stand.parents g.0 c k g.1 n))
  ]

  metaclass_among : (c : Class) → Mem c base → (k : ClassKey) → c.decl.face.metaclass ≡ Some k → IsAmong (with_kernel base) k
  metaclass_among c m k n = let g = get_mem base c m in from_first g.0 k (stand.metaclass g.0 c k g.1 n)

  -- who descends among all descends among these
  front : (x a : ClassKey) → IsAmong (with_kernel base) x → Descends (hierarchy (with_kernel whole)) x a → Descends (hierarchy (with_kernel base)) x a
  front x a among itself = itself
  front x a among (by_parent p m d) =
      let c = among.class in
      let n : Mem p c.decl.face.parents = subst (λ (ps : List ClassKey). Mem p ps) (ap (hierarchy (with_kernel whole)).parents (sym among.named) ∙ parents_are whole declared h.names c (mem_whole c among.there)) m in
      by_parent p (subst (λ (ps : List ClassKey). Mem p ps) (sym (ap (hierarchy (with_kernel base)).parents (sym among.named) ∙ parents_are base base_declared names c among.there)) n)
      (front p a (parent_among c among.there p n) d)

  -- and the other way round
  back : (x a : ClassKey) → IsAmong (with_kernel base) x → Descends (hierarchy (with_kernel base)) x a → Descends (hierarchy (with_kernel whole)) x a
  back x a among itself = itself
  back x a among (by_parent p m d) =
      let c = among.class in
      let n : Mem p c.decl.face.parents = subst (λ (ps : List ClassKey). Mem p ps) (ap (hierarchy (with_kernel base)).parents (sym among.named) ∙ parents_are base base_declared names c among.there) m in
      by_parent p (subst (λ (ps : List ClassKey). Mem p ps) (sym (ap (hierarchy (with_kernel whole)).parents (sym among.named) ∙ parents_are whole declared h.names c (mem_whole c among.there))) n)
      (back p a (parent_among c among.there p n) d)

  above_among : (x a : ClassKey) → IsAmong (with_kernel base) x → Descends (hierarchy (with_kernel base)) x a → IsAmong (with_kernel base) a
  above_among x a among itself = among
  above_among x a among (by_parent p m d) =
      let c = among.class in
      above_among p a (parent_among c among.there p (subst (λ (ps : List ClassKey). Mem p ps) (ap (hierarchy (with_kernel base)).parents (sym among.named) ∙ parents_are base base_declared names c among.there) m)) d

  among_base : (c : Class) → Mem c base → IsAmong (with_kernel base) c.key
  among_base c m = record { class = c; there = mem_right c kernel base m; named = refl }

  wider : (k : ClassKey) (name : List ℕ) → Introduces (with_kernel base) k name → Introduces (with_kernel whole) k name
  wider k name i = record { class = i.class; there = mem_whole i.class i.there; named = i.named; sig = i.sig; way = i.way; entry = i.entry }

  narrower : (k : ClassKey) (name : List ℕ) → IsAmong (with_kernel base) k → Introduces (with_kernel whole) k name → Introduces (with_kernel base) k name
  narrower k name a i =
      let same : i.class ≡ a.class = key_once whole declared h.names i.class a.class i.there (mem_whole a.class a.there) (i.named ∙ sym a.named) in
      record {
        class = a.class;
        there = a.there;
        named = a.named;
        sig = i.sig;
        way = i.way;
        entry = subst (λ (c : Class). Mem (entries.Introduced name i.sig i.way) c.decl.face.entries) same i.entry;
      }

  moved_above : (c : Class) (name : List ℕ) (to : ClassKey) → Mem c base → Mem (entries.Moved name to) c.decl.face.entries → Descends (hierarchy (with_kernel base)) c.key to
  moved_above c name to m n = front c.key to (among_base c m) (h.moved.above c name to (mem_left c base own m) n).above

  -- the rules of these classes alone, where they are known by their faces
  alone : ((c : Class) → Mem c base → (c.decl.overrides ≡ []) × (c.decl.selects ≡ [])) → ClassesHold base
  alone faces = record {
    names = names;
    stand = stand;
    parents = record { by = λ c m. h.parents.by c (mem_left c base own m) };
    metaclasses = record { by = λ c k m is. front k som_class (metaclass_among c m k is) (h.metaclasses.by c k (mem_left c base own m) is) };
    entries = record { by = λ c m. h.entries.by c (mem_left c base own m) };
    variables = record { by = λ c m. h.variables.by c (mem_left c base own m) };
    once = record {
      by = λ c a b name m p q i j. h.once.by c a b name (mem_left c base own m) (back c.key a (among_base c m) p) (back c.key b (among_base c m) q) (wider a name i) (wider b name j);
    };
    moved = record {
      above = λ c name to m n. record { other = (h.moved.above c name to (mem_left c base own m) n).other; above = moved_above c name to m n };
      introduced = λ c name to m n. narrower to name (above_among c.key to (among_base c m) (moved_above c name to m n)) (h.moved.introduced c name to (mem_left c base own m) n);
    };
    overrides = record {
      above = λ c o m n. no_override c o m n;
      introduced = λ c o m n. no_override c o m n;
      once = λ c m. record { by = λ i j x y p q e. absurd (let none = (faces c m).0 in let got = subst (λ (os : List Override). slice_get os i ≡ Some x) none p in cc) };
    };
    selects = record {
      above = λ c s m n. no_select c s m n;
      introduced = λ c s m n. no_select c s m n;
      parent = λ c s m n. no_select c s m n;
      once = λ c m. record { by = λ i j x y p q e. absurd (let none = (faces c m).1 in let got = subst (λ (ss : List Select). slice_get ss i ≡ Some x) none p in cc) };
      apart = λ c o s m n p e. no_override c o m n;
    };
  }
    where
      no_override : {P : Type 0} (c : Class) (o : Override) → Mem c base → Mem o c.decl.overrides → P
      no_override c o m n = absurd (subst (λ (os : List Override). Mem o os) (faces c m).0 n)

      no_select : {P : Type 0} (c : Class) (s : Select) → Mem c base → Mem s c.decl.selects → P
      no_select c s m n = absurd (subst (λ (ss : List Select). Mem s ss) (faces c m).1 n)

bare_faces : (fs : List ClassFace) (c : Class) → Mem c (map (λ f. class_in modules.Library (bare f)) fs) → (c.decl.overrides ≡ []) × (c.decl.selects ≡ [])
bare_faces [] c m = absurd m
bare_faces (f ∷ fs) c (inl e) = (ap (λ (z : Class). z.decl.overrides) e, ap (λ (z : Class). z.decl.selects) e)
bare_faces (f ∷ fs) c (inr m) = bare_faces fs c m

-- the faces of a program's base break no rule
pub base_keeps : (p : ClientProgram) → declared_program_breach p ≡ None → faces_breach (interface_classes p.base) ≡ None
base_keeps p e =
    let base = interface_classes p.base in
    let holds = program_says p e in
    let declared : AreDeclared base = faces_declared modules.Library p.base.classes in
    let h = alone base (client_classes p) (program_declared p) declared holds.classes (bare_faces p.base.classes) in
    none_or _ _ (say_names_rules base declared h) (none_or _ _ (say_types (with_kernel base) base holds.base_types) (say_member_rules base declared h))
