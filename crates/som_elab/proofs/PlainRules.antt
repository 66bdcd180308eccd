-- Rules that look at no body hold of classes that differ in bodies, blocks and selects alone, but for those on selects.
use Rattle.std.proofs.Common.{◌≡◌, ℕ, zero, suc, List, [], ◌∷◌, ◌++◌, map, take, slice_get, Some, refl, sym, ap, ◌∙◌, subst}
use Rattle.som_model.specs.declared.key.ClassKey.{ClassKey}
use Rattle.som_model.specs.declared.key.MethodRef.{MethodRef}
use Rattle.som_model.specs.declared.key.ValueType.{ValueType}
use Rattle.som_model.specs.declared.class.Entry.TheVariants as entries
use Rattle.som_model.specs.declared.class.Override.{Override}
use Rattle.som_model.specs.declared.class.Select.{Select}
use Rattle.som_model.specs.declared.class.Variable.{Variable}
use Rattle.som_model.specs.Lists.{Mem}
use Rattle.som_model.specs.Hierarchy.{Hierarchy}
use Rattle.som_model.specs.Ancestors.{Descends}
use Rattle.som_model.specs.Class.{Class, entry_name}
use Rattle.som_model.specs.Classes.{hierarchy}
use Rattle.som_model.specs.Kernel.{kernel}
use Rattle.som_model.specs.Owner.{owner}
use Rattle.som_model.specs.Rules.{name_of}
use Rattle.som_model.proofs.ListLaws.{get_map}
use Rattle.som_verify_classes.specs.Places.{with_kernel}
use Rattle.som_verify_classes.specs.Plainly.{ClassesHold, Differ, Introduces, IsAbove, IsAmong, IsNamed, IsValue, SelectsInherited, TypesKnown}
use Rattle.som_verify_classes.proofs.PlainLists.{map_mem, mem_map}
use Rattle.som_elab.proofs.Plain.{emptied, plain, plain_hierarchy, plain_owner, plain_same, selecting, unselected}

-- places and members

take_plain : (cs : List Class) (i : ℕ) → map plain (take i cs) ≡ take i (map plain cs)
take_plain [] zero = refl
take_plain [] (suc i) = refl
take_plain (c ∷ cs) zero = refl
take_plain (c ∷ cs) (suc i) = ap (λ z. plain c ∷ z) (take_plain cs i)

map_there : {A B : Type 0} (f : A → B) (xs : List A) (i : ℕ) (y : B) → slice_get (map f xs) i ≡ Some y → (x : A) × (slice_get xs i ≡ Some x) × (f x ≡ y)
map_there f [] i y e = absurd (cc)
map_there f (x ∷ xs) zero y e = let same : f x ≡ y = cc in (x, refl, same)
map_there f (x ∷ xs) (suc i) y e = map_there f xs i y e

-- what stands at a place of one list stands there, but for what f takes away, in another
at_same : {A B : Type 0} (f : A → B) (xs ys : List A) → map f xs ≡ map f ys → (i : ℕ) (y : A) → slice_get ys i ≡ Some y → (x : A) × (slice_get xs i ≡ Some x) × (f x ≡ f y)
at_same f xs ys e i y at = map_there f xs i (f y) (ap (λ z. slice_get z i) e ∙ get_map f ys i y at)

mem_same : {A B : Type 0} (f : A → B) (xs ys : List A) → map f xs ≡ map f ys → (y : A) → Mem y ys → (x : A) × Mem x xs × (f y ≡ f x)
mem_same f xs ys e y m = map_mem f (f y) xs (subst (λ z. Mem (f y) z) (sym e) (mem_map f y ys m))

-- two lists of classes that differ in bodies and blocks alone
module _ (cs ds : List Class) (e : map plain cs ≡ map plain ds) where
  at_other : (i : ℕ) (d : Class) → slice_get ds i ≡ Some d → (c : Class) × (slice_get cs i ≡ Some c) × (plain c ≡ plain d)
  at_other i d at = at_same plain cs ds e i d at

  other_mem : (d : Class) → Mem d ds → (c : Class) × Mem c cs × (plain d ≡ plain c)
  other_mem d m = mem_same plain cs ds e d m

among_other : (cs ds : List Class) → map plain cs ≡ map plain ds → (k : ClassKey) → IsAmong cs k → IsAmong ds k
among_other cs ds e k a =
    let r = other_mem ds cs (sym e) a.class a.there in
    record { class = r.0; there = r.1; named = sym (ap (λ (c : Class). c.key) r.2) ∙ a.named }

introduces_other : (cs ds : List Class) → map plain cs ≡ map plain ds → (k : ClassKey) (name : List ℕ) → Introduces cs k name → Introduces ds k name
introduces_other cs ds e k name a =
    let r = other_mem ds cs (sym e) a.class a.there in
    record {
      class = r.0;
      there = r.1;
      named = sym (ap (λ (c : Class). c.key) r.2) ∙ a.named;
      sig = a.sig;
      way = a.way;
      entry = subst (λ z. Mem (entries.Introduced name a.sig a.way) z) (ap (λ (c : Class). c.decl.face.entries) r.2) a.entry;
    }

hierarchy_other : (cs ds : List Class) → map plain cs ≡ map plain ds → hierarchy cs ≡ hierarchy ds
hierarchy_other cs ds e = sym (plain_hierarchy cs) ∙ ap hierarchy e ∙ plain_hierarchy ds

owner_other : (cs ds : List Class) → map plain cs ≡ map plain ds → (r : MethodRef) → owner cs r ≡ owner ds r
owner_other cs ds e r = sym (plain_owner cs r) ∙ ap (λ z. owner z r) e ∙ plain_owner ds r

module _ (cs ds : List Class) (e : map plain cs ≡ map plain ds) where
  all : map plain (with_kernel cs) ≡ map plain (with_kernel ds)
  all = ap (λ z. map plain kernel ++ z) e

  above : {k a : ClassKey} → Descends (hierarchy (with_kernel cs)) k a → Descends (hierarchy (with_kernel ds)) k a
  above {k = k} {a = a} d = subst (λ (h : Hierarchy ClassKey). Descends h k a) (hierarchy_other (with_kernel cs) (with_kernel ds) all) d

  below : {k a : ClassKey} → Descends (hierarchy (with_kernel ds)) k a → Descends (hierarchy (with_kernel cs)) k a
  below {k = k} {a = a} d = subst (λ (h : Hierarchy ClassKey). Descends h k a) (sym (hierarchy_other (with_kernel cs) (with_kernel ds) all)) d

  above_other : (c d : Class) → plain d ≡ plain c → (k : ClassKey) → IsAbove cs c k → IsAbove ds d k
  above_other c d p k a = record {
    other = λ s. a.other (s ∙ ap (λ (z : Class). z.key) p);
    above = above (subst (λ (z : ClassKey). Descends (hierarchy (with_kernel cs)) z k) (sym (ap (λ (z : Class). z.key) p)) a.above);
  }

  front : (i : ℕ) → map plain (with_kernel (take i cs)) ≡ map plain (with_kernel (take i ds))
  front i = ap (λ z. map plain kernel ++ z) (take_plain cs i ∙ ap (take i) e ∙ sym (take_plain ds i))

  -- each override of one class has one in the other that differs in its block alone
  override_mem : (c d : Class) → plain d ≡ plain c → (o : Override) → Mem o d.decl.overrides → (p : Override) × Mem p c.decl.overrides × (emptied o ≡ emptied p)
  override_mem c d p o m = mem_same emptied c.decl.overrides d.decl.overrides (sym (ap (λ (z : Class). z.decl.overrides) p)) o m

  owner_same : (p o : Override) → emptied o ≡ emptied p → owner (with_kernel cs) p.method ≡ owner (with_kernel ds) o.method
  owner_same p o e = ap (λ (z : Override). owner (with_kernel cs) z.method) (sym e) ∙ owner_other (with_kernel cs) (with_kernel ds) all o.method

  owners_differ : (c d : Class) → plain d ≡ plain c → Differ (λ (o : Override). owner (with_kernel cs) o.method) c.decl.overrides → Differ (λ (o : Override). owner (with_kernel ds) o.method) d.decl.overrides
  owners_differ c d p h = record {
    by = λ i j x y u v s.
        (let os = sym (ap (λ (z : Class). z.decl.overrides) p) in
        let a = at_same emptied c.decl.overrides d.decl.overrides os i x u in let b = at_same emptied c.decl.overrides d.decl.overrides os j y v in
        h.by i j a.0 b.0 a.1 b.1 (owner_same a.0 x (sym a.2) ∙ s ∙ sym (owner_same b.0 y (sym b.2))));
  }

  -- the rules go over from the first to the second
  pub classes_other : SelectsInherited ds → ClassesHold cs → ClassesHold ds
  classes_other selects h = record {
    names = record {
      own = record {
        by = λ i j x y p q s.
            (let a = at_other cs ds e i x p in let b = at_other cs ds e j y q in
            h.names.own.by i j a.0 b.0 a.1 b.1 (ap name_of a.2 ∙ s ∙ sym (ap name_of b.2)));
      };
      kernels = λ c d m n s. (let r = other_mem cs ds e d n in h.names.kernels c r.0 m r.1 (s ∙ ap name_of r.2));
    };
    stand = record {
      parents = λ i d k at m.
          (let a = at_other cs ds e i d at in
          among_other (with_kernel (take i cs)) (with_kernel (take i ds)) (front i) k
          (h.stand.parents i a.0 k a.1 (subst (λ z. Mem k z) (sym (ap (λ (c : Class). c.decl.face.parents) a.2)) m)));
      metaclass = λ i d k at is.
          (let a = at_other cs ds e i d at in
          among_other (with_kernel (take i cs)) (with_kernel (take i ds)) (front i) k (h.stand.metaclass i a.0 k a.1 (ap (λ (c : Class). c.decl.face.metaclass) a.2 ∙ is)));
    };
    parents = record { by = λ d m. (let r = other_mem cs ds e d m in subst (Differ (λ (k : ClassKey). k)) (sym (ap (λ (c : Class). c.decl.face.parents) r.2)) (h.parents.by r.0 r.1)) };
    metaclasses = record {
      by = λ d k m is. (let r = other_mem cs ds e d m in above (h.metaclasses.by r.0 k r.1 (sym (ap (λ (c : Class). c.decl.face.metaclass) r.2) ∙ is)));
    };
    entries = record { by = λ d m. (let r = other_mem cs ds e d m in subst (Differ entry_name) (sym (ap (λ (c : Class). c.decl.face.entries) r.2)) (h.entries.by r.0 r.1)) };
    variables = record {
      by = λ d m. (let r = other_mem cs ds e d m in subst (Differ (λ (v : Variable). v.name)) (sym (ap (λ (c : Class). c.decl.variables) r.2)) (h.variables.by r.0 r.1));
    };
    once = record {
      by = λ d a b name m p q s t.
          (let r = other_mem cs ds e d m in let key = ap (λ (c : Class). c.key) r.2 in
          h.once.by r.0 a b name r.1
          (subst (λ (z : ClassKey). Descends (hierarchy (with_kernel cs)) z a) key (below p)) (subst (λ (z : ClassKey). Descends (hierarchy (with_kernel cs)) z b) key (below q))
          (introduces_other (with_kernel ds) (with_kernel cs) (sym all) a name s) (introduces_other (with_kernel ds) (with_kernel cs) (sym all) b name t));
    };
    moved = record {
      above = λ d name to m n.
          (let r = other_mem cs ds e d m in
          above_other r.0 d r.2 to (h.moved.above r.0 name to r.1 (subst (λ z. Mem (entries.Moved name to) z) (ap (λ (c : Class). c.decl.face.entries) r.2) n)));
      introduced = λ d name to m n.
          (let r = other_mem cs ds e d m in
          introduces_other (with_kernel cs) (with_kernel ds) all to name
          (h.moved.introduced r.0 name to r.1 (subst (λ z. Mem (entries.Moved name to) z) (ap (λ (c : Class). c.decl.face.entries) r.2) n)));
    };
    overrides = record {
      above = λ d o m n.
          (let r = other_mem cs ds e d m in let s = override_mem r.0 d r.2 o n in
          above_other r.0 d r.2 (owner (with_kernel ds) o.method).class
          (subst (λ (z : MethodRef). IsAbove cs r.0 z.class) (owner_same s.0 o s.2) (h.overrides.above r.0 s.0 r.1 s.1)));
      introduced = λ d o m n.
          (let r = other_mem cs ds e d m in let s = override_mem r.0 d r.2 o n in
          introduces_other (with_kernel cs) (with_kernel ds) all (owner (with_kernel ds) o.method).class (owner (with_kernel ds) o.method).name
          (subst (λ (z : MethodRef). Introduces (with_kernel cs) z.class z.name) (owner_same s.0 o s.2) (h.overrides.introduced r.0 s.0 r.1 s.1)));
      once = λ d m. (let r = other_mem cs ds e d m in owners_differ r.0 d r.2 (h.overrides.once r.0 r.1));
    };
    selects = selects;
  }

-- and those on selects, from classes that differ in bodies and blocks alone
module _ (cs ds : List Class) (e : map selecting cs ≡ map selecting ds) where
  without : map plain cs ≡ map plain ds
  without = plain_same cs ds e

  owned : (r : MethodRef) → owner (with_kernel cs) r ≡ owner (with_kernel ds) r
  owned r = owner_other (with_kernel cs) (with_kernel ds) (all cs ds without) r

  class_of : (d : Class) → Mem d ds → (c : Class) × Mem c cs × (selecting d ≡ selecting c)
  class_of d m = mem_same selecting cs ds e d m

  select_of : (c d : Class) → selecting d ≡ selecting c → (s : Select) → Mem s d.decl.selects → Mem s c.decl.selects
  select_of c d p s n = subst (λ z. Mem s z) (ap (λ (z : Class). z.decl.selects) p) n

  pub selects_other : SelectsInherited cs → SelectsInherited ds
  selects_other h = record {
    above = λ d s m n.
        (let r = class_of d m in
        subst (λ (z : MethodRef). IsAbove ds d z.class) (owned s.method)
        (above_other cs ds without r.0 d (ap unselected r.2) (owner (with_kernel cs) s.method).class (h.above r.0 s r.1 (select_of r.0 d r.2 s n))));
    introduced = λ d s m n.
        (let r = class_of d m in
        subst (λ (z : MethodRef). Introduces (with_kernel ds) z.class z.name) (owned s.method)
        (introduces_other (with_kernel cs) (with_kernel ds) (all cs ds without) (owner (with_kernel cs) s.method).class (owner (with_kernel cs) s.method).name (h.introduced r.0 s r.1 (select_of r.0 d r.2 s n))));
    parent = λ d s m n.
        (let r = class_of d m in
        let t = h.parent r.0 s r.1 (select_of r.0 d r.2 s n) in
        record {
          parent = t.parent;
          there = ap (λ (z : Class). slice_get z.decl.face.parents s.parent) r.2 ∙ t.there;
          above = subst (λ (z : MethodRef). Descends (hierarchy (with_kernel ds)) t.parent z.class) (owned s.method) (above cs ds without t.above);
        });
    once = λ d m.
        (let r = class_of d m in
        record {
          by = λ i j x y u v q.
              (h.once r.0 r.1).by i j x y (sym (ap (λ (z : Class). slice_get z.decl.selects i) r.2) ∙ u) (sym (ap (λ (z : Class). slice_get z.decl.selects j) r.2) ∙ v)
              (owned x.method ∙ q ∙ sym (owned y.method));
        });
    apart = λ d o s m n k same.
        (let r = class_of d m in
        let p = override_mem cs ds without r.0 d (ap unselected r.2) o n in
        h.apart r.0 p.0 s r.1 p.1 (select_of r.0 d r.2 s k) (owner_same cs ds without p.0 o p.2 ∙ same ∙ sym (owned s.method)));
  }

-- what is known, and the classes that know it
module _ (ks ls cs ds : List Class) (known : map plain ks ≡ map plain ls) (e : map plain cs ≡ map plain ds) where
  named_other : (t : ValueType) → IsNamed ks t → IsNamed ls t
  named_other t a = record { by = λ k is. among_other ks ls known k (a.by k is) }

  value_other : (t : ValueType) → IsValue ks t → IsValue ls t
  value_other t a = record { not_void = a.not_void; named = named_other t a.named }

  pub types_other : TypesKnown ks cs → TypesKnown ls ds
  types_other h = record {
    results = λ d name sig way m n.
        (let r = other_mem cs ds e d m in
        named_other sig.result (h.results r.0 name sig way r.1 (subst (λ z. Mem (entries.Introduced name sig way) z) (ap (λ (c : Class). c.decl.face.entries) r.2) n)));
    params = λ d name sig way t m n p.
        (let r = other_mem cs ds e d m in
        value_other t (h.params r.0 name sig way t r.1 (subst (λ z. Mem (entries.Introduced name sig way) z) (ap (λ (c : Class). c.decl.face.entries) r.2) n) p));
    variables = λ d v m n. (let r = other_mem cs ds e d m in value_other v.kind (h.variables r.0 v r.1 (subst (λ z. Mem v z) (ap (λ (c : Class). c.decl.variables) r.2) n)));
  }
