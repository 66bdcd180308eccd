-- What is kept goes along lists of classes, and each list keeps what it promises itself.
use Rattle.std.proofs.Common.{◌≡◌, inl, inr, List, ◌++◌, Some, slice_get, refl, sym, ap, ◌∙◌, subst, arith}
use Rattle.som_model.specs.declared.key.ClassKey.{ClassKey}
use Rattle.som_model.specs.Lists.{Mem}
use Rattle.som_model.specs.Ancestors.{Descends, itself, by_parent}
use Rattle.som_model.specs.Class.{Class}
use Rattle.som_model.specs.Classes.{class_at, hierarchy}
use Rattle.som_model.specs.Kernel.{kernel, som_class}
use Rattle.som_model.specs.Metaclass.{meta}
use Rattle.som_model.specs.Compatible.{order_of, signature}
use Rattle.som_model_laws.proofs.Members.{mem_left, mem_right, mem_split}
use Rattle.som_model_laws.proofs.Laws.{descends_through}
use Rattle.som_model_laws.specs.Keeping.{ClassesKeep, IsPair}
use Rattle.som_model.specs.Loads.{IsOrdered, keys_of}
use Rattle.som_model_laws.specs.Metaclasses.{IsDeclared, StandsLow}
use Rattle.som_model_laws.proofs.Lists.{get_mem, map_mem, mem_get, mem_map}
use Rattle.som_model_laws.proofs.Standing.{found, found_is, keyed, known_above, lower, parents_known}
use Rattle.som_model_laws.proofs.Metas.{first_four, in_four, kernel_low, kernel_none, low_kernel, meta_law}
use Rattle.som_model_laws.proofs.Owners.{metaclass_known}

-- a class that is known is declared
pub known_declared : (cs : List Class) → IsOrdered cs → (k : ClassKey) (c : Class) → class_at (kernel ++ cs) k ≡ Some c → IsDeclared k
known_declared cs o k c e = let r = found_is cs o k c e in let n = keyed cs o c r.0 in record { module_ = n.0; name = n.1; is = sym r.1 ∙ n.2 }

-- a parent of a class of the kernel is one of the kernel
pub kernel_parent : (cs : List Class) → IsOrdered cs → (c : Class) (p : ClassKey) → Mem c kernel → Mem p c.decl.face.parents → (d : Class) × Mem d kernel × (d.key ≡ p)
kernel_parent cs o c p m n =
    let i = mem_get kernel c m in
    let at = in_four cs i.0 c i.1 in
    let r = lower cs o i.0 c p at.1 n in
    let less = r.2 in
    let few = at.0 in
    (r.1, first_four cs r.0 r.1 (omega (arith, less, few)) r.3, r.4)

-- a class of the kernel has the same ancestors among all classes
module _ (olds news : List Class) (ordered_old : IsOrdered olds) (ordered_new : IsOrdered news) where
  pub kernel_descends : (x y : ClassKey) (c : Class) → Mem c kernel → c.key ≡ x → Descends (hierarchy (kernel ++ olds)) x y → Descends (hierarchy (kernel ++ news)) x y
  kernel_descends x y c m is itself = itself
  kernel_descends x y c m is (by_parent p n d) =
      let here : Mem p c.decl.face.parents = subst (λ z. Mem p z) (parents_known olds ordered_old x c (found olds ordered_old c x (mem_left c kernel olds m) is)) n in
      let q = kernel_parent olds ordered_old c p m here in
      by_parent p (subst (λ z. Mem p z) (sym (parents_known news ordered_new x c (found news ordered_new c x (mem_left c kernel news m) is))) here) (kernel_descends p y q.0 q.1 q.2 d)

module _ (olds mids news : List Class) (oo : IsOrdered olds) (om : IsOrdered mids) (on : IsOrdered news) (a : ClassesKeep olds mids) (b : ClassesKeep mids news) where
  abbrev M : List Class
  M = kernel ++ mids

  abbrev N : List Class
  N = kernel ++ news

  -- the class in between
  between : (c : Class) → Mem c olds → (m : Class) × Mem m mids × (c.key ≡ m.key)
  between c m = map_mem (λ (z : Class). z.key) c.key mids (a.classes c m)

  -- what a known class descends from in between, it does in the new
  goes_on : (x y : ClassKey) (c : Class) → class_at M x ≡ Some c → Descends (hierarchy M) x y → Descends (hierarchy N) x y
  goes_on x y c e d =
      let r = found_is mids om x c e in
      elim (mem_split c kernel mids r.0) [
        | inl k ↦ kernel_descends mids news om on x y c k r.1 d
        | inr k ↦ subst (λ z. Descends (hierarchy N) z y) r.1 (b.ancestors c y k (subst (λ z. Descends (hierarchy M) z y) (sym r.1) d))
      ]

  -- what a class of the old descends from in between, it does in the new
  above : (c : Class) (y : ClassKey) → Mem c olds → Descends (hierarchy M) c.key y → Descends (hierarchy N) c.key y
  above c y m d =
      let r = between c m in
      subst (λ z. Descends (hierarchy N) z y) (sym r.2) (b.ancestors r.0 y r.1 (subst (λ z. Descends (hierarchy M) z y) r.2 d))

  -- a class of the old stands in the new on the class of the kernel on which it stands in between
  stands_on : (c : Class) → Mem c olds → StandsLow M c.key → StandsLow N c.key
  stands_on c m s =
      let r = between c m in
      let here = found mids om r.0 c.key (mem_right r.0 kernel mids r.1) (sym r.2) in
      let l = known_above mids om c.key s.class r.0 here s.above in
      let k = low_kernel mids om s.class l.0 l.1 s.low in
      record { class = s.class; low = kernel_low news on l.0 s.class k (found_is mids om s.class l.0 l.1).1; above = above c s.class m s.above }

  metaclass : (c : Class) (d : ClassKey) → Mem c olds → c.decl.face.metaclass ≡ Some d → Descends (hierarchy N) (meta N c.key) d
  metaclass c d m decl =
      let hn = hierarchy N in
      let known_old = metaclass_known olds oo c.key c d (found olds oo c c.key (mem_right c kernel olds m) refl) decl in
      let declared : IsDeclared d = known_declared olds oo d known_old.0 known_old.1 in
      elim ((meta_law mids om c.key d declared).0 (a.metaclasses c d m decl)) [
        | inl (r, s) ↦ (meta_law news on c.key d declared).1 (inl (kernel_descends mids news om on som_class d _ (inr (inl refl)) refl r, stands_on c m s))
        | inr e ↦ (
            let e_in : Mem e.class mids = elim (mem_split e.class kernel mids e.there) [ inl k ↦ absurd (kernel_none e.class e.metaclass k e.declared) | inr k ↦ k ] in
            let f_in = metaclass_known mids om e.class.key e.class e.metaclass (found mids om e.class e.class.key e.there refl) e.declared in
            let fd = goes_on e.metaclass d f_in.0 f_in.1 e.below in
            let ce = above c e.class.key m e.above in
            elim ((meta_law news on e.class.key e.metaclass (known_declared mids om e.metaclass f_in.0 f_in.1)).0 (b.metaclasses e.class e.metaclass e_in e.declared)) [
              | inl (r, s) ↦ (meta_law news on c.key d declared).1 (inl (
                descends_through hn som_class e.metaclass d r fd,
                record { class = s.class; low = s.low; above = descends_through hn c.key e.class.key s.class ce s.above },
              ))
              | inr g ↦ (meta_law news on c.key d declared).1 (inr (record {
                class = g.class;
                there = g.there;
                above = descends_through hn c.key e.class.key g.class.key ce g.above;
                metaclass = g.metaclass;
                declared = g.declared;
                below = descends_through hn g.metaclass e.metaclass d g.below fd;
              }))
            ])
      ]

  pair_left : (c n : Class) → IsPair olds news c n → (m : Class) × IsPair olds mids c m × IsPair mids news m n
  pair_left c n p =
      let r = between c p.old_one in
      (r.0, record { old_one = p.old_one; new_one = r.1; same = sym r.2 }, record { old_one = r.1; new_one = p.new_one; same = p.same ∙ r.2 })

  pub goes_along : ClassesKeep olds news
  goes_along = record {
    classes = λ c m. (let r = between c m in subst (λ z. Mem z (keys_of news)) (sym r.2) (b.classes r.0 r.1));
    major = λ c n p. (let r = pair_left c n p in a.major c r.0 r.1 ∙ b.major r.0 n r.2);
    minor = λ c n p. (let r = pair_left c n p in let x = a.minor c r.0 r.1 in let y = b.minor r.0 n r.2 in omega (arith, x, y));
    ancestors = λ c x m d. above c x m (a.ancestors c x m d);
    places = λ c n place name p at. (let r = pair_left c n p in b.places r.0 n place name r.2 (a.places c r.0 place name r.1 at));
    signatures = λ c name m k. (
        let r = between c m in
        let p : IsPair olds mids c r.0 = record { old_one = m; new_one = r.1; same = sym r.2 } in
        let g = mem_get (order_of c) name k in
        let in_mid = get_mem (order_of r.0) g.0 name (a.places c r.0 g.0 name p g.1) in
        a.signatures c name m k ∙ ap (λ z. signature M z name) r.2 ∙ b.signatures r.0 name r.1 in_mid ∙ ap (λ z. signature N z name) (sym r.2));
    metaclasses = metaclass;
  }

-- a list keeps what it promises itself
module _ (cs : List Class) (o : IsOrdered cs) where
  pair_one : (c n : Class) → IsPair cs cs c n → n ≡ c
  pair_one c n p =
      let x = found cs o c c.key (mem_right c kernel cs p.old_one) refl in
      let y = found cs o n c.key (mem_right n kernel cs p.new_one) p.same in
      let z = sym y ∙ x in
      cc

  pub keeps_itself : ClassesKeep cs cs
  keeps_itself = record {
    classes = λ c m. mem_map (λ (z : Class). z.key) c cs m;
    major = λ c n p. ap (λ (z : Class). z.decl.face.major) (sym (pair_one c n p));
    minor = λ c n p. (let e = ap (λ (z : Class). z.decl.face.minor) (pair_one c n p) in omega (arith, e));
    ancestors = λ c a m d. d;
    places = λ c n place name p at. ap (λ (z : Class). slice_get (order_of z) place) (pair_one c n p) ∙ at;
    signatures = λ c name m k. refl;
    metaclasses = λ c m n is. (
        let known = metaclass_known cs o c.key c m (found cs o c c.key (mem_right c kernel cs n) refl) is in
        (meta_law cs o c.key m (known_declared cs o m known.0 known.1)).1
        (inr (record { class = c; there = mem_right c kernel cs n; above = itself; metaclass = m; declared = is; below = itself })));
  }
