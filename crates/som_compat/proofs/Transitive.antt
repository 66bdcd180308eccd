-- Compatibility goes along a list of interfaces.
use Rattle.std.proofs.Common.{◌≡◌, ℕ, suc, ◌<◌, inl, inr, List, [], ◌∷◌, length, Some, slice_get, refl, sym, ap, ◌∙◌, subst, arith}
use Rattle.som_model.specs.declared.key.ClassKey.{ClassKey}
use Rattle.som_model.specs.declared.program.Interface.{Interface}
use Rattle.som_model.specs.Lists.{Mem}
use Rattle.som_model.specs.Ancestors.{Descends, itself, by_parent}
use Rattle.som_model.specs.Class.{Class}
use Rattle.som_model.specs.Classes.{hierarchy, interface_classes}
use Rattle.som_model.specs.Kernel.{kernel, som_class}
use Rattle.som_model.specs.Metaclass.{meta}
use Rattle.som_model.specs.Compatible.{release_of, order_of, signature, Compatible, EachNext, EachLater}
use Rattle.som_model_laws.proofs.Members.{mem_right, mem_split}
use Rattle.som_model_laws.proofs.Laws.{descends_through}
use Rattle.som_model_laws.proofs.Lists.{get_mem}
use Rattle.som_verify_classes.specs.Places.{class_of_place, key_at}
use Rattle.som_verify_classes.specs.Plainly.{IsAmong}
use Rattle.som_verify_classes.proofs.Falling.{mem_there}
use Rattle.som_verify_classes.proofs.Finding.{mem_place}
use Rattle.som_compat.specs.Conditions.{Conforms}
use Rattle.som_compat.specs.Metaclasses.{IsDeclared}
use Rattle.som_compat.specs.Plainly.{IsPair, Keeps}
use Rattle.som_compat.proofs.Known.{IsKnown, known}
use Rattle.som_compat.proofs.MetaLaw.{meta_law}
use Rattle.som_compat.proofs.Plain.{keeps, kept}

pub mem_get : {A : Type 0} (xs : List A) (x : A) → Mem x xs → (i : ℕ) × (slice_get xs i ≡ Some x)
mem_get [] x m = absurd m
mem_get (y ∷ ys) x (inl e) = (0, ap (λ z. Some z) (sym e))
mem_get (y ∷ ys) x (inr m) = let r = mem_get ys x m in (suc r.0, r.1)

-- a class of the kernel has the same ancestors in each release
module _ (a b : List Class) (ka : IsKnown a) (kb : IsKnown b) where
  kernel_key_at : (p : ℕ) → p < 4 → key_at a p ≡ key_at b p
  kernel_key_at p lt = ap (λ (c : Class). c.key) ((ka.kernel p lt).1 ∙ sym (kb.kernel p lt).1)

  kernel_parents : (p : ℕ) → p < 4 → (hierarchy a).parents (key_at a p) ≡ (hierarchy b).parents (key_at b p)
  kernel_parents p lt =
      ka.parents p (ka.kernel p lt).0 ∙ ap (λ (c : Class). c.decl.face.parents) ((ka.kernel p lt).1 ∙ sym (kb.kernel p lt).1) ∙ sym (kb.parents p (kb.kernel p lt).0)

  pub kernel_same : (x y : ClassKey) (p : ℕ) → p < 4 → key_at a p ≡ x → Descends (hierarchy a) x y → Descends (hierarchy b) x y
  kernel_same x y p lt is itself = itself
  kernel_same x y p lt is (by_parent k m d) =
      let here : Mem k ((hierarchy a).parents (key_at a p)) = subst (λ z. Mem k ((hierarchy a).parents z)) (sym is) m in
      let q = ka.stand p k (ka.kernel p lt).0 (subst (λ z. Mem k z) (ka.parents p (ka.kernel p lt).0) here) in
      by_parent k (subst (λ z. Mem k z) (kernel_parents p lt ∙ ap (hierarchy b).parents (sym (kernel_key_at p lt) ∙ is)) here) (kernel_same k y q.0 (omega (arith, q.1, lt)) q.2 d)

declared_at : (cs : List Class) → IsKnown cs → (p : ℕ) → p < length cs → IsDeclared (key_at cs p)
declared_at cs k p lt = let r = k.named p lt in record { module_ = _; name = r.0; is = r.1 }

module _ (old mid new : Interface) (old_ok : Conforms old) (mid_ok : Conforms mid) (new_ok : Conforms new) (a : Keeps old mid) (b : Keeps mid new) where
  abbrev O : List Class
  O = release_of old

  abbrev M : List Class
  M = release_of mid

  abbrev N : List Class
  N = release_of new

  -- the class in between
  between : (c : Class) → Mem c (interface_classes old) → (m : Class) × Mem m (interface_classes mid) × (m.key ≡ c.key)
  between c m = let r = a.classes c m in (r.class, r.there, r.named)

  -- what a known class descends from in mid, it does in new
  goes_on : (x y : ClassKey) → IsAmong M x → Descends (hierarchy M) x y → Descends (hierarchy N) x y
  goes_on x y am d = elim (mem_split am.class kernel (interface_classes mid) am.there) [
    | inl k ↦ (let r = mem_there kernel am.class k in
        let lt : r.0 < 4 = r.1 in
        let at = (known mid mid_ok).kernel r.0 lt in
        kernel_same M N (known mid mid_ok) (known new new_ok) x y r.0 lt (ap (λ (c : Class). c.key) (at.1 ∙ r.2) ∙ am.named) d)
    | inr k ↦ subst (λ z. Descends (hierarchy N) z y) am.named (b.ancestors am.class y k (subst (λ z. Descends (hierarchy M) z y) (sym am.named) d))
  ]

  class_among : (cs : List Class) → IsKnown cs → (p : ℕ) → p < length cs → IsAmong cs (key_at cs p)
  class_among cs k p lt = record { class = class_of_place cs p; there = mem_place cs p lt; named = refl }

  -- the class that a class of the release declares as its metaclass is known
  metaclass_among : (cs : List Class) → IsKnown cs → (c : Class) (k : ClassKey) → Mem c cs → c.decl.face.metaclass ≡ Some k → IsAmong cs k
  metaclass_among cs known c k m e =
      let r = mem_there cs c m in
      let q = known.metaclass r.0 k r.1 (ap (λ (c : Class). c.decl.face.metaclass) r.2 ∙ e) in
      subst (IsAmong cs) q.2 (class_among cs known q.0 q.1)

  among_declared : (cs : List Class) → IsKnown cs → (k : ClassKey) → IsAmong cs k → IsDeclared k
  among_declared cs known k am = let r = mem_there cs am.class am.there in subst IsDeclared (ap (λ (c : Class). c.key) r.2 ∙ am.named) (declared_at cs known r.0 r.1)

  -- the kernel's classes declare none
  declares_library : (cs : Interface) (c : Class) (k : ClassKey) → Mem c (release_of cs) → c.decl.face.metaclass ≡ Some k → Mem c (interface_classes cs)
  declares_library cs c k m e = elim (mem_split c kernel (interface_classes cs) m) [ inl n ↦ absurd (kernel_none c n e) | inr n ↦ n ]
    where
      kernel_none : (d : Class) → Mem d kernel → d.decl.face.metaclass ≡ Some k → ⊥
      kernel_none d (inl is) f = let g = ap (λ (c : Class). c.decl.face.metaclass) (sym is) ∙ f in cc
      kernel_none d (inr (inl is)) f = let g = ap (λ (c : Class). c.decl.face.metaclass) (sym is) ∙ f in cc
      kernel_none d (inr (inr (inl is))) f = let g = ap (λ (c : Class). c.decl.face.metaclass) (sym is) ∙ f in cc
      kernel_none d (inr (inr (inr (inl is)))) f = let g = ap (λ (c : Class). c.decl.face.metaclass) (sym is) ∙ f in cc
      kernel_none d (inr (inr (inr (inr z)))) f = z

  som_class_goes : (d : ClassKey) → Descends (hierarchy M) som_class d → Descends (hierarchy N) som_class d
  som_class_goes d e = kernel_same M N (known mid mid_ok) (known new new_ok) som_class d 1 (omega arith) (ap (λ (c : Class). c.key) ((known mid mid_ok).kernel 1 (omega arith)).1) e

  metaclass : (c : Class) (d : ClassKey) → Mem c (interface_classes old) → c.decl.face.metaclass ≡ Some d → Descends (hierarchy N) (meta N c.key) d
  metaclass c d m decl =
      let hn = hierarchy N in
      let kn = known new new_ok in
      let km = known mid mid_ok in
      let is_declared = among_declared O (known old old_ok) d (metaclass_among O (known old old_ok) c d (mem_right c kernel (interface_classes old) m) decl) in
      let mid_one = between c m in
      elim ((meta_law M km c.key d is_declared).0 (a.metaclasses c d m decl)) [
        | inl r ↦ (meta_law N kn c.key d is_declared).1 (inl (som_class_goes d r))
        | inr e ↦ (
            let e_in = declares_library mid e.class e.metaclass e.there e.declared in
            let f_in = metaclass_among M km e.class e.metaclass e.there e.declared in
            let fd = goes_on e.metaclass d f_in e.below in
            let ce : Descends hn c.key e.class.key = subst (λ z. Descends hn z e.class.key) mid_one.2 (b.ancestors mid_one.0 e.class.key mid_one.1 (subst (λ z. Descends (hierarchy M) z e.class.key) (sym mid_one.2) e.above)) in
            elim ((meta_law N kn e.class.key e.metaclass (among_declared M km e.metaclass f_in)).0 (b.metaclasses e.class e.metaclass e_in e.declared)) [
              | inl r ↦ (meta_law N kn c.key d is_declared).1 (inl (descends_through hn som_class e.metaclass d r fd))
              | inr g ↦ (meta_law N kn c.key d is_declared).1 (inr (record {
                class = g.class;
                there = g.there;
                above = descends_through hn c.key e.class.key g.class.key ce g.above;
                metaclass = g.metaclass;
                declared = g.declared;
                below = descends_through hn g.metaclass e.metaclass d g.below fd;
              }))
            ])
      ]

  pair_left : (c n : Class) → IsPair old new c n → (m : Class) × IsPair old mid c m × IsPair mid new m n
  pair_left c n p =
      let r = between c p.old_one in
      (r.0, record { old_one = p.old_one; new_one = r.1; same = r.2 }, record { old_one = r.1; new_one = p.new_one; same = p.same ∙ sym r.2 })

  pub goes_along : Keeps old new
  goes_along = record {
    classes = λ c m. (let r = between c m in let s = b.classes r.0 r.1 in record { class = s.class; there = s.there; named = s.named ∙ r.2 });
    major = λ c n p. (let r = pair_left c n p in a.major c r.0 r.1 ∙ b.major r.0 n r.2);
    minor = λ c n p. (let r = pair_left c n p in let x = a.minor c r.0 r.1 in let y = b.minor r.0 n r.2 in omega (arith, x, y));
    ancestors = λ c x m d. (let r = between c m in
        subst (λ z. Descends (hierarchy N) z x) r.2 (b.ancestors r.0 x r.1 (subst (λ z. Descends (hierarchy M) z x) (sym r.2) (a.ancestors c x m d))));
    places = λ c n place name p at. (let r = pair_left c n p in b.places r.0 n place name r.2 (a.places c r.0 place name r.1 at));
    signatures = λ c name m k. (
        let r = between c m in
        let p : IsPair old mid c r.0 = record { old_one = m; new_one = r.1; same = r.2 } in
        let g = mem_get (order_of c) name k in
        let in_mid = get_mem (order_of r.0) g.0 name (a.places c r.0 g.0 name p g.1) in
        a.signatures c name m k ∙ ap (λ z. signature M z name) (sym r.2) ∙ b.signatures r.0 name r.1 in_mid ∙ ap (λ z. signature N z name) r.2);
    metaclasses = metaclass;
  }

-- from neighbours to all pairs
module _ {A : Type 0} (R : A → A → Type 0) (Good : A → Type 0) (trans : (a b c : A) → Good a → Good b → Good c → R a b → R b c → R a c) where
  from_first : (a : A) (xs : List A) → Good a → ((x : A) → Mem x xs → Good x) → EachNext R (a ∷ xs) → (x : A) → Mem x xs → R a x
  from_first a [] g good next x m = absurd m
  from_first a (b ∷ xs) g good next x (inl e) = subst (λ (z : A). R a z) (sym e) next.0
  from_first a (b ∷ xs) g good next x (inr m) = trans a b x g (good b (inl refl)) (good x (inr m)) next.0 (from_first b xs (good b (inl refl)) (λ y n. good y (inr n)) next.1 x m)

  rest_next : (a : A) (xs : List A) → EachNext R (a ∷ xs) → EachNext R xs
  rest_next a [] next = tt
  rest_next a (b ∷ xs) next = next.1

  pub each_later : (xs : List A) → ((x : A) → Mem x xs → Good x) → EachNext R xs → EachLater R xs
  each_later [] good next = tt
  each_later (a ∷ xs) good next = (from_first a xs (good a (inl refl)) (λ y n. good y (inr n)) next, each_later xs (λ y n. good y (inr n)) (rest_next a xs next))

pub compatible_along : (old mid new : Interface) → Conforms old → Conforms mid → Conforms new → Compatible old mid → Compatible mid new → Compatible old new
compatible_along old mid new o m n a b = kept old new o n (goes_along old mid new o m n (keeps old mid o m a) (keeps mid new m n b))
