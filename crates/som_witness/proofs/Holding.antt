-- A class of a client that breaks no rule above an interface that breaks none.
use Rattle.std.proofs.Common.{◌≡◌, ℕ, zero, suc, ◌⊎◌, inl, inr, List, [], ◌∷◌, ◌++◌, flat_map, map, take, Option, Some, None, slice_get, refl, sym, ap, ◌∙◌, subst}
use Rattle.std.proofs.lemmas.List.{map-append}
use Rattle.som_model.specs.declared.key.Module.TheVariants as modules
use Rattle.som_model.specs.declared.key.ClassKey.{ClassKey}
use Rattle.som_model.specs.declared.class.Sig.{Sig}
use Rattle.som_model.specs.declared.class.Way.{Way}
use Rattle.som_model.specs.declared.class.Entry.TheVariants as entries
use Rattle.som_model.specs.declared.class.Override.{Override}
use Rattle.som_model.specs.declared.class.Select.{Select}
use Rattle.som_model.specs.declared.class.Variable.{Variable}
use Rattle.som_model.specs.declared.class.ClassFace.{ClassFace}
use Rattle.som_model.specs.declared.class.ClassDecl.{ClassDecl}
use Rattle.som_model.specs.declared.program.Interface.{Interface}
use Rattle.som_model.specs.Lists.{Mem, first, or_else}
use Rattle.som_model.specs.Ancestors.{Descends, itself, by_parent}
use Rattle.som_model.specs.Class.{Class, bare, class_in, entry_name}
use Rattle.som_model.specs.Classes.{class_at, hierarchy, interface_classes}
use Rattle.som_model.specs.Kernel.{kernel, som_class}
use Rattle.som_model.specs.Loads.{IsOrdered, keys_of}
use Rattle.som_model.specs.Owner.{owner}
use Rattle.som_model.specs.Rules.{name_of, s5}
use Rattle.som_model.specs.Compatible.{release_of}
use Rattle.som_model.specs.Conforming.{declared_program_breach, faces_breach, first_of_members, first_of_names}
use Rattle.som_model_laws.proofs.Lists.{apart_both, map_mem, mem_map}
use Rattle.som_model_laws.proofs.Members.{Apart, mem_left, mem_right, mem_split}
use Rattle.som_model_laws.proofs.Standing.{found, found_is, kernel_key, known_above, named_one, parents_known}
use Rattle.som_verify_classes.specs.Plainly.{BodiesFit, ClassesHold, Differ, Introduces, IntroducedOnce, IsAbove, IsAmong, MetaclassesDescend, MovedUp, NamesApart, OverridesInherited, ParentsBefore, SelectsInherited, TypesKnown}
use Rattle.som_verify_classes.proofs.Conformity.{or_none}
use Rattle.som_verify_classes.proofs.DeclaredClasses.{faces_declared}
use Rattle.som_verify_classes.proofs.PlainFaces.{classes_say}
use Rattle.som_verify_classes.proofs.PlainLists.{apart_differ, differ_apart}
use Rattle.som_verify_classes.proofs.PlainMembers.{types_say}
use Rattle.som_verify_classes.proofs.PlainWhole.{say_program}
use Rattle.som_release_laws.proofs.Lists.{get_split, take_left}
use Rattle.som_release_laws.proofs.Prefix.{descends_less, descends_more}
use Rattle.som_breach_laws.proofs.Moving.{Stands}
use Rattle.som_breach_laws.proofs.Pairs.{library_key}
use Rattle.som_witness.specs.Program.{one_class}
use Rattle.som_witness.proofs.Adding.{Stacks, alone, ordered_more}

-- the rules of an interface, class by class
pub record Holds (i : Interface) : Type 0 where
  pub classes : ClassesHold (interface_classes i)
  pub types : TypesKnown (release_of i) (interface_classes i)

pub interface_holds : (i : Interface) → faces_breach (interface_classes i) ≡ None → Holds i
interface_holds i e =
    let cs = interface_classes i in
    let a = or_none (first_of_names kernel cs) (or_else (first (flat_map (s5 (kernel ++ cs)) cs)) (first_of_members kernel cs)) e in
    let b = or_none (first (flat_map (s5 (kernel ++ cs)) cs)) (first_of_members kernel cs) a.1 in
    record { classes = classes_say cs (faces_declared modules.Library i.classes) a.0 b.1; types = types_say (kernel ++ cs) cs b.0 }

-- faces alone have no overrides and no selects
no_overrides : (i : Interface) (c : Class) → Mem c (interface_classes i) → c.decl.overrides ≡ []
no_overrides i c m = let f = map_mem (λ (f : ClassFace). class_in modules.Library (bare f)) c i.classes m in ap (λ (z : Class). z.decl.overrides) f.2

no_selects : (i : Interface) (c : Class) → Mem c (interface_classes i) → c.decl.selects ≡ []
no_selects i c m = let f = map_mem (λ (f : ClassFace). class_in modules.Library (bare f)) c i.classes m in ap (λ (z : Class). z.decl.selects) f.2

none_of : {A : Type 0} (x : A) (xs : List A) → xs ≡ [] → Mem x xs → ⊥
none_of x xs e m = subst (λ z. Mem x z) e m

pub differ_none : {A B : Type 0} (f : A → B) (xs : List A) → xs ≡ [] → Differ f xs
differ_none f xs e = subst (Differ f) (sym e) (record { by = λ i j x y a b s. absurd (cc) })

one_place : {A B : Type 0} (f : A → B) (z : A) (i j : ℕ) (x y : A) → slice_get (z ∷ []) i ≡ Some x → slice_get (z ∷ []) j ≡ Some y → f x ≡ f y → i ≡ j
one_place f z zero zero x y a b e = refl
one_place f z zero (suc j) x y a b e = absurd (cc)
one_place f z (suc i) j x y a b e = absurd (cc)

pub differ_one : {A B : Type 0} (f : A → B) (z : A) → Differ f (z ∷ [])
differ_one f z = record { by = one_place f z }

module _ (old : Interface) (so : Stands old) (holds : Holds old) (d : ClassDecl) where
  abbrev olds : List Class
  olds = interface_classes old

  abbrev O : List Class
  O = release_of old

  abbrev w : Class
  w = class_in modules.Client d

  abbrev both : List Class
  both = olds ++ w ∷ []

  abbrev A : List Class
  A = kernel ++ both

  -- what W has to be: below one class, with a name of its own, and with members of its own
  pub record Adds : Type 0 where
    pub free : (c : Class) → Mem c O → name_of c ≡ d.face.name → ⊥
    pub parent : Class
    pub there : Mem parent O
    pub below : d.face.parents ≡ parent.key ∷ []
    pub bare_ : d.face.metaclass ≡ None
    pub unmoved : (x : List ℕ) (to : ClassKey) → Mem (entries.Moved x to) d.face.entries → ⊥
    pub entries_differ : Differ entry_name d.face.entries
    pub variables_differ : Differ (λ (v : Variable). v.name) d.variables
    -- no two classes from which the parent descends introduce one name, and none of these introduces what W does
    pub once : (a b : ClassKey) (name : List ℕ) → Descends (hierarchy O) parent.key a → Descends (hierarchy O) parent.key b → Introduces O a name → Introduces O b name → a ≡ b
    pub fresh : (a : ClassKey) (name : List ℕ) (sig : Sig) (way : Way) → Descends (hierarchy O) parent.key a → Introduces O a name → Mem (entries.Introduced name sig way) d.face.entries → ⊥
    pub types : TypesKnown A (w ∷ [])
    pub overrides : (o : Override) → Mem o d.overrides → IsAbove both w (owner A o.method).class × Introduces A (owner A o.method).class (owner A o.method).name
    pub overrides_differ : Differ (λ (o : Override). owner A o.method) d.overrides
    pub selects : d.selects ≡ []
    pub bodies : BodiesFit (w ∷ [])

  -- an old class's key isn't W's
  pub not_w : (c : Class) → Mem c O → c.key ≡ w.key → ⊥
  not_w c m e = elim (mem_split c kernel olds m) [
    | inl a ↦ (let k = kernel_key c a in let same = (named_one modules.Kernel modules.Client k.0 d.face.name (sym k.1 ∙ e)).0 in cc)
    | inr b ↦ (let same = (named_one modules.Library modules.Client c.decl.face.name d.face.name (sym (library_key old c b) ∙ e)).0 in cc)
  ]

  module _ (s : Adds) where
    pub stacks : Stacks olds w
    stacks = record {
      own = record { module_ = modules.Client; outside = λ e. cc; is = refl };
      other = λ c m e. not_w c (mem_right c kernel olds m) e;
      below = λ k m. (let q = subst (λ z. Mem k z) s.below m in
          elim q [ inl is ↦ subst (λ z. Mem z (keys_of O)) (sym is) (mem_map (λ (z : Class). z.key) s.parent O s.there) | inr z ↦ absurd z ]);
      bare = s.bare_;
      unmoved = s.unmoved;
    }

    pub om : IsOrdered both
    om = ordered_more olds so.load.ordered w stacks

    abbrev oo : IsOrdered olds
    oo = so.load.ordered

    pub in_both : (c : Class) → Mem c O → Mem c A
    in_both c m = elim (mem_split c kernel olds m) [ inl a ↦ mem_left c kernel both a | inr b ↦ mem_right c kernel both (mem_left c olds (w ∷ []) b) ]

    w_there : Mem w A
    w_there = mem_right w kernel both (mem_right w olds (w ∷ []) (inl refl))

    pub up_more : (x a : ClassKey) → Descends (hierarchy O) x a → Descends (hierarchy A) x a
    up_more x a t = descends_more olds (w ∷ []) om x a t

    up_less : (c : Class) (a : ClassKey) → Mem c O → Descends (hierarchy A) c.key a → Descends (hierarchy O) c.key a
    up_less c a m t = descends_less olds (w ∷ []) om c.key a c (found olds oo c c.key m refl) t

    pub introduces_more : (a : ClassKey) (name : List ℕ) → Introduces O a name → Introduces A a name
    introduces_more a name i = record { class = i.class; there = in_both i.class i.there; named = i.named; sig = i.sig; way = i.way; entry = i.entry }

    introduces_less : (c : Class) (a : ClassKey) (name : List ℕ) → Mem c O → Descends (hierarchy O) c.key a → Introduces A a name → Introduces O a name
    introduces_less c a name m t i =
        let k = known_above olds oo c.key a c (found olds oo c c.key m refl) t in
        let f = found_is olds oo a k.0 k.1 in
        let there : Mem i.class O = elim (mem_split i.class kernel both i.there) [
          | inl x ↦ mem_left i.class kernel olds x
          | inr y ↦ elim (mem_split i.class olds (w ∷ []) y) [
            | inl x ↦ mem_right i.class kernel olds x
            | inr z ↦ elim z [ inl is ↦ absurd (not_w k.0 f.0 (f.1 ∙ sym i.named ∙ ap (λ (z : Class). z.key) is)) | inr q ↦ absurd q ]
          ]
        ] in
        record { class = i.class; there = there; named = i.named; sig = i.sig; way = i.way; entry = i.entry }

    -- what W introduces is one of its entries
    w_introduces : (a : ClassKey) (name : List ℕ) → a ≡ w.key → Introduces A a name → (sig : Sig) × (way : Way) × Mem (entries.Introduced name sig way) d.face.entries
    w_introduces a name is i =
        let x = found both om i.class w.key i.there (i.named ∙ is) in
        let y = found both om w w.key w_there refl in
        let same : i.class ≡ w = one i.class w (class_at A w.key) x y in
        (i.sig, i.way, subst (λ (z : Class). Mem (entries.Introduced name i.sig i.way) z.decl.face.entries) same i.entry)
      where
        one : (a b : Class) (o : Option Class) → o ≡ Some a → o ≡ Some b → a ≡ b
        one a b o e f = cc

    up_by : (x a : ClassKey) → x ≡ w.key → Descends (hierarchy A) x a → (a ≡ w.key) ⊎ Descends (hierarchy O) s.parent.key a
    up_by x a e itself = inl e
    up_by x a e (by_parent p m t) =
        let here = parents_known both om x w (found both om w x w_there (sym e)) in
        let q : Mem p (s.parent.key ∷ []) = subst (λ z. Mem p z) (here ∙ s.below) m in
        elim q [
          | inl is ↦ inr (up_less s.parent a s.there (subst (λ z. Descends (hierarchy A) z a) is t))
          | inr z ↦ absurd z
        ]

    abbrev rules : ClassesHold olds
    rules = holds.classes

    split : (c : Class) → Mem c both → Mem c olds ⊎ (w ≡ c)
    split c m = elim (mem_split c olds (w ∷ []) m) [ inl a ↦ inl a | inr b ↦ elim b [ inl is ↦ inr (sym is) | inr z ↦ absurd z ] ]

    names_hold : NamesApart both
    names_hold = record {
      own = apart_differ name_of both (subst Apart (sym (map-append name_of olds (w ∷ [])))
          (apart_both (map name_of olds) (name_of w ∷ []) (differ_apart name_of olds rules.names.own) ((λ m. m), tt) (λ a m n.
          let c = map_mem name_of a olds m in
          elim n [ inl is ↦ s.free c.0 (mem_right c.0 kernel olds c.1) (sym c.2 ∙ is) | inr z ↦ z ])));
      kernels = λ c q m n e. elim (split q n) [
        | inl a ↦ rules.names.kernels c q m a e
        | inr is ↦ s.free c (mem_left c kernel olds m) (e ∙ ap name_of (sym is))
      ];
    }

    before : (i : ℕ) (c : Class) (k : ClassKey) → slice_get both i ≡ Some c → (slice_get olds i ≡ Some c → IsAmong (kernel ++ take i olds) k) → (w ≡ c → IsAmong O k) → IsAmong (kernel ++ take i both) k
    before i c k e f g = elim (get_split olds (w ∷ []) i c e) [
      | inl l ↦ subst (λ (z : List Class). IsAmong (kernel ++ z) k) (sym (take_left olds (w ∷ []) i c l)) (f l)
      | inr (j, h, t) ↦ (
          let q = g (alone w c j h) in
          let there : Mem q.class (kernel ++ (olds ++ take j (w ∷ []))) = elim (mem_split q.class kernel olds q.there) [
            | inl a ↦ mem_left q.class kernel (olds ++ take j (w ∷ [])) a
            | inr b ↦ mem_right q.class kernel (olds ++ take j (w ∷ [])) (mem_left q.class olds (take j (w ∷ [])) b)
          ] in
          subst (λ (z : List Class). IsAmong (kernel ++ z) k) (sym t) (record { class = q.class; there = there; named = q.named }))
    ]

    parents_hold : ParentsBefore both
    parents_hold = record {
      parents = λ i c k e m. before i c k e (λ l. rules.stand.parents i c k l m) (λ is.
          let q = subst (λ z. Mem k z) s.below (subst (λ (z : Class). Mem k z.decl.face.parents) (sym is) m) in
          elim q [ inl e ↦ record { class = s.parent; there = s.there; named = sym e } | inr z ↦ absurd z ]);
      metaclass = λ i c k e f. before i c k e (λ l. rules.stand.metaclass i c k l f) (λ is. absurd (no_metaclass c k is f));
    }
      where
        no_metaclass : (c : Class) (k : ClassKey) → w ≡ c → c.decl.face.metaclass ≡ Some k → ⊥
        no_metaclass c k is f = let g : None ≡ Some k = sym s.bare_ ∙ ap (λ (z : Class). z.decl.face.metaclass) is ∙ f in cc

    -- of each class, what is so of the old ones and of W
    each : (P : Class → Type 0) → ((c : Class) → Mem c olds → P c) → P w → (c : Class) → Mem c both → P c
    each P f g c m = elim (split c m) [ inl a ↦ f c a | inr is ↦ subst P is g ]

    metaclasses_hold : MetaclassesDescend both
    metaclasses_hold = record {
      by = λ c k m e. each (λ z. (k : ClassKey) → z.decl.face.metaclass ≡ Some k → Descends (hierarchy A) k som_class) (λ z n k f. up_more k som_class (rules.metaclasses.by z k n f))
          (λ k f. absurd (let g : None ≡ Some k = sym s.bare_ ∙ f in cc)) c m k e;
    }

    once_by : (a b : ClassKey) (name : List ℕ) → Descends (hierarchy A) w.key a → Descends (hierarchy A) w.key b → Introduces A a name → Introduces A b name → a ≡ b
    once_by a b name da db ia ib = elim (up_by w.key a refl da) [
      | inl x ↦ elim (up_by w.key b refl db) [
        | inl y ↦ x ∙ sym y
        | inr y ↦ (let e = w_introduces a name x ia in absurd (s.fresh b name e.0 e.1 y (introduces_less s.parent b name s.there y ib) e.2))
      ]
      | inr x ↦ elim (up_by w.key b refl db) [
        | inl y ↦ (let e = w_introduces b name y ib in absurd (s.fresh a name e.0 e.1 x (introduces_less s.parent a name s.there x ia) e.2))
        | inr y ↦ s.once a b name x y (introduces_less s.parent a name s.there x ia) (introduces_less s.parent b name s.there y ib)
      ]
    ]

    once_hold : IntroducedOnce both
    once_hold = record {
      by = λ c a b name m da db ia ib. each
          (λ z. (a b : ClassKey) → Descends (hierarchy A) z.key a → Descends (hierarchy A) z.key b → Introduces A a name → Introduces A b name → a ≡ b)
          (λ z n a b da db ia ib. (
          let q = mem_right z kernel olds n in
          let x = up_less z a q da in
          let y = up_less z b q db in
          rules.once.by z a b name n x y (introduces_less z a name q x ia) (introduces_less z b name q y ib)))
          (λ a b da db ia ib. once_by a b name da db ia ib) c m a b da db ia ib;
    }

    moved_hold : MovedUp both
    moved_hold = record {
      above = λ c name to m e. each (λ z. Mem (entries.Moved name to) z.decl.face.entries → IsAbove both z to)
          (λ z n e. (let q = rules.moved.above z name to n e in record { other = q.other; above = up_more z.key to q.above })) (λ e. absurd (s.unmoved name to e)) c m e;
      introduced = λ c name to m e. each (λ z. Mem (entries.Moved name to) z.decl.face.entries → Introduces A to name)
          (λ z n e. introduces_more to name (rules.moved.introduced z name to n e)) (λ e. absurd (s.unmoved name to e)) c m e;
    }

    overrides_hold : OverridesInherited both
    overrides_hold = record {
      above = λ c o m n. each (λ z. Mem o z.decl.overrides → IsAbove both z (owner A o.method).class) (λ z q n. absurd (none_of o z.decl.overrides (no_overrides old z q) n)) (λ n. (s.overrides o n).0) c m n;
      introduced = λ c o m n. each (λ z. Mem o z.decl.overrides → Introduces A (owner A o.method).class (owner A o.method).name) (λ z q n. absurd (none_of o z.decl.overrides (no_overrides old z q) n)) (λ n. (s.overrides o n).1) c m n;
      once = λ c m. each (λ z. Differ (λ (o : Override). owner A o.method) z.decl.overrides) (λ z q. differ_none (λ (o : Override). owner A o.method) z.decl.overrides (no_overrides old z q)) s.overrides_differ c m;
    }

    -- no class has a select
    selectless : (c : Class) → Mem c both → c.decl.selects ≡ []
    selectless = each (λ z. z.decl.selects ≡ []) (λ z q. no_selects old z q) s.selects

    selects_hold : SelectsInherited both
    selects_hold = record {
      above = λ c t m n. absurd (none_of t c.decl.selects (selectless c m) n);
      introduced = λ c t m n. absurd (none_of t c.decl.selects (selectless c m) n);
      parent = λ c t m n. absurd (none_of t c.decl.selects (selectless c m) n);
      once = λ c m. differ_none (λ (t : Select). owner A t.method) c.decl.selects (selectless c m);
      apart = λ c o t m k n e. none_of t c.decl.selects (selectless c m) n;
    }

    classes_hold : ClassesHold both
    classes_hold = record {
      names = names_hold;
      stand = parents_hold;
      parents = record { by = each (λ z. Differ (λ (k : ClassKey). k) z.decl.face.parents) rules.parents.by (subst (Differ (λ (k : ClassKey). k)) (sym s.below) (differ_one (λ (k : ClassKey). k) s.parent.key)) };
      metaclasses = metaclasses_hold;
      entries = record { by = each (λ z. Differ entry_name z.decl.face.entries) rules.entries.by s.entries_differ };
      variables = record { by = each (λ z. Differ (λ (v : Variable). v.name) z.decl.variables) rules.variables.by s.variables_differ };
      once = once_hold;
      moved = moved_hold;
      overrides = overrides_hold;
      selects = selects_hold;
    }

    -- the client of this one class breaks no rule that looks into no block
    pub program_holds : declared_program_breach (one_class old d) ≡ None
    program_holds = say_program (one_class old d) (record { classes = classes_hold; base_types = holds.types; own_types = s.types; bodies = s.bodies })
