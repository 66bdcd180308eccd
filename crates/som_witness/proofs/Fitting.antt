-- The two shapes of W add to an interface that breaks no rule: below an old class, and below SOMObject with the method g.
use Rattle.std.proofs.Common.{◌≡◌, ℕ, zero, suc, inl, inr, true, not, List, [], ◌∷◌, ◌++◌, length, Option, Some, None, slice_get, refl, sym, ap, ◌∙◌, subst, true≢false}
use Rattle.std.specs.Prelude.{codes}
use Rattle.std.specs.Str.{bytes_eq}
use Rattle.som_model.specs.declared.key.Module.TheVariants as modules
use Rattle.som_model.specs.declared.key.ClassKey.{ClassKey}
use Rattle.som_model.specs.declared.key.ClassKey.TheVariants as keys
use Rattle.som_model.specs.declared.key.MethodRef.{MethodRef}
use Rattle.som_model.specs.declared.key.ValueType.{ValueType}
use Rattle.som_model.specs.declared.syntax.Block.{Block}
use Rattle.som_model.specs.declared.syntax.Stmt.{Stmt}
use Rattle.som_model.specs.declared.class.Sig.{Sig}
use Rattle.som_model.specs.declared.class.Way.{Way}
use Rattle.som_model.specs.declared.class.Way.TheVariants as ways
use Rattle.som_model.specs.declared.class.Entry.{Entry}
use Rattle.som_model.specs.declared.class.Entry.TheVariants as entries
use Rattle.som_model.specs.declared.class.Body.{Body}
use Rattle.som_model.specs.declared.class.Body.TheVariants as bodies
use Rattle.som_model.specs.declared.class.Override.{Override}
use Rattle.som_model.specs.declared.class.Variable.{Variable}
use Rattle.som_model.specs.declared.class.ClassDecl.{ClassDecl}
use Rattle.som_model.specs.declared.program.Interface.{Interface}
use Rattle.som_model.specs.Lists.{Mem, every}
use Rattle.som_model.specs.Ancestors.{Descends, itself, by_parent}
use Rattle.som_model.specs.Class.{Class, bare, class_in, entry_name, introduced}
use Rattle.som_model.specs.Classes.{class_at, hierarchy, interface_classes}
use Rattle.som_model.specs.Kernel.{kernel, object_face, som_object}
use Rattle.som_model.specs.Loads.{IsOrdered, keys_of}
use Rattle.som_model.specs.Owner.{entry_at, introduces, owner}
use Rattle.som_model.specs.Rules.{is_known, is_value_type, is_void, name_of}
use Rattle.som_model.specs.Compatible.{release_of}
use Rattle.som_model.proofs.KeyLaws.{both, exact_bytes}
use Rattle.som_model.proofs.ListLaws.{is_false}
use Rattle.som_model_laws.proofs.Lists.{every_mem, mem_map}
use Rattle.som_model_laws.proofs.Members.{mem_left, mem_right}
use Rattle.som_model_laws.proofs.Owners.{entry_class, entry_mem, moved_to, owner_stays}
use Rattle.som_model_laws.proofs.Standing.{found, found_is, named_one, parents_known}
use Rattle.som_verify_classes.specs.Plainly.{BodiesFit, Differ, Fits, a_block, Introduces, IsAbove, IsNamed, IsValue, TypesKnown}
use Rattle.som_verify_classes.proofs.PlainNames.{known_among}
use Rattle.som_release_laws.proofs.Facts.{introduced_entry}
use Rattle.som_release_laws.proofs.Prefix.{entry_same}
use Rattle.som_breach_laws.proofs.Moving.{Stands}
use Rattle.som_breach_laws.proofs.Pairs.{library_key}
use Rattle.som_witness.specs.Program.{plain_below, variable_v, w_face, with_g, with_override}
use Rattle.som_witness.proofs.Adding.{Stacks, ordered_more}
use Rattle.som_witness.proofs.Holding.{Adds, Holds, differ_none, differ_one}
use Rattle.som_witness.proofs.Known.{sig_known, sig_left, value_left}

-- ---- types that are known, in words

named_says : (cs : List Class) (t : ValueType) → is_known cs t ≡ true → IsNamed cs t
named_says cs t e = record { by = λ k is. known_among cs k (subst (λ z. is_known cs z ≡ true) is e) }

value_says : (cs : List Class) (t : ValueType) → is_value_type cs t ≡ true → IsValue cs t
value_says cs t e =
    let p = both (not (is_void t)) (is_known cs t) e in
    record { not_void = λ is. true≢false (sym (subst (λ z. not (is_void z) ≡ true) is p.0)); named = named_says cs t p.1 }

-- ---- lists of one

only : (w : Class) (P : Class → Type 0) → P w → (c : Class) → Mem c (w ∷ []) → P c
only w P p c m = elim m [ inl is ↦ subst P (sym is) p | inr z ↦ absurd z ]

same_sig : (x y : List ℕ) (s t : Sig) (v u : Way) → entries.Introduced x s v ≡ entries.Introduced y t u → (x ≡ y) × (s ≡ t)
same_sig x y s t v u e = (cc, cc)

-- variables whose types are known
abbrev pub AreFine : List Class → List Variable → Type 0
AreFine cs vs = (v : Variable) → Mem v vs → is_value_type cs v.kind ≡ true

pub none_fine : (cs : List Class) → AreFine cs []
none_fine cs v m = absurd m

pub one_fine : (cs : List Class) (kind : ValueType) → is_value_type cs kind ≡ true → AreFine cs (variable_v kind)
one_fine cs kind e v m = elim m [ inl is ↦ ap (λ (z : Variable). is_value_type cs z.kind) is ∙ e | inr z ↦ absurd z ]

module _ (old : Interface) (so : Stands old) (holds : Holds old) (name : List ℕ) (free : (c : Class) → Mem c (release_of old) → name_of c ≡ name → ⊥) where
  abbrev olds : List Class
  olds = interface_classes old

  abbrev O : List Class
  O = release_of old

  abbrev oo : IsOrdered olds
  oo = so.load.ordered

  abbrev own : ClassDecl → Class
  own d = class_in modules.Client d

  abbrev A : ClassDecl → List Class
  A d = kernel ++ (olds ++ own d ∷ [])

  values_more : (d : ClassDecl) (vs : List Variable) → AreFine O vs → (v : Variable) → Mem v vs → IsValue (A d) v.kind
  values_more d vs f v m = value_says (A d) v.kind (value_left O (own d ∷ []) v.kind (f v m))

  -- ---- below an old class, with no entry of its own

  module _ (c : Class) (m : Mem c olds) where
    abbrev K : ClassKey
    K = keys.Named modules.Library c.decl.face.name

    key_is : c.key ≡ K
    key_is = library_key old c m

    in_old : Mem c O
    in_old = mem_right c kernel olds m

    old_at : class_at O K ≡ Some c
    old_at = found olds oo c K in_old key_is

    -- W below C, with these variables and overrides
    abbrev below_c : List Variable → List Override → ClassDecl
    below_c vs os = record { face = w_face name K []; variables = vs; bodies = []; overrides = os; selects = [] }

    stacks_c : (vs : List Variable) (os : List Override) → Stacks olds (own (below_c vs os))
    stacks_c vs os = record {
      own = record { module_ = modules.Client; outside = λ e. cc; is = refl };
      other = λ q n e. (let same = (named_one modules.Library modules.Client q.decl.face.name name (sym (library_key old q n) ∙ e)).0 in cc);
      below = λ k n. elim n [ inl is ↦ subst (λ z. Mem z (keys_of O)) (key_is ∙ sym is) (mem_map (λ (z : Class). z.key) c O in_old) | inr z ↦ absurd z ];
      bare = refl;
      unmoved = λ x to n. n;
    }

    ordered_c : (vs : List Variable) (os : List Override) → IsOrdered (olds ++ own (below_c vs os) ∷ [])
    ordered_c vs os = ordered_more olds oo (own (below_c vs os)) (stacks_c vs os)

    types_c : (vs : List Variable) (os : List Override) → AreFine O vs → TypesKnown (A (below_c vs os)) (own (below_c vs os) ∷ [])
    types_c vs os f = record {
      results = λ q x sig way n e. absurd (only (own (below_c vs os)) (λ z. Mem (entries.Introduced x sig way) z.decl.face.entries → ⊥) (λ e. e) q n e);
      params = λ q x sig way t n e k. absurd (only (own (below_c vs os)) (λ z. Mem (entries.Introduced x sig way) z.decl.face.entries → ⊥) (λ e. e) q n e);
      variables = λ q v n e. only (own (below_c vs os)) (λ z. Mem v z.decl.variables → IsValue (A (below_c vs os)) v.kind) (λ e. values_more (below_c vs os) vs f v e) q n e;
    }

    bodies_c : (vs : List Variable) (os : List Override) → BodiesFit (own (below_c vs os) ∷ [])
    bodies_c vs os = record {
      as_many = only (own (below_c vs os)) (λ z. length z.decl.bodies ≡ length (introduced z.decl.face.entries)) refl;
      fit = λ q i sig b n e f. only (own (below_c vs os)) (λ z. slice_get z.decl.bodies i ≡ Some b → Fits z.decl.variables sig b) (λ g. absurd (no_body i b g)) q n f;
    }
      where
        no_body : (i : ℕ) (b : Body) → slice_get [] i ≡ Some b → ⊥
        no_body i b g = cc

    -- the methods that it overrides are C's
    abbrev Overriding : List Variable → List Override → Type 0
    Overriding vs os = ((o : Override) → Mem o os → IsAbove (olds ++ own (below_c vs os) ∷ []) (own (below_c vs os)) (owner (A (below_c vs os)) o.method).class
        × Introduces (A (below_c vs os)) (owner (A (below_c vs os)) o.method).class (owner (A (below_c vs os)) o.method).name)
        × Differ (λ (o : Override). owner (A (below_c vs os)) o.method) os

    adds_c : (vs : List Variable) (os : List Override) → AreFine O vs → Differ (λ (v : Variable). v.name) vs → Overriding vs os → Adds old so holds (below_c vs os)
    adds_c vs os f apart o = record {
      free = free;
      parent = c;
      there = in_old;
      below = ap (λ z. z ∷ []) (sym key_is);
      bare_ = refl;
      unmoved = λ x to n. n;
      entries_differ = differ_none entry_name [] refl;
      variables_differ = apart;
      once = λ a b x. holds.classes.once.by c a b x m;
      fresh = λ a x sig way t i n. n;
      types = types_c vs os f;
      overrides = o.0;
      overrides_differ = o.1;
      selects = refl;
      bodies = bodies_c vs os;
    }

    pub adds_plain : Adds old so holds (plain_below name K)
    adds_plain = adds_c [] [] (none_fine O) (differ_none (λ (v : Variable). v.name) [] refl) (λ o n. absurd n, differ_none (λ (o : Override). owner (A (below_c [] [])) o.method) [] refl)

    module _ (x : List ℕ) (intro : introduces O x K ≡ true) (vs : List Variable) (ss : List Stmt) where
      abbrev method : MethodRef
      method = record { class = K; name = x }

      abbrev o1 : Override
      o1 = record { method = method; block = record { statements = ss } }

      abbrev d1 : ClassDecl
      d1 = below_c vs (o1 ∷ [])

      entry : (e : Entry) × (entry_at O K x ≡ Some e) × (moved_to (Some e) ≡ None)
      entry = introduced_entry O x K intro

      owner_here : owner (A d1) method ≡ method
      owner_here = owner_stays (olds ++ own d1 ∷ []) (ordered_c vs (o1 ∷ [])) K x (ap moved_to (entry_same olds (own d1 ∷ []) (ordered_c vs (o1 ∷ [])) K x c old_at ∙ entry.1) ∙ entry.2)

      intro_by : (q : Class) (e : Entry) → Mem q (A d1) → q.key ≡ K → Mem e q.decl.face.entries → entry_name e ≡ x → moved_to (Some e) ≡ None → Introduces (A d1) K x
      intro_by q (entries.Introduced y sig way) n key f same stays = record { class = q; there = n; named = key; sig = sig; way = way; entry = subst (λ z. Mem (entries.Introduced z sig way) q.decl.face.entries) same f }
      intro_by q (entries.Moved y to) n key f same stays = absurd (cc)

      intro_here : Introduces (A d1) K x
      intro_here =
          let q = entry_class O K x entry.0 entry.1 in
          let f = found_is olds oo K q.0 q.1 in
          let e = entry_mem q.0.decl.face.entries x entry.0 q.2 in
          intro_by q.0 entry.0 (mem_left q.0 O (own d1 ∷ []) f.0) f.1 e.0 e.1 entry.2

      above_here : IsAbove (olds ++ own d1 ∷ []) (own d1) K
      above_here =
          let ordered = ordered_c vs (o1 ∷ []) in
          let there : Mem (own d1) (A d1) = mem_right (own d1) O (own d1 ∷ []) (inl refl) in
          let parents = parents_known (olds ++ own d1 ∷ []) ordered (own d1).key (own d1) (found (olds ++ own d1 ∷ []) ordered (own d1) (own d1).key there refl) in
          record {
            other = λ e. (let same = (named_one modules.Library modules.Client c.decl.face.name name e).0 in cc);
            above = by_parent K (subst (λ z. Mem K z) (sym parents) (inl refl)) itself;
          }

      pub adds_override : AreFine O vs → Differ (λ (v : Variable). v.name) vs → Adds old so holds (with_override name method vs ss)
      adds_override f apart = adds_c vs (o1 ∷ []) f apart (
        (λ o n. elim n [
          | inl is ↦ subst (λ (z : Override). IsAbove (olds ++ own d1 ∷ []) (own d1) (owner (A d1) z.method).class × Introduces (A d1) (owner (A d1) z.method).class (owner (A d1) z.method).name) (sym is)
              (subst (λ (z : MethodRef). IsAbove (olds ++ own d1 ∷ []) (own d1) z.class × Introduces (A d1) z.class z.name) (sym owner_here) (above_here, intro_here))
          | inr z ↦ absurd z
        ]),
        differ_one (λ (o : Override). owner (A d1) o.method) o1,
      )

  -- ---- below SOMObject, with the method g

  abbrev obj : Class
  obj = class_in modules.Kernel (bare object_face)

  obj_there : Mem obj O
  obj_there = inl refl

  obj_at : class_at O som_object ≡ Some obj
  obj_at = found olds oo obj som_object obj_there refl

  -- SOMObject descends from itself alone
  alone_by : (x a : ClassKey) → x ≡ som_object → Descends (hierarchy O) x a → a ≡ som_object
  alone_by x a e itself = e
  alone_by x a e (by_parent p n t) = absurd (subst (λ z. Mem p z) (parents_known olds oo x obj (ap (class_at O) e ∙ obj_at)) n)

  -- and has no method g
  no_g : every (λ e. not (bytes_eq (entry_name e) (codes "g"))) object_face.entries ≡ true
  no_g = refl

  g_fresh : (a : ClassKey) (x : List ℕ) → a ≡ som_object → Introduces O a x → x ≡ codes "g" → ⊥
  g_fresh a x is i e =
      let here = found olds oo i.class som_object i.there (i.named ∙ is) in
      let same : i.class ≡ obj = one i.class obj (class_at O som_object) here obj_at in
      let entry = subst (λ (z : Class). Mem (entries.Introduced x i.sig i.way) z.decl.face.entries) same i.entry in
      let other = every_mem (λ e. not (bytes_eq (entry_name e) (codes "g"))) (entries.Introduced x i.sig i.way) object_face.entries no_g entry in
      true≢false (sym (ap (λ z. bytes_eq z (codes "g")) e ∙ exact_bytes.one (codes "g")) ∙ is_false (bytes_eq x (codes "g")) other)
    where
      one : (a b : Class) (o : Option Class) → o ≡ Some a → o ≡ Some b → a ≡ b
      one a b o e f = cc

  module _ (sig : Sig) (fine : sig_known O sig ≡ true) (vs : List Variable) (ss : List Stmt) where
    abbrev dg : ClassDecl
    dg = with_g name sig vs ss

    -- the one entry
    entry_g : (x : List ℕ) (s : Sig) (way : Way) → Mem (entries.Introduced x s way) dg.face.entries → (x ≡ codes "g") × (s ≡ sig)
    entry_g x s way n = elim n [ inl is ↦ same_sig x (codes "g") s sig way ways.Offset is | inr z ↦ absurd z ]

    known_g : sig_known (A dg) sig ≡ true
    known_g = sig_left O (own dg ∷ []) sig fine

    types_g : AreFine O vs → TypesKnown (A dg) (own dg ∷ [])
    types_g f =
        let p = both (is_known (A dg) sig.result) (every (is_value_type (A dg)) sig.params) known_g in
        record {
          results = λ q x s way n e. only (own dg) (λ z. Mem (entries.Introduced x s way) z.decl.face.entries → IsNamed (A dg) s.result)
              (λ e. subst (λ (z : Sig). IsNamed (A dg) z.result) (sym (entry_g x s way e).1) (named_says (A dg) sig.result p.0)) q n e;
          params = λ q x s way t n e k. only (own dg) (λ z. Mem (entries.Introduced x s way) z.decl.face.entries → IsValue (A dg) t)
              (λ e. value_says (A dg) t (every_mem (is_value_type (A dg)) t sig.params p.1 (subst (λ (z : Sig). Mem t z.params) (entry_g x s way e).1 k))) q n e;
          variables = λ q v n e. only (own dg) (λ z. Mem v z.decl.variables → IsValue (A dg) v.kind) (λ e. values_more dg vs f v e) q n e;
        }

    one_body : (blk : Block) (i : ℕ) (s : Sig) (b : Body) → slice_get (bodies.User blk ∷ []) i ≡ Some b → Fits vs s b
    one_body blk zero s b e = let same : bodies.User blk ≡ b = cc in subst (λ z. Fits vs s z) same (a_block blk)
    one_body blk (suc i) s b e = absurd (cc)

    bodies_g : BodiesFit (own dg ∷ [])
    bodies_g = record {
      as_many = only (own dg) (λ z. length z.decl.bodies ≡ length (introduced z.decl.face.entries)) refl;
      fit = λ q i s b n e f. only (own dg) (λ z. slice_get z.decl.bodies i ≡ Some b → Fits z.decl.variables s b) (one_body (record { statements = ss }) i s b) q n f;
    }

    pub adds_g : AreFine O vs → Differ (λ (v : Variable). v.name) vs → Adds old so holds dg
    adds_g f apart = record {
      free = free;
      parent = obj;
      there = obj_there;
      below = refl;
      bare_ = refl;
      unmoved = λ x to n. elim n [ inl e ↦ cc | inr z ↦ z ];
      entries_differ = differ_one entry_name (entries.Introduced (codes "g") sig ways.Offset);
      variables_differ = apart;
      once = λ a b x da db ia ib. alone_by som_object a refl da ∙ sym (alone_by som_object b refl db);
      fresh = λ a x s way t i n. g_fresh a x (alone_by som_object a refl t) i (entry_g x s way n).0;
      types = types_g f;
      overrides = λ o n. absurd n;
      overrides_differ = differ_none (λ (o : Override). owner (A dg) o.method) [] refl;
      selects = refl;
      bodies = bodies_g;
    }
