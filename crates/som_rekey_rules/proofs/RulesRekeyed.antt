-- Each rule of a class is broken under new keys by the same members.
use Rattle.std.proofs.Common.{◌≡◌, inl, inr, ℕ, ◌==◌, Bool, true, false, not, ◌&&◌, if◌then◌else◌, List, [], ◌∷◌, ◌++◌, length, map, flat_map, slice_get, Option, Some, None, is_some, codes, refl, sym, ap, ◌∙◌, subst, suc}
use Rattle.std.specs.Str.{bytes_eq}
use Rattle.std.specs.Option.{option_map}
use Rattle.std.proofs.lemmas.Option.{slice_get-map}
use Rattle.som_model.specs.declared.key.ClassKey.{ClassKey}
use Rattle.som_model.specs.declared.key.MethodRef.{MethodRef}
use Rattle.som_model.specs.declared.key.ValueType.{ValueType}
use Rattle.som_model.specs.declared.key.ValueType.TheVariants as types
use Rattle.som_model.specs.declared.class.Sig.{Sig}
use Rattle.som_model.specs.declared.class.Entry.{Entry}
use Rattle.som_model.specs.declared.class.Entry.TheVariants as entries
use Rattle.som_model.specs.declared.class.Body.{Body}
use Rattle.som_model.specs.declared.class.Body.TheVariants as bodies
use Rattle.som_model.specs.declared.class.Variable.{Variable}
use Rattle.som_model.specs.declared.class.Override.{Override}
use Rattle.som_model.specs.declared.class.Select.{Select}
use Rattle.som_model.specs.Lists.{Mem, doubles, some, every, option_list, among}
use Rattle.som_model.specs.Keys.{same_key, same_method}
use Rattle.som_model.specs.Same.{same_type}
use Rattle.som_model.specs.Class.{Class, entry_name, introduced}
use Rattle.som_model.specs.Kernel.{som_class}
use Rattle.som_model.specs.Classes.{class_at, ancestors, is_a}
use Rattle.som_model.specs.Named.{sig_names, entry_names}
use Rattle.som_model.specs.Owner.{owner, introduces, introduced_by}
use Rattle.som_model.specs.Rules.{RuleBreach, name_of, breach, demand, demand_of, s1, s2, s3, s4, s5, s6, s7, s8, s9, s10, s10_from, s10_selects, s14, is_known, is_void, is_value_type, is_proper, is_replaced_once, is_parent_below, body_fits}
use Rattle.som_model_laws.proofs.Members.{map_on, mem_split}
use Rattle.som_model_laws.proofs.Lists.{get_mem}
use Rattle.som_rekey_laws.specs.Rekeying.{ModuleChange, rekey, rekey_type, rekey_sig, rekey_method, rekey_entry, rekey_variable, rekey_body, rekey_override, rekey_select, rekey_class, rekey_classes}
use Rattle.som_rekey_laws.specs.Apart.{Names, is_named, IsApart, KeepsKernel, AreNamed}
use Rattle.som_rekey_laws.proofs.Lists.{if_map, map_append, map_twice, some_map}
use Rattle.som_rekey_laws.proofs.KeysApart.{keys_kept}
use Rattle.som_rekey_laws.proofs.Places.{class_kept, ancestors_kept, descent_kept}
use Rattle.som_rekey_laws.proofs.OwnersKept.{name_kept, list_introduced, introduced_kept, introduces_kept, owner_kept, owner_named}
use Rattle.som_rekey_laws.proofs.BodiesKept.{some_there, method_kept, above_named, class_stays, class_named}
use Rattle.som_rekey_laws.proofs.MetasKept.{option_kept}
use Rattle.som_rekey_rules.specs.NamesAlone.{AreOf, IsTypeNamed, AreTypesNamed, IsFaceNamed, AreFacesNamed}
use Rattle.som_rekey_rules.proofs.TypesRekeyed.{key_of, params_of, result_of}
use Rattle.som_rekey_rules.proofs.ExpressionsRekeyed.{parent_named, get_kind, kind_there}
use Rattle.som_rekey_rules.proofs.ClassesNamed.{all_named, all_targets, metaclass_is_named, entry_is_named}
use Rattle.som_rekey_rules.proofs.ClassesTyped.{flat_same}

-- ---- lists

pub every_map : {A B : Type 0} (p : A → Bool) (q : B → Bool) (g : A → B) (xs : List A) → ((x : A) → Mem x xs → q (g x) ≡ p x) → every q (map g xs) ≡ every p xs
every_map p q g [] e = refl
every_map p q g (x ∷ xs) e =
    ap (λ b. if b then every q (map g xs) else false) (e x (inl refl))
    ∙ ap (λ b. if p x then b else false) (every_map p q g xs (λ a m. e a (inr m)))

one_more : {A : Type 0} (P : A → Type 0) (xs : List A) (x : A) → ((a : A) → Mem a xs → P a) → P x → (a : A) → Mem a (xs ++ x ∷ []) → P a
one_more P [] x h p a (inl e) = subst P (sym e) p
one_more P [] x h p a (inr m) = absurd m
one_more P (y ∷ ys) x h p a (inl e) = h a (inl e)
one_more P (y ∷ ys) x h p a (inr m) = one_more P ys x (λ b n. h b (inr n)) p a m

pub doubles_map : {A B : Type 0} (P : A → Type 0) (p : A → A → Bool) (q : B → B → Bool) (g : A → B) → ((x y : A) → P x → P y → q (g x) (g y) ≡ p x y)
    → (before xs : List A) → ((a : A) → Mem a before → P a) → ((a : A) → Mem a xs → P a) → doubles q (map g before) (map g xs) ≡ map g (doubles p before xs)
doubles_map P p q g e before [] hb hx = refl
doubles_map P p q g e before (x ∷ xs) hb hx =
    let rest = doubles_map P p q g e before xs hb (λ a m. hx a (inr m)) in
    let more = ap (λ l. doubles q l (map g xs)) (sym (map_append g before (x ∷ []))) ∙ doubles_map P p q g e (before ++ x ∷ []) xs (one_more P before x hb (hx x (inl refl))) (λ a m. hx a (inr m)) in
    ap (λ b. if b then g x ∷ doubles q (map g before) (map g xs) else doubles q (map g before ++ g x ∷ []) (map g xs)) (some_map (p x) (q (g x)) g before (λ y m. e x y (hx x (inl refl)) (hb y m)))
    ∙ ap (λ l. if some (p x) before then g x ∷ l else doubles q (map g before ++ g x ∷ []) (map g xs)) rest
    ∙ ap (λ l. if some (p x) before then map g (x ∷ doubles p before xs) else l) more
    ∙ if_map (map g) (some (p x) before) (x ∷ doubles p before xs) (doubles p (before ++ x ∷ []) xs)

pub as_long : {A B : Type 0} (g : A → B) (xs : List A) → length (map g xs) ≡ length xs
as_long g [] = refl
as_long g (x ∷ xs) = ap suc (as_long g xs)

-- ---- parts of rules, as they are told of a class

abbrev pub s5_entry : List Class → Class → Entry → List RuleBreach
s5_entry known c (entries.Introduced name sig way) = demand_of 5 c name (is_known known sig.result && every (is_value_type known) sig.params)
s5_entry known c (entries.Moved name to) = []

abbrev s9_entry : List Class → Class → Entry → List RuleBreach
s9_entry cs c (entries.Introduced name sig way) = []
s9_entry cs c (entries.Moved name to) = demand_of 9 c name (is_proper cs c to && introduces cs name to)

abbrev is_kind : Option ValueType → ValueType → Bool
is_kind None t = false
is_kind (Some kind) t = same_type kind t

abbrev is_empty : {A : Type 0} → List A → Bool
is_empty [] = true
is_empty (x ∷ xs) = false

abbrev is_one : List ValueType → ValueType → Bool
is_one (p ∷ []) t = same_type p t
is_one _ t = false

abbrev writes : List ValueType → Option ValueType → Bool
writes ps None = false
writes ps (Some kind) = is_one ps kind

abbrev s14_from : Class → List Entry → List Body → List RuleBreach
s14_from c [] bs = []
s14_from c (entries.Moved name to ∷ es) bs = s14_from c es bs
s14_from c (entries.Introduced name sig way ∷ es) [] = []
s14_from c (entries.Introduced name sig way ∷ es) (b ∷ bs) = demand_of 14 c name (body_fits c.decl.variables sig b) ++ s14_from c es bs

-- ---- rules that look at names alone

module _ (f : ModuleChange) (c : Class) where
  pub s1_kept : (before : List Class) → s1 (rekey_classes f before) (rekey_class f c) ≡ s1 before c
  s1_kept before = ap (λ l. demand 1 c (not (among (name_of c) l))) (map_twice name_of (rekey_class f) before)

  pub s6_kept : s6 (rekey_class f c) ≡ s6 c
  s6_kept = ap (λ l. map (breach 6 c) (doubles bytes_eq [] l)) (map_twice entry_name (rekey_entry f) c.decl.face.entries ∙ map_on _ entry_name c.decl.face.entries (λ e m. name_kept f e))

  pub s7_kept : s7 (rekey_class f c) ≡ s7 c
  s7_kept = ap (λ l. map (breach 7 c) (doubles bytes_eq [] l)) (map_twice (λ (v : Variable). v.name) (rekey_variable f) c.decl.variables)

module _ (f : ModuleChange) (names : Names) (apart : IsApart f names) (c : Class) (face : IsFaceNamed names c) where
  abbrev later : Class
  later = rekey_class f c

  -- the types of the variables, and the methods of overrides and selects, are of these names
  abbrev pub Variables : Type 0
  Variables = (v : Variable) → Mem v c.decl.variables → IsTypeNamed names v.kind

  abbrev pub Overrides : Type 0
  Overrides = (o : Override) → Mem o c.decl.overrides → is_named names o.method.class ≡ true

  abbrev pub Selects : Type 0
  Selects = (s : Select) → Mem s c.decl.selects → is_named names s.method.class ≡ true

  -- the parents and the metaclass of a class
  abbrev above : Class → List ClassKey
  above d = d.decl.face.parents ++ option_list d.decl.face.metaclass

  above_kept : above later ≡ map (rekey f) (above c)
  above_kept =
      ap (λ l. map (rekey f) c.decl.face.parents ++ l) (option_kept (rekey f) c.decl.face.metaclass)
      ∙ sym (map_append (rekey f) c.decl.face.parents (option_list c.decl.face.metaclass))

  above_is_named : (k : ClassKey) → Mem k (above c) → is_named names k ≡ true
  above_is_named k m = elim (mem_split k c.decl.face.parents (option_list c.decl.face.metaclass) m) [
    | inl n ↦ parent_named names c face k n
    | inr n ↦ metaclass_is_named names c face k n
  ]

  pub s2_kept : (before : List Class) → AreFacesNamed names before → s2 (rekey_classes f before) later ≡ s2 before c
  s2_kept before are =
      ap (λ l. demand 2 c (every (λ k. is_some (class_at (rekey_classes f before) k)) l)) above_kept
      ∙ ap (demand 2 c) (every_map (λ k. is_some (class_at before k)) (λ k. is_some (class_at (rekey_classes f before) k)) (rekey f) (above c) (λ k m.
      ap is_some (class_kept f names before apart (all_named names before are) k (above_is_named k m)) ∙ some_there (rekey_class f) (class_at before k)))

  pub s3_kept : s3 later ≡ s3 c
  s3_kept =
      ap (map (λ k. breach 3 c (codes "-"))) (doubles_map (λ k. is_named names k ≡ true) same_key same_key (rekey f) (keys_kept f names apart) [] c.decl.face.parents (λ k m. absurd m) (parent_named names c face))
      ∙ map_twice (λ k. breach 3 c (codes "-")) (rekey f) (doubles same_key [] c.decl.face.parents)

  -- ---- types

  module _ (known : List Class) (are : AreFacesNamed names known) where
    abbrev known_later : List Class
    known_later = rekey_classes f known

    type_known : (t : ValueType) → IsTypeNamed names t → is_known known_later (rekey_type f t) ≡ is_known known t
    type_known types.Void n = refl
    type_known types.Long n = refl
    type_known types.Boolean n = refl
    type_known types.Str n = refl
    type_known (types.Class k) n = ap is_some (class_kept f names known apart (all_named names known are) k (key_of names k n)) ∙ some_there (rekey_class f) (class_at known k)

    void_same : (t : ValueType) → is_void (rekey_type f t) ≡ is_void t
    void_same types.Void = refl
    void_same types.Long = refl
    void_same types.Boolean = refl
    void_same types.Str = refl
    void_same (types.Class k) = refl

    value_type : (t : ValueType) → IsTypeNamed names t → is_value_type known_later (rekey_type f t) ≡ is_value_type known t
    value_type t n = ap (λ b. not b && is_known known_later (rekey_type f t)) (void_same t) ∙ ap (λ b. not (is_void t) && b) (type_known t n)

    entry_types : (e : Entry) → Mem e c.decl.face.entries → s5_entry known_later later (rekey_entry f e) ≡ s5_entry known c e
    entry_types (entries.Moved name to) m = refl
    entry_types (entries.Introduced name sig way) m =
        let n = entry_is_named names c face (entries.Introduced name sig way) m in
        ap (λ b. demand_of 5 c name (b && every (is_value_type known_later) (map (rekey_type f) sig.params))) (type_known sig.result (result_of names sig n))
        ∙ ap (λ b. demand_of 5 c name (is_known known sig.result && b)) (every_map (is_value_type known) (is_value_type known_later) (rekey_type f) sig.params (λ t k. value_type t (params_of names sig n t k)))

    pub s5_kept : Variables → s5 known_later later ≡ s5 known c
    s5_kept vars =
        ap (λ l. l ++ flat_map (λ (v : Variable). demand_of 5 c v.name (is_value_type known_later v.kind)) (map (rekey_variable f) c.decl.variables))
        (flat_same (s5_entry known c) (s5_entry known_later later) (rekey_entry f) c.decl.face.entries entry_types)
        ∙ ap (λ l. flat_map (s5_entry known c) c.decl.face.entries ++ l)
        (flat_same (λ (v : Variable). demand_of 5 c v.name (is_value_type known v.kind)) (λ (v : Variable). demand_of 5 c v.name (is_value_type known_later v.kind)) (rekey_variable f) c.decl.variables
        (λ v m. ap (demand_of 5 c v.name) (value_type v.kind (vars v m))))

  -- ---- bodies

  type_same : (t u : ValueType) → IsTypeNamed names t → IsTypeNamed names u → same_type (rekey_type f t) (rekey_type f u) ≡ same_type t u
  type_same types.Void types.Void n l = refl
  type_same types.Void types.Long n l = refl
  type_same types.Void types.Boolean n l = refl
  type_same types.Void types.Str n l = refl
  type_same types.Void (types.Class k) n l = refl
  type_same types.Long types.Void n l = refl
  type_same types.Long types.Long n l = refl
  type_same types.Long types.Boolean n l = refl
  type_same types.Long types.Str n l = refl
  type_same types.Long (types.Class k) n l = refl
  type_same types.Boolean types.Void n l = refl
  type_same types.Boolean types.Long n l = refl
  type_same types.Boolean types.Boolean n l = refl
  type_same types.Boolean types.Str n l = refl
  type_same types.Boolean (types.Class k) n l = refl
  type_same types.Str types.Void n l = refl
  type_same types.Str types.Long n l = refl
  type_same types.Str types.Boolean n l = refl
  type_same types.Str types.Str n l = refl
  type_same types.Str (types.Class k) n l = refl
  type_same (types.Class k) types.Void n l = refl
  type_same (types.Class k) types.Long n l = refl
  type_same (types.Class k) types.Boolean n l = refl
  type_same (types.Class k) types.Str n l = refl
  type_same (types.Class k) (types.Class m) n l = keys_kept f names apart k m (key_of names k n) (key_of names m l)

  kind_same : (o : Option ValueType) (t : ValueType) → ((u : ValueType) → o ≡ Some u → IsTypeNamed names u) → IsTypeNamed names t → is_kind (option_map (rekey_type f) o) (rekey_type f t) ≡ is_kind o t
  kind_same None t n l = refl
  kind_same (Some u) t n l = type_same u t (n u refl) l

  empty_same : (ts : List ValueType) → is_empty (map (rekey_type f) ts) ≡ is_empty ts
  empty_same [] = refl
  empty_same (t ∷ ts) = refl

  one_same : (ps : List ValueType) (t : ValueType) → AreTypesNamed names ps → IsTypeNamed names t → is_one (map (rekey_type f) ps) (rekey_type f t) ≡ is_one ps t
  one_same [] t n l = refl
  one_same (p ∷ []) t n l = type_same p t (n p (inl refl)) l
  one_same (p ∷ q ∷ ps) t n l = refl

  writes_same : (ps : List ValueType) (o : Option ValueType) → AreTypesNamed names ps → ((u : ValueType) → o ≡ Some u → IsTypeNamed names u) → writes (map (rekey_type f) ps) (option_map (rekey_type f) o) ≡ writes ps o
  writes_same ps None n l = refl
  writes_same ps (Some u) n l = one_same ps u n (l u refl)

  void_type : (t : ValueType) → is_void (rekey_type f t) ≡ is_void t
  void_type types.Void = refl
  void_type types.Long = refl
  void_type types.Boolean = refl
  void_type types.Str = refl
  void_type (types.Class k) = refl

  abbrev kind_at : Class → ℕ → Option ValueType
  kind_at d n = slice_get (map (λ v. v.kind) d.decl.variables) n

  fits_same : Variables → (sig : Sig) (b : Body) → AreOf names (sig_names sig) → body_fits later.decl.variables (rekey_sig f sig) (rekey_body f b) ≡ body_fits c.decl.variables sig b
  fits_same vars sig (bodies.User block) n = refl
  fits_same vars sig (bodies.Get i) n =
      ap (λ o. is_kind o (rekey_type f sig.result) && is_empty (map (rekey_type f) sig.params)) (get_kind f c i)
      ∙ ap (λ b. b && is_empty (map (rekey_type f) sig.params)) (kind_same (kind_at c i) sig.result (kind_there names c vars i) (result_of names sig n))
      ∙ ap (λ b. is_kind (kind_at c i) sig.result && b) (empty_same sig.params)
  fits_same vars sig (bodies.Set i) n =
      ap (λ o. is_void (rekey_type f sig.result) && writes (map (rekey_type f) sig.params) o) (get_kind f c i)
      ∙ ap (λ b. b && writes (map (rekey_type f) sig.params) (option_map (rekey_type f) (kind_at c i))) (void_type sig.result)
      ∙ ap (λ b. is_void sig.result && b) (writes_same sig.params (kind_at c i) (params_of names sig n) (kind_there names c vars i))

  bodies_fit : Variables → (es : List Entry) (bs : List Body) → ((e : Entry) → Mem e es → AreOf names (entry_names e)) → s14_from later (map (rekey_entry f) es) (map (rekey_body f) bs) ≡ s14_from c es bs
  bodies_fit vars [] bs n = refl
  bodies_fit vars (entries.Moved name to ∷ es) bs n = bodies_fit vars es bs (λ e m. n e (inr m))
  bodies_fit vars (entries.Introduced name sig way ∷ es) [] n = refl
  bodies_fit vars (entries.Introduced name sig way ∷ es) (b ∷ bs) n =
      ap (λ z. demand_of 14 c name z ++ s14_from later (map (rekey_entry f) es) (map (rekey_body f) bs)) (fits_same vars sig b (n (entries.Introduced name sig way) (inl refl)))
      ∙ ap (λ l. demand_of 14 c name (body_fits c.decl.variables sig b) ++ l) (bodies_fit vars es bs (λ e m. n e (inr m)))

  pub s14_kept : Variables → s14 later ≡ s14 c
  s14_kept vars =
      let es = c.decl.face.entries in
      let bs = c.decl.bodies in
      ap (λ n. demand 14 c (n == length (introduced (map (rekey_entry f) es))) ++ s14_from later (map (rekey_entry f) es) (map (rekey_body f) bs)) (as_long (rekey_body f) bs)
      ∙ ap (λ l. demand 14 c (length bs == length l) ++ s14_from later (map (rekey_entry f) es) (map (rekey_body f) bs)) (list_introduced f es)
      ∙ ap (λ l. demand 14 c (length bs == length (introduced es)) ++ l) (bodies_fit vars es bs (entry_is_named names c face))

  -- ---- rules among other classes

  module _ (kk : KeepsKernel f names) (cs : List Class) (are : AreFacesNamed names cs) where
    abbrev new_classes : List Class
    new_classes = rekey_classes f cs

    abbrev named : AreNamed names cs
    named = all_named names cs are

    pub s4_kept : s4 new_classes later ≡ s4 cs c
    s4_kept =
        ap (λ l. demand 4 c (every (λ k. is_a new_classes k som_class) l)) (option_kept (rekey f) c.decl.face.metaclass)
        ∙ ap (demand 4 c) (every_map (λ k. is_a cs k som_class) (λ k. is_a new_classes k som_class) (rekey f) (option_list c.decl.face.metaclass) (λ k m.
        ap (is_a new_classes (rekey f k)) (sym (class_stays f names kk)) ∙ descent_kept f names cs apart named k som_class (metaclass_is_named names c face k m) (class_named f names kk)))

    pub s8_kept : s8 new_classes later ≡ s8 cs c
    s8_kept = ap (λ l. map (breach 8 c) (doubles bytes_eq [] l))
        (ap (flat_map (introduced_by new_classes)) (ancestors_kept f names cs apart named c.key face.key)
        ∙ flat_same (introduced_by cs) (introduced_by new_classes) (rekey f) (ancestors cs c.key) (λ k m. introduced_kept f names cs apart named k (above_named f names kk cs apart named c.key face.key k m)))

    pub proper_kept : (a : ClassKey) → is_named names a ≡ true → is_proper new_classes later (rekey f a) ≡ is_proper cs c a
    proper_kept a n =
        ap (λ b. not b && is_a new_classes (rekey f c.key) (rekey f a)) (keys_kept f names apart a c.key n face.key)
        ∙ ap (λ b. not (same_key a c.key) && b) (descent_kept f names cs apart named c.key a face.key n)

    proper_introduces : (name : List ℕ) (a : ClassKey) → is_named names a ≡ true → (is_proper new_classes later (rekey f a) && introduces new_classes name (rekey f a)) ≡ (is_proper cs c a && introduces cs name a)
    proper_introduces name a n =
        ap (λ b. b && introduces new_classes name (rekey f a)) (proper_kept a n)
        ∙ ap (λ b. is_proper cs c a && b) (introduces_kept f names cs apart named name a n)

    entry_above : (e : Entry) → Mem e c.decl.face.entries → s9_entry new_classes later (rekey_entry f e) ≡ s9_entry cs c e
    entry_above (entries.Introduced name sig way) m = refl
    entry_above (entries.Moved name to) m = ap (demand_of 9 c name) (proper_introduces name to (entry_is_named names c face (entries.Moved name to) m to (inl refl)))

    pub s9_kept : s9 new_classes later ≡ s9 cs c
    s9_kept = flat_same (s9_entry cs c) (s9_entry new_classes later) (rekey_entry f) c.decl.face.entries entry_above

    abbrev AllNamed : List MethodRef → Type 0
    AllNamed rs = (r : MethodRef) → Mem r rs → is_named names r.class ≡ true

    once_kept : (before : List MethodRef) (r : MethodRef) → AllNamed before → is_named names r.class ≡ true
        → is_replaced_once new_classes later (map (rekey_method f) before) (rekey_method f r) ≡ is_replaced_once cs c before r
    once_kept before r all n =
        ap (λ b. b && not (some (same_method (rekey_method f r)) (map (rekey_method f) before))) (proper_introduces r.name r.class n)
        ∙ ap (λ b. is_proper cs c r.class && introduces cs r.name r.class && not b) (some_map (same_method r) (same_method (rekey_method f r)) (rekey_method f) before (λ s m. method_kept f names cs apart named r s n (all s m)))

    owner_is : (r : MethodRef) → is_named names r.class ≡ true → owner new_classes (rekey_method f r) ≡ rekey_method f (owner cs r)
    owner_is = owner_kept f names cs apart named (all_targets names cs are)

    owner_of : (r : MethodRef) → is_named names r.class ≡ true → is_named names (owner cs r).class ≡ true
    owner_of = owner_named f names cs apart named (all_targets names cs are)

    overrides_kept : (before : List MethodRef) (os : List Override) → AllNamed before → ((o : Override) → Mem o os → is_named names o.method.class ≡ true)
        → s10_from new_classes later (map (rekey_method f) before) (map (rekey_override f) os) ≡ s10_from cs c before os
    overrides_kept before [] all n = refl
    overrides_kept before (o ∷ os) all n =
        let r = owner cs o.method in
        let here = n o (inl refl) in
        let k = owner_of o.method here in
        let from : List MethodRef → MethodRef → List RuleBreach = λ rs s. demand_of 10 c o.method.name (is_replaced_once new_classes later rs s) ++ s10_from new_classes later (rs ++ s ∷ []) (map (rekey_override f) os) in
        ap (from (map (rekey_method f) before)) (owner_is o.method here)
        ∙ ap (λ b. demand_of 10 c o.method.name b ++ s10_from new_classes later (map (rekey_method f) before ++ rekey_method f r ∷ []) (map (rekey_override f) os)) (once_kept before r all k)
        ∙ ap (λ l. demand_of 10 c o.method.name (is_replaced_once cs c before r) ++ l)
        (ap (λ rs. s10_from new_classes later rs (map (rekey_override f) os)) (sym (map_append (rekey_method f) before (r ∷ [])))
        ∙ overrides_kept (before ++ r ∷ []) os (one_more (λ (s : MethodRef). is_named names s.class ≡ true) before r all k) (λ p m. n p (inr m)))

    below_kept : (a : ClassKey) (o : Option ClassKey) → is_named names a ≡ true → ((p : ClassKey) → o ≡ Some p → is_named names p ≡ true) → is_parent_below new_classes (rekey f a) (option_map (rekey f) o) ≡ is_parent_below cs a o
    below_kept a None n l = refl
    below_kept a (Some p) n l = descent_kept f names cs apart named p a (l p refl) n

    place_kept : (a : ClassKey) (i : ℕ) → is_named names a ≡ true → is_parent_below new_classes (rekey f a) (slice_get (map (rekey f) c.decl.face.parents) i) ≡ is_parent_below cs a (slice_get c.decl.face.parents i)
    place_kept a i n =
        ap (is_parent_below new_classes (rekey f a)) (slice_get-map (rekey f) c.decl.face.parents i)
        ∙ below_kept a (slice_get c.decl.face.parents i) n (λ p e. parent_named names c face p (get_mem c.decl.face.parents i p e))

    selects_kept : (before : List MethodRef) (ss : List Select) → AllNamed before → ((s : Select) → Mem s ss → is_named names s.method.class ≡ true)
        → s10_selects new_classes later (map (rekey_method f) before) (map (rekey_select f) ss) ≡ s10_selects cs c before ss
    selects_kept before [] all n = refl
    selects_kept before (s ∷ ss) all n =
        let r = owner cs s.method in
        let here = n s (inl refl) in
        let k = owner_of s.method here in
        let from : List MethodRef → MethodRef → List RuleBreach = λ rs q.
        demand_of 10 c s.method.name (is_replaced_once new_classes later rs q && is_parent_below new_classes q.class (slice_get (map (rekey f) c.decl.face.parents) s.parent))
        ++ s10_selects new_classes later (rs ++ q ∷ []) (map (rekey_select f) ss) in
        let rest = s10_selects new_classes later (map (rekey_method f) before ++ rekey_method f r ∷ []) (map (rekey_select f) ss) in
        ap (from (map (rekey_method f) before)) (owner_is s.method here)
        ∙ ap (λ b. demand_of 10 c s.method.name (b && is_parent_below new_classes (rekey f r.class) (slice_get (map (rekey f) c.decl.face.parents) s.parent)) ++ rest) (once_kept before r all k)
        ∙ ap (λ b. demand_of 10 c s.method.name (is_replaced_once cs c before r && b) ++ rest) (place_kept r.class s.parent k)
        ∙ ap (λ l. demand_of 10 c s.method.name (is_replaced_once cs c before r && is_parent_below cs r.class (slice_get c.decl.face.parents s.parent)) ++ l)
        (ap (λ rs. s10_selects new_classes later rs (map (rekey_select f) ss)) (sym (map_append (rekey_method f) before (r ∷ [])))
        ∙ selects_kept (before ++ r ∷ []) ss (one_more (λ (s : MethodRef). is_named names s.class ≡ true) before r all k) (λ p m. n p (inr m)))

    replaced_kept : (os : List Override) → ((o : Override) → Mem o os → is_named names o.method.class ≡ true) → map (λ (o : Override). owner new_classes o.method) (map (rekey_override f) os) ≡ map (rekey_method f) (map (λ (o : Override). owner cs o.method) os)
    replaced_kept os n =
        map_twice (λ (o : Override). owner new_classes o.method) (rekey_override f) os
        ∙ map_on (λ (o : Override). owner new_classes (rekey_method f o.method)) (λ (o : Override). rekey_method f (owner cs o.method)) os (λ o m. owner_is o.method (n o m))
        ∙ sym (map_twice (rekey_method f) (λ (o : Override). owner cs o.method) os)

    replaced_named : (os : List Override) → ((o : Override) → Mem o os → is_named names o.method.class ≡ true) → AllNamed (map (λ (o : Override). owner cs o.method) os)
    replaced_named [] n r m = absurd m
    replaced_named (o ∷ os) n r (inl e) = ap (λ (s : MethodRef). is_named names s.class) e ∙ owner_of o.method (n o (inl refl))
    replaced_named (o ∷ os) n r (inr m) = replaced_named os (λ p k. n p (inr k)) r m

    pub s10_kept : Overrides → Selects → s10 new_classes later ≡ s10 cs c
    s10_kept of_os of_ss =
        let os = c.decl.overrides in
        let ss = c.decl.selects in
        ap (λ l. l ++ s10_selects new_classes later (map (λ (o : Override). owner new_classes o.method) (map (rekey_override f) os)) (map (rekey_select f) ss)) (overrides_kept [] os (λ r m. absurd m) of_os)
        ∙ ap (λ rs. s10_from cs c [] os ++ s10_selects new_classes later rs (map (rekey_select f) ss)) (replaced_kept os of_os)
        ∙ ap (λ l. s10_from cs c [] os ++ l) (selects_kept (map (λ (o : Override). owner cs o.method) os) ss (replaced_named os of_os) of_ss)
