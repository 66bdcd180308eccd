-- Where classes can stand together, their faces can, and so can those of them that stand first.
use Rattle.std.proofs.Common.{◌≡◌, ℕ, zero, suc, true, not, ◌&&◌, List, [], ◌∷◌, ◌++◌, map, flat_map, take, Option, Some, None, slice_get, refl, sym, ap, ◌∙◌, subst, true≢false}
use Rattle.std.specs.Prelude.{is_some, unwrap_or}
use Rattle.std.specs.Option.{option_map}
use Rattle.std.proofs.lemmas.Option.{slice_get-map}
use Rattle.som_model.specs.declared.key.ClassKey.{ClassKey}
use Rattle.som_model.specs.declared.class.Entry.{Entry}
use Rattle.som_model.specs.declared.class.Entry.TheVariants as entries
use Rattle.som_model.specs.declared.class.Variable.{Variable}
use Rattle.som_model.specs.Lists.{Mem, doubles, every}
use Rattle.som_model.specs.Keys.{same_key}
use Rattle.som_model.specs.Class.{Class}
use Rattle.som_model.specs.Classes.{class_at, is_a}
use Rattle.som_model.specs.Kernel.{kernel, som_class}
use Rattle.som_model.specs.Loads.{FacesLoad, HasOwnKey, IsOrdered, keys_of}
use Rattle.som_model.specs.Rules.{RuleBreach, demand_of, is_known, is_proper, is_value_type, s3, s4, s5, s6, s7}
use Rattle.som_model.proofs.KeyLaws.{both}
use Rattle.som_model_laws.proofs.Lists.{map_mem}
use Rattle.som_model_laws.proofs.Members.{mem_left, mem_right}
use Rattle.som_model_laws.proofs.Owners.{metaclass_known}
use Rattle.som_model_laws.proofs.Standing.{found, known_above}
use Rattle.som_release_laws.proofs.FacesAlone.{entry_faces}
use Rattle.som_release_laws.proofs.Facing.{s4_says, s5_more, says_s4, tested, tests}
use Rattle.som_release_laws.proofs.Lists.{both_none, both_true, flat_less, none_left}
use Rattle.som_release_laws.proofs.Prefix.{descends_less, entry_same, ordered}
use Rattle.som_rekey_laws.proofs.Lists.{map_twice}
use Rattle.som_verify_classes.proofs.FacesOnly.{face_only, is_a_faces, known_faces}

-- ---- lists

take_map : {A B : Type 0} (g : A → B) (n : ℕ) (xs : List A) → take n (map g xs) ≡ map g (take n xs)
take_map g zero xs = refl
take_map g (suc n) [] = refl
take_map g (suc n) (x ∷ xs) = ap (λ l. g x ∷ l) (take_map g n xs)

was_some : {A B : Type 0} (g : A → B) (o : Option A) (b : B) → option_map g o ≡ Some b → (a : A) × (o ≡ Some a) × (b ≡ g a)
was_some g None b e = absurd (true≢false (sym (ap is_some e)))
was_some g (Some a) b e = (a, refl, ap (λ o. unwrap_or o b) (sym e))

-- ---- faces alone

abbrev types_of : List Class → Class → Entry → List RuleBreach
types_of known c (entries.Introduced name sig way) = demand_of 5 c name (is_known known sig.result && every (is_value_type known) sig.params)
types_of known c (entries.Moved name to) = []

type_alone : (known : List Class) (c : Class) (e : Entry) → types_of known c e ≡ [] → types_of known (face_only c) e ≡ []
type_alone known c (entries.Introduced name sig way) e = e
type_alone known c (entries.Moved name to) e = refl

types_alone : (known : List Class) (c : Class) → s5 known c ≡ [] → s5 known (face_only c) ≡ []
types_alone known c e =
    let r = none_left (flat_map (types_of known c) c.decl.face.entries) (flat_map (λ (v : Variable). demand_of 5 c v.name (is_value_type known v.kind)) c.decl.variables) e in
    both_none (flat_map (types_of known (face_only c)) c.decl.face.entries) []
    (flat_less (types_of known c) (types_of known (face_only c)) (type_alone known c) c.decl.face.entries r.0) refl

module _ (news : List Class) where
  abbrev faces : List Class
  faces = map face_only news

  abbrev N : List Class
  N = kernel ++ news

  same_keys : (xs : List Class) → keys_of (map face_only xs) ≡ keys_of xs
  same_keys xs = map_twice (λ (c : Class). c.key) face_only xs

  -- the class whose face stands at a place
  was_at : (i : ℕ) (d : Class) → slice_get faces i ≡ Some d → (c : Class) × (slice_get news i ≡ Some c) × (d ≡ face_only c)
  was_at i d e = was_some face_only (slice_get news i) d (sym (slice_get-map face_only news i) ∙ e)

  earlier : (i : ℕ) (k : ClassKey) → Mem k (keys_of (kernel ++ take i news)) → Mem k (keys_of (kernel ++ take i faces))
  earlier i k m = subst (λ l. Mem k l) (sym (ap (λ l. keys_of (kernel ++ l)) (take_map face_only i news) ∙ same_keys (kernel ++ take i news))) m

  ordered_alone : IsOrdered news → IsOrdered faces
  ordered_alone o = record {
    own = λ d m. (let r = map_mem face_only d news m in
        let h = o.own r.0 r.1 in
        subst HasOwnKey (sym r.2) (record { module_ = h.module_; outside = h.outside; is = h.is }));
    differ = subst (λ l. doubles same_key [] l ≡ []) (sym (same_keys news)) o.differ;
    parents = λ i d k e m. (let c = was_at i d e in earlier i k (o.parents i c.0 k c.1 (subst (λ (z : Class). Mem k z.decl.face.parents) c.2 m)));
    metaclasses = λ i d k e is. (let c = was_at i d e in earlier i k (o.metaclasses i c.0 k c.1 (subst (λ (z : Class). z.decl.face.metaclass ≡ Some k) c.2 is)));
    targets = λ i d name to e m. (let c = was_at i d e in earlier i to (o.targets i c.0 name to c.1 (subst (λ (z : Class). Mem (entries.Moved name to) z.decl.face.entries) c.2 m)));
  }

  -- a rule that no class breaks, no face of one breaks
  each_face : (old new : Class → List RuleBreach) → ((c : Class) → old c ≡ [] → new (face_only c) ≡ []) → ((c : Class) → Mem c news → old c ≡ []) → (d : Class) → Mem d faces → new d ≡ []
  each_face old new less none d m = let r = map_mem face_only d news m in ap new r.2 ∙ less r.0 (none r.0 r.1)

  known_still : (k : ClassKey) → is_some (class_at N k) ≡ true → is_some (class_at (map face_only N) k) ≡ true
  known_still k e = known_faces N k ∙ e

  s4_alone : (c : Class) → s4 N c ≡ [] → s4 (kernel ++ faces) (face_only c) ≡ []
  s4_alone c e = says_s4 (kernel ++ faces) (face_only c) (λ m is. is_a_faces N m som_class ∙ s4_says N c m e is)

  s5_alone : (c : Class) → s5 N c ≡ [] → s5 (kernel ++ faces) (face_only c) ≡ []
  s5_alone c e = types_alone (map face_only N) c (s5_more N (map face_only N) known_still c e)

  pub faces_alone : FacesLoad news → FacesLoad faces
  faces_alone l = record {
    ordered = ordered_alone l.ordered;
    parents = each_face s3 s3 (λ c e. e) l.parents;
    descend = each_face (s4 N) (s4 (kernel ++ faces)) s4_alone l.descend;
    types = each_face (s5 N) (s5 (kernel ++ faces)) s5_alone l.types;
    names = each_face s6 s6 (λ c e. e) l.names;
    variables = each_face s7 s7 (λ c e. refl) l.variables;
    above = λ d name to m i. (let r = map_mem face_only d news m in
        let c = r.0 in
        let there = subst (λ (z : Class). Mem (entries.Moved name to) z.decl.face.entries) r.2 i in
        ap (λ (z : Class). is_proper (kernel ++ faces) z to) r.2
        ∙ ap (λ b. not (same_key to c.key) && b) (is_a_faces N c.key to)
        ∙ l.above c name to r.1 there);
    there = λ d name to m i. (let r = map_mem face_only d news m in
        let there = subst (λ (z : Class). Mem (entries.Moved name to) z.decl.face.entries) r.2 i in
        ap is_some (entry_faces N to name) ∙ l.there r.0 name to r.1 there);
  }

-- ---- those that stand first

module _ (xs ys : List Class) (l : FacesLoad (xs ++ ys)) (types : (c : Class) → Mem c xs → s5 (kernel ++ xs) c ≡ []) where
  abbrev S : List Class
  S = kernel ++ xs

  abbrev L : List Class
  L = kernel ++ (xs ++ ys)

  o : IsOrdered xs
  o = ordered xs ys l.ordered

  here : (c : Class) → Mem c xs → class_at S c.key ≡ Some c
  here c m = found xs o c c.key (mem_right c kernel xs m) refl

  is_a_less : (k a : ClassKey) (c : Class) → class_at S k ≡ Some c → is_a L k a ≡ true → is_a S k a ≡ true
  is_a_less k a c e is = tests xs o k a (descends_less xs ys l.ordered k a c e (tested (xs ++ ys) l.ordered k a is))

  s4_less : (c : Class) → Mem c xs → s4 S c ≡ []
  s4_less c m = says_s4 S c (λ k is. (let d = metaclass_known xs o c.key c k (here c m) is in
      is_a_less k som_class d.0 d.1 (s4_says L c k (l.descend c (mem_left c xs ys m)) is)))

  proper_less : (c : Class) (name : List ℕ) (to : ClassKey) → Mem c xs → Mem (entries.Moved name to) c.decl.face.entries → (not (same_key to c.key) ≡ true) × (is_a S c.key to ≡ true)
  proper_less c name to m i =
      let r = both (not (same_key to c.key)) (is_a L c.key to) (l.above c name to (mem_left c xs ys m) i) in
      (r.0, is_a_less c.key to c (here c m) r.1)

  pub faces_first : FacesLoad xs
  faces_first = record {
    ordered = o;
    parents = λ c m. l.parents c (mem_left c xs ys m);
    descend = s4_less;
    types = types;
    names = λ c m. l.names c (mem_left c xs ys m);
    variables = λ c m. l.variables c (mem_left c xs ys m);
    above = λ c name to m i. (let r = proper_less c name to m i in both_true (not (same_key to c.key)) (is_a S c.key to) r.0 r.1);
    there = λ c name to m i. (let up = tested xs o c.key to (proper_less c name to m i).1 in
        let d = known_above xs o c.key to c (here c m) up in
        ap is_some (sym (entry_same xs ys l.ordered to name d.0 d.1)) ∙ l.there c name to (mem_left c xs ys m) i);
  }
