-- Faces that can stand together can do so under new keys.
use Rattle.std.proofs.Common.{◌≡◌, inl, ℕ, zero, suc, true, List, [], ◌∷◌, ◌++◌, map, take, slice_get, Option, Some, None, IsSome, is_some, unwrap_or, refl, sym, ap, ◌∙◌, subst, true≢false}
use Rattle.std.specs.Option.{option_map}
use Rattle.std.proofs.lemmas.Option.{slice_get-map}
use Rattle.som_model.specs.declared.key.ClassKey.{ClassKey}
use Rattle.som_model.specs.declared.class.Entry.{Entry}
use Rattle.som_model.specs.declared.class.Entry.TheVariants as entries
use Rattle.som_model.specs.Lists.{Mem, doubles}
use Rattle.som_model.specs.Keys.{same_key}
use Rattle.som_model.specs.Class.{Class}
use Rattle.som_model.specs.Kernel.{kernel}
use Rattle.som_model.specs.Loads.{IsOrdered, FacesLoad, HasOwnKey, keys_of}
use Rattle.som_model.specs.Owner.{entry_at}
use Rattle.som_model.specs.Rules.{RuleBreach, is_proper, name_of, s3, s4, s5, s6, s7}
use Rattle.som_model_laws.proofs.Lists.{map_mem, mem_map}
use Rattle.som_rekey_laws.specs.Rekeying.{ModuleChange, rekey, rekey_entry, rekey_class, rekey_classes}
use Rattle.som_rekey_laws.specs.Apart.{Names, is_named, IsApart, KeepsKernel}
use Rattle.som_rekey_laws.proofs.Lists.{map_twice}
use Rattle.som_rekey_laws.proofs.KeysApart.{keys_kept}
use Rattle.som_rekey_laws.proofs.Places.{rekey_named, is_named_at}
use Rattle.som_rekey_laws.proofs.OwnersKept.{entry_kept}
use Rattle.som_rekey_laws.proofs.BodiesKept.{some_there}
use Rattle.som_rekey_laws.proofs.KernelKept.{with_kernel}
use Rattle.som_rekey_rules.specs.NamesAlone.{AreFacesNamed}
use Rattle.som_rekey_rules.proofs.ClassesNamed.{all_named, entry_is_named}
use Rattle.som_rekey_rules.proofs.KernelNamed.{with_kernel_named}
use Rattle.som_rekey_rules.proofs.RulesRekeyed.{Variables, doubles_map, proper_kept, s3_kept, s4_kept, s5_kept, s6_kept, s7_kept}

-- ---- lists

take_map : {A B : Type 0} (g : A → B) (n : ℕ) (xs : List A) → take n (map g xs) ≡ map g (take n xs)
take_map g zero xs = refl
take_map g (suc n) [] = refl
take_map g (suc n) (x ∷ xs) = ap (λ l. g x ∷ l) (take_map g n xs)

was_some : {A B : Type 0} (g : A → B) (o : Option A) (b : B) → option_map g o ≡ Some b → (a : A) × (o ≡ Some a) × (b ≡ g a)
was_some g None b e = absurd (true≢false (sym (ap is_some e)))
was_some g (Some a) b e = (a, refl, ap (λ o. unwrap_or o b) (sym e))

-- the class that stood at a place
was_at : (f : ModuleChange) (cs : List Class) (i : ℕ) (d : Class) → slice_get (rekey_classes f cs) i ≡ Some d → (c : Class) × (slice_get cs i ≡ Some c) × (d ≡ rekey_class f c)
was_at f cs i d e = was_some (rekey_class f) (slice_get cs i) d (sym (slice_get-map (rekey_class f) cs i) ∙ e)

-- the entry that was moved
was_moved : (f : ModuleChange) (e : Entry) (name : List ℕ) (to : ClassKey) → entries.Moved name to ≡ rekey_entry f e → (from : ClassKey) × (e ≡ entries.Moved name from) × (to ≡ rekey f from)
was_moved f (entries.Introduced n sig way) name to e = absurd (let z = e in cc)
was_moved f (entries.Moved n from) name to e = let a : n ≡ name = cc in let b : to ≡ rekey f from = cc in (from, ap (λ z. entries.Moved z from) a, b)

pub was_moved_in : (f : ModuleChange) (es : List Entry) (name : List ℕ) (to : ClassKey) → Mem (entries.Moved name to) (map (rekey_entry f) es) → (from : ClassKey) × Mem (entries.Moved name from) es × (to ≡ rekey f from)
was_moved_in f es name to m =
    let r = map_mem (rekey_entry f) (entries.Moved name to) es m in
    let w = was_moved f r.0 name to r.2 in
    (w.0, subst (λ z. Mem z es) w.1 r.1, w.2)

module _ (f : ModuleChange) (names : Names) (kk : KeepsKernel f names) (apart : IsApart f names) (cs : List Class) where
  abbrev later : List Class
  later = rekey_classes f cs

  pub keys_are : (xs : List Class) → keys_of (rekey_classes f xs) ≡ map (rekey f) (keys_of xs)
  keys_are xs = map_twice (λ (c : Class). c.key) (rekey_class f) xs ∙ sym (map_twice (rekey f) (λ (c : Class). c.key) xs)

  -- a key that stands earlier
  earlier : (i : ℕ) (k : ClassKey) → Mem k (keys_of (kernel ++ take i cs)) → Mem (rekey f k) (keys_of (kernel ++ take i later))
  earlier i k m =
      let same : kernel ++ take i later ≡ rekey_classes f (kernel ++ take i cs) = ap (λ l. kernel ++ l) (take_map (rekey_class f) i cs) ∙ sym (with_kernel f names kk (take i cs)) in
      subst (λ l. Mem (rekey f k) l) (sym (ap keys_of same ∙ keys_are (kernel ++ take i cs))) (mem_map (rekey f) k (keys_of (kernel ++ take i cs)) m)

  module _ (keyed : (c : Class) → Mem c cs → is_named names c.key ≡ true) (o : IsOrdered cs) where
    own_kept : (c : Class) → Mem c cs → HasOwnKey (rekey_class f c)
    own_kept c m =
        let h = o.own c m in
        let n : names h.module_ (name_of c) ≡ true = sym (is_named_at names h.module_ (name_of c)) ∙ ap (is_named names) (sym h.is) ∙ keyed c m in
        record {
          module_ = f h.module_ (name_of c);
          outside = λ e. h.outside (kk.outside h.module_ (name_of c) n e);
          is = ap (rekey f) h.is ∙ rekey_named f h.module_ (name_of c);
        }

    all_keyed : (k : ClassKey) → Mem k (keys_of cs) → is_named names k ≡ true
    all_keyed k m = let r = map_mem (λ (c : Class). c.key) k cs m in ap (is_named names) r.2 ∙ keyed r.0 r.1

    pub ordered_kept : IsOrdered later
    ordered_kept = record {
      own = λ d m. (let r = map_mem (rekey_class f) d cs m in subst HasOwnKey (sym r.2) (own_kept r.0 r.1));
      differ = ap (doubles same_key []) (keys_are cs)
          ∙ doubles_map (λ k. is_named names k ≡ true) same_key same_key (rekey f) (keys_kept f names apart) [] (keys_of cs) (λ k m. absurd m) all_keyed
          ∙ ap (map (rekey f)) o.differ;
      parents = λ i d k e m. (let c = was_at f cs i d e in
          let p = map_mem (rekey f) k c.0.decl.face.parents (subst (λ (z : Class). Mem k z.decl.face.parents) c.2 m) in
          subst (λ z. Mem z (keys_of (kernel ++ take i later))) (sym p.2) (earlier i p.0 (o.parents i c.0 p.0 c.1 p.1)));
      metaclasses = λ i d k e is. (let c = was_at f cs i d e in
          let p = was_some (rekey f) c.0.decl.face.metaclass k (ap (λ (z : Class). z.decl.face.metaclass) (sym c.2) ∙ is) in
          subst (λ z. Mem z (keys_of (kernel ++ take i later))) (sym p.2) (earlier i p.0 (o.metaclasses i c.0 p.0 c.1 p.1)));
      targets = λ i d name to e m. (let c = was_at f cs i d e in
          let p = was_moved_in f c.0.decl.face.entries name to (subst (λ (z : Class). Mem (entries.Moved name to) z.decl.face.entries) c.2 m) in
          subst (λ z. Mem z (keys_of (kernel ++ take i later))) (sym p.2) (earlier i p.0 (o.targets i c.0 name p.0 c.1 p.1)));
    }

  -- a rule that none of the classes breaks, none of them breaks under new keys
  pub each_rule : (old new : Class → List RuleBreach) → ((c : Class) → Mem c cs → new (rekey_class f c) ≡ old c) → ((c : Class) → Mem c cs → old c ≡ []) → (d : Class) → Mem d later → new d ≡ []
  each_rule old new e none d m = let r = map_mem (rekey_class f) d cs m in ap new r.2 ∙ e r.0 r.1 ∙ none r.0 r.1

  module _ (faces : AreFacesNamed names cs) (variables : (c : Class) (m : Mem c cs) → Variables f names apart c (faces c m)) where
    abbrev all : List Class
    all = kernel ++ cs

    all_faces : AreFacesNamed names all
    all_faces = with_kernel_named f names kk cs faces

    pub after_kernel : kernel ++ later ≡ rekey_classes f all
    after_kernel = sym (with_kernel f names kk cs)

    above_kept : (l : FacesLoad cs) (c : Class) (name : List ℕ) (to : ClassKey) → Mem c cs → Mem (entries.Moved name to) c.decl.face.entries → is_proper (kernel ++ later) (rekey_class f c) (rekey f to) ≡ true
    above_kept l c name to m i =
        let n = entry_is_named names c (faces c m) (entries.Moved name to) i to (inl refl) in
        ap (λ ds. is_proper ds (rekey_class f c) (rekey f to)) after_kernel
        ∙ proper_kept f names apart c (faces c m) kk all all_faces to n ∙ l.above c name to m i

    there_kept : (l : FacesLoad cs) (c : Class) (name : List ℕ) (to : ClassKey) → Mem c cs → Mem (entries.Moved name to) c.decl.face.entries → IsSome (entry_at (kernel ++ later) (rekey f to) name)
    there_kept l c name to m i =
        let n = entry_is_named names c (faces c m) (entries.Moved name to) i to (inl refl) in
        ap (λ ds. is_some (entry_at ds (rekey f to) name)) after_kernel
        ∙ ap is_some (entry_kept f names all apart (all_named names all all_faces) to name n)
        ∙ some_there (rekey_entry f) (entry_at all to name) ∙ l.there c name to m i

    pub faces_kept : FacesLoad cs → FacesLoad later
    faces_kept l = record {
      ordered = ordered_kept (λ c m. (faces c m).key) l.ordered;
      parents = each_rule s3 s3 (λ c m. s3_kept f names apart c (faces c m)) l.parents;
      descend = each_rule (s4 all) (s4 (kernel ++ later)) (λ c m. ap (λ ds. s4 ds (rekey_class f c)) after_kernel ∙ s4_kept f names apart c (faces c m) kk all all_faces) l.descend;
      types = each_rule (s5 all) (s5 (kernel ++ later)) (λ c m. ap (λ ds. s5 ds (rekey_class f c)) after_kernel ∙ s5_kept f names apart c (faces c m) all all_faces (variables c m)) l.types;
      names = each_rule s6 s6 (λ c m. s6_kept f c) l.names;
      variables = each_rule s7 s7 (λ c m. s7_kept f c) l.variables;
      above = λ d name to m i. (let r = map_mem (rekey_class f) d cs m in
          let w = was_moved_in f r.0.decl.face.entries name to (subst (λ (z : Class). Mem (entries.Moved name to) z.decl.face.entries) r.2 i) in
          ap (λ z. is_proper (kernel ++ later) z to) r.2 ∙ ap (is_proper (kernel ++ later) (rekey_class f r.0)) w.2 ∙ above_kept l r.0 name w.0 r.1 w.1);
      there = λ d name to m i. (let r = map_mem (rekey_class f) d cs m in
          let w = was_moved_in f r.0.decl.face.entries name to (subst (λ (z : Class). Mem (entries.Moved name to) z.decl.face.entries) r.2 i) in
          subst (λ z. IsSome (entry_at (kernel ++ later) z name)) (sym w.2) (there_kept l r.0 name w.0 r.1 w.1));
    }
