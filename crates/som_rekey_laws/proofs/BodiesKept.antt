-- Bodies, selected parents and implementations under new keys.
use Rattle.std.proofs.Common.{◌≡◌, inl, inr, ℕ, Bool, true, false, ◌&&◌, ◌||◌, if◌then◌else◌, List, [], ◌∷◌, ◌++◌, map, flat_map, slice_get, Option, Some, None, is_some, refl, sym, ap, ◌∙◌, true≢false}
use Rattle.std.specs.Str.{bytes_eq}
use Rattle.std.specs.Option.{option_map, option_and_then}
use Rattle.std.proofs.lemmas.Option.{slice_get-map}
use Rattle.som_model.specs.declared.key.Module.{Module}
use Rattle.som_model.specs.declared.key.Module.TheVariants as modules
use Rattle.som_model.specs.declared.key.ClassKey.{ClassKey, out-ClassKey, map-ClassKey}
use Rattle.som_model.specs.declared.key.ClassKey.TheVariants as keys
use Rattle.som_model.specs.declared.key.ClassKey.TheOpen.{ClassKey-F}
use Rattle.som_model.specs.declared.key.MethodRef.{MethodRef}
use Rattle.som_model.specs.declared.class.Entry.{Entry}
use Rattle.som_model.specs.declared.class.Entry.TheVariants as entries
use Rattle.som_model.specs.declared.class.Body.{Body}
use Rattle.som_model.specs.declared.class.Body.TheVariants as bodies
use Rattle.som_model.specs.declared.class.Override.{Override}
use Rattle.som_model.specs.declared.class.Select.{Select}
use Rattle.som_model.specs.Lists.{Mem, some, or_else}
use Rattle.som_model.specs.Keys.{same_key, same_module, same_method}
use Rattle.som_model.specs.Class.{Class, entry_of}
use Rattle.som_model.specs.Kernel.{kernel_key, object_face, class_face, before_after_face, som_object, som_class, before_after, som_init, som_uninit}
use Rattle.som_model.specs.Classes.{class_at, hierarchy, ancestors}
use Rattle.som_model.specs.Owner.{owner, introduced_by}
use Rattle.som_model.specs.Implementation.{User, Get, Set, OfKernel, Forward, Nothing, body_named, is_kernel, is_kernel_layer, introduced_body, override_of, declared_held, forwards, proxy_held, held_by, held, has_body, select_of, selected_in, selected, implementation}
use Rattle.som_model_laws.proofs.Lists.{get_mem}
use Rattle.som_rekey_laws.specs.Rekeying.{ModuleChange, rekey_layer, rekey, rekey_method, rekey_block, rekey_entry, rekey_body, rekey_override, rekey_select, rekey_held, rekey_class, rekey_classes}
use Rattle.som_rekey_laws.specs.Apart.{Names, named_step, is_named, IsApart, KeepsKernel, AreNamed, AreTargetsNamed, AreInheritedNamed}
use Rattle.som_rekey_laws.proofs.Lists.{if_map, bool_same, map_append, map_twice, some_map, or_else_map}
use Rattle.som_rekey_laws.proofs.KeysApart.{out_rekey, named_out, keys_kept, module_true, module_test}
use Rattle.som_rekey_laws.proofs.Renaming.{known_ancestors, answers_alike}
use Rattle.som_rekey_laws.proofs.Places.{found_mem, rekey_named, is_named_at, class_kept, hierarchy_kept, ancestors_kept}
use Rattle.som_rekey_laws.proofs.OwnersKept.{entry_list, introduced_kept, owner_kept, owner_named}

pub some_there : {A B : Type 0} (g : A → B) (o : Option A) → is_some (option_map g o) ≡ is_some o
some_there g None = refl
some_there g (Some x) = refl

pub flat_kept : {A B C D : Type 0} (old : A → List C) (new : B → List D) (g : A → B) (h : C → D) (xs : List A) → ((x : A) → Mem x xs → new (g x) ≡ map h (old x)) → flat_map new (map g xs) ≡ map h (flat_map old xs)
flat_kept old new g h [] e = refl
flat_kept old new g h (x ∷ xs) e =
    ap (λ l. l ++ flat_map new (map g xs)) (e x (inl refl))
    ∙ ap (λ l. map h (old x) ++ l) (flat_kept old new g h xs (λ a m. e a (inr m)))
    ∙ sym (map_append h (old x) (flat_map old xs))

pub every_both : {A : Type 0} (test : A → Bool) (xs ys : List A) → ((a : A) → Mem a xs → test a ≡ true) → ((a : A) → Mem a ys → test a ≡ true) → (a : A) → Mem a (xs ++ ys) → test a ≡ true
every_both test [] ys f g a m = g a m
every_both test (x ∷ xs) ys f g a (inl e) = ap test e ∙ f x (inl refl)
every_both test (x ∷ xs) ys f g a (inr m) = every_both test xs ys (λ b n. f b (inr n)) g a m

every_flat : {A B : Type 0} (test : B → Bool) (F : A → List B) (xs : List A) → ((x : A) → Mem x xs → (b : B) → Mem b (F x) → test b ≡ true) → (b : B) → Mem b (flat_map F xs) → test b ≡ true
every_flat test F [] e b m = absurd m
every_flat test F (x ∷ xs) e b m = every_both test (F x) (flat_map F xs) (e x (inl refl)) (every_flat test F xs (λ a n. e a (inr n))) b m

every_map : {A B : Type 0} (test : B → Bool) (F : A → B) (xs : List A) → ((x : A) → test (F x) ≡ true) → (b : B) → Mem b (map F xs) → test b ≡ true
every_map test F [] e b m = absurd m
every_map test F (x ∷ xs) e b (inl is) = ap test is ∙ e x
every_map test F (x ∷ xs) e b (inr m) = every_map test F xs e b m

every_unless : {A : Type 0} (test : A → Bool) (b : Bool) (xs : List A) → ((a : A) → Mem a xs → test a ≡ true) → (a : A) → Mem a (if b then [] else xs) → test a ≡ true
every_unless test true xs e a m = absurd m
every_unless test false xs e a m = e a m

list_body : (f : ModuleChange) (es : List Entry) (bs : List Body) (name : List ℕ) → body_named (map (rekey_entry f) es) (map (rekey_body f) bs) name ≡ option_map (rekey_held f) (body_named es bs name)
list_body f [] bs name = refl
list_body f (entries.Moved n to ∷ es) bs name = list_body f es bs name
list_body f (entries.Introduced n sig way ∷ es) [] name = refl
list_body f (entries.Introduced n sig way ∷ es) (bodies.User b ∷ bs) name =
    ap (λ o. if bytes_eq n name then Some (User (rekey_block f b)) else o) (list_body f es bs name) ∙ if_map (option_map (rekey_held f)) (bytes_eq n name) (Some (User b)) (body_named es bs name)
list_body f (entries.Introduced n sig way ∷ es) (bodies.Get i ∷ bs) name =
    ap (λ o. if bytes_eq n name then Some (Get i) else o) (list_body f es bs name) ∙ if_map (option_map (rekey_held f)) (bytes_eq n name) (Some (Get i)) (body_named es bs name)
list_body f (entries.Introduced n sig way ∷ es) (bodies.Set i ∷ bs) name =
    ap (λ o. if bytes_eq n name then Some (Set i) else o) (list_body f es bs name) ∙ if_map (option_map (rekey_held f)) (bytes_eq n name) (Some (Set i)) (body_named es bs name)

module _ (f : ModuleChange) (names : Names) (cs : List Class) (is : IsApart f names) (are : AreNamed names cs) where
  abbrev new_classes : List Class
  new_classes = rekey_classes f cs

  pub method_kept : (r s : MethodRef) → is_named names r.class ≡ true → is_named names s.class ≡ true → same_method (rekey_method f r) (rekey_method f s) ≡ same_method r s
  method_kept r s n l = ap (λ b. b && bytes_eq r.name s.name) (keys_kept f names is r.class s.class n l)

  module _ (targets : AreTargetsNamed names cs) where
    -- whether a method is owned by another's owner
    owner_test : (s r : MethodRef) → is_named names s.class ≡ true → is_named names r.class ≡ true → same_method (owner new_classes (rekey_method f s)) (rekey_method f r) ≡ same_method (owner cs s) r
    owner_test s r n l =
        ap (λ z. same_method z (rekey_method f r)) (owner_kept f names cs is are targets s n)
        ∙ method_kept (owner cs s) r (owner_named f names cs is are targets s n) l

    module _ (inherited : AreInheritedNamed names cs) where
      select_kept : (ss : List Select) (r : MethodRef) → ((s : Select) → Mem s ss → is_named names s.method.class ≡ true) → is_named names r.class ≡ true
          → select_of new_classes (rekey_method f r) (map (rekey_select f) ss) ≡ select_of cs r ss
      select_kept [] r e n = refl
      select_kept (s ∷ ss) r e n =
          ap (λ b. if b then Some s.parent else select_of new_classes (rekey_method f r) (map (rekey_select f) ss)) (owner_test s.method r (e s (inl refl)) n)
          ∙ ap (λ q. if same_method (owner cs s.method) r then Some s.parent else q) (select_kept ss r (λ p m. e p (inr m)) n)

      place_of_parent : (ps : List ClassKey) (o : Option ℕ) → option_and_then (slice_get (map (rekey f) ps)) o ≡ option_map (rekey f) (option_and_then (slice_get ps) o)
      place_of_parent ps None = refl
      place_of_parent ps (Some i) = slice_get-map (rekey f) ps i

      class_selected : (k : ClassKey) (r : MethodRef) (o : Option Class) → class_at cs k ≡ o → is_named names r.class ≡ true
          → selected_in new_classes (rekey_method f r) (option_map (rekey_class f) o) ≡ option_map (rekey f) (selected_in cs r o)
      class_selected k r None e n = refl
      class_selected k r (Some c) e n =
          let m = found_mem (λ (c : Class). same_key c.key k) cs c e in
          ap (option_and_then (slice_get (map (rekey f) c.decl.face.parents))) (select_kept c.decl.selects r (λ s i. inherited.selects c s m i) n)
          ∙ place_of_parent c.decl.face.parents (select_of cs r c.decl.selects)

      pub selected_kept : (r : MethodRef) → is_named names r.class ≡ true → (k : ClassKey) → is_named names k ≡ true → selected new_classes (rekey_method f r) (rekey f k) ≡ option_map (rekey f) (selected cs r k)
      selected_kept r l k n = ap (selected_in new_classes (rekey_method f r)) (class_kept f names cs is are k n) ∙ class_selected k r (class_at cs k) refl l

      parent_at_named : (c : Class) (p : ClassKey) (o : Option ℕ) → Mem c cs → option_and_then (slice_get c.decl.face.parents) o ≡ Some p → is_named names p ≡ true
      parent_at_named c p None m e = absurd (true≢false (ap is_some (sym e)))
      parent_at_named c p (Some i) m e = are.parents c p m (get_mem c.decl.face.parents i p e)

      selected_in_named : (r : MethodRef) (k p : ClassKey) (o : Option Class) → class_at cs k ≡ o → selected_in cs r o ≡ Some p → is_named names p ≡ true
      selected_in_named r k p None e s = absurd (true≢false (ap is_some (sym s)))
      selected_in_named r k p (Some c) e s = parent_at_named c p (select_of cs r c.decl.selects) (found_mem (λ (c : Class). same_key c.key k) cs c e) s

module _ (f : ModuleChange) (names : Names) (kk : KeepsKernel f names) where
  kernel_module : (m : Module) (name : List ℕ) → names m name ≡ true → same_module (f m name) modules.Kernel ≡ same_module m modules.Kernel
  kernel_module m name n = bool_same (same_module (f m name) modules.Kernel) (same_module m modules.Kernel)
      (λ h. module_test m modules.Kernel (kk.outside m name n (module_true (f m name) modules.Kernel h)))
      (λ h. let e = module_true m modules.Kernel h in
      module_test (f m name) modules.Kernel (ap (λ z. f z name) e ∙ kk.stays name (ap (λ z. names z name) (sym e) ∙ n)))

  kernel_layer : (y : ClassKey-F ClassKey) → named_step names (map-ClassKey ClassKey Bool (is_named names) y) ≡ true
      → is_kernel_layer (rekey_layer f (map-ClassKey ClassKey ClassKey (rekey f) y)) ≡ is_kernel_layer y
  kernel_layer (ClassKey-F.Named m name) n = kernel_module m name n
  kernel_layer (ClassKey-F.Derived ks) n = refl
  kernel_layer (ClassKey-F.Proxy k) n = refl

  pub kernel_kept : (k : ClassKey) → is_named names k ≡ true → is_kernel (rekey f k) ≡ is_kernel k
  kernel_kept k n = ap is_kernel_layer (out_rekey f k) ∙ kernel_layer (out-ClassKey k) (sym (named_out names k) ∙ n)

  pub kernel_stays : (name : List ℕ) → names modules.Kernel name ≡ true → rekey f (kernel_key name) ≡ kernel_key name
  kernel_stays name n = rekey_named f modules.Kernel name ∙ ap (λ m. keys.Named m name) (kk.stays name n)

  pub kernel_is_named : (name : List ℕ) → names modules.Kernel name ≡ true → is_named names (kernel_key name) ≡ true
  kernel_is_named name n = is_named_at names modules.Kernel name ∙ n

  pub object_stays : rekey f som_object ≡ som_object
  object_stays = kernel_stays object_face.name (kk.here object_face (inl refl))

  pub object_named : is_named names som_object ≡ true
  object_named = kernel_is_named object_face.name (kk.here object_face (inl refl))

  pub class_stays : rekey f som_class ≡ som_class
  class_stays = kernel_stays class_face.name (kk.here class_face (inr (inl refl)))

  pub class_named : is_named names som_class ≡ true
  class_named = kernel_is_named class_face.name (kk.here class_face (inr (inl refl)))

  pub before_after_stays : rekey f before_after ≡ before_after
  before_after_stays = kernel_stays before_after_face.name (kk.here before_after_face (inr (inr (inr (inl refl)))))

  pub before_after_named : is_named names before_after ≡ true
  before_after_named = kernel_is_named before_after_face.name (kk.here before_after_face (inr (inr (inr (inl refl)))))

  -- a method of the kernel's stays
  abbrev method_in : ClassKey → List ℕ → MethodRef
  method_in k name = record { class = k; name = name }

  class_body : (c : Class) (name : List ℕ) → is_named names c.key ≡ true → introduced_body (rekey_class f c) name ≡ option_map (rekey_held f) (introduced_body c name)
  class_body c name n =
      let es = c.decl.face.entries in
      let new = body_named (map (rekey_entry f) es) (map (rekey_body f) c.decl.bodies) name in
      let one = if is_some (entry_of es name) then Some (OfKernel name) else None in
      let own : (if is_some (entry_of (map (rekey_entry f) es) name) then Some (OfKernel name) else None) ≡ option_map (rekey_held f) one =
      ap (λ b. if b then Some (OfKernel name) else None) (ap is_some (entry_list f es name) ∙ some_there (rekey_entry f) (entry_of es name))
      ∙ if_map (option_map (rekey_held f)) (is_some (entry_of es name)) (Some (OfKernel name)) None in
      ap (λ b. if b then (if is_some (entry_of (map (rekey_entry f) es) name) then Some (OfKernel name) else None) else new) (kernel_kept c.key n)
      ∙ ap (λ o. if is_kernel c.key then o else new) own
      ∙ ap (λ o. if is_kernel c.key then option_map (rekey_held f) one else o) (list_body f es c.decl.bodies name)
      ∙ if_map (option_map (rekey_held f)) (is_kernel c.key) one (body_named es c.decl.bodies name)

  module _ (cs : List Class) (is : IsApart f names) (are : AreNamed names cs) where
    abbrev later_classes : List Class
    later_classes = rekey_classes f cs

    pub above_named : (c : ClassKey) → is_named names c ≡ true → (k : ClassKey) → Mem k (ancestors cs c) → is_named names k ≡ true
    above_named c n k m = known_ancestors (hierarchy cs) (hierarchy later_classes) (rekey f) (is_named names) (hierarchy_kept f names cs is are) c n k m

    abbrev methods_of : List Class → ClassKey → List MethodRef
    methods_of ds k = map (λ name. record { class = k; name = name }) (introduced_by ds k)

    methods_kept : (k : ClassKey) → is_named names k ≡ true → methods_of later_classes (rekey f k) ≡ map (rekey_method f) (methods_of cs k)
    methods_kept k n =
        ap (map (λ name. record { class = rekey f k; name = name })) (introduced_kept f names cs is are k n)
        ∙ sym (map_twice (rekey_method f) (λ name. record { class = k; name = name }) (introduced_by cs k))

    outside_kept : (k : ClassKey) → is_named names k ≡ true → (if is_kernel (rekey f k) then [] else methods_of later_classes (rekey f k)) ≡ map (rekey_method f) (if is_kernel k then [] else methods_of cs k)
    outside_kept k n =
        ap (λ b. if b then [] else methods_of later_classes (rekey f k)) (kernel_kept k n)
        ∙ ap (λ l. if is_kernel k then [] else l) (methods_kept k n)
        ∙ if_map (map (rekey_method f)) (is_kernel k) [] (methods_of cs k)

    pub forwards_kept : (c : ClassKey) → is_named names c ≡ true → forwards later_classes (rekey f c) ≡ map (rekey_method f) (forwards cs c)
    forwards_kept c n =
        ap (flat_map (λ k. if is_kernel k then [] else methods_of later_classes k)) (ancestors_kept f names cs is are c n)
        ∙ flat_kept (λ k. if is_kernel k then [] else methods_of cs k) (λ k. if is_kernel k then [] else methods_of later_classes k) (rekey f) (rekey_method f) (ancestors cs c) (λ k m. outside_kept k (above_named c n k m))

    forwards_named : (c : ClassKey) → is_named names c ≡ true → (s : MethodRef) → Mem s (forwards cs c) → is_named names s.class ≡ true
    forwards_named c n = every_flat (λ (s : MethodRef). is_named names s.class) (λ k. if is_kernel k then [] else methods_of cs k) (ancestors cs c)
        (λ k m. every_unless (λ (s : MethodRef). is_named names s.class) (is_kernel k) (methods_of cs k)
        (every_map (λ (s : MethodRef). is_named names s.class) (λ name. record { class = k; name = name }) (introduced_by cs k) (λ name. above_named c n k m)))

    kernel_method : (r s : MethodRef) → is_named names r.class ≡ true → rekey f s.class ≡ s.class → is_named names s.class ≡ true → same_method (rekey_method f r) s ≡ same_method r s
    kernel_method r s n e l = ap (λ k. same_method (rekey_method f r) (method_in k s.name)) (sym e) ∙ method_kept f names cs is are r s n l

    proxy_kept : (c : ClassKey) (r : MethodRef) → is_named names c ≡ true → is_named names r.class ≡ true → proxy_held later_classes (rekey f c) (rekey_method f r) ≡ option_map (rekey_held f) (proxy_held cs c r)
    proxy_kept c r n l =
        let s = rekey_method f r in
        let init = kernel_method r som_init l object_stays object_named in
        let uninit = kernel_method r som_uninit l object_stays object_named in
        let on = some (same_method r) (forwards cs c) in
        let quiet = same_method r som_init || same_method r som_uninit in
        let tests : (same_method s som_init || same_method s som_uninit) ≡ quiet = ap (λ b. b || same_method s som_uninit) init ∙ ap (λ b. same_method r som_init || b) uninit in
        let among : some (same_method s) (forwards later_classes (rekey f c)) ≡ on =
        ap (some (same_method s)) (forwards_kept c n) ∙ some_map (same_method r) (same_method s) (rekey_method f) (forwards cs c) (λ q m. method_kept f names cs is are r q l (forwards_named c n q m)) in
        ap (λ b. if b then Some Nothing else (if some (same_method s) (forwards later_classes (rekey f c)) then Some Forward else None)) tests
        ∙ ap (λ b. if quiet then Some Nothing else (if b then Some Forward else None)) among
        ∙ ap (λ o. if quiet then Some Nothing else o) (if_map (option_map (rekey_held f)) on (Some Forward) None)
        ∙ if_map (option_map (rekey_held f)) quiet (Some Nothing) (if on then Some Forward else None)

    module _ (targets : AreTargetsNamed names cs) (inherited : AreInheritedNamed names cs) where
      override_kept : (os : List Override) (r : MethodRef) → ((o : Override) → Mem o os → is_named names o.method.class ≡ true) → is_named names r.class ≡ true
          → override_of later_classes (rekey_method f r) (map (rekey_override f) os) ≡ option_map (rekey_held f) (override_of cs r os)
      override_kept [] r e n = refl
      override_kept (o ∷ os) r e n =
          ap (λ b. if b then Some (User (rekey_block f o.block)) else override_of later_classes (rekey_method f r) (map (rekey_override f) os)) (owner_test f names cs is are targets o.method r (e o (inl refl)) n)
          ∙ ap (λ q. if same_method (owner cs o.method) r then Some (User (rekey_block f o.block)) else q) (override_kept os r (λ p m. e p (inr m)) n)
          ∙ if_map (option_map (rekey_held f)) (same_method (owner cs o.method) r) (Some (User o.block)) (override_of cs r os)

      declared_kept : (k : ClassKey) (r : MethodRef) (o : Option Class) → class_at cs k ≡ o → is_named names r.class ≡ true
          → declared_held later_classes (option_map (rekey_class f) o) (rekey_method f r) ≡ option_map (rekey_held f) (declared_held cs o r)
      declared_kept k r None e n = refl
      declared_kept k r (Some c) e n =
          let m = found_mem (λ (c : Class). same_key c.key k) cs c e in
          let own : (if same_key (rekey f c.key) (rekey f r.class) then introduced_body (rekey_class f c) r.name else None) ≡ option_map (rekey_held f) (if same_key c.key r.class then introduced_body c r.name else None) =
          ap (λ b. if b then introduced_body (rekey_class f c) r.name else None) (keys_kept f names is c.key r.class (are.keys c m) n)
          ∙ ap (λ q. if same_key c.key r.class then q else None) (class_body c r.name (are.keys c m))
          ∙ if_map (option_map (rekey_held f)) (same_key c.key r.class) (introduced_body c r.name) None in
          ap (λ q. or_else q (override_of later_classes (rekey_method f r) (map (rekey_override f) c.decl.overrides))) own
          ∙ ap (or_else (option_map (rekey_held f) (if same_key c.key r.class then introduced_body c r.name else None))) (override_kept c.decl.overrides r (λ o i. inherited.overrides c o m i) n)
          ∙ or_else_map (rekey_held f) (if same_key c.key r.class then introduced_body c r.name else None) (override_of cs r c.decl.overrides)

      layer_held : (y : ClassKey-F ClassKey) (k : ClassKey) (r : MethodRef) → named_step names (map-ClassKey ClassKey Bool (is_named names) y) ≡ true → is_named names k ≡ true → is_named names r.class ≡ true
          → held_by later_classes (rekey_layer f (map-ClassKey ClassKey ClassKey (rekey f) y)) (rekey f k) (rekey_method f r) ≡ option_map (rekey_held f) (held_by cs y k r)
      layer_held (ClassKey-F.Named m x) k r a n l = ap (λ o. declared_held later_classes o (rekey_method f r)) (class_kept f names cs is are k n) ∙ declared_kept k r (class_at cs k) refl l
      layer_held (ClassKey-F.Derived ks) k r a n l = refl
      layer_held (ClassKey-F.Proxy c) k r a n l = proxy_kept c r a l

      pub held_kept : (k : ClassKey) (r : MethodRef) → is_named names k ≡ true → is_named names r.class ≡ true → held later_classes (rekey f k) (rekey_method f r) ≡ option_map (rekey_held f) (held cs k r)
      held_kept k r n l =
          ap (λ y. held_by later_classes y (rekey f k) (rekey_method f r)) (out_rekey f k)
          ∙ layer_held (out-ClassKey k) k r (sym (named_out names k) ∙ n) n l

      pub body_kept : (r : MethodRef) → is_named names r.class ≡ true → (k : ClassKey) → is_named names k ≡ true → has_body later_classes (rekey_method f r) (rekey f k) ≡ has_body cs r k
      body_kept r l k n = ap is_some (held_kept k r n l) ∙ some_there (rekey_held f) (held cs k r)

      pub implementation_kept : (k : ClassKey) (r : MethodRef) → is_named names k ≡ true → is_named names r.class ≡ true
          → implementation later_classes (rekey f k) (rekey_method f r) ≡ option_map (rekey f) (implementation cs k r)
      implementation_kept k r n l = answers_alike (hierarchy cs) (hierarchy later_classes) (rekey f) (is_named names) (hierarchy_kept f names cs is are)
          (has_body cs r) (has_body later_classes (rekey_method f r)) (selected cs r) (selected later_classes (rekey_method f r))
          (body_kept r l) (selected_kept f names cs is are targets inherited r l) (λ x p i s. selected_in_named f names cs is are targets inherited r x p (class_at cs x) refl s) r.class l k n
