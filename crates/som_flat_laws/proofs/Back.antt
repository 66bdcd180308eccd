-- A change of modules that is taken back by another leaves classes as they were.
use Rattle.std.proofs.Common.{◌≡◌, ℕ, inl, inr, Bool, true, List, [], ◌∷◌, map, flat_map, Option, Some, None, refl, sym, ap, ◌∙◌, subst}
use Rattle.std.specs.Option.{option_map}
use Rattle.som_model.specs.declared.key.Module.{Module}
use Rattle.som_model.specs.declared.key.ClassKey.{ClassKey, out-ClassKey, roll-ClassKey, out-roll-ClassKey, roll-out-ClassKey, ind-ClassKey, map-ClassKey}
use Rattle.som_model.specs.declared.key.ClassKey.TheOpen.{ClassKey-F}
use Rattle.som_model.specs.declared.key.ValueType.{ValueType}
use Rattle.som_model.specs.declared.key.ValueType.TheVariants as types
use Rattle.som_model.specs.declared.class.Sig.{Sig}
use Rattle.som_model.specs.declared.class.Entry.{Entry}
use Rattle.som_model.specs.declared.class.Entry.TheVariants as entries
use Rattle.som_model.specs.declared.class.ClassFace.{ClassFace}
use Rattle.som_model.specs.Lists.{Mem, every, option_list}
use Rattle.som_model.specs.Class.{Class, bare}
use Rattle.som_model.specs.Named.{entry_names, sig_names, type_names}
use Rattle.som_rekey_laws.specs.Apart.{Names, is_named, named_step}
use Rattle.som_rekey_laws.specs.Rekeying.{ModuleChange, rekey, rekey_class, rekey_entry, rekey_face, rekey_layer, rekey_sig, rekey_type}
use Rattle.som_rekey_laws.proofs.KeysApart.{every_first, every_rest, named_out, out_rekey}
use Rattle.som_rekey_laws.proofs.Lists.{map_twice}
use Rattle.som_rekey_rules.specs.NamesAlone.{AreOf, IsTypeNamed}
use Rattle.som_rekey_rules.proofs.ClassesNamed.{metaclass_is_named, entry_is_named}
use Rattle.som_rekey_rules.proofs.ExpressionsRekeyed.{parent_named}
use Rattle.som_rekey_rules.proofs.TypesRekeyed.{each_of, key_of, left_of, right_of}
use Rattle.som_rekey_rules.specs.NamesAlone.{IsFaceNamed}

-- a list of which each member stays
all_back : {A : Type 0} (u : A → A) (xs : List A) → ((a : A) → Mem a xs → u a ≡ a) → map u xs ≡ xs
all_back u [] e = refl
all_back u (x ∷ xs) e = ap (λ z. z ∷ map u xs) (e x (inl refl)) ∙ ap (λ l. x ∷ l) (all_back u xs (λ a m. e a (inr m)))

module _ (f g : ModuleChange) (names : Names) (back : (m : Module) (name : List ℕ) → names m name ≡ true → g (f m name) name ≡ m) where
  -- ---- keys

  abbrev IsBack : ClassKey → Type 0
  IsBack k = is_named names k ≡ true → rekey g (rekey f k) ≡ k

  abbrev Kept : Type 0
  Kept = (k : ClassKey) × IsBack k

  abbrev keys : List Kept → List ClassKey
  keys = map (λ (e : Kept). e.0)

  abbrev plain : ClassKey-F Kept → ClassKey-F ClassKey
  plain = map-ClassKey Kept ClassKey (λ (e : Kept). e.0)

  abbrev there : ClassKey-F ClassKey → ClassKey-F ClassKey
  there y = rekey_layer f (map-ClassKey ClassKey ClassKey (rekey f) y)

  abbrev back_again : ClassKey-F ClassKey → ClassKey-F ClassKey
  back_again y = rekey_layer g (map-ClassKey ClassKey ClassKey (rekey g) y)

  abbrev IsLayerNamed : ClassKey-F ClassKey → Type 0
  IsLayerNamed y = named_step names (map-ClassKey ClassKey Bool (is_named names) y) ≡ true

  keys_back : (ks : List Kept) → every (λ b. b) (map (is_named names) (keys ks)) ≡ true → map (rekey g) (map (rekey f) (keys ks)) ≡ keys ks
  keys_back [] h = refl
  keys_back (k ∷ ks) h =
      let rest = every (λ b. b) (map (is_named names) (keys ks)) in
      ap (λ z. z ∷ map (rekey g) (map (rekey f) (keys ks))) (k.1 (every_first (is_named names k.0) rest h))
      ∙ ap (λ l. k.0 ∷ l) (keys_back ks (every_rest (is_named names k.0) rest h))

  layer_back : (y : ClassKey-F Kept) → IsLayerNamed (plain y) → back_again (there (plain y)) ≡ plain y
  layer_back (ClassKey-F.Named m name) h = ap (λ z. ClassKey-F.Named z name) (back m name h)
  layer_back (ClassKey-F.Derived ks) h = ap (λ l. ClassKey-F.Derived l) (keys_back ks h)
  layer_back (ClassKey-F.Proxy k) h = ap (λ z. ClassKey-F.Proxy z) (k.1 h)

  rolled_back : (y : ClassKey-F Kept) → IsBack (roll-ClassKey (plain y))
  rolled_back y n =
      let a = roll-ClassKey (plain y) in
      let out : out-ClassKey a ≡ plain y = out-roll-ClassKey (plain y) in
      let h : IsLayerNamed (plain y) = subst IsLayerNamed out (sym (named_out names a) ∙ n) in
      sym (roll-out-ClassKey (rekey g (rekey f a)))
      ∙ ap roll-ClassKey (out_rekey g (rekey f a) ∙ ap back_again (out_rekey f a ∙ ap there out) ∙ layer_back y h)

  pub key_back : (k : ClassKey) → IsBack k
  key_back = ind-ClassKey IsBack (λ x y is. subst (λ z. IsBack (roll-ClassKey z)) is (rolled_back y))

  -- ---- faces

  type_back : (t : ValueType) → IsTypeNamed names t → rekey_type g (rekey_type f t) ≡ t
  type_back types.Void n = refl
  type_back types.Long n = refl
  type_back types.Boolean n = refl
  type_back types.Str n = refl
  type_back (types.Class k) n = ap types.Class (key_back k (key_of names k n))

  sig_back : (s : Sig) → AreOf names (sig_names s) → rekey_sig g (rekey_sig f s) ≡ s
  sig_back s n =
      let ps = map_twice (rekey_type g) (rekey_type f) s.params
      ∙ all_back (λ t. rekey_type g (rekey_type f t)) s.params (λ t m. type_back t (each_of names type_names s.params (right_of names (type_names s.result) (flat_map type_names s.params) n) t m)) in
      ap (λ r. record { result = r; params = map (rekey_type g) (map (rekey_type f) s.params) }) (type_back s.result (left_of names (type_names s.result) (flat_map type_names s.params) n))
      ∙ ap (λ l. record { result = s.result; params = l }) ps

  entry_back : (e : Entry) → AreOf names (entry_names e) → rekey_entry g (rekey_entry f e) ≡ e
  entry_back (entries.Introduced name sig way) n = ap (λ s. entries.Introduced name s way) (sig_back sig n)
  entry_back (entries.Moved name to) n = ap (λ k. entries.Moved name k) (key_back to (n to (inl refl)))

  option_back : (o : Option ClassKey) → ((k : ClassKey) → Mem k (option_list o) → is_named names k ≡ true) → option_map (rekey g) (option_map (rekey f) o) ≡ o
  option_back None n = refl
  option_back (Some k) n = ap (λ z. Some z) (key_back k (n k (inl refl)))

  abbrev face_of : ClassFace → List ClassKey → Option ClassKey → List Entry → ClassFace
  face_of c ps o es = record { name = c.name; major = c.major; minor = c.minor; parents = ps; metaclass = o; entries = es }

  face_back : (c : Class) → IsFaceNamed names c → rekey_face g (rekey_face f c.decl.face) ≡ c.decl.face
  face_back c n =
      let face = c.decl.face in
      let old_metaclass = option_map (rekey g) (option_map (rekey f) face.metaclass) in
      let old_entries = map (rekey_entry g) (map (rekey_entry f) face.entries) in
      let ps = map_twice (rekey g) (rekey f) face.parents ∙ all_back (λ k. rekey g (rekey f k)) face.parents (λ k m. key_back k (parent_named names c n k m)) in
      let es = map_twice (rekey_entry g) (rekey_entry f) face.entries ∙ all_back (λ e. rekey_entry g (rekey_entry f e)) face.entries (λ e m. entry_back e (entry_is_named names c n e m)) in
      ap (λ l. face_of face l old_metaclass old_entries) ps
      ∙ ap (λ o. face_of face face.parents o old_entries) (option_back face.metaclass (λ k m. metaclass_is_named names c n k m))
      ∙ ap (λ l. face_of face face.parents face.metaclass l) es

  -- a class of which the face alone is known
  pub class_back : (k : ClassKey) (face : ClassFace) → IsFaceNamed names (record { key = k; decl = bare face }) → rekey_class g (rekey_class f (record { key = k; decl = bare face })) ≡ record { key = k; decl = bare face }
  class_back k face n =
      ap (λ z. record { key = z; decl = bare (rekey_face g (rekey_face f face)) }) (key_back k n.key)
      ∙ ap (λ z. record { key = k; decl = bare z }) (face_back (record { key = k; decl = bare face }) n)
