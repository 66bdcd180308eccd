-- New keys are told apart where the old ones were.
use Rattle.std.proofs.Common.{◌≡◌, inl, inr, ℕ, Bool, true, false, ◌&&◌, if◌then◌else◌, List, [], ◌∷◌, map, refl, sym, ap, ◌∙◌, subst, true≢false}
use Rattle.std.specs.Str.{bytes_eq}
use Rattle.som_model.specs.declared.key.Module.{Module}
use Rattle.som_model.specs.declared.key.ClassKey.TheVariants as keys_of_forms
use Rattle.som_model.specs.declared.key.ClassKey.{ClassKey, out-ClassKey, roll-ClassKey, out-roll-ClassKey, roll-out-ClassKey, ind-ClassKey, fold-roll-ClassKey, map-ClassKey}
use Rattle.som_model.specs.declared.key.ClassKey.TheOpen.{ClassKey-F}
use Rattle.som_model.specs.Lists.{Mem, every}
use Rattle.som_model.specs.Keys.{same_module, all_hold, same_step, same_key}
use Rattle.som_model.proofs.KeyLaws.{exact_bytes, exact_keys}
use Rattle.som_model.proofs.NamedLaws.{out_named, same_named}
use Rattle.som_rekey_laws.specs.Rekeying.{ModuleChange, rekey_layer, rekey}
use Rattle.som_rekey_laws.specs.Apart.{Names, named_step, is_named, IsApart}
use Rattle.som_rekey_laws.proofs.Lists.{bool_same}

pub out_rekey : (f : ModuleChange) (k : ClassKey) → out-ClassKey (rekey f k) ≡ rekey_layer f (map-ClassKey ClassKey ClassKey (rekey f) (out-ClassKey k))
out_rekey f k =
    ap (λ z. out-ClassKey (rekey f z)) (sym (roll-out-ClassKey k))
    ∙ ap out-ClassKey (fold-roll-ClassKey ClassKey (λ x. roll-ClassKey (rekey_layer f x)) (out-ClassKey k))
    ∙ out-roll-ClassKey (rekey_layer f (map-ClassKey ClassKey ClassKey (rekey f) (out-ClassKey k)))

pub named_out : (names : Names) (k : ClassKey) → is_named names k ≡ named_step names (map-ClassKey ClassKey Bool (is_named names) (out-ClassKey k))
named_out names k =
    ap (is_named names) (sym (roll-out-ClassKey k)) ∙ fold-roll-ClassKey Bool (named_step names) (out-ClassKey k)

pub same_out : (a b : ClassKey) → same_key a b ≡ same_step (map-ClassKey ClassKey (ClassKey → Bool) same_key (out-ClassKey a)) (out-ClassKey b)
same_out a b =
    ap (λ z. same_key z b) (sym (roll-out-ClassKey a))
    ∙ ap (λ (f : ClassKey → Bool). f b) (fold-roll-ClassKey (ClassKey → Bool) (λ z k. same_step z (out-ClassKey k)) (out-ClassKey a))

pub every_first : (b c : Bool) → (if b then c else false) ≡ true → b ≡ true
every_first true c h = refl
every_first false c h = h

pub every_rest : (b c : Bool) → (if b then c else false) ≡ true → c ≡ true
every_rest true c h = h
every_rest false c h = absurd (true≢false (sym h))

-- each key that a made one is made of is named
pub named_each : (names : Names) (ks : List ClassKey) → every (λ b. b) (map (is_named names) ks) ≡ true → (k : ClassKey) → Mem k ks → is_named names k ≡ true
named_each names [] h k m = absurd m
named_each names (x ∷ xs) h k (inl e) = ap (is_named names) e ∙ every_first (is_named names x) (every (λ b. b) (map (is_named names) xs)) h
named_each names (x ∷ xs) h k (inr m) = named_each names xs (every_rest (is_named names x) (every (λ b. b) (map (is_named names) xs)) h) k m

and_same : (a b c : Bool) → (c ≡ true → a ≡ b) → (a && c) ≡ (b && c)
and_same a b true e = ap (λ x. x && true) (e refl)
and_same true true false e = refl
and_same true false false e = refl
and_same false true false e = refl
and_same false false false e = refl

-- of modules, by keys of them with no name
of_no_name : (m n : Module) → same_key (keys_of_forms.Named m []) (keys_of_forms.Named n []) ≡ (same_module m n && bytes_eq [] [])
of_no_name m n = same_named m n [] []

and_true : (b : Bool) → (b && true) ≡ b
and_true true = refl
and_true false = refl

same_alone : (m n : Module) → same_key (keys_of_forms.Named m []) (keys_of_forms.Named n []) ≡ same_module m n
same_alone m n = of_no_name m n ∙ ap (λ b. same_module m n && b) (exact_bytes.one []) ∙ and_true (same_module m n)

abbrev layer_module : ClassKey-F ClassKey → Module → Module
layer_module (ClassKey-F.Named m x) other = m
layer_module (ClassKey-F.Derived ks) other = other
layer_module (ClassKey-F.Proxy k) other = other

pub module_self : (m : Module) → same_module m m ≡ true
module_self m = sym (same_alone m m) ∙ exact_keys.one (keys_of_forms.Named m [])

pub module_true : (m n : Module) → same_module m n ≡ true → m ≡ n
module_true m n h =
    let e : keys_of_forms.Named m [] ≡ keys_of_forms.Named n [] = exact_keys.two (keys_of_forms.Named m []) (keys_of_forms.Named n []) (same_alone m n ∙ h) in
    let l : ClassKey-F.Named m [] ≡ ClassKey-F.Named n [] = sym (out_named m []) ∙ ap out-ClassKey e ∙ out_named n [] in
    ap (λ y. layer_module y m) l

pub module_test : (m n : Module) → m ≡ n → same_module m n ≡ true
module_test m n e = subst (λ z. same_module m z ≡ true) e (module_self m)

module _ (f : ModuleChange) (names : Names) (is : IsApart f names) where
  abbrev IsKept : ClassKey → Type 0
  IsKept a = (b : ClassKey) → is_named names a ≡ true → is_named names b ≡ true → same_key (rekey f a) (rekey f b) ≡ same_key a b

  abbrev Kept : Type 0
  Kept = (a : ClassKey) × IsKept a

  abbrev keys : List Kept → List ClassKey
  keys = map (λ e. e.0)

  abbrev bare : ClassKey-F Kept → ClassKey-F ClassKey
  bare = map-ClassKey Kept ClassKey (λ e. e.0)

  abbrev tests : ClassKey-F ClassKey → ClassKey-F (ClassKey → Bool)
  tests = map-ClassKey ClassKey (ClassKey → Bool) same_key

  abbrev new_layer : ClassKey-F ClassKey → ClassKey-F ClassKey
  new_layer y = rekey_layer f (map-ClassKey ClassKey ClassKey (rekey f) y)

  abbrev IsLayerNamed : ClassKey-F ClassKey → Type 0
  IsLayerNamed y = named_step names (map-ClassKey ClassKey Bool (is_named names) y) ≡ true

  modules_kept : (m n : Module) (x y : List ℕ) → names m x ≡ true → names n y ≡ true → bytes_eq x y ≡ true → same_module (f m x) (f n y) ≡ same_module m n
  modules_kept m n x y a b e =
      let one : x ≡ y = exact_bytes.two x y e in
      let there : names n x ≡ true = ap (names n) one ∙ b in
      bool_same (same_module (f m x) (f n y)) (same_module m n)
      (λ h. module_test m n (is.apart m n x a there (module_true (f m x) (f n y) h ∙ ap (f n) (sym one))))
      (λ h. module_test (f m x) (f n y) (ap (λ z. f z x) (module_true m n h) ∙ ap (f n) one))

  all_kept : (ps : List Kept) (ks : List ClassKey) → every (λ b. b) (map (is_named names) (keys ps)) ≡ true → every (λ b. b) (map (is_named names) ks) ≡ true
      → all_hold (map same_key (map (rekey f) (keys ps))) (map (rekey f) ks) ≡ all_hold (map same_key (keys ps)) ks
  all_kept [] [] a b = refl
  all_kept [] (k ∷ ks) a b = refl
  all_kept (p ∷ ps) [] a b = refl
  all_kept (p ∷ ps) (k ∷ ks) a b =
      let pa = is_named names p.0 in
      let ra = every (λ b. b) (map (is_named names) (keys ps)) in
      let pb = is_named names k in
      let rb = every (λ b. b) (map (is_named names) ks) in
      ap (λ c. c && all_hold (map same_key (map (rekey f) (keys ps))) (map (rekey f) ks)) (p.1 k (every_first pa ra a) (every_first pb rb b))
      ∙ ap (λ c. same_key p.0 k && c) (all_kept ps ks (every_rest pa ra a) (every_rest pb rb b))

  layer_kept : (y : ClassKey-F Kept) (z : ClassKey-F ClassKey) → IsLayerNamed (bare y) → IsLayerNamed z → same_step (tests (new_layer (bare y))) (new_layer z) ≡ same_step (tests (bare y)) z
  layer_kept (ClassKey-F.Named m x) (ClassKey-F.Named n y) a b = and_same (same_module (f m x) (f n y)) (same_module m n) (bytes_eq x y) (modules_kept m n x y a b)
  layer_kept (ClassKey-F.Derived ps) (ClassKey-F.Derived ks) a b = all_kept ps ks a b
  layer_kept (ClassKey-F.Proxy p) (ClassKey-F.Proxy k) a b = p.1 k a b
  layer_kept (ClassKey-F.Named m x) (ClassKey-F.Derived ks) a b = refl
  layer_kept (ClassKey-F.Named m x) (ClassKey-F.Proxy k) a b = refl
  layer_kept (ClassKey-F.Derived ps) (ClassKey-F.Named n y) a b = refl
  layer_kept (ClassKey-F.Derived ps) (ClassKey-F.Proxy k) a b = refl
  layer_kept (ClassKey-F.Proxy p) (ClassKey-F.Named n y) a b = refl
  layer_kept (ClassKey-F.Proxy p) (ClassKey-F.Derived ks) a b = refl

  rolled_kept : (y : ClassKey-F Kept) → IsKept (roll-ClassKey (bare y))
  rolled_kept y b na nb =
      let a = roll-ClassKey (bare y) in
      let out : out-ClassKey a ≡ bare y = out-roll-ClassKey (bare y) in
      let la : IsLayerNamed (bare y) = subst IsLayerNamed out (sym (named_out names a) ∙ na) in
      let lb : IsLayerNamed (out-ClassKey b) = sym (named_out names b) ∙ nb in
      same_out (rekey f a) (rekey f b)
      ∙ ap (λ z. same_step (tests z) (out-ClassKey (rekey f b))) (out_rekey f a ∙ ap new_layer out)
      ∙ ap (same_step (tests (new_layer (bare y)))) (out_rekey f b)
      ∙ layer_kept y (out-ClassKey b) la lb
      ∙ ap (λ z. same_step (tests z) (out-ClassKey b)) (sym out)
      ∙ sym (same_out a b)

  pub keys_kept : (a : ClassKey) → IsKept a
  keys_kept = ind-ClassKey IsKept (λ x y is_y. subst (λ z. IsKept (roll-ClassKey z)) is_y (rolled_kept y))
