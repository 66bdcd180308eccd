-- Ranks, metaclasses and hooks under new keys.
use Rattle.std.proofs.Common.{◌≡◌, inl, inr, ℕ, zero, suc, Bool, true, false, not, ◌&&◌, ◌||◌, if◌then◌else◌, List, [], ◌∷◌, ◌++◌, map, filter, Option, Some, None, refl, sym, ap, ◌∙◌}
use Rattle.std.specs.Prelude.{nat_lt}
use Rattle.std.specs.Option.{option_map}
use Rattle.som_model.specs.declared.key.ClassKey.{ClassKey, roll-ClassKey, out-ClassKey, out-roll-ClassKey, roll-out-ClassKey, map-ClassKey}
use Rattle.som_model.specs.declared.key.ClassKey.TheVariants as keys
use Rattle.som_model.specs.declared.key.ClassKey.TheVariants.{rolls-Derived}
use Rattle.som_model.specs.declared.key.ClassKey.TheOpen.{ClassKey-F}
use Rattle.som_model.specs.Lists.{Mem, firsts, every, option_list}
use Rattle.som_model.specs.Keys.{same_key}
use Rattle.som_model.specs.Class.{Class}
use Rattle.som_model.specs.Kernel.{som_class, before_after, before_method, after_method}
use Rattle.som_model.specs.Classes.{class_at, parents_of, hierarchy, ancestors, is_a}
use Rattle.som_model.specs.Implementation.{has_body}
use Rattle.som_model.specs.Metaclass.{rank_step, rank, is_low, is_above, lowest, made_of, meta_within, meta, hooks}
use Rattle.som_model_laws.proofs.Members.{map_on}
use Rattle.som_rekey_laws.specs.Rekeying.{ModuleChange, rekey_layer, rekey, rekey_class, rekey_classes}
use Rattle.som_rekey_laws.specs.Apart.{Names, named_step, is_named, IsApart, KeepsKernel, AreNamed, AreTargetsNamed, AreMetaclassesNamed, AreInheritedNamed}
use Rattle.som_rekey_laws.proofs.Lists.{if_map, map_append, map_twice, some_map, without_map, without_mem, firsts_map, firsts_mem}
use Rattle.som_rekey_laws.proofs.KeysApart.{out_rekey, named_out, keys_kept}
use Rattle.som_rekey_laws.proofs.Renaming.{known_ancestors}
use Rattle.som_rekey_laws.proofs.Places.{found_mem, fold_kept, named_place, class_kept, parents_kept, parents_named, hierarchy_kept, ancestors_kept, descent_kept}
use Rattle.som_rekey_laws.proofs.BodiesKept.{every_both, body_kept, class_stays, class_named, before_after_stays, before_after_named}

out_derived : (ks : List ClassKey) → out-ClassKey (keys.Derived ks) ≡ ClassKey-F.Derived ks
out_derived ks = ap out-ClassKey (sym (rolls-Derived ks)) ∙ out-roll-ClassKey (ClassKey-F.Derived ks)

pub rekey_derived : (f : ModuleChange) (ks : List ClassKey) → rekey f (keys.Derived ks) ≡ keys.Derived (map (rekey f) ks)
rekey_derived f ks =
    sym (roll-out-ClassKey (rekey f (keys.Derived ks)))
    ∙ ap roll-ClassKey (out_rekey f (keys.Derived ks) ∙ ap (λ y. rekey_layer f (map-ClassKey ClassKey ClassKey (rekey f) y)) (out_derived ks))
    ∙ rolls-Derived (map (rekey f) ks)

all_true : (names : Names) (ks : List ClassKey) → ((k : ClassKey) → Mem k ks → is_named names k ≡ true) → every (λ b. b) (map (is_named names) ks) ≡ true
all_true names [] e = refl
all_true names (k ∷ ks) e = ap (λ b. if b then every (λ b. b) (map (is_named names) ks) else false) (e k (inl refl)) ∙ all_true names ks (λ a m. e a (inr m))

pub derived_named : (names : Names) (ks : List ClassKey) → ((k : ClassKey) → Mem k ks → is_named names k ≡ true) → is_named names (keys.Derived ks) ≡ true
derived_named names ks e =
    named_out names (keys.Derived ks) ∙ ap (λ y. named_step names (map-ClassKey ClassKey Bool (is_named names) y)) (out_derived ks) ∙ all_true names ks e

made_kept : (f : ModuleChange) (ks : List ClassKey) → made_of (map (rekey f) ks) ≡ rekey f (made_of ks)
made_kept f [] = sym (rekey_derived f [])
made_kept f (k ∷ []) = refl
made_kept f (k ∷ j ∷ ks) = sym (rekey_derived f (k ∷ j ∷ ks))

made_named : (names : Names) (ks : List ClassKey) → ((k : ClassKey) → Mem k ks → is_named names k ≡ true) → is_named names (made_of ks) ≡ true
made_named names [] e = derived_named names [] e
made_named names (k ∷ []) e = e k (inl refl)
made_named names (k ∷ j ∷ ks) e = derived_named names (k ∷ j ∷ ks) e

-- the metaclass that a class which may be there declares
abbrev metaclass_of : Option Class → List ClassKey
metaclass_of None = []
metaclass_of (Some c) = option_list c.decl.face.metaclass

pub option_kept : {A B : Type 0} (g : A → B) (o : Option A) → option_list (option_map g o) ≡ map g (option_list o)
option_kept g None = refl
option_kept g (Some x) = refl

metaclass_kept : (f : ModuleChange) (o : Option Class) → metaclass_of (option_map (rekey_class f) o) ≡ map (rekey f) (metaclass_of o)
metaclass_kept f None = refl
metaclass_kept f (Some c) = option_kept (rekey f) c.decl.face.metaclass

pub option_mem : {A : Type 0} (a : A) (o : Option A) → Mem a (option_list o) → o ≡ Some a
option_mem a None m = absurd m
option_mem a (Some x) (inl e) = ap Some (sym e)
option_mem a (Some x) (inr m) = absurd m

filter_kept : {A B : Type 0} (p : A → Bool) (q : B → Bool) (g : A → B) (xs : List A) → ((x : A) → Mem x xs → q (g x) ≡ p x) → filter q (map g xs) ≡ map g (filter p xs)
filter_kept p q g [] e = refl
filter_kept p q g (x ∷ xs) e =
    ap (λ b. if b then g x ∷ filter q (map g xs) else filter q (map g xs)) (e x (inl refl))
    ∙ ap (λ l. if p x then g x ∷ l else l) (filter_kept p q g xs (λ a m. e a (inr m)))
    ∙ if_map (map g) (p x) (x ∷ filter p xs) (filter p xs)

every_mapped : {A B : Type 0} (test : B → Bool) (F : A → B) (xs : List A) → ((x : A) → Mem x xs → test (F x) ≡ true) → (b : B) → Mem b (map F xs) → test b ≡ true
every_mapped test F [] e b m = absurd m
every_mapped test F (x ∷ xs) e b (inl is) = ap test is ∙ e x (inl refl)
every_mapped test F (x ∷ xs) e b (inr m) = every_mapped test F xs (λ a n. e a (inr n)) b m

if_true : (test : ClassKey → Bool) (b : Bool) (x y : ClassKey) → test x ≡ true → test y ≡ true → test (if b then x else y) ≡ true
if_true test true x y a c = a
if_true test false x y a c = c

module _ (f : ModuleChange) (names : Names) (kk : KeepsKernel f names) (cs : List Class) (is : IsApart f names) (are : AreNamed names cs) (metas : AreMetaclassesNamed names cs) where
  abbrev new_classes : List Class
  new_classes = rekey_classes f cs

  pub rank_kept : (k : ClassKey) → is_named names k ≡ true → rank new_classes (rekey f k) ≡ rank cs k
  rank_kept k = fold_kept f names ℕ (rank_step cs) (rank_step new_classes) (named_place f names cs is are 0) (λ ns. refl) (λ n. refl) k

  low_kept : (k : ClassKey) → is_named names k ≡ true → is_low new_classes (rekey f k) ≡ is_low cs k
  low_kept k n = ap (λ r. nat_lt r 4) (rank_kept k n)

  abbrev AllNamed : List ClassKey → Type 0
  AllNamed ks = (x : ClassKey) → Mem x ks → is_named names x ≡ true

  above_kept : (ks : List ClassKey) (k : ClassKey) → AllNamed ks → is_named names k ≡ true → is_above new_classes (map (rekey f) ks) (rekey f k) ≡ is_above cs ks k
  above_kept ks k all n = some_map (λ x. not (same_key x k) && is_a cs x k) (λ x. not (same_key x (rekey f k)) && is_a new_classes x (rekey f k)) (rekey f) ks (λ x m.
      ap (λ b. not b && is_a new_classes (rekey f x) (rekey f k)) (keys_kept f names is x k (all x m) n)
      ∙ ap (λ b. not (same_key x k) && b) (descent_kept f names cs is are x k (all x m) n))

  pub lowest_kept : (ks : List ClassKey) → AllNamed ks → lowest new_classes (map (rekey f) ks) ≡ map (rekey f) (lowest cs ks)
  lowest_kept ks all = without_map (is_above cs ks) (is_above new_classes (map (rekey f) ks)) (rekey f) ks (λ k m. above_kept ks k all (all k m))

  firsts_kept : (ks : List ClassKey) → AllNamed ks → firsts same_key (map (rekey f) ks) ≡ map (rekey f) (firsts same_key ks)
  firsts_kept ks all = firsts_map same_key same_key (rekey f) ks (λ x y m l. keys_kept f names is x y (all x m) (all y l))

  firsts_named : (ks : List ClassKey) → AllNamed ks → AllNamed (firsts same_key ks)
  firsts_named ks all x m = all x (firsts_mem same_key x ks m)

  lowest_named : (ks : List ClassKey) → AllNamed ks → AllNamed (lowest cs ks)
  lowest_named ks all x m = all x (without_mem (is_above cs ks) x ks m)

  abbrev from_list : List Class → List ClassKey → ClassKey
  from_list ds ks = made_of (lowest ds (firsts same_key ks))

  list_kept : (ks : List ClassKey) → AllNamed ks → from_list new_classes (map (rekey f) ks) ≡ rekey f (from_list cs ks)
  list_kept ks all =
      ap (λ l. made_of (lowest new_classes l)) (firsts_kept ks all)
      ∙ ap made_of (lowest_kept (firsts same_key ks) (firsts_named ks all))
      ∙ made_kept f (lowest cs (firsts same_key ks))

  declared_named : (k : ClassKey) (o : Option Class) → class_at cs k ≡ o → AllNamed (metaclass_of o)
  declared_named k None e x m = absurd m
  declared_named k (Some c) e x m = metas c x (found_mem (λ (c : Class). same_key c.key k) cs c e) (option_mem x c.decl.face.metaclass m)

  abbrev above_of : List Class → ℕ → ClassKey → List ClassKey
  above_of ds n k = metaclass_of (class_at ds k) ++ map (meta_within ds n) (parents_of ds k)

  abbrev IsMetaKept : ℕ → ClassKey → Type 0
  IsMetaKept n k = (meta_within new_classes n (rekey f k) ≡ rekey f (meta_within cs n k)) × (is_named names (meta_within cs n k) ≡ true)

  above_all : (n : ℕ) (k : ClassKey) → is_named names k ≡ true → ((p : ClassKey) → is_named names p ≡ true → IsMetaKept n p) → AllNamed (above_of cs n k)
  above_all n k is_k go = every_both (is_named names) (metaclass_of (class_at cs k)) (map (meta_within cs n) (parents_of cs k)) (declared_named k (class_at cs k) refl)
      (every_mapped (is_named names) (meta_within cs n) (parents_of cs k) (λ p m. (go p (parents_named f names cs is are k p is_k m)).1))

  above_list : (n : ℕ) (k : ClassKey) → is_named names k ≡ true → ((p : ClassKey) → is_named names p ≡ true → IsMetaKept n p) → above_of new_classes n (rekey f k) ≡ map (rekey f) (above_of cs n k)
  above_list n k is_k go =
      let own : metaclass_of (class_at new_classes (rekey f k)) ≡ map (rekey f) (metaclass_of (class_at cs k)) = ap metaclass_of (class_kept f names cs is are k is_k) ∙ metaclass_kept f (class_at cs k) in
      let others : map (meta_within new_classes n) (parents_of new_classes (rekey f k)) ≡ map (rekey f) (map (meta_within cs n) (parents_of cs k)) =
      ap (map (meta_within new_classes n)) (parents_kept f names cs is are k is_k)
      ∙ map_twice (meta_within new_classes n) (rekey f) (parents_of cs k)
      ∙ map_on (λ p. meta_within new_classes n (rekey f p)) (λ p. rekey f (meta_within cs n p)) (parents_of cs k) (λ p m. (go p (parents_named f names cs is are k p is_k m)).0)
      ∙ sym (map_twice (rekey f) (meta_within cs n) (parents_of cs k)) in
      ap (λ l. l ++ map (meta_within new_classes n) (parents_of new_classes (rekey f k))) own
      ∙ ap (λ l. map (rekey f) (metaclass_of (class_at cs k)) ++ l) others
      ∙ sym (map_append (rekey f) (metaclass_of (class_at cs k)) (map (meta_within cs n) (parents_of cs k)))

  meta_by : (n : ℕ) (k : ClassKey) → is_named names k ≡ true → IsMetaKept n k
  meta_by zero k is_k = (sym (class_stays f names kk), class_named f names kk)
  meta_by (suc n) k is_k =
      let ks = above_of cs n k in
      let all = above_all n k is_k (meta_by n) in (
        ap (λ b. if b then som_class else from_list new_classes (above_of new_classes n (rekey f k))) (low_kept k is_k)
            ∙ ap (λ l. if is_low cs k then som_class else from_list new_classes l) (above_list n k is_k (meta_by n))
            ∙ ap (λ m. if is_low cs k then som_class else m) (list_kept ks all)
            ∙ ap (λ c. if is_low cs k then c else rekey f (from_list cs ks)) (sym (class_stays f names kk))
            ∙ if_map (rekey f) (is_low cs k) som_class (from_list cs ks),
        if_true (is_named names) (is_low cs k) som_class (from_list cs ks) (class_named f names kk)
            (made_named names (lowest cs (firsts same_key ks)) (lowest_named (firsts same_key ks) (firsts_named ks all))),
      )

  pub meta_kept : (k : ClassKey) → is_named names k ≡ true → meta new_classes (rekey f k) ≡ rekey f (meta cs k)
  meta_kept k n =
      ap (λ h. meta_within new_classes h (rekey f k)) ((hierarchy_kept f names cs is are).height k n)
      ∙ (meta_by ((hierarchy cs).height k) k n).0

  pub meta_named : (k : ClassKey) → is_named names k ≡ true → is_named names (meta cs k) ≡ true
  meta_named k n = (meta_by ((hierarchy cs).height k) k n).1

  module _ (targets : AreTargetsNamed names cs) (inherited : AreInheritedNamed names cs) where
    hook_body : (name : List ℕ) (k : ClassKey) → is_named names k ≡ true
        → has_body new_classes (record { class = before_after; name = name }) (rekey f k) ≡ has_body cs (record { class = before_after; name = name }) k
    hook_body name k n =
        ap (λ c. has_body new_classes (record { class = c; name = name }) (rekey f k)) (sym (before_after_stays f names kk))
        ∙ body_kept f names kk cs is are targets inherited (record { class = before_after; name = name }) (before_after_named f names kk) k n

    hook_kept : (k : ClassKey) → is_named names k ≡ true
        → (not (same_key (rekey f k) before_after) && (has_body new_classes before_method (rekey f k) || has_body new_classes after_method (rekey f k)))
        ≡ (not (same_key k before_after) && (has_body cs before_method k || has_body cs after_method k))
    hook_kept k n =
        let rest = has_body new_classes before_method (rekey f k) || has_body new_classes after_method (rekey f k) in
        let same : same_key (rekey f k) before_after ≡ same_key k before_after =
        ap (same_key (rekey f k)) (sym (before_after_stays f names kk)) ∙ keys_kept f names is k before_after n (before_after_named f names kk) in
        ap (λ b. not b && rest) same
        ∙ ap (λ b. not (same_key k before_after) && (b || has_body new_classes after_method (rekey f k))) (hook_body before_method.name k n)
        ∙ ap (λ b. not (same_key k before_after) && (has_body cs before_method k || b)) (hook_body after_method.name k n)

    pub hooks_kept : (m : ClassKey) → is_named names m ≡ true → hooks new_classes (rekey f m) ≡ map (rekey f) (hooks cs m)
    hooks_kept m n =
        let old_test : ClassKey → Bool = λ k. not (same_key k before_after) && (has_body cs before_method k || has_body cs after_method k) in
        let new_test : ClassKey → Bool = λ k. not (same_key k before_after) && (has_body new_classes before_method k || has_body new_classes after_method k) in
        let below : is_a new_classes (rekey f m) before_after ≡ is_a cs m before_after =
        ap (is_a new_classes (rekey f m)) (sym (before_after_stays f names kk)) ∙ descent_kept f names cs is are m before_after n (before_after_named f names kk) in
        let list : filter new_test (ancestors new_classes (rekey f m)) ≡ map (rekey f) (filter old_test (ancestors cs m)) =
        ap (filter new_test) (ancestors_kept f names cs is are m n)
        ∙ filter_kept old_test new_test (rekey f) (ancestors cs m) (λ k i. hook_kept k (known_ancestors (hierarchy cs) (hierarchy new_classes) (rekey f) (is_named names) (hierarchy_kept f names cs is are) m n k i)) in
        ap (λ b. if b then filter new_test (ancestors new_classes (rekey f m)) else []) below
        ∙ ap (λ l. if is_a cs m before_after then l else []) list
        ∙ if_map (map (rekey f)) (is_a cs m before_after) (filter old_test (ancestors cs m)) []
