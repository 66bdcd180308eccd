-- The place of a class by its key.
use Rattle.std.proofs.Common.{◌≡◌, ℕ, zero, suc, ◌<◌, ◌-◌, ◌≤◌, inl, inr, slice_index_or, Bool, true, false, ◌&&◌, if◌then◌else◌, List, [], ◌∷◌, map, length, take, Option, Some, None, is_some, refl, sym, ap, ◌∙◌, subst, arith, true≢false}
use Rattle.std.specs.Str.{bytes_eq}
use Rattle.som_model.specs.Lists.{Mem, among}
use Rattle.som_model.specs.Keys.{same_key, same_module}
use Rattle.som_model.specs.Class.{Class, bare}
use Rattle.som_model.specs.Kernel.{kernel, kernel_interface, object_face, class_face, class_mgr_face, before_after_face}
use Rattle.som_model.specs.Classes.{class_at}
use Rattle.som_model.specs.Rules.{name_of}
use Rattle.som_model.specs.declared.key.Module.{Module}
use Rattle.som_model.specs.declared.key.Module.TheVariants as modules
use Rattle.som_model.specs.declared.key.ClassKey.{ClassKey, out-ClassKey, out-roll-ClassKey}
use Rattle.som_model.specs.declared.key.ClassKey.TheOpen.{ClassKey-F}
use Rattle.som_model.specs.declared.key.ClassKey.TheVariants as keys
use Rattle.som_model.specs.declared.key.ClassKey.TheVariants.{rolls-Derived, rolls-Proxy}
use Rattle.som_model.proofs.KeyLaws.{exact_bytes, exact_keys, both}
use Rattle.som_model.proofs.NamedLaws.{same_named, out_named}
use Rattle.som_order.specs.Names.{name_at}
use Rattle.som_verify_classes.specs.Places.{with_kernel, class_of_place, key_at, module_at, IsTable, Finds}
use Rattle.som_verify_classes.proofs.DeclaredClasses.{long_map, faces_declared, module_there}
use Rattle.som_model_laws.proofs.Members.{mem_split}
use Rattle.som_verify_classes.specs.Modules.{class_of, classes_of, AreDeclared}
use Rattle.som_verify_classes.specs.declared.types.Declared.{Declared}

pub mem_place : (cs : List Class) (p : ℕ) → p < length cs → Mem (class_of_place cs p) cs
mem_place [] p lt = absurd (omega arith)
mem_place (c ∷ cs) zero lt = inl refl
mem_place (c ∷ cs) (suc p) lt = inr (mem_place cs p (omega arith))

name_there : (cs : List Class) (i : ℕ) → i < length cs → name_of (class_of_place cs i) ≡ name_at (map name_of cs) i
name_there [] i lt = absurd (omega arith)
name_there (c ∷ cs) zero lt = refl
name_there (c ∷ cs) (suc i) lt = name_there cs i (omega arith)

pub kernel_declared : (cs : List Class) → AreDeclared cs → AreDeclared (with_kernel cs)
kernel_declared cs o = record {
  by = λ c m. elim (mem_split c kernel cs m) [
    | inl k ↦ (faces_declared modules.Kernel kernel_interface.classes).by c k
    | inr k ↦ o.by c k
  ];
}

-- the key of the class at a place
pub key_named : (cs : List Class) → AreDeclared cs → (i : ℕ) → i < length (with_kernel cs)
    → key_at (with_kernel cs) i ≡ keys.Named (module_at (with_kernel cs) i) (name_at (map name_of (with_kernel cs)) i)
key_named cs o i lt =
    (kernel_declared cs o).by (class_of_place (with_kernel cs) i) (mem_place (with_kernel cs) i lt)
    ∙ ap (keys.Named (module_at (with_kernel cs) i)) (name_there (with_kernel cs) i lt)

-- what a key that names the class at a place says
pub named_there : (cs : List Class) (names : List (List ℕ)) (t : IsTable cs names) (m : Module) (x : List ℕ) (q : ℕ) → q < length (with_kernel cs) → key_at (with_kernel cs) q ≡ keys.Named m x
    → (q < length names) × (same_module m (module_at (with_kernel cs) q) ≡ true) × (name_at names q ≡ x)
named_there cs names t m x q lt e =
    let long : length names ≡ length (with_kernel cs) = ap length t.are ∙ long_map name_of (with_kernel cs) in
    let all = map name_of (with_kernel cs) in
    let same : same_key (keys.Named m x) (keys.Named (module_at (with_kernel cs) q) (name_at all q)) ≡ true = ap (same_key (keys.Named m x)) (sym (key_named cs t.declared q lt) ∙ e) ∙ exact_keys.one (keys.Named m x) in
    let r = both (same_module m (module_at (with_kernel cs) q)) (bytes_eq x (name_at all q)) (sym (same_named m (module_at (with_kernel cs) q) x (name_at all q)) ∙ same) in
    (omega (arith, long, lt), r.0, ap (λ z. name_at z q) t.are ∙ sym (exact_bytes.two x (name_at all q) r.1))

-- a place in the table is that of a class
pub known_place : (cs : List Class) (names : List (List ℕ)) → IsTable cs names → (p : ℕ) → p < length names → p < length (with_kernel cs)
known_place cs names t p lt = let long : length names ≡ length (with_kernel cs) = ap length t.are ∙ long_map name_of (with_kernel cs) in omega (arith, long, lt)

some_among : (names : List (List ℕ)) (x : List ℕ) (i : ℕ) → i < length names → name_at names i ≡ x → among x names ≡ true
some_among [] x i lt e = absurd (omega arith)
some_among (n ∷ names) x zero lt e = let same : bytes_eq x n ≡ true = ap (bytes_eq x) e ∙ exact_bytes.one x in rw same refl
some_among (n ∷ names) x (suc i) lt e = or_true (bytes_eq x n) (among x names) (some_among names x i (omega arith) e)
  where
    or_true : (b c : Bool) → c ≡ true → (if b then true else c) ≡ true
    or_true true c e = refl
    or_true false c e = e

-- the name isn't known
pub no_name : (limit : ℕ) (m : Module) (x : List ℕ) (names : List (List ℕ)) (cs : List Class) → IsTable cs names → false ≡ among x names → Finds limit (with_kernel cs) (keys.Named m x) None
no_name limit m x names cs t e = λ q under lt k.
    let r = named_there cs names t m x q lt k in
    true≢false (sym (some_among names x q r.0 r.2) ∙ sym e)

-- the name is that of a class
pub right_place : (limit p : ℕ) (m : Module) (x : List ℕ) (names : List (List ℕ)) (cs : List Class) → IsTable cs names → p < limit → same_module m (module_at (with_kernel cs) p) ≡ true → p < length names → name_at names p ≡ x
    → Finds limit (with_kernel cs) (keys.Named m x) (Some p)
right_place limit p m x names cs t under home lt e =
    let long : length names ≡ length (with_kernel cs) = ap length t.are ∙ long_map name_of (with_kernel cs) in
    let within : p < length (with_kernel cs) = omega (arith, long, lt) in
    let all = map name_of (with_kernel cs) in
    let name : name_at all p ≡ x = ap (λ z. name_at z p) (sym t.are) ∙ e in
    let same : same_key (keys.Named m x) (keys.Named (module_at (with_kernel cs) p) (name_at all p)) ≡ true = same_named m (module_at (with_kernel cs) p) x (name_at all p) ∙ ap (λ b. b && bytes_eq x (name_at all p)) home ∙ ap (bytes_eq x) name ∙ exact_bytes.one x in
    (under, within, key_named cs t.declared p within ∙ sym (exact_keys.two (keys.Named m x) (keys.Named (module_at (with_kernel cs) p) (name_at all p)) same))

-- the class of the name is of another module, or past the limit
pub wrong_place : (limit p : ℕ) (m : Module) (x : List ℕ) (names : List (List ℕ)) (cs : List Class) → IsTable cs names → (p < limit → same_module m (module_at (with_kernel cs) p) ≡ true → ⊥) → p < length names → name_at names p ≡ x
    → Finds limit (with_kernel cs) (keys.Named m x) None
wrong_place limit p m x names cs t not_here lt e = λ q under within k.
    let r = named_there cs names t m x q within k in
    let here : q ≡ p = t.once.by q p r.0 lt (r.2 ∙ sym e) in
    not_here (subst (λ z. z < limit) here under) (subst (λ z. same_module m (module_at (with_kernel cs) z) ≡ true) here r.1)

abbrev is_named : ClassKey-F ClassKey → Bool
is_named (ClassKey-F.Named m x) = true
is_named (ClassKey-F.Derived ks) = false
is_named (ClassKey-F.Proxy k) = false

no_made : (limit : ℕ) (k : ClassKey) → is_named (out-ClassKey k) ≡ false → (cs : List Class) → AreDeclared cs → Finds limit (with_kernel cs) k None
no_made limit k e cs o = λ q under lt same.
    let out : out-ClassKey k ≡ ClassKey-F.Named (module_at (with_kernel cs) q) (name_at (map name_of (with_kernel cs)) q) = ap out-ClassKey (sym same ∙ key_named cs o q lt) ∙ out_named (module_at (with_kernel cs) q) (name_at (map name_of (with_kernel cs)) q) in
    true≢false (sym (ap is_named out) ∙ e)

pub no_derived : (limit : ℕ) (ks : List ClassKey) (cs : List Class) → AreDeclared cs → Finds limit (with_kernel cs) (keys.Derived ks) None
no_derived limit ks cs o = no_made limit (keys.Derived ks) (ap (λ k. is_named (out-ClassKey k)) (sym (rolls-Derived ks)) ∙ ap is_named (out-roll-ClassKey (ClassKey-F.Derived ks))) cs o

pub no_proxy : (limit : ℕ) (k : ClassKey) (cs : List Class) → AreDeclared cs → Finds limit (with_kernel cs) (keys.Proxy k) None
no_proxy limit k cs o = no_made limit (keys.Proxy k) (ap (λ k. is_named (out-ClassKey k)) (sym (rolls-Proxy k)) ∙ ap is_named (out-roll-ClassKey (ClassKey-F.Proxy k))) cs o

-- the class of a key is known below the limit where a place is found
found_take : (cs : List Class) (k : ClassKey) (limit p : ℕ) → p < limit → p < length cs → key_at cs p ≡ k → is_some (class_at (take limit cs) k) ≡ true
found_take [] k limit p under lt e = absurd (omega arith)
found_take (c ∷ cs) k zero p under lt e = absurd (omega arith)
found_take (c ∷ cs) k (suc limit) zero under lt e = let same : same_key c.key k ≡ true = ap (λ z. same_key z k) e ∙ exact_keys.one k in rw same refl
found_take (c ∷ cs) k (suc limit) (suc p) under lt e = past (same_key c.key k) (found_take cs k limit p (omega arith) (omega arith) e)
  where
    past : (b : Bool) → is_some (class_at (take limit cs) k) ≡ true → is_some (if b then Some c else class_at (take limit cs) k) ≡ true
    past true e = refl
    past false e = e

-- a place below the limit where a class of the key stands
abbrev Stood : List Class → ClassKey → ℕ → Type 0
Stood cs k limit = (p : ℕ) × (p < limit) × (p < length cs) × (key_at cs p ≡ k)

stood_by : (c : Class) (cs : List Class) (k : ClassKey) (limit : ℕ) (b : Bool) → same_key c.key k ≡ b → (is_some (class_at (take limit cs) k) ≡ true → Stood cs k limit)
    → is_some (if b then Some c else class_at (take limit cs) k) ≡ true → Stood (c ∷ cs) k (suc limit)
stood_by c cs k limit true same f e = (0, omega arith, omega arith, exact_keys.two c.key k same)
stood_by c cs k limit false same f e = let r = f e in (suc r.0, omega (arith, r.1), omega (arith, r.2), r.3)

take_found : (cs : List Class) (k : ClassKey) (limit : ℕ) → is_some (class_at (take limit cs) k) ≡ true → Stood cs k limit
take_found [] k zero e = absurd (true≢false (sym e))
take_found [] k (suc limit) e = absurd (true≢false (sym e))
take_found (c ∷ cs) k zero e = absurd (true≢false (sym e))
take_found (c ∷ cs) k (suc limit) e = stood_by c cs k limit (same_key c.key k) refl (take_found cs k limit) e

pub known_is : (cs : List Class) (k : ClassKey) (limit : ℕ) (o : Option ℕ) → Finds limit cs k o → is_some (class_at (take limit cs) k) ≡ is_some o
known_is cs k limit (Some p) f = found_take cs k limit p f.0 f.1 f.2
known_is cs k limit None f = not_true (is_some (class_at (take limit cs) k)) (λ e. let r = take_found cs k limit e in f r.0 r.1 r.2 r.3)
  where
    not_true : (b : Bool) → (b ≡ true → ⊥) → b ≡ false
    not_true true f = absurd (f refl)
    not_true false f = refl

pub take_all : {A : Type 0} (xs : List A) → take (length xs) xs ≡ xs
take_all [] = refl
take_all (x ∷ xs) = ap (λ z. x ∷ z) (take_all xs)

-- whether a class is known, by its place among all
pub known_at_all : (cs : List Class) (k : ClassKey) (limit : ℕ) (o : Option ℕ) → limit ≡ length cs → Finds limit cs k o → is_some o ≡ is_some (class_at cs k)
known_at_all cs k limit o e f = sym (ap (λ z. is_some (class_at z k)) (sym (ap (λ n. take n cs) e ∙ take_all cs)) ∙ known_is cs k limit o f)

-- the module of a class after the kernel's
pub module_past : (ds : List Declared) (p : ℕ) (d : Declared) → 4 ≤ p → p < length (with_kernel (classes_of ds)) → module_at (with_kernel (classes_of ds)) p ≡ (slice_index_or ds (p - 4) d).module
module_past ds p d le lt =
    let e : p ≡ suc (suc (suc (suc (p - 4)))) = omega (arith, le) in
    let within : p - 4 < length ds = omega (arith, le, lt, long_map class_of ds) in
    ap (module_at (with_kernel (classes_of ds))) e
    ∙ past ds (p - 4) d within
  where
    past : (ds : List Declared) (i : ℕ) (d : Declared) → i < length ds → module_at (classes_of ds) i ≡ (slice_index_or ds i d).module
    past [] i d lt = absurd (omega arith)
    past (x ∷ ds) zero d lt = module_there x.module x.decl.now
    past (x ∷ ds) (suc i) d lt = past ds i d (omega arith)

-- and of one of the kernel's
pub module_first : (cs : List Class) (p : ℕ) → p < 4 → module_at (with_kernel cs) p ≡ modules.Kernel
module_first cs zero lt = module_there modules.Kernel (bare object_face)
module_first cs (suc zero) lt = module_there modules.Kernel (bare class_face)
module_first cs (suc (suc zero)) lt = module_there modules.Kernel (bare class_mgr_face)
module_first cs (suc (suc (suc zero))) lt = module_there modules.Kernel (bare before_after_face)
module_first cs (suc (suc (suc (suc p)))) lt = absurd (omega arith)
