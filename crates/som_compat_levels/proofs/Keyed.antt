-- Classes that are found by their keys.
use Rattle.std.proofs.Common.{◌≡◌, ◌↔◌, ℕ, zero, suc, ◌+◌, ◌<◌, ◌&&◌, inl, inr, Bool, true, false, List, [], ◌∷◌, length, None, slice_index_or, refl, sym, ap, ◌∙◌, arith, true≢false}
use Rattle.std.specs.Str.{bytes_eq}
use Rattle.std.proofs.lemmas.Bool.{cases_lt}
use Rattle.som_model.specs.declared.key.Module.{Module}
use Rattle.som_model.specs.declared.key.ClassKey.{ClassKey, out-ClassKey, out-roll-ClassKey}
use Rattle.som_model.specs.declared.key.ClassKey.TheOpen.{ClassKey-F}
use Rattle.som_model.specs.declared.key.ClassKey.TheVariants as keys
use Rattle.som_model.specs.declared.key.ClassKey.TheVariants.{rolls-Derived, rolls-Proxy}
use Rattle.som_model.specs.Keys.{same_key, same_module}
use Rattle.som_model.specs.Class.{Class, bare}
use Rattle.som_model.proofs.KeyLaws.{exact_keys}
use Rattle.som_model.proofs.NamedLaws.{out_named, same_named}
use Rattle.som_verify_classes.specs.Places.{class_of_place, face_at, key_at, Finds}
use Rattle.som_verify_classes.specs.Modules.{module_of}
use Rattle.som_verify_classes.specs.Plainly.{IsAmong}
use Rattle.som_verify_classes.proofs.DeclaredClasses.{long_map, module_there}
use Rattle.som_compat.proofs.Placed.{among_place}
use Rattle.som_compat_levels.specs.declared.classes.PlacedClass.{PlacedClass}
use Rattle.som_compat_levels.specs.Standing.{class_of, classes_of}

pub long_classes : (ps : List PlacedClass) → length (classes_of ps) ≡ length ps
long_classes ps = long_map class_of ps

-- the class at a place
pub class_here : (ps : List PlacedClass) (i : ℕ) (d : PlacedClass) → i < length ps → class_of_place (classes_of ps) i ≡ class_of (slice_index_or ps i d)
class_here [] i d lt = absurd (omega arith)
class_here (p ∷ ps) zero d lt = refl
class_here (p ∷ ps) (suc i) d lt = class_here ps i d (omega arith)

-- its key, by the test of module and name
pub key_test : (ps : List PlacedClass) (i : ℕ) (d : PlacedClass) (m : Module) (x : List ℕ) → i < length ps
    → (same_module (slice_index_or ps i d).module m && bytes_eq (slice_index_or ps i d).face.now.name x ≡ true) ↔ (key_at (classes_of ps) i ≡ keys.Named m x)
key_test ps i d m x lt =
    let p = slice_index_or ps i d in
    let key : key_at (classes_of ps) i ≡ keys.Named p.module p.face.now.name = ap (λ (c : Class). c.key) (class_here ps i d lt) in
    let same = same_named p.module m p.face.now.name x in (
      (λ t. key ∙ exact_keys.two _ _ (same ∙ t)),
      (λ e. sym same ∙ ap (λ z. same_key z (keys.Named m x)) (sym key ∙ e) ∙ exact_keys.one (keys.Named m x)),
    )

pub not_so_far : (ps : List PlacedClass) (m : Module) (x : List ℕ) (i k : ℕ) → (key_at (classes_of ps) i ≡ keys.Named m x → ⊥)
    → ((j : ℕ) → j < i → key_at (classes_of ps) j ≡ keys.Named m x → ⊥) → k < i + 1 → key_at (classes_of ps) k ≡ keys.Named m x → ⊥
not_so_far ps m x i k here before lt e = elim (cases_lt k i) [
  | inl less ↦ before k less e
  | inr ge ↦ (let same : k ≡ i = omega (arith, lt, ge) in here (ap (key_at (classes_of ps)) (sym same) ∙ e))
]

abbrev is_named : ClassKey-F ClassKey → Bool
is_named (ClassKey-F.Named m x) = true
is_named (ClassKey-F.Derived ks) = false
is_named (ClassKey-F.Proxy k) = false

not_named : (ps : List PlacedClass) (k : ClassKey) → is_named (out-ClassKey k) ≡ false → Finds (length (classes_of ps)) (classes_of ps) k None
not_named ps k f = λ q lt _ e. (
    let long = long_classes ps in
    let less : q < length ps = omega (arith, lt, long) in
    let d = at ps q less in
    true≢false (sym (ap is_named (out_named d.0 d.1)) ∙ ap (λ z. is_named (out-ClassKey z)) (sym d.2 ∙ e) ∙ f))
  where
    at : (qs : List PlacedClass) (i : ℕ) → i < length qs → (m : Module) × (x : List ℕ) × (key_at (classes_of qs) i ≡ keys.Named m x)
    at [] i lt = absurd (omega arith)
    at (p ∷ qs) zero lt = (p.module, p.face.now.name, refl)
    at (p ∷ qs) (suc i) lt = at qs i (omega arith)

pub derived_missing : (ps : List PlacedClass) (ks : List ClassKey) → Finds (length (classes_of ps)) (classes_of ps) (keys.Derived ks) None
derived_missing ps ks = not_named ps (keys.Derived ks) (ap (λ k. is_named (out-ClassKey k)) (sym (rolls-Derived ks)) ∙ ap is_named (out-roll-ClassKey (ClassKey-F.Derived ks)))

pub proxy_missing : (ps : List PlacedClass) (k : ClassKey) → Finds (length (classes_of ps)) (classes_of ps) (keys.Proxy k) None
proxy_missing ps k = not_named ps (keys.Proxy k) (ap (λ k. is_named (out-ClassKey k)) (sym (rolls-Proxy k)) ∙ ap is_named (out-roll-ClassKey (ClassKey-F.Proxy k)))

pub missing_known : (cs : List Class) (k : ClassKey) → IsAmong cs k → Finds (length cs) cs k None → ⊥
missing_known cs k a f = let r = among_place cs k a in f r.0 r.1 r.1 r.2

-- the face of the class at a place
pub face_here : (ps : List PlacedClass) (i : ℕ) (p : PlacedClass) → i < length ps → p ≡ slice_index_or ps i p → face_at (classes_of ps) i ≡ p.face.now
face_here ps i p lt is = ap (λ (c : Class). c.decl.face) (class_here ps i p lt) ∙ ap (λ (z : PlacedClass). z.face.now) (sym is)

pub key_here : (ps : List PlacedClass) (i : ℕ) → i < length (classes_of ps) → (m : Module) × (key_at (classes_of ps) i ≡ keys.Named m (face_at (classes_of ps) i).name)
key_here [] i lt = absurd (omega arith)
key_here (p ∷ ps) zero lt = (p.module, refl)
key_here (p ∷ ps) (suc i) lt = key_here ps i (omega arith)

-- the key and the module of the class at a place
pub key_of : (ps : List PlacedClass) (i : ℕ) (d : PlacedClass) → i < length ps → keys.Named (slice_index_or ps i d).module (face_at (classes_of ps) i).name ≡ key_at (classes_of ps) i
key_of ps i d lt = ap (λ (c : Class). keys.Named (slice_index_or ps i d).module c.decl.face.name) (class_here ps i d lt) ∙ sym (ap (λ (c : Class). c.key) (class_here ps i d lt))

pub module_here : (ps : List PlacedClass) (i : ℕ) (d : PlacedClass) → i < length ps → (slice_index_or ps i d).module ≡ module_of (class_of_place (classes_of ps) i)
module_here ps i d lt = sym (module_there (slice_index_or ps i d).module (bare (slice_index_or ps i d).face.now)) ∙ sym (ap module_of (class_here ps i d lt))
