-- Classes that are looked up by their keys.
use Rattle.std.proofs.Common.{◌≡◌, ℕ, zero, suc, ◌+◌, ◌-◌, ◌<◌, ◌⊎◌, inl, inr, Bool, true, false, List, [], ◌∷◌, map, length, Option, Some, None, slice_index_or, refl, sym, ap, ◌∙◌, arith, true≢false}
use Rattle.std.specs.Str.{bytes_eq}
use Rattle.std.proofs.lemmas.Bool.{cases_lt}
use Rattle.som_model.specs.declared.class.ClassFace.{ClassFace}
use Rattle.som_model.proofs.KeyLaws.{exact_bytes}
use Rattle.som_order.specs.Names.{name_at}
use Rattle.som_model.specs.declared.key.Module.{Module}
use Rattle.som_model.specs.declared.key.Module.TheVariants as modules
use Rattle.som_model.specs.declared.key.ClassKey.{ClassKey, out-ClassKey, out-roll-ClassKey}
use Rattle.som_model.specs.declared.key.ClassKey.TheOpen.{ClassKey-F}
use Rattle.som_model.specs.declared.key.ClassKey.TheVariants as keys
use Rattle.som_model.specs.declared.key.ClassKey.TheVariants.{rolls-Derived, rolls-Proxy}
use Rattle.som_model.specs.Lists.{Mem}
use Rattle.som_model.specs.Class.{Class}
use Rattle.som_model.specs.Kernel.{kernel}
use Rattle.som_model.specs.Rules.{name_of}
use Rattle.som_model.specs.Compatible.{release_of}
use Rattle.som_model.proofs.NamedLaws.{out_named}
use Rattle.som_verify_classes.specs.Places.{class_of_place, key_at, nobody, Finds}
use Rattle.som_verify_classes.specs.Plainly.{IsAmong}
use Rattle.som_verify_classes.proofs.DeclaredClasses.{long_map}
use Rattle.som_verify_classes.proofs.Falling.{mem_there}
use Rattle.som_compat.specs.Finding.{FindsName, face_names}
use Rattle.som_compat.specs.Views.{shown, interface, classes_of}

pub name_here : (fs : List ClassFace) (i : ℕ) (d : ClassFace) → i < length fs → name_at (face_names fs) i ≡ (slice_index_or fs i d).name
name_here [] i d lt = absurd (omega arith)
name_here (f ∷ fs) zero d lt = refl
name_here (f ∷ fs) (suc i) d lt = name_here fs i d (omega arith)

pub not_here : (fs : List ClassFace) (name : List ℕ) (i k : ℕ) (d : ClassFace) → i < length fs → bytes_eq (slice_index_or fs i d).name name ≡ false
    → ((j : ℕ) → j < i → name_at (face_names fs) j ≡ name → ⊥) → k < i + 1 → name_at (face_names fs) k ≡ name → ⊥
not_here fs name i k d lt other before less e = elim (cases_lt k i) [
  | inl under ↦ before k under e
  | inr ge ↦ (let same : k ≡ i = omega arith in
      let here : (slice_index_or fs i d).name ≡ name = sym (name_here fs i d lt) ∙ ap (name_at (face_names fs)) (sym same) ∙ e in
      true≢false (sym (exact_bytes.one name) ∙ ap (λ z. bytes_eq z name) (sym here) ∙ other))
]

-- the classes and their keys
pub classes_are : (fs : List ClassFace) → classes_of fs ≡ release_of (interface fs)
unfolding classes_of
classes_are fs = refl

pub long_classes : (fs : List ClassFace) → length (classes_of fs) ≡ length fs + 4
unfolding classes_of
long_classes fs = let e = long_map shown fs in omega (arith, e)

library_at : (fs : List ClassFace) (i : ℕ) → i < length fs → class_of_place (map shown fs) i ≡ shown (slice_index_or fs i nobody.decl.face)
library_at [] i lt = absurd (omega arith)
library_at (f ∷ fs) zero lt = refl
library_at (f ∷ fs) (suc i) lt = library_at fs i (omega arith)

-- the class of a face
pub shown_at : (fs : List ClassFace) (i : ℕ) (d : ClassFace) → i < length fs → class_of_place (classes_of fs) (i + 4) ≡ shown (slice_index_or fs i d)
unfolding classes_of
shown_at fs i d lt =
    let e : i + 4 ≡ suc (suc (suc (suc i))) = omega arith in
    ap (class_of_place (classes_of fs)) e ∙ by fs i lt
  where
    by : (gs : List ClassFace) (j : ℕ) → j < length gs → class_of_place (map shown gs) j ≡ shown (slice_index_or gs j d)
    by [] j lt = absurd (omega arith)
    by (g ∷ gs) zero lt = refl
    by (g ∷ gs) (suc j) lt = by gs j (omega arith)

kernel_key_at : (fs : List ClassFace) (p : ℕ) → p < 4 → key_at (classes_of fs) p ≡ keys.Named modules.Kernel (name_at (map name_of kernel) p)
unfolding classes_of
kernel_key_at fs zero lt = refl
kernel_key_at fs (suc zero) lt = refl
kernel_key_at fs (suc (suc zero)) lt = refl
kernel_key_at fs (suc (suc (suc zero))) lt = refl
kernel_key_at fs (suc (suc (suc (suc p)))) lt = absurd (omega arith)

library_key_at : (fs : List ClassFace) (i : ℕ) → i < length fs → key_at (classes_of fs) (i + 4) ≡ keys.Named modules.Library (name_at (face_names fs) i)
library_key_at fs i lt = ap (λ (c : Class). c.key) (shown_at fs i nobody.decl.face lt) ∙ ap (λ z. keys.Named modules.Library z) (sym (name_here fs i nobody.decl.face lt))

pub one_name : (m n : Module) (x y : List ℕ) → keys.Named m x ≡ keys.Named n y → (m ≡ n) × (x ≡ y)
one_name m n x y e = let f = sym (out_named m x) ∙ ap out-ClassKey e ∙ out_named n y in (cc, cc)

-- the key at a place is that of the kernel's class there or of the interface's
key_kinds : (fs : List ClassFace) (q : ℕ) → q < length (classes_of fs)
    → ((q < 4) × (key_at (classes_of fs) q ≡ keys.Named modules.Kernel (name_at (map name_of kernel) q)))
    ⊎ ((i : ℕ) × (q ≡ i + 4) × (i < length fs) × (key_at (classes_of fs) q ≡ keys.Named modules.Library (name_at (face_names fs) i)))
key_kinds fs q lt = let long = long_classes fs in elim (cases_lt q 4) [
  | inl less ↦ inl (less, kernel_key_at fs q less)
  | inr ge ↦ (let e : q - 4 + 4 ≡ q = omega (arith, ge) in let l : q - 4 < length fs = omega (arith, lt, long, ge) in
      inr (q - 4, sym e, l, ap (key_at (classes_of fs)) (sym e) ∙ library_key_at fs (q - 4) l))
]

pub kernel_found : (fs : List ClassFace) (x : List ℕ) (o : Option ℕ) → FindsName (map name_of kernel) x o → Finds (length (classes_of fs)) (classes_of fs) (keys.Named modules.Kernel x) o
kernel_found fs x (Some p) f =
    let few : p < 4 = f.0 in
    let long = long_classes fs in
    let lt : p < length (classes_of fs) = omega (arith, few, long) in
    (lt, lt, kernel_key_at fs p few ∙ ap (λ z. keys.Named modules.Kernel z) f.1)
kernel_found fs x None f = λ q lt _ e. elim (key_kinds fs q lt) [
  | inl k ↦ f q k.0 (one_name _ _ _ _ (sym k.1 ∙ e)).1
  | inr k ↦ (let m = (one_name _ _ _ _ (sym k.3 ∙ e)).0 in absurd (cc))
]

pub library_found : (fs : List ClassFace) (x : List ℕ) (p : ℕ) → FindsName (face_names fs) x (Some p) → Finds (length (classes_of fs)) (classes_of fs) (keys.Named modules.Library x) (Some (p + 4))
library_found fs x p f =
    let here : p < length fs = omega (arith, f.0, long_map (λ (z : ClassFace). z.name) fs) in
    let long = long_classes fs in
    let lt : p + 4 < length (classes_of fs) = omega (arith, here, long) in
    (lt, lt, library_key_at fs p here ∙ ap (λ z. keys.Named modules.Library z) f.1)

pub library_missing : (fs : List ClassFace) (x : List ℕ) → FindsName (face_names fs) x None → Finds (length (classes_of fs)) (classes_of fs) (keys.Named modules.Library x) None
library_missing fs x f = λ q lt _ e. elim (key_kinds fs q lt) [
  | inl k ↦ (let m = (one_name _ _ _ _ (sym k.1 ∙ e)).0 in absurd (cc))
  | inr k ↦ (let i : k.0 < length (face_names fs) = omega (arith, k.2, long_map (λ (z : ClassFace). z.name) fs) in f k.0 i (one_name _ _ _ _ (sym k.3 ∙ e)).1)
]

pub other_module : (fs : List ClassFace) (m : Module) (x : List ℕ) → (m ≡ modules.Kernel → ⊥) → (m ≡ modules.Library → ⊥) → Finds (length (classes_of fs)) (classes_of fs) (keys.Named m x) None
other_module fs m x f g = λ q lt _ e. elim (key_kinds fs q lt) [
  | inl k ↦ f (sym (one_name _ _ _ _ (sym k.1 ∙ e)).0)
  | inr k ↦ g (sym (one_name _ _ _ _ (sym k.3 ∙ e)).0)
]

abbrev is_named : ClassKey-F ClassKey → Bool
is_named (ClassKey-F.Named m x) = true
is_named (ClassKey-F.Derived ks) = false
is_named (ClassKey-F.Proxy k) = false

not_named : (fs : List ClassFace) (k : ClassKey) → is_named (out-ClassKey k) ≡ false → Finds (length (classes_of fs)) (classes_of fs) k None
not_named fs k f = λ q lt _ e. elim (key_kinds fs q lt) [
  | inl h ↦ true≢false (sym (ap is_named (out_named _ _)) ∙ ap (λ z. is_named (out-ClassKey z)) (sym h.1 ∙ e) ∙ f)
  | inr h ↦ true≢false (sym (ap is_named (out_named _ _)) ∙ ap (λ z. is_named (out-ClassKey z)) (sym h.3 ∙ e) ∙ f)
]

pub derived_missing : (fs : List ClassFace) (ks : List ClassKey) → Finds (length (classes_of fs)) (classes_of fs) (keys.Derived ks) None
derived_missing fs ks = not_named fs (keys.Derived ks) (ap (λ k. is_named (out-ClassKey k)) (sym (rolls-Derived ks)) ∙ ap is_named (out-roll-ClassKey (ClassKey-F.Derived ks)))

pub proxy_missing : (fs : List ClassFace) (k : ClassKey) → Finds (length (classes_of fs)) (classes_of fs) (keys.Proxy k) None
proxy_missing fs k = not_named fs (keys.Proxy k) (ap (λ k. is_named (out-ClassKey k)) (sym (rolls-Proxy k)) ∙ ap is_named (out-roll-ClassKey (ClassKey-F.Proxy k)))

pub among_place : (cs : List Class) (k : ClassKey) → IsAmong cs k → (p : ℕ) × (p < length cs) × (key_at cs p ≡ k)
among_place cs k a = let r = mem_there cs a.class a.there in (r.0, r.1, ap (λ (c : Class). c.key) r.2 ∙ a.named)

pub mem_at : {A : Type 0} (xs : List A) (i : ℕ) (x : A) → i < length xs → x ≡ slice_index_or xs i x → Mem x xs
mem_at [] i x lt e = absurd (omega arith)
mem_at (y ∷ ys) zero x lt e = inl e
mem_at (y ∷ ys) (suc i) x lt e = inr (mem_at ys i x (omega arith) e)
