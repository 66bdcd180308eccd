-- The change from flat names to names by levels gives no two flat names one key, and leaves the kernel's.
use Rattle.std.proofs.Common.{◌≡◌, ◌⊎◌, inl, inr, ℕ, zero, suc, ◌+◌, ◌<◌, Bool, true, false, if◌then◌else◌, List, [], ◌∷◌, length, map, drop, refl, sym, ap, ◌∙◌, arith, true≢false}
use Rattle.som_model.specs.declared.key.Module.{Module}
use Rattle.som_model.specs.declared.key.Module.TheVariants as modules
use Rattle.som_model.specs.declared.class.ClassFace.{ClassFace}
use Rattle.som_model.specs.declared.program.Interface.{Interface}
use Rattle.som_model.specs.Lists.{Mem, among}
use Rattle.som_model.specs.Kernel.{kernel_interface}
use Rattle.som_rekey_laws.specs.Rekeying.{ModuleChange}
use Rattle.som_rekey_laws.specs.Apart.{Names, IsApart, KeepsKernel}
use Rattle.som_level_laws.specs.Levels.{level_module}
use Rattle.som_level_programs.specs.ByLevels.{split, level_named, own_module, level_change, flat_names}

-- a module is that of the library, or of a level below n
abbrev IsBelow : ℕ → Module → Type 0
IsBelow n m = (m ≡ modules.Library) ⊎ ((j : ℕ) × (j < n) × (m ≡ modules.Upper j))

level_below : (k n : ℕ) → k < n → IsBelow n (level_module k)
level_below zero n less = inl refl
level_below (suc k) n less = inr (suc k, less, refl)

chosen_below : (n : ℕ) (b : Bool) (x y : Module) → IsBelow n x → IsBelow n y → IsBelow n (if b then x else y)
chosen_below n true x y a c = a
chosen_below n false x y a c = c

named_below : (k n : ℕ) (levels : List (List ClassFace)) (name : List ℕ) → length levels + k ≡ n → IsBelow n (level_named k levels name)
named_below k n [] name e = inl refl
named_below k n (faces ∷ levels) name e =
    let less : k < n = omega (arith, e) in
    let more : length levels + suc k ≡ n = omega (arith, e) in
    chosen_below n (among name (map (λ (face : ClassFace). face.name) faces)) (level_module k) (level_named (suc k) levels name) (level_below k n less) (named_below (suc k) n levels name more)

-- what stands above n levels has the module of none below, nor the kernel's
own_above : (n : ℕ) (client : Bool) (m : Module) → IsBelow n m → m ≡ own_module n client → ⊥
own_above n true m (inl is) e = let z = sym is ∙ e in absurd (cc)
own_above n false m (inl is) e = let z = sym is ∙ e in absurd (cc)
own_above n true m (inr r) e = let z = sym r.2 ∙ e in absurd (cc)
own_above n false m (inr r) e = let z = sym r.2 ∙ e in let same : r.0 ≡ n = cc in let less = r.1 in absurd (omega (arith, same, less))

own_outside : (n : ℕ) (client : Bool) → own_module n client ≡ modules.Kernel → ⊥
own_outside n true e = absurd (cc)
own_outside n false e = absurd (cc)

below_outside : (n : ℕ) (m : Module) → IsBelow n m → m ≡ modules.Kernel → ⊥
below_outside n m (inl is) e = let z = sym is ∙ e in absurd (cc)
below_outside n m (inr r) e = let z = sym r.2 ∙ e in absurd (cc)

as_many : {A : Type 0} (sizes : List ℕ) (xs : List A) → length (split sizes xs) ≡ length sizes
as_many [] xs = refl
as_many (size ∷ sizes) xs = ap suc (as_many sizes (drop size xs))

module _ (sizes : List ℕ) (client : Bool) (base : Interface) where
  abbrev change : ModuleChange
  change = level_change sizes client base

  base_below : (name : List ℕ) → IsBelow (length sizes) (level_named 0 (split sizes base.classes) name)
  base_below name = let e = as_many sizes base.classes in named_below 0 (length sizes) (split sizes base.classes) name (omega (arith, e))

  two_apart : (m n : Module) (name : List ℕ) → flat_names m name ≡ true → flat_names n name ≡ true → change m name ≡ change n name → m ≡ n
  two_apart modules.Kernel modules.Kernel name a b e = refl
  two_apart modules.Kernel modules.Library name a b e = absurd (below_outside (length sizes) _ (base_below name) (sym e))
  two_apart modules.Kernel (modules.Upper k) name a b e = absurd (true≢false (sym b))
  two_apart modules.Kernel modules.Client name a b e = absurd (own_outside (length sizes) client (sym e))
  two_apart modules.Library modules.Kernel name a b e = absurd (below_outside (length sizes) _ (base_below name) e)
  two_apart modules.Library modules.Library name a b e = refl
  two_apart modules.Library (modules.Upper k) name a b e = absurd (true≢false (sym b))
  two_apart modules.Library modules.Client name a b e = absurd (own_above (length sizes) client _ (base_below name) e)
  two_apart (modules.Upper k) n name a b e = absurd (true≢false (sym a))
  two_apart modules.Client modules.Kernel name a b e = absurd (own_outside (length sizes) client e)
  two_apart modules.Client modules.Library name a b e = absurd (own_above (length sizes) client _ (base_below name) (sym e))
  two_apart modules.Client (modules.Upper k) name a b e = absurd (true≢false (sym b))
  two_apart modules.Client modules.Client name a b e = refl

  pub change_apart : IsApart change flat_names
  change_apart = record { apart = two_apart }

  none_inside : (m : Module) (name : List ℕ) → flat_names m name ≡ true → change m name ≡ modules.Kernel → m ≡ modules.Kernel
  none_inside modules.Kernel name a e = refl
  none_inside modules.Library name a e = absurd (below_outside (length sizes) _ (base_below name) e)
  none_inside (modules.Upper k) name a e = absurd (true≢false (sym a))
  none_inside modules.Client name a e = absurd (own_outside (length sizes) client e)

  pub change_keeps : KeepsKernel change flat_names
  change_keeps = record { stays = λ name a. refl; outside = none_inside; here = λ face m. refl }

-- fewer names are apart where more are
pub fewer_apart : (f : ModuleChange) (names fewer : Names) → ((m : Module) (name : List ℕ) → fewer m name ≡ true → names m name ≡ true) → IsApart f names → IsApart f fewer
fewer_apart f names fewer less is = record { apart = λ m n name a b e. is.apart m n name (less m name a) (less n name b) e }

pub fewer_keep : (f : ModuleChange) (names fewer : Names) → ((m : Module) (name : List ℕ) → fewer m name ≡ true → names m name ≡ true)
    → ((face : ClassFace) → Mem face kernel_interface.classes → fewer modules.Kernel face.name ≡ true) → KeepsKernel f names → KeepsKernel f fewer
fewer_keep f names fewer less here is = record {
  stays = λ name a. is.stays name (less modules.Kernel name a);
  outside = λ m name a e. is.outside m name (less m name a) e;
  here = here;
}
