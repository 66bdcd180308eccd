-- What was read in steps, as what it stands for, is read in steps too.
use Rattle.std.proofs.Common.{◌≡◌, ℕ, zero, suc, Bool, true, false, cond, map, Result, Ok, Err, refl, ap, ◌∙◌}
use Rattle.som_model.specs.Steps.{◌>>=◌}
use Rattle.som_image_fields.specs.declared.fault.ImageFault.{ImageFault}
use Rattle.som_image_fields.specs.declared.read.Read.{Read}
use Rattle.som_image_fields.specs.Fields.{done, many_at}
use Rattle.som_image_bodies.specs.Naming.{naming}

-- after something without a name
pub after : {A B C : Type 0} (f : B → C) (r : Result (Read A) ImageFault) (g : Read A → Result (Read B) ImageFault) (h : Read A → Result (Read C) ImageFault) → ((a : Read A) → naming f (g a) ≡ h a) → naming f (r >>= g) ≡ (r >>= h)
after f (Ok a) g h same = same a
after f (Err fault) g h same = refl

-- after something that stands for something else
by_name : {A D B C : Type 0} (f : B → C) (k : A → D) (r : Result (Read A) ImageFault) (g : Read A → Result (Read B) ImageFault) (h : Read D → Result (Read C) ImageFault) → ((a : Read A) → naming f (g a) ≡ h (record { value = k a.value; next = a.next })) → naming f (r >>= g) ≡ (naming k r >>= h)
by_name f k (Ok a) g h same = same a
by_name f k (Err fault) g h same = refl

pub step : {A D B C : Type 0} (f : B → C) (k : A → D) (r : Result (Read A) ImageFault) (s : Result (Read D) ImageFault) (g : Read A → Result (Read B) ImageFault) (h : Read D → Result (Read C) ImageFault) → naming k r ≡ s → ((a : Read A) → naming f (g a) ≡ h (record { value = k a.value; next = a.next })) → naming f (r >>= g) ≡ (s >>= h)
step f k r s g h is same = by_name f k r g h same ∙ ap (λ x. x >>= h) is

-- by a test
pub either : {B C : Type 0} (f : B → C) (b : Bool) (x y : Result (Read B) ImageFault) (v w : Result (Read C) ImageFault) → naming f x ≡ v → naming f y ≡ w → naming f (cond b x y) ≡ cond b v w
either f true x y v w p q = p
either f false x y v w p q = q

pub made : {A : Type 0} {x y : A} (next : ℕ) → x ≡ y → done x next ≡ done y next
made next is = ap (λ v. done v next) is

-- a row of fields
pub many_named : {A B : Type 0} (f : A → B) (one : ℕ → Result (Read A) ImageFault) (other : ℕ → Result (Read B) ImageFault) → ((p : ℕ) → naming f (one p) ≡ other p) → (count place : ℕ) → naming (map f) (many_at one count place) ≡ many_at other count place
unfolding many_at
many_named f one other same zero place = refl
many_named f one other same (suc n) place =
    step (map f) f _ _ _ _ (same place) (λ first. step (map f) (map f) _ _ _ _ (many_named f one other same n first.next) (λ others. refl))
