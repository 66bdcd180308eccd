-- Reading with names is reading with numbers, of which each is named: step by step.
use Rattle.std.proofs.Common.{◌≡◌, ℕ, suc, Bool, true, false, cond, List, [], ◌∷◌, length, map, Result, Ok, Err, refl, ap}
use Rattle.std.specs.Prelude.{nat_lt, ◌||◌}
use Rattle.som_model.specs.Steps.{◌>>=◌}
use Rattle.som_image_fields.specs.declared.fault.ImageFault.{ImageFault}
use Rattle.som_image_fields.specs.declared.fault.ImageFault.TheVariants as faults
use Rattle.som_image_fields.specs.declared.read.Read.{Read}
use Rattle.som_image_fields.specs.Fields.{done, many_at, counted_at}
use Rattle.som_image_fields.proofs.Parts.{bind_ok}
use Rattle.som_image_bodies.specs.Naming.{naming}
use Rattle.som_image_bodies.proofs.Naming.{after, either, many_named, step}
use Rattle.som_image_classes.specs.ReadClasses.{each_at}

abbrev Came : Type 0 → Type 0
Came A = Result (Read A) ImageFault

-- ---- so many

module _ {A B : Type 0} (n : A → B) (one : ℕ → Came A) (other : ℕ → Came B) (same : (p : ℕ) → naming n (one p) ≡ other p) where
  pub counted_named : (number : ℕ → Came ℕ) (least most place : ℕ) → naming (map n) (counted_at number least most one place) ≡ counted_at number least most other place
  counted_named number least most place =
      after (map n) (number place)
      (λ count. cond (nat_lt count.value least || nat_lt most count.value) (Err (faults.Number place)) (many_at one count.value count.next))
      (λ count. cond (nat_lt count.value least || nat_lt most count.value) (Err (faults.Number place)) (many_at other count.value count.next))
      (λ count. either (map n) (nat_lt count.value least || nat_lt most count.value) (Err (faults.Number place)) (many_at one count.value count.next) (Err (faults.Number place)) (many_at other count.value count.next) refl (many_named n one other same count.value count.next))

-- ---- one for each

pub each_named : {A B C : Type 0} (n : B → C) (one : A → ℕ → Came B) (other : A → ℕ → Came C) → ((x : A) (p : ℕ) → naming n (one x p) ≡ other x p) → (xs : List A) (place : ℕ) → naming (map n) (each_at one xs place) ≡ each_at other xs place
unfolding each_at
each_named n one other same [] place = refl
each_named n one other same (x ∷ xs) place =
    step (map n) n (one x place) (other x place)
    (λ first. each_at one xs first.next >>= λ others. done (first.value ∷ others.value) others.next)
    (λ first. each_at other xs first.next >>= λ others. done (first.value ∷ others.value) others.next)
    (same x place)
    (λ a. step (map n) (map n) (each_at one xs a.next) (each_at other xs a.next)
    (λ others. done (a.value ∷ others.value) others.next)
    (λ others. done (n a.value ∷ others.value) others.next)
    (each_named n one other same xs a.next) (λ b. refl))

same_length : {A : Type 0} (xs : List A) (next : ℕ) (r : Read (List A)) (k : ℕ) → done xs next ≡ Ok r → length xs ≡ k → length r.value ≡ k
same_length xs next r k e h = cc

-- as many as there are
pub each_length : {A B : Type 0} (one : A → ℕ → Came B) (xs : List A) (place : ℕ) (r : Read (List B)) → each_at one xs place ≡ Ok r → length r.value ≡ length xs
unfolding each_at
each_length one [] place r e = same_length [] place r 0 e refl
each_length one (x ∷ xs) place r e =
    let a = bind_ok (one x place) (λ first. each_at one xs first.next >>= λ others. done (first.value ∷ others.value) others.next) r e in
    let b = bind_ok (each_at one xs a.0.next) (λ others. done (a.0.value ∷ others.value) others.next) r a.2 in
    same_length (a.0.value ∷ b.0.value) b.0.next r (length (x ∷ xs)) b.2 (ap suc (each_length one xs a.0.next b.0 b.1))

-- ---- what follows a step, which is asked for two steps later

pub after_step : {A B C : Type 0} (r : Result A ImageFault) (f : A → Result B ImageFault) (g : B → Result C ImageFault) (k : A → Result C ImageFault) → ((x : A) → (f x >>= g) ≡ k x) → ((r >>= f) >>= g) ≡ (r >>= k)
after_step (Ok x) f g k h = h x
after_step (Err fault) f g k h = refl

pub after_named : {A B X C : Type 0} (p : A → B) (r : Came A) (f : Read A → Result X ImageFault) (g : X → Result C ImageFault) (k : Read B → Result C ImageFault) → ((a : Read A) → (f a >>= g) ≡ k (record { value = p a.value; next = a.next })) → ((r >>= f) >>= g) ≡ (naming p r >>= k)
after_named p (Ok a) f g k h = h a
after_named p (Err fault) f g k h = refl

pub regrouped : {A B C : Type 0} (r : Result A ImageFault) (f : A → Result B ImageFault) (g : B → Result C ImageFault) → ((r >>= f) >>= g) ≡ (r >>= λ x. f x >>= g)
regrouped (Ok x) f g = refl
regrouped (Err fault) f g = refl

pub tested : {A C : Type 0} (b : Bool) (fault : ImageFault) (x : A) (g : A → C) (z : C) → g x ≡ z → ((cond b (Err fault) (Ok x)) >>= λ y. Ok (g y)) ≡ cond b (Err fault) (Ok z)
tested true fault x g z e = refl
tested {A} {C} false fault x g z e = ap (λ (y : C). Ok y) e
