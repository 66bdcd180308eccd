-- Steps that went well, taken apart, and steps that go on.
use Rattle.std.proofs.Common.{◌≡◌, ℕ, Bool, true, false, Option, Some, None, Result, Ok, Err, refl, ap, ◌∙◌}
use Rattle.som_model.specs.Steps.{◌>>=◌}
use Rattle.som_model.specs.Typing.{Ruled, needs, there}

-- a step gave a value, and the next one went on with it
pub record Went {A B E : Type 0} (x : Result A E) (next : A → Result B E) (r : B) : Type 0 where
  pub value : A
  pub first : x ≡ Ok value
  pub further : next value ≡ Ok r

pub went : {A B E : Type 0} (x : Result A E) (next : A → Result B E) (r : B) → (x >>= next) ≡ Ok r → Went x next r
went (Ok a) next r e = record { value = a; first = refl; further = e }
went (Err fault) next r e = absurd (let z = e in cc)

-- a demand after which it went on was met
pub held : {A : Type 0} (rule : ℕ) (b : Bool) (further : Ruled A) (r : A) → needs rule b further ≡ Ok r → (b ≡ true) × (further ≡ Ok r)
held rule true further r e = (refl, e)
held rule false further r e = absurd (let z = e in cc)

-- after a demand that is met it goes on
pub met : {A : Type 0} (rule : ℕ) (b : Bool) (further : Ruled A) → b ≡ true → needs rule b further ≡ further
met rule b further e = ap (λ z. needs rule z further) e

-- what was asked for was there
pub found : {A : Type 0} (rule : ℕ) (o : Option A) (x : A) → there rule o ≡ Ok x → o ≡ Some x
found rule (Some y) x e = let z = e in cc
found rule None x e = absurd (let z = e in cc)

-- two steps, by what they came to
pub both_steps : {A B C E : Type 0} (x : Result A E) (y : Result B E) (f : A → B → Result C E) (u : A) (v : B) → x ≡ Ok u → y ≡ Ok v → (x >>= λ s. y >>= f s) ≡ f u v
both_steps x y f u v e g = ap (λ z. z >>= λ s. y >>= f s) e ∙ ap (λ z. z >>= f u) g

-- two equal results hold one answer
abbrev answer : (A E : Type 0) → A → Result A E
answer A E x = Ok x

pub same_answer : {A E : Type 0} {x y : A} → answer A E x ≡ answer A E y → x ≡ y
same_answer e = let z = e in cc

pub same_ok : {A E : Type 0} (x y : A) → ◌≡◌ {A = Result A E} (Ok x) (Ok y) → x ≡ y
same_ok x y e = same_answer e
