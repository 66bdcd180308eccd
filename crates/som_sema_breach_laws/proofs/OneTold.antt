-- There is one breach at most that is the first.
use Rattle.std.proofs.Common.{◌≡◌, ℕ, ◌+◌, ◌<◌, ◌⊎◌, inl, inr, List, [], ◌∷◌, ◌++◌, Option, Some, None, slice_get, refl, sym, ap, ◌∙◌, subst, arith}
use Rattle.std.proofs.lemmas.Bool.{cases_order}
use Rattle.som_model.specs.declared.key.Module.{Module}
use Rattle.som_model.specs.declared.program.Interface.{Interface}
use Rattle.som_model.specs.Lists.{first}
use Rattle.som_model.specs.Rules.{RuleBreach}
use Rattle.som_ast.specs.declared.interface.IdlInterface.{IdlInterface}
use Rattle.som_sema_breach_laws.specs.Telling.{IsFirstTold, text_rules}

some_one : {A : Type 0} {x y : A} → Some x ≡ Some y → x ≡ y
some_one e = let z = e in cc

heads : {A : Type 0} (x y : A) (xs ys : List A) → x ∷ xs ≡ y ∷ ys → (x ≡ y) × (xs ≡ ys)
heads x y xs ys e = (cc, cc)

-- two ways to take a list apart at a member: the same, or one front goes on behind the other's member
data Meets {A : Type 0} (xs : List A) (x : A) (ys : List A) (y : A) : Type 0 where
  same : xs ≡ ys → x ≡ y → Meets xs x ys y
  sooner : (middle : List A) → ys ≡ xs ++ x ∷ middle → Meets xs x ys y
  later : (middle : List A) → xs ≡ ys ++ y ∷ middle → Meets xs x ys y

deeper : {A : Type 0} (w v : A) (xs : List A) (x : A) (ys : List A) (y : A) → w ≡ v → Meets xs x ys y → Meets (w ∷ xs) x (v ∷ ys) y
deeper w v xs x ys y e (same p q) = same (ap (λ z. z ∷ xs) e ∙ ap (λ z. v ∷ z) p) q
deeper w v xs x ys y e (sooner middle p) = sooner middle (ap (λ z. z ∷ ys) (sym e) ∙ ap (λ z. w ∷ z) p)
deeper w v xs x ys y e (later middle p) = later middle (ap (λ z. z ∷ xs) e ∙ ap (λ z. v ∷ z) p)

meets : {A : Type 0} (xs : List A) (x : A) (us ys : List A) (y : A) (vs : List A) → xs ++ x ∷ us ≡ ys ++ y ∷ vs → Meets xs x ys y
meets [] x us [] y vs e = same refl (heads x y us vs e).0
meets [] x us (w ∷ ys) y vs e = sooner ys (ap (λ z. z ∷ ys) (sym (heads x w us (ys ++ y ∷ vs) e).0))
meets (w ∷ xs) x us [] y vs e = later xs (ap (λ z. z ∷ xs) (heads w y (xs ++ x ∷ us) vs e).0)
meets (w ∷ xs) x us (v ∷ ys) y vs e = let h = heads w v (xs ++ x ∷ us) (ys ++ y ∷ vs) e in deeper w v xs x ys y h.0 (meets xs x us ys y vs h.1)

pub no_first : {B : Type 0} (xs : List B) (b : B) → xs ≡ [] → first xs ≡ Some b → ⊥
no_first [] b e f = let z = f in cc
no_first (x ∷ xs) b e f = let z = e in cc

module _ (m : Module) (base : Interface) (is : List IdlInterface) (a b : RuleBreach) (p : IsFirstTold m base is a) (q : IsFirstTold m base is b) where
  not_lower : p.place < q.place → ⊥
  not_lower lt = no_first (p.rule p.before p.interface) a (q.lower p.place p.rule lt p.is_rule p.before p.interface p.after p.parts) p.member

  not_higher : q.place < p.place → ⊥
  not_higher lt = no_first (q.rule q.before q.interface) b (p.lower q.place q.rule lt q.is_rule q.before q.interface q.after q.parts) q.member

  same_rule : p.place ≡ q.place → p.rule ≡ q.rule
  same_rule e = some_one (sym p.is_rule ∙ ap (slice_get (text_rules m base is)) e ∙ q.is_rule)

  by_parts : p.rule ≡ q.rule → Meets p.before p.interface q.before q.interface → a ≡ b
  by_parts e (same f g) =
      some_one (sym p.member ∙ ap (λ (r : List IdlInterface → IdlInterface → List RuleBreach). first (r p.before p.interface)) e ∙ ap (λ z. first (q.rule z p.interface)) f ∙ ap (λ z. first (q.rule q.before z)) g ∙ q.member)
  by_parts e (sooner middle f) =
      absurd (no_first (p.rule p.before p.interface) a (ap (λ (r : List IdlInterface → IdlInterface → List RuleBreach). r p.before p.interface) e ∙ q.earlier p.before p.interface middle f) p.member)
  by_parts e (later middle f) =
      absurd (no_first (q.rule q.before q.interface) b (ap (λ (r : List IdlInterface → IdlInterface → List RuleBreach). r q.before q.interface) (sym e) ∙ p.earlier q.before q.interface middle f) q.member)

  pub one_told : a ≡ b
  one_told = elim (cases_order p.place q.place) [
    | inl e ↦ by_parts (same_rule e) (meets p.before p.interface p.after q.before q.interface q.after (sym p.parts ∙ q.parts))
    | inr g ↦ elim g [ inl lt ↦ absurd (not_lower lt) | inr lt ↦ absurd (not_higher lt) ]
  ]
