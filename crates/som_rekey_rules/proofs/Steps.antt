-- Steps of typing, beside the same steps under new keys.
use Rattle.std.proofs.Common.{◌≡◌, ℕ, Bool, true, false, if◌then◌else◌, Option, Some, None, Ok, Err, refl, sym, ap, subst}
use Rattle.std.specs.Option.{option_map}
use Rattle.som_model.specs.Steps.{◌>>=◌}
use Rattle.som_model.specs.Typing.{Ruled, needs, there}
use Rattle.som_model.proofs.StepLaws.{same_answer}
use Rattle.som_rekey_rules.specs.NewTypes.{ruled_map}

-- a step comes to what the old one comes to, under new keys, and of the old value something is known
pub record Kept {A B : Type 0} (g : A → B) (P : A → Type 0) (x : Ruled A) (y : Ruled B) : Type 0 where
  pub same : y ≡ ruled_map g x
  pub known : (a : A) → x ≡ Ok a → P a

module _ {A B : Type 0} (g : A → B) (P : A → Type 0) where
  pub ok_kept : (a : A) (b : B) → b ≡ g a → P a → Kept g P (Ok a) (Ok b)
  ok_kept a b e p = record { same = ap Ok e; known = λ c h. subst P (same_answer h) p }

  pub err_kept : (rule : ℕ) → Kept g P (Err rule) (Err rule)
  err_kept rule = record { same = refl; known = λ c h. absurd (let z = h in cc) }

  pub needs_kept : (rule : ℕ) (b c : Bool) (x : Ruled A) (y : Ruled B) → c ≡ b → Kept g P x y → Kept g P (needs rule b x) (needs rule c y)
  needs_kept rule b c x y e k = subst (λ z. Kept g P (needs rule b x) (needs rule z y)) (sym e) (by b)
    where
      by : (z : Bool) → Kept g P (needs rule z x) (needs rule z y)
      by true = k
      by false = err_kept rule

  pub if_kept : (b : Bool) (x u : Ruled A) (y v : Ruled B) → Kept g P x y → Kept g P u v → Kept g P (if b then x else u) (if b then y else v)
  if_kept true x u y v k l = k
  if_kept false x u y v k l = l

  pub there_kept : (rule : ℕ) (o : Option A) (u : Option B) → u ≡ option_map g o → ((a : A) → o ≡ Some a → P a) → Kept g P (there rule o) (there rule u)
  there_kept rule o u e p = subst (λ z. Kept g P (there rule o) (there rule z)) (sym e) (by o p)
    where
      by : (q : Option A) → ((a : A) → q ≡ Some a → P a) → Kept g P (there rule q) (there rule (option_map g q))
      by None h = err_kept rule
      by (Some a) h = ok_kept a (g a) refl (h a refl)

  pub step_kept : {C D : Type 0} (h : C → D) (Q : C → Type 0) (x : Ruled C) (y : Ruled D) (u : C → Ruled A) (v : D → Ruled B) → Kept h Q x y
      → ((c : C) → Q c → Kept g P (u c) (v (h c))) → Kept g P (x >>= u) (y >>= v)
  step_kept h Q x y u v k next = subst (λ z. Kept g P (x >>= u) (z >>= v)) (sym k.same) (by x k.known)
    where
      by : (z : Ruled _) → ((c : _) → z ≡ Ok c → Q c) → Kept g P (z >>= u) (ruled_map h z >>= v)
      by (Ok c) q = next c (q c refl)
      by (Err rule) q = err_kept rule
