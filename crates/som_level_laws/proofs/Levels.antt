-- The classes of levels that are joined, and the level that is in a key.
use Rattle.std.proofs.Common.{◌≡◌, ℕ, zero, suc, ◌+◌, ◌<◌, ◌≤◌, inl, inr, List, [], ◌∷◌, ◌++◌, length, append_assoc, refl, sym, ap, ◌∙◌, subst, arith}
use Rattle.som_model.specs.declared.key.Module.TheVariants as modules
use Rattle.som_model.specs.declared.key.ClassKey.TheVariants as keys
use Rattle.som_model.specs.declared.class.ClassFace.{ClassFace}
use Rattle.som_model.specs.declared.program.Interface.{Interface}
use Rattle.som_model.specs.Lists.{Mem}
use Rattle.som_model.specs.Class.{Class, bare, class_in}
use Rattle.som_model.specs.Rules.{name_of}
use Rattle.som_model_laws.proofs.Lists.{map_mem}
use Rattle.som_model_laws.proofs.Members.{mem_split}
use Rattle.som_model_laws.proofs.Standing.{named_one}
use Rattle.som_release_laws.specs.Releasing.{HaveOtherKeys}
use Rattle.som_level_laws.specs.Levels.{classes_of_level, level_classes, level_module, levels_from}

-- further levels stand behind those below them
pub levels_joined : (k n : ℕ) (is js : List Interface) → length is + k ≡ n → levels_from k (is ++ js) ≡ levels_from k is ++ levels_from n js
levels_joined k n [] js e = let same : k ≡ n = omega (arith, e) in ap (λ z. levels_from z js) same
levels_joined k n (i ∷ is) js e =
    let more : length is + suc k ≡ n = omega (arith, e) in
    ap (λ (z : List Class). classes_of_level k i ++ z) (levels_joined (suc k) n is js more)
    ∙ sym (append_assoc (classes_of_level k i) (levels_from (suc k) is) (levels_from n js))

-- a class of levels has the module of one of them
pub record StandsAt (first number : ℕ) (c : Class) : Type 0 where
  pub level : ℕ
  pub above : first ≤ level
  pub below : level < number + first
  pub is : c.key ≡ keys.Named (level_module level) (name_of c)

pub stands_at : (k : ℕ) (is : List Interface) (c : Class) → Mem c (levels_from k is) → StandsAt k (length is) c
stands_at k [] c m = absurd m
stands_at k (i ∷ is) c m = elim (mem_split c (classes_of_level k i) (levels_from (suc k) is) m) [
  | inl h ↦ (
      let f = map_mem (λ (f : ClassFace). class_in (level_module k) (bare f)) c i.classes h in
      record { level = k; above = omega arith; below = omega arith; is = subst (λ (z : Class). z.key ≡ keys.Named (level_module k) (name_of z)) (sym f.2) refl })
  | inr h ↦ (
      let r = stands_at (suc k) is c h in
      let a = r.above in
      let b = r.below in
      record { level = r.level; above = omega (arith, a); below = omega (arith, b); is = r.is })
]

-- two levels have two modules
one_level : (i j : ℕ) → level_module i ≡ level_module j → i ≡ j
one_level zero zero e = refl
one_level zero (suc j) e = absurd (cc)
one_level (suc i) zero e = absurd (cc)
one_level (suc i) (suc j) e = cc

-- no class of levels has the key of one of levels above them
pub others_above : (n : ℕ) (is js : List Interface) → length is ≡ n → HaveOtherKeys (level_classes is) (levels_from n js)
others_above n is js e c d m k same =
    let a = stands_at 0 is c m in
    let b = stands_at n js d k in
    let level = one_level a.level b.level (named_one (level_module a.level) (level_module b.level) (name_of c) (name_of d) (sym a.is ∙ same ∙ b.is)).0 in
    let low = a.below in
    let high = b.above in
    absurd (omega (arith, level, low, high, e))
