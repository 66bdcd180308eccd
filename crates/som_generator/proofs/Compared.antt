-- Two interfaces that are compared as a list.
use Rattle.std.proofs.Common.{◌≡◌, ℕ, ◌⊎◌, inl, inr, List, [], ◌∷◌, ◌++◌, map, Option, Some, None, refl, sym, ap, subst, ◌∙◌}
use Rattle.som_model.specs.declared.program.Interface.{Interface}
use Rattle.som_model.specs.Compatible.{CompatBreach, breaks, first_break, list_breaks}
use Rattle.som_model.specs.Lists.{Mem, first}
use Rattle.som_compat.specs.Conditions.{Conforms}

abbrev pub Both : List Interface → Interface → Interface → Type 0
Both all old new = all ≡ old ∷ new ∷ []

pub may_compare : (all : List Interface) (old new : Interface) → Both all old new → Conforms old → Conforms new → (i : Interface) → Mem i all → Conforms i
may_compare all old new is a b i m = elim (subst (λ (l : List Interface). Mem i l) is m) [
  | inl here ↦ subst Conforms (sym here) a
  | inr more ↦ elim more [ inl there ↦ subst Conforms (sym there) b | inr none ↦ absurd none ]
]

abbrev numbered : CompatBreach → ℕ × CompatBreach
numbered b = (1, b)

-- the first of all that is told of the list
abbrev told_of : List CompatBreach → Option (ℕ × CompatBreach)
told_of bs = first (map numbered bs ++ [])

abbrev breach_in : CompatBreach → Option (ℕ × CompatBreach) → CompatBreach
breach_in b None = b
breach_in b (Some p) = p.1

none_first : (bs : List CompatBreach) → None ≡ told_of bs → first bs ≡ None
none_first [] e = refl
none_first (b ∷ bs) e = absurd cc

some_first : (bs : List CompatBreach) (k : ℕ) (x : CompatBreach) → Some (k, x) ≡ told_of bs → first bs ≡ Some x
some_first [] k x e = absurd cc
some_first (b ∷ bs) k x e = ap (λ (c : CompatBreach). Some c) (sym (ap (breach_in b) e))

pub all_kept : (all : List Interface) (old new : Interface) → Both all old new → None ≡ first (list_breaks 1 all) → first_break old new ≡ None
all_kept all old new is e = none_first (breaks old new) (e ∙ ap (λ (l : List Interface). first (list_breaks 1 l)) is)

pub first_lost : (all : List Interface) (old new : Interface) (k : ℕ) (x : CompatBreach) → Both all old new → Some (k, x) ≡ first (list_breaks 1 all) → first_break old new ≡ Some x
first_lost all old new k x is e = some_first (breaks old new) k x (e ∙ ap (λ (l : List Interface). first (list_breaks 1 l)) is)
