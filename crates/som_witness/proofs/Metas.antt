-- The metaclass of a class that stands before others descends from no declared class more among them than alone.
use Rattle.std.proofs.Common.{◌≡◌, inl, inr, List, ◌++◌, Option, Some, refl, sym, ap, ◌∙◌, subst}
use Rattle.som_model.specs.declared.key.ClassKey.{ClassKey}
use Rattle.som_model.specs.Ancestors.{Descends}
use Rattle.som_model.specs.Class.{Class}
use Rattle.som_model.specs.Classes.{class_at, hierarchy}
use Rattle.som_model.specs.Kernel.{kernel, som_class}
use Rattle.som_model.specs.Metaclass.{meta}
use Rattle.som_model.specs.Loads.{IsOrdered}
use Rattle.som_model_laws.specs.Metaclasses.{Declares, IsDeclared, StandsLow}
use Rattle.som_model_laws.proofs.Lists.{get_mem}
use Rattle.som_model_laws.proofs.Members.{mem_left}
use Rattle.som_model_laws.proofs.Metas.{kernel_low, low_kernel, meta_law}
use Rattle.som_model_laws.proofs.Owners.{metaclass_known}
use Rattle.som_model_laws.proofs.Standing.{found, found_is, known_above}
use Rattle.som_release_laws.proofs.Prefix.{descends_less, known_more, ordered}

one_class : (a b : Class) (o : Option Class) → o ≡ Some a → o ≡ Some b → a ≡ b
one_class a b o e f = cc

module _ (xs ys : List Class) (o : IsOrdered (xs ++ ys)) where
  abbrev S : List Class
  S = kernel ++ xs

  abbrev L : List Class
  L = kernel ++ (xs ++ ys)

  abbrev os : IsOrdered xs
  os = ordered xs ys o

  low_less : (x : ClassKey) (c : Class) → class_at S x ≡ Some c → StandsLow L x → StandsLow S x
  low_less x c e s =
      let up = descends_less xs ys o x s.class c e s.above in
      let d = known_above xs os x s.class c e up in
      let m = low_kernel (xs ++ ys) o s.class d.0 (known_more xs ys o s.class d.0 d.1) s.low in
      record { class = s.class; low = kernel_low xs os d.0 s.class m (found_is xs os s.class d.0 d.1).1; above = up }

  declares_less : (x n : ClassKey) (c : Class) → class_at S x ≡ Some c → Declares L x n → Declares S x n
  declares_less x n c e s =
      let up = descends_less xs ys o x s.class.key c e s.above in
      let d = known_above xs os x s.class.key c e up in
      let same : d.0 ≡ s.class = one_class d.0 s.class (class_at L s.class.key) (known_more xs ys o s.class.key d.0 d.1) (found (xs ++ ys) o s.class s.class.key s.there refl) in
      let declared = ap (λ (z : Class). z.decl.face.metaclass) same ∙ s.declared in
      let k = metaclass_known xs os s.class.key d.0 s.metaclass d.1 declared in
      record {
        class = d.0;
        there = (found_is xs os s.class.key d.0 d.1).0;
        above = subst (λ z. Descends (hierarchy S) x z) (sym (found_is xs os s.class.key d.0 d.1).1) up;
        metaclass = s.metaclass;
        declared = declared;
        below = descends_less xs ys o s.metaclass n k.0 k.1 s.below;
      }

  object_there : (d : Class) × (class_at S som_class ≡ Some d)
  object_there = (_, found xs os _ som_class (mem_left _ kernel xs (get_mem kernel 1 _ refl)) refl)

  pub meta_less : (x n : ClassKey) (c : Class) → class_at S x ≡ Some c → IsDeclared n → Descends (hierarchy L) (meta L x) n → Descends (hierarchy S) (meta S x) n
  meta_less x n c e dec down = (meta_law xs os x n dec).1 (elim ((meta_law (xs ++ ys) o x n dec).0 down) [
    | inl p ↦ inl (descends_less xs ys o som_class n object_there.0 object_there.1 p.0, low_less x c e p.1)
    | inr q ↦ inr (declares_less x n c e q)
  ])
