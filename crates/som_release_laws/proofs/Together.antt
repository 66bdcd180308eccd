-- The faces of a newer release and of the classes above an older one can stand together.
use Rattle.std.proofs.Common.{◌≡◌, inl, inr, List, ◌++◌}
use Rattle.som_model.specs.Lists.{Mem}
use Rattle.som_model.specs.Class.{Class}
use Rattle.som_model_laws.proofs.Members.{mem_right, mem_split}
use Rattle.som_model_laws.specs.Keeping.{ClassesKeep}
use Rattle.som_model.specs.Loads.{FacesLoad, IsOrdered}
use Rattle.som_release_laws.proofs.Exchange.{exchange_grows, new_ordered}
use Rattle.som_release_laws.proofs.Facing.{proper_grows, s4_grows, s5_grows}
use Rattle.som_release_laws.proofs.Prefix.{prefix_grows}

module _ (olds news own : List Class) (fa : FacesLoad (olds ++ own)) (fn : FacesLoad news) (keep : ClassesKeep olds news)
    (apart : (c d : Class) → Mem c news → Mem d own → c.key ≡ d.key → ⊥) where
  abbrev ob : IsOrdered (news ++ own)
  ob = new_ordered olds news own fa.ordered fn.ordered keep apart

  pub faces_together : FacesLoad (news ++ own)
  faces_together =
      let big = exchange_grows olds news own fa.ordered fn.ordered keep apart in
      let small = prefix_grows news own ob in
      record {
        ordered = ob;
        parents = λ c m. elim (mem_split c news own m) [ inl a ↦ fn.parents c a | inr b ↦ fa.parents c (mem_right c olds own b) ];
        descend = λ c m. elim (mem_split c news own m) [
          | inl a ↦ s4_grows news (news ++ own) fn.ordered ob small c (fn.descend c a)
          | inr b ↦ s4_grows (olds ++ own) (news ++ own) fa.ordered ob big c (fa.descend c (mem_right c olds own b))
        ];
        types = λ c m. elim (mem_split c news own m) [
          | inl a ↦ s5_grows news (news ++ own) fn.ordered ob small c (fn.types c a)
          | inr b ↦ s5_grows (olds ++ own) (news ++ own) fa.ordered ob big c (fa.types c (mem_right c olds own b))
        ];
        names = λ c m. elim (mem_split c news own m) [ inl a ↦ fn.names c a | inr b ↦ fa.names c (mem_right c olds own b) ];
        variables = λ c m. elim (mem_split c news own m) [ inl a ↦ fn.variables c a | inr b ↦ fa.variables c (mem_right c olds own b) ];
        above = λ c name to m n. elim (mem_split c news own m) [
          | inl a ↦ proper_grows news (news ++ own) fn.ordered ob small c to (fn.above c name to a n)
          | inr b ↦ proper_grows (olds ++ own) (news ++ own) fa.ordered ob big c to (fa.above c name to (mem_right c olds own b) n)
        ];
        there = λ c name to m n. elim (mem_split c news own m) [
          | inl a ↦ small.entries to name (fn.there c name to a n)
          | inr b ↦ big.entries to name (fa.there c name to (mem_right c olds own b) n)
        ];
      }
