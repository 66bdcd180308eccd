-- Members of lists by their places, and lists of kinds that grow.
use Rattle.std.proofs.Common.{◌≡◌, ℕ, zero, suc, ◌+◌, ◌<◌, inl, inr, List, [], ◌∷◌, ◌++◌, length, take, get_or, slice_index_or, sym, ap, ◌∙◌, subst, arith}
use Rattle.std.proofs.lemmas.List.{take_more, map-append}
use Rattle.som_model.specs.declared.key.ValueType.{ValueType}
use Rattle.som_model.specs.Lists.{Mem}
use Rattle.som_model.specs.Class.{Class}
use Rattle.som_verify_forms.specs.declared.kind.Kind.{Kind}
use Rattle.som_verify_forms.specs.Kinds.{AreTypes, IsType, type_at}
use Rattle.som_verify_forms.specs.Scopes.{scope_at}
use Rattle.som_model_laws.proofs.Members.{mem_split}

pub item_mem : {A : Type 0} (xs : List A) (i : ℕ) (x : A) → i < length xs → x ≡ slice_index_or xs i x → Mem x xs
item_mem [] i x lt is = absurd (omega arith)
item_mem (y ∷ xs) zero x lt is = inl is
item_mem (y ∷ xs) (suc i) x lt is = inr (item_mem xs i x (omega arith) is)

-- ---- the kinds of types

pub no_types : (cs : List Class) → AreTypes cs []
no_types cs = record { by = λ k m. absurd m }

pub more_types : (cs : List Class) (kinds : List Kind) (k : Kind) → AreTypes cs kinds → IsType cs k → AreTypes cs (kinds ++ k ∷ [])
more_types cs kinds k types is = record {
  by = λ x m. elim (mem_split x kinds (k ∷ []) m) [
    | inl n ↦ types.by x n
    | inr n ↦ elim n [ inl same ↦ subst (IsType cs) (sym same) is | inr z ↦ absurd z ]
  ];
}

pub more_kinds : (cs : List Class) (kinds : List Kind) (k : Kind) (ts : List ValueType) (i : ℕ) (t : ValueType) → i < length ts → t ≡ get_or ts i t → type_at cs k ≡ t
    → scope_at cs kinds ≡ take i ts → scope_at cs (kinds ++ k ∷ []) ≡ take (i + 1) ts
more_kinds cs kinds k ts i t lt is kind so =
    map-append (type_at cs) kinds (k ∷ []) ∙ ap (λ z. z ++ type_at cs k ∷ []) so ∙ ap (λ z. take i ts ++ z ∷ []) (kind ∙ is) ∙ sym (take_more ts i t lt)
