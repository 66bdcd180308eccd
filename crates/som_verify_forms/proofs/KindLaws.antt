-- Kinds of locals and arguments, one after the other.
use Rattle.std.proofs.Common.{◌≡◌, ℕ, zero, suc, ◌<◌, ◌≤◌, inl, inr, List, [], ◌∷◌, ◌++◌, map, length, slice_get, slice_index_or, Ok, Err, refl, sym, ap, ◌∙◌, subst, append_assoc, arith}
use Rattle.som_model.specs.Lists.{Mem}
use Rattle.som_model.specs.Class.{Class}
use Rattle.som_model.specs.Steps.{◌>>=◌}
use Rattle.som_model.specs.Typing.{ExprType, Ruled, Typed, there, value}
use Rattle.som_verify_forms.specs.declared.kind.Kind.{Kind}
use Rattle.som_verify_forms.specs.Kinds.{AllStand, AreTypes, IsType, Stands, type_at}

-- where a part is there, the rest decides
pub part_there : {A B : Type 0} (x : Ruled A) (f : A → Ruled B) (a : A) → x ≡ Ok a → (x >>= f) ≡ f a
part_there x f a e = ap (λ z. z >>= f) e

-- ---- lists of parts

-- parts that are left, after those that have kinds
abbrev pub after_those : List ExprType → Ruled (List ExprType) → Ruled (List ExprType)
after_those seen rest = rest >>= λ ts. Ok (seen ++ ts)

pub values_more : (seen : List ExprType) (part : Typed) (t : ExprType) (rest : Ruled (List ExprType)) → value part ≡ Ok t
    → after_those seen (value part >>= λ t. rest >>= λ ts. Ok (t ∷ ts)) ≡ after_those (seen ++ t ∷ []) rest
values_more seen part t (Ok ts) e = ap (after_those seen) (part_there (value part) (λ t. Ok (t ∷ ts)) t e) ∙ ap (λ z. Ok z) (sym (append_assoc seen (t ∷ []) ts))
values_more seen part t (Err rule) e = ap (after_those seen) (part_there (value part) (λ t. Err rule) t e)

pub all_stand_more : (cs : List Class) (given : List Kind) (k : Kind) → AllStand cs given → Stands cs k → AllStand cs (given ++ k ∷ [])
all_stand_more cs given k all one = record { by = λ j m. each given all.by j m }
  where
    each : (given : List Kind) → ((j : Kind) → Mem j given → Stands cs j) → (j : Kind) → Mem j (given ++ k ∷ []) → Stands cs j
    each [] by j (inl e) = subst (λ z. Stands cs z) (sym e) one
    each [] by j (inr m) = absurd m
    each (x ∷ given) by j (inl e) = by j (inl e)
    each (x ∷ given) by j (inr m) = each given (λ i n. by i (inr n)) j m

pub index_mem : {A : Type 0} (xs : List A) (i : ℕ) (d : A) → i < length xs → Mem (slice_index_or xs i d) xs
index_mem [] i d lt = absurd (omega arith)
index_mem (x ∷ xs) zero d lt = inl refl
index_mem (x ∷ xs) (suc i) d lt = inr (index_mem xs i d (omega arith))

pub all_stand_at : (cs : List Class) (given : List Kind) (i : ℕ) (d : Kind) → AllStand cs given → i < length given → Stands cs (slice_index_or given i d)
all_stand_at cs given i d all lt = all.by (slice_index_or given i d) (index_mem given i d lt)

-- ---- locals

pub local_there : (cs : List Class) (scope : List Kind) (i : ℕ) (d : Kind) → i < length scope → there 16 (slice_get (map (type_at cs) scope) i) ≡ Ok (type_at cs (slice_index_or scope i d))
local_there cs [] i d lt = absurd (omega arith)
local_there cs (k ∷ scope) zero d lt = refl
local_there cs (k ∷ scope) (suc i) d lt = local_there cs scope i d (omega arith)

pub no_local : (cs : List Class) (scope : List Kind) (i : ℕ) → length scope ≤ i → there 16 (slice_get (map (type_at cs) scope) i) ≡ Err 16
no_local cs [] i le = refl
no_local cs (k ∷ scope) zero le = absurd (omega arith)
no_local cs (k ∷ scope) (suc i) le = no_local cs scope i (omega arith)

pub types_at : (cs : List Class) (scope : List Kind) (i : ℕ) (d : Kind) → AreTypes cs scope → i < length scope → IsType cs (slice_index_or scope i d)
types_at cs scope i d are lt = are.by (slice_index_or scope i d) (index_mem scope i d lt)
