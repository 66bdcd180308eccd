-- Overrides and then selects.
use Rattle.std.proofs.Common.{◌≡◌, ℕ, zero, suc, ◌<◌, inl, inr, List, [], ◌∷◌, ◌++◌, length, slice_index_or, None, Result, Err, refl, sym, ap, ◌∙◌, subst, arith}
use Rattle.som_model.specs.Lists.{Mem, first}
use Rattle.som_model.specs.Class.{Class}
use Rattle.som_model.specs.declared.key.ClassKey.{ClassKey}
use Rattle.som_model.specs.declared.key.MethodRef.{MethodRef}
use Rattle.som_verify_classes.specs.declared.types.VerifyFault.{VerifyFault}
use Rattle.som_verify_classes.specs.Told.{Tells}
use Rattle.som_verify_classes.specs.Inherited.{overridden, overrides_from, replaced_from, selects_from}
use Rattle.som_verify_classes.proofs.Conformity.{tells_here, tells_later}
use Rattle.som_verify_classes.proofs.Passes.{first_both}

-- a breach of the overrides is that of both
pub overrides_tell : (cs : List Class) (k : ClassKey) (c : Class) (none : List MethodRef) (e : VerifyFault) → none ≡ [] → Tells {A = Unit {0}} (first (overrides_from cs k c none c.decl.overrides)) (Err e)
    → Tells {A = Unit {0}} (first (replaced_from cs k c)) (Err e)
overrides_tell cs k c none e is t =
    let xs = overrides_from cs k c [] c.decl.overrides in
    let ys = selects_from cs k c (overridden cs c.decl.overrides) c.decl.selects in
    subst (λ o. Tells {A = Unit {0}} o (Err e)) (sym (first_both xs ys))
    (tells_here (first xs) (first ys) e (subst (λ z. Tells {A = Unit {0}} (first (overrides_from cs k c z c.decl.overrides)) (Err e)) is t))

-- where the overrides stand, what is told of the selects is told of both
pub selects_tell : (cs : List Class) (k : ClassKey) (c : Class) (none before : List MethodRef) (r : Result (Unit {0}) VerifyFault) → none ≡ []
    → first (overrides_from cs k c none c.decl.overrides) ≡ None → before ≡ none ++ overridden cs c.decl.overrides
    → Tells (first (selects_from cs k c before c.decl.selects)) r → Tells (first (replaced_from cs k c)) r
selects_tell cs k c none before r is stand owners t =
    let xs = overrides_from cs k c [] c.decl.overrides in
    let ys = selects_from cs k c (overridden cs c.decl.overrides) c.decl.selects in
    subst (λ o. Tells o r) (sym (first_both xs ys))
    (tells_later (first xs) (first ys) r (ap (λ z. first (overrides_from cs k c z c.decl.overrides)) (sym is) ∙ stand)
    (subst (λ z. Tells (first (selects_from cs k c z c.decl.selects)) r) (owners ∙ ap (λ z. z ++ overridden cs c.decl.overrides) is) t))

-- what stands at a place is a member
pub index_mem : {A : Type 0} (xs : List A) (i : ℕ) (d : A) → i < length xs → Mem (slice_index_or xs i d) xs
index_mem [] i d lt = absurd (omega arith)
index_mem (x ∷ xs) zero d lt = inl refl
index_mem (x ∷ xs) (suc i) d lt = inr (index_mem xs i d (omega arith))
