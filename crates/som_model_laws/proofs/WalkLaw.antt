-- First occurrences by a list of what was seen.
use Rattle.std.proofs.Common.{◌≡◌, inl, inr, Bool, true, false, if◌then◌else◌, List, [], ◌∷◌, ◌++◌, refl, sym, ap, ◌∙◌, subst, append_assoc}
use Rattle.std.proofs.lemmas.List.{append-nil}
use Rattle.som_model.specs.Lists.{Mem, without, firsts, some}
use Rattle.som_model_laws.proofs.Members.{mem_left, mem_right, mem_split, some_mem, mem_some, Apart, firsts_apart}
use Rattle.som_model_laws.specs.Once.{add_new, adds}

choose_in : {A : Type 0} (b : Bool) (a x : A) (seen : List A) → Mem a seen → Mem a (if b then seen else seen ++ x ∷ [])
choose_in true a x seen m = m
choose_in false a x seen m = mem_left a seen _ m

pub adds_both : {A : Type 0} (same : A → A → Bool) (xs ys seen : List A) → adds same seen (xs ++ ys) ≡ adds same (adds same seen xs) ys
adds_both same [] ys seen = refl
adds_both same (x ∷ xs) ys seen = adds_both same xs ys (add_new same seen x)

module _ {A : Type 0} (same : A → A → Bool) (one : (x : A) → same x x ≡ true) (two : (x y : A) → same x y ≡ true → x ≡ y) where
  in_mem : (x : A) (seen : List A) → some (same x) seen ≡ true → Mem x seen
  in_mem x seen e = let r = some_mem (same x) seen e in subst (λ z. Mem z seen) (sym (two x r.0 r.2)) r.1

  mem_in : (x : A) (seen : List A) → Mem x seen → some (same x) seen ≡ true
  mem_in x seen m = mem_some (same x) x seen m (one x)

  new_in : (seen : List A) (x : A) (b : Bool) → some (same x) seen ≡ b → Mem x (if b then seen else seen ++ x ∷ [])
  new_in seen x true e = in_mem x seen e
  new_in seen x false e = mem_right x seen _ (inl refl)

  new_seen : (x : A) (seen : List A) → Mem x seen → add_new same seen x ≡ seen
  new_seen x seen m = let e = mem_in x seen m in rw e refl

  dropped : (b : Bool) (y : A) (zs seen : List A) → (b ≡ true → Mem y seen) → adds same seen (if b then zs else y ∷ zs) ≡ adds same (add_new same seen y) zs
  dropped true y zs seen f = ap (λ z. adds same z zs) (sym (new_seen y seen (f refl)))
  dropped false y zs seen f = refl

  adds_without : (x : A) (xs seen : List A) → Mem x seen → adds same seen (without (same x) xs) ≡ adds same seen xs
  adds_without x [] seen m = refl
  adds_without x (y ∷ ys) seen m =
      dropped (same x y) y (without (same x) ys) seen (λ e. subst (λ (z : A). Mem z seen) (two x y e) m)
      ∙ adds_without x ys (add_new same seen y) (choose_in (some (same y) seen) x y seen m)

  adds_firsts : (xs seen : List A) → adds same seen (firsts same xs) ≡ adds same seen xs
  adds_firsts [] seen = refl
  adds_firsts (x ∷ xs) seen = adds_without x (firsts same xs) (add_new same seen x) (new_in seen x (some (same x) seen) refl) ∙ adds_firsts xs (add_new same seen x)

  new_out : (b : Bool) (x : A) (seen : List A) → some (same x) seen ≡ b → (Mem x seen → ⊥) → (if b then seen else seen ++ x ∷ []) ≡ seen ++ x ∷ []
  new_out true x seen e f = absurd (f (in_mem x seen e))
  new_out false x seen e f = refl

  adds_apart : (xs seen : List A) → Apart xs → ((a : A) → Mem a xs → Mem a seen → ⊥) → adds same seen xs ≡ seen ++ xs
  adds_apart [] seen o f = sym (append-nil seen)
  adds_apart (x ∷ xs) seen o f =
      ap (λ z. adds same z xs) (new_out (some (same x) seen) x seen refl (f x (inl refl)))
      ∙ adds_apart xs (seen ++ x ∷ []) o.1 (λ a m n. elim (mem_split a seen (x ∷ []) n) [
        | inl k ↦ f a (inr m) k
        | inr k ↦ elim k [ inl e ↦ o.0 (subst (λ (z : A). Mem z xs) e m) | inr z ↦ z ]
      ])
      ∙ append_assoc seen (x ∷ []) xs

  -- first occurrences, by a list of what was seen
  pub firsts_adds : (xs : List A) → firsts same xs ≡ adds same [] xs
  firsts_adds xs = sym (adds_apart (firsts same xs) [] (firsts_apart same one xs) (λ a m n. n)) ∙ adds_firsts xs []
