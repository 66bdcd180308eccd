-- The slot of a name in a release order.
use Rattle.std.proofs.Common.{◌≡◌, ℕ, zero, suc, ◌+◌, Bool, true, false, if◌then◌else◌, List, [], ◌∷◌, map, Some, slice_get, refl, sym, ap, ◌∙◌, subst, arith}
use Rattle.std.specs.Str.{bytes_eq}
use Rattle.som_model.specs.declared.class.Entry.{Entry}
use Rattle.som_model.specs.Lists.{Mem, place_from}
use Rattle.som_model.specs.Class.{entry_name, entry_of}
use Rattle.som_model.proofs.KeyLaws.{exact_bytes}
use Rattle.som_model_laws.proofs.Lists.{get_mem, mem_map}
use Rattle.som_model_laws.proofs.Members.{Apart, not_true}

some_one : {A : Type 0} (x y : A) → Some x ≡ Some y → x ≡ y
some_one x y e = cc

-- where names differ, the slot of the name at a place is that place
pub slot_at : (n : ℕ) (x : List ℕ) (es : List Entry) (i : ℕ) → Apart (map entry_name es) → slice_get (map entry_name es) i ≡ Some x → place_from n (λ e. bytes_eq (entry_name e) x) es ≡ Some (i + n)
slot_at n x [] i o e = absurd (cc)
slot_at n x (y ∷ es) zero o e =
    let t : bytes_eq (entry_name y) x ≡ true = ap (bytes_eq (entry_name y)) (sym (some_one (entry_name y) x e)) ∙ exact_bytes.one (entry_name y) in
    let sum : n ≡ 0 + n = omega arith in
    rw t (ap (λ z. Some z) sum)
slot_at n x (y ∷ es) (suc i) o e =
    let other : bytes_eq (entry_name y) x ≡ false = not_true (bytes_eq (entry_name y) x) (λ t.
    o.0 (subst (λ z. Mem z (map entry_name es)) (sym (exact_bytes.two (entry_name y) x t)) (get_mem (map entry_name es) i x e))) in
    let sum : i + suc n ≡ suc i + n = omega arith in
    rw other (slot_at (suc n) x es i o.1 e ∙ ap (λ z. Some z) sum)

-- at its slot stands the name
pub record NamedAt (n : ℕ) (x : List ℕ) (es : List Entry) (i : ℕ) : Type 0 where
  pub place : ℕ
  pub counted : i ≡ place + n
  pub name : slice_get (map entry_name es) place ≡ Some x

named_by : (n i : ℕ) (x : List ℕ) (y : Entry) (es : List Entry) (b : Bool) → bytes_eq (entry_name y) x ≡ b → (place_from (suc n) (λ e. bytes_eq (entry_name e) x) es ≡ Some i → NamedAt (suc n) x es i)
    → (if b then Some n else place_from (suc n) (λ e. bytes_eq (entry_name e) x) es) ≡ Some i → NamedAt n x (y ∷ es) i
named_by n i x y es true t f e = let same = some_one n i e in record { place = 0; counted = omega (arith, same); name = ap (λ z. Some z) (exact_bytes.two (entry_name y) x t) }
named_by n i x y es false t f e = let r = f e in let is = r.counted in record { place = suc r.place; counted = omega (arith, is); name = r.name }

pub at_slot : (n : ℕ) (x : List ℕ) (es : List Entry) (i : ℕ) → place_from n (λ e. bytes_eq (entry_name e) x) es ≡ Some i → NamedAt n x es i
at_slot n x [] i e = absurd (cc)
at_slot n x (y ∷ es) i e = named_by n i x y es (bytes_eq (entry_name y) x) refl (at_slot (suc n) x es i) e

-- where names differ, the entry at a place is found by its name
pub entry_found : (es : List Entry) → Apart (map entry_name es) → (i : ℕ) (e : Entry) → slice_get es i ≡ Some e → entry_of es (entry_name e) ≡ Some e
entry_found [] o i e is = absurd (cc)
entry_found (x ∷ es) o zero e is =
    let same : x ≡ e = cc in
    let t : bytes_eq (entry_name x) (entry_name e) ≡ true = ap (λ z. bytes_eq (entry_name z) (entry_name e)) same ∙ exact_bytes.one (entry_name e) in
    rw t (ap (λ z. Some z) same)
entry_found (x ∷ es) o (suc i) e is =
    let other : bytes_eq (entry_name x) (entry_name e) ≡ false = not_true (bytes_eq (entry_name x) (entry_name e)) (λ t.
    o.0 (subst (λ z. Mem z (map entry_name es)) (sym (exact_bytes.two (entry_name x) (entry_name e) t)) (mem_map entry_name e es (get_mem es i e is)))) in
    rw other (entry_found es o.1 i e is)
