-- Slots in orders that go on.
use Rattle.std.proofs.Common.{◌≡◌, ℕ, suc, Bool, true, false, if◌then◌else◌, List, [], ◌∷◌, map, Option, Some, None, slice_get, refl, sym, ap, ◌∙◌}
use Rattle.std.specs.Str.{bytes_eq}
use Rattle.som_model.specs.declared.class.Entry.{Entry}
use Rattle.som_model.specs.Lists.{place_from}
use Rattle.som_model.specs.Class.{entry_name, entry_of}

none_some : {A : Type 0} (x : A) (o : Option A) → o ≡ None → o ≡ Some x → ⊥
none_some x o e f = cc

one_some : {A : Type 0} (x y : A) (o : Option A) → o ≡ Some x → o ≡ Some y → x ≡ y
one_some x y o e f = cc

-- the place of the first that passes, in a list whose names go on as those of another
place_by : (b c : Bool) (n i : ℕ) (more rest : Option ℕ) → c ≡ b → (more ≡ Some i → rest ≡ Some i) → (if b then Some n else more) ≡ Some i → (if c then Some n else rest) ≡ Some i
place_by true c n i more rest same f e = ap (λ z. if z then Some n else rest) same ∙ e
place_by false c n i more rest same f e = ap (λ z. if z then Some n else rest) same ∙ f e

abbrev Goes : List (List ℕ) → List (List ℕ) → Type 0
Goes xs ys = (j : ℕ) (x : List ℕ) → slice_get xs j ≡ Some x → slice_get ys j ≡ Some x

place_goes : (name : List ℕ) (n i : ℕ) (xs ys : List (List ℕ)) → Goes xs ys → place_from n (λ x. bytes_eq x name) xs ≡ Some i → place_from n (λ x. bytes_eq x name) ys ≡ Some i
place_goes name n i [] ys f e = absurd (none_some i None refl e)
place_goes name n i (x ∷ xs) [] f e = absurd (none_some x None refl (f 0 x refl))
place_goes name n i (x ∷ xs) (y ∷ ys) f e =
    place_by (bytes_eq x name) (bytes_eq y name) n i (place_from (suc n) (λ x. bytes_eq x name) xs) (place_from (suc n) (λ x. bytes_eq x name) ys)
    (ap (λ z. bytes_eq z name) (one_some y x (Some y) refl (f 0 x refl)))
    (place_goes name (suc n) i xs ys (λ j z g. f (suc j) z g)) e

place_map : (name : List ℕ) (n : ℕ) (es : List Entry) → place_from n (λ e. bytes_eq (entry_name e) name) es ≡ place_from n (λ x. bytes_eq x name) (map entry_name es)
place_map name n [] = refl
place_map name n (e ∷ es) = ap (λ (o : Option ℕ). if bytes_eq (entry_name e) name then Some n else o) (place_map name (suc n) es)

-- a slot in an order that goes on is the same slot
pub same_slot : (name : List ℕ) (n i : ℕ) (es fs : List Entry) → ((j : ℕ) (x : List ℕ) → slice_get (map entry_name es) j ≡ Some x → slice_get (map entry_name fs) j ≡ Some x)
    → place_from n (λ e. bytes_eq (entry_name e) name) es ≡ Some i → place_from n (λ e. bytes_eq (entry_name e) name) fs ≡ Some i
same_slot name n i es fs f e = place_map name n fs ∙ place_goes name n i (map entry_name es) (map entry_name fs) f (sym (place_map name n es) ∙ e)

there_by : (b : Bool) (n : ℕ) (x e : Entry) (o : Option Entry) (rest : Option ℕ) → (if b then Some x else o) ≡ Some e → (o ≡ Some e → (i : ℕ) × (rest ≡ Some i)) → (i : ℕ) × ((if b then Some n else rest) ≡ Some i)
there_by true n x e o rest f again = (n, refl)
there_by false n x e o rest f again = again f

-- an entry has a slot
pub slot_there : (name : List ℕ) (n : ℕ) (es : List Entry) (e : Entry) → entry_of es name ≡ Some e → (i : ℕ) × (place_from n (λ e. bytes_eq (entry_name e) name) es ≡ Some i)
slot_there name n [] e f = absurd (none_some e None refl f)
slot_there name n (x ∷ es) e f = there_by (bytes_eq (entry_name x) name) n x e (entry_of es name) (place_from (suc n) (λ e. bytes_eq (entry_name e) name) es) f (slot_there name (suc n) es e)
