-- Descent by places.
use Rattle.std.proofs.Common.{◌≡◌, ℕ, ◌<◌, ◌==◌, inl, inr, Bool, true, false, if◌then◌else◌, List, [], ◌∷◌, length, map, None, slice_index_or, refl, sym, ap, ◌∙◌}
use Rattle.som_model.specs.Lists.{Mem, some}
use Rattle.som_model.specs.Keys.{same_key}
use Rattle.som_model.specs.Ancestors.{anc}
use Rattle.som_model.specs.Classes.{hierarchy, is_a}
use Rattle.som_model.specs.declared.key.ClassKey.{ClassKey}
use Rattle.som_model.specs.Class.{Class}
use Rattle.som_model.proofs.KeyLaws.{exact_keys}
use Rattle.som_model.proofs.NamedLaws.{hierarchy_same}
use Rattle.som_model_laws.proofs.Members.{some_on, not_true}
use Rattle.som_verify_classes.specs.Places.{key_at, Finds}
use Rattle.som_verify_classes.specs.Walk.{AreLists}
use Rattle.som_verify_classes.proofs.KeyLists.{alike}

module _ (cs : List Class) (all : List (List ℕ)) (lists : AreLists cs all) where
  -- a place is on a list where its key is among the list's keys
  on_list : (a : ℕ) → a < length cs → (list : List ℕ) → ((b : ℕ) → Mem b list → b < length cs) → some (λ b. a == b) list ≡ some (same_key (key_at cs a)) (map (key_at cs) list)
  on_list a la [] low = refl
  on_list a la (b ∷ list) low =
      ap (λ (z : Bool). if z then true else some (λ b. a == b) list) (alike cs lists.once a b la (low b (inl refl)) (a == b) (same_key (key_at cs a) (key_at cs b)) refl refl)
      ∙ ap (λ (z : Bool). if same_key (key_at cs a) (key_at cs b) then true else z) (on_list a la list (λ c m. low c (inr m)))

  -- a key that no class has isn't among the list's keys
  off_list : (k : ClassKey) → ((p : ℕ) → p < length cs → key_at cs p ≡ k → ⊥) → (list : List ℕ) → ((b : ℕ) → Mem b list → b < length cs) → some (same_key k) (map (key_at cs) list) ≡ false
  off_list k f [] low = refl
  off_list k f (b ∷ list) low =
      ap (λ (z : Bool). if z then true else some (same_key k) (map (key_at cs) list)) (not_true (same_key k (key_at cs b)) (λ e. f b (low b (inl refl)) (sym (exact_keys.two k (key_at cs b) e))))
      ∙ off_list k f list (λ c m. low c (inr m))

  by_list : (x : ℕ) → x < length cs → (k : ClassKey) → is_a cs (key_at cs x) k ≡ some (same_key k) (map (key_at cs) (slice_index_or all x []))
  by_list x lx k =
      some_on ((hierarchy cs).same k) (same_key k) (anc (hierarchy cs) (key_at cs x)) (λ b m. hierarchy_same cs k b)
      ∙ ap (some (same_key k)) (sym (lists.by x lx))

  -- a class descends from another where its list has the other's place
  pub is_a_place : (x a : ℕ) → x < length cs → a < length cs → is_a cs (key_at cs x) (key_at cs a) ≡ some (λ b. a == b) (slice_index_or all x [])
  is_a_place x a lx la = by_list x lx (key_at cs a) ∙ sym (on_list a la (slice_index_or all x []) (lists.low x))

  -- and from no class that isn't known
  pub is_a_none : (x limit : ℕ) → x < length cs → (k : ClassKey) → limit ≡ length cs → Finds limit cs k None → is_a cs (key_at cs x) k ≡ false
  is_a_none x limit lx k e f = by_list x lx k ∙ off_list k (λ p lt same. f p (rw e lt) lt same) (slice_index_or all x []) (lists.low x)
