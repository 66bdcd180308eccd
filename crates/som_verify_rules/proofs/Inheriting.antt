-- Methods that come from proper ancestors, by places.
use Rattle.std.proofs.Common.{◌≡◌, ℕ, ◌<◌, ◌==◌, Bool, true, false, not, ◌&&◌, List, [], length, None, is_some, slice_index_or, refl, sym, ap, ◌∙◌, true≢false}
use Rattle.som_model.specs.Lists.{some}
use Rattle.som_model.specs.Keys.{same_key}
use Rattle.som_model.specs.Class.{Class, entry_of, introduced_sig}
use Rattle.som_model.specs.Classes.{is_a}
use Rattle.som_model.specs.Owner.{introduces}
use Rattle.som_model.specs.declared.key.ClassKey.{ClassKey}
use Rattle.som_verify_classes.specs.Places.{with_kernel, key_at, face_at, IsTable, Finds}
use Rattle.som_verify_classes.specs.Walk.{AreLists}
use Rattle.som_verify_classes.specs.Inherited.{inherits}
use Rattle.som_verify_classes.proofs.KeyLists.{alike}
use Rattle.som_verify_classes.proofs.Descending.{is_a_place, is_a_none}
use Rattle.som_verify_classes.proofs.Owners.{entry_there}

middle : (a b c : Bool) → b ≡ false → false ≡ ((a && b) && c)
middle true true c e = absurd (true≢false e)
middle true false c e = refl
middle false b c e = refl

first_false : (a b : Bool) → a ≡ false → a ≡ (a && b)
first_false true b e = absurd (true≢false e)
first_false false b e = refl

module _ (cs : List Class) (names : List (List ℕ)) (t : IsTable cs names) (all : List (List ℕ)) (lists : AreLists (with_kernel cs) all) where
  -- nothing comes from a class that isn't known
  pub from_nobody : (place limit : ℕ) (from : ClassKey) (name : List ℕ) → place < length (with_kernel cs) → limit ≡ length (with_kernel cs) → Finds limit (with_kernel cs) from None
      → false ≡ inherits (with_kernel cs) (key_at (with_kernel cs) place) from name
  from_nobody place limit from name lt e f = middle (not (same_key from (key_at (with_kernel cs) place))) _ (introduces (with_kernel cs) name from) (is_a_none (with_kernel cs) all lists place limit lt from e f)

  from_place : (place ancestor : ℕ) (name : List ℕ) → place < length (with_kernel cs) → ancestor < length (with_kernel cs)
      → ((not (ancestor == place) && some (λ a. ancestor == a) (slice_index_or all place [])) && is_some (introduced_sig (entry_of (face_at (with_kernel cs) ancestor).entries name)))
      ≡ inherits (with_kernel cs) (key_at (with_kernel cs) place) (key_at (with_kernel cs) ancestor) name
  from_place place ancestor name lp la =
      let own = is_some (introduced_sig (entry_of (face_at (with_kernel cs) ancestor).entries name)) in
      let k = key_at (with_kernel cs) in
      ap (λ b. (not b && some (λ a. ancestor == a) (slice_index_or all place [])) && own) (alike (with_kernel cs) lists.once ancestor place la lp (ancestor == place) (same_key (k ancestor) (k place)) refl refl)
      ∙ ap (λ b. (not (same_key (k ancestor) (k place)) && b) && own) (sym (is_a_place (with_kernel cs) all lists place ancestor lp la))
      ∙ ap (λ o. (not (same_key (k ancestor) (k place)) && is_a (with_kernel cs) (k place) (k ancestor)) && is_some (introduced_sig o)) (sym (entry_there cs names t ancestor name la))

  -- what comes from the class at another place
  pub inherited_is : (place ancestor : ℕ) (from : ClassKey) (name : List ℕ) (above own : Bool) → place < length (with_kernel cs) → ancestor < length (with_kernel cs) → key_at (with_kernel cs) ancestor ≡ from
      → above ≡ (not (ancestor == place) && some (λ a. ancestor == a) (slice_index_or all place []))
      → own ≡ is_some (introduced_sig (entry_of (face_at (with_kernel cs) ancestor).entries name))
      → (above && own) ≡ inherits (with_kernel cs) (key_at (with_kernel cs) place) from name
  inherited_is place ancestor from name above own lp la is e f =
      ap (λ b. b && own) e
      ∙ ap (λ b. (not (ancestor == place) && some (λ a. ancestor == a) (slice_index_or all place [])) && b) f
      ∙ from_place place ancestor name lp la
      ∙ ap (λ k. inherits (with_kernel cs) (key_at (with_kernel cs) place) k name) is

  pub not_above : (place ancestor : ℕ) (from : ClassKey) (name : List ℕ) (above : Bool) → place < length (with_kernel cs) → ancestor < length (with_kernel cs) → key_at (with_kernel cs) ancestor ≡ from
      → above ≡ (not (ancestor == place) && some (λ a. ancestor == a) (slice_index_or all place [])) → above ≡ false
      → above ≡ inherits (with_kernel cs) (key_at (with_kernel cs) place) from name
  not_above place ancestor from name above lp la is e no_ =
      first_false above (is_some (introduced_sig (entry_of (face_at (with_kernel cs) ancestor).entries name))) no_
      ∙ inherited_is place ancestor from name above (is_some (introduced_sig (entry_of (face_at (with_kernel cs) ancestor).entries name))) lp la is e refl
