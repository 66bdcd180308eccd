-- What items and modifiers say, and what they don't.
use Rattle.std.proofs.Common.{◌≡◌, ℕ, Bool, true, false, if◌then◌else◌, List, [], ◌∷◌, ◌++◌, refl, ap}
use Rattle.som_model.specs.Lists.{among, without}
use Rattle.som_ast.specs.declared.words.Word.{Word}
use Rattle.som_ast.specs.declared.interface.Item.{Item}
use Rattle.som_ast.specs.declared.interface.Item.TheVariants as items
use Rattle.som_ast.specs.declared.interface.Modifier.{Modifier}
use Rattle.som_ast.specs.declared.interface.Modifier.TheVariants as modifiers
use Rattle.som_sema_drafts.specs.Items.{Given, chosen_in, is_by_name, is_override, is_select, listed_in, with_modifier}

pub not_listed : (i : Item) → ((ws : List Word) → i ≡ items.ReleaseOrder ws → ⊥) → listed_in i ≡ []
not_listed (items.ReleaseOrder ws) f = absurd (f ws refl)
not_listed _ f = refl

pub not_by_name : (m : Modifier) → (m ≡ modifiers.NameLookup → ⊥) → is_by_name m ≡ false
not_by_name modifiers.NameLookup f = absurd (f refl)
not_by_name _ f = refl

pub not_override : (m : Modifier) → (m ≡ modifiers.Override → ⊥) → is_override m ≡ false
not_override modifiers.Override f = absurd (f refl)
not_override _ f = refl

pub not_select : (m : Modifier) → ((parent : Word) → m ≡ modifiers.Select parent → ⊥) → is_select m ≡ false
not_select (modifiers.Select parent) f = absurd (f parent refl)
not_select _ f = refl

pub not_chosen : (method : List ℕ) (m : Modifier) → ((parent : Word) → m ≡ modifiers.Select parent → ⊥) → chosen_in method m ≡ []
not_chosen method (modifiers.Select parent) f = absurd (f parent refl)
not_chosen method modifiers.Override f = refl
not_chosen method modifiers.NameLookup f = refl
not_chosen method modifiers.Offset f = refl

pub given_once : (test : Modifier → Bool) (g : Given) (gs : List Given) → test g.modifier ≡ true → with_modifier test (g ∷ gs) ≡ g.method ∷ [] ++ with_modifier test gs
given_once test g gs e = ap (λ (b : Bool). (if b then g.method ∷ [] else []) ++ with_modifier test gs) e

pub given_not : (test : Modifier → Bool) (g : Given) (gs : List Given) → test g.modifier ≡ false → with_modifier test (g ∷ gs) ≡ with_modifier test gs
given_not test g gs e = ap (λ (b : Bool). (if b then g.method ∷ [] else []) ++ with_modifier test gs) e

-- names that are not among others

pub without_kept : (known : List (List ℕ)) (x : List ℕ) (names : List (List ℕ)) → among x known ≡ false → without (λ name. among name known) (x ∷ names) ≡ x ∷ [] ++ without (λ name. among name known) names
without_kept known x names e = ap (λ (b : Bool). if b then without (λ name. among name known) names else x ∷ without (λ name. among name known) names) e

pub without_left : (known : List (List ℕ)) (x : List ℕ) (names : List (List ℕ)) → among x known ≡ true → without (λ name. among name known) (x ∷ names) ≡ without (λ name. among name known) names
without_left known x names e = ap (λ (b : Bool). if b then without (λ name. among name known) names else x ∷ without (λ name. among name known) names) e
