-- Whether a method is inherited, by places.
use Rattle.std.proofs.lemmas.Bool.{eqb-true, eqb-false}
use Rattle.std.proofs.Common.{◌≡◌, ℕ, ◌<◌, ◌==◌, Bool, true, false, not, ◌&&◌, List, [], length, slice_index_or, Result, Ok, Err, refl, sym, ap, ◌∙◌, subst}
use Rattle.std.specs.Prelude.{IfOk, unwrap_or}
use Rattle.som_model.specs.declared.memory.NoMemory.{NoMemory}
use Rattle.som_model.specs.declared.key.ClassKey.{ClassKey}
use Rattle.som_model.specs.Keys.{same_key}
use Rattle.som_model.specs.Class.{Class}
use Rattle.som_model.specs.Classes.{is_a}
use Rattle.som_verify_classes.specs.Places.{key_at, with_kernel}
use Rattle.som_verify_classes.specs.Walk.{AreLists}
use Rattle.som_verify_classes.proofs.KeyLists.{alike}
use Rattle.som_sema_names.specs.Introducers.{first_introducer}
use Rattle.som_sema_names.specs.Ranking.{IsRanking}
use Rattle.som_sema_names.specs.declared.ranking.Ranking.{Ranking}
use Rattle.som_sema_decls.specs.Finished.{introducer}
use Rattle.som_sema.specs.TextRules.{is_inherited}
use Rattle.som_sema.specs.Ancestry.{Inherits}
use Rattle.som_sema.specs.declared.ancestry.AncestorTable.{AncestorTable}
use Rattle.som_sema.proofs.Composing.{table_lists}
use Rattle.som_sema_decls.proofs.Introducers.{introducer_is, introducer_low}

module _ (cs : List Class) (w : AncestorTable) (place : ℕ) (above : Ranking) (h : Inherits cs w place above) (name : List ℕ) where
  lists : AreLists (with_kernel cs) w.lists.items
  lists = table_lists cs w w.lists.items h.ancestors refl

  abbrev at : ℕ
  at = unwrap_or (first_introducer (with_kernel cs) (slice_index_or w.lists.items place []) name) place

  pub at_low : at < length (with_kernel cs)
  at_low = introducer_low (with_kernel cs) w.lists.items lists place name h.there

  pub at_is : introducer (with_kernel cs) (key_at (with_kernel cs) place) name ≡ key_at (with_kernel cs) at
  at_is = introducer_is (with_kernel cs) w.lists.items lists place name h.there

  -- a method is inherited where its introducer stands at another place
  pub other_place : (n : ℕ) → n ≡ at → not (n == place) ≡ is_inherited (with_kernel cs) (key_at (with_kernel cs) place) name
  other_place n e =
      ap (λ k. not (k == place)) e
      ∙ ap not (alike (with_kernel cs) lists.once at place at_low h.there (at == place) (same_key (key_at (with_kernel cs) at) (key_at (with_kernel cs) place)) refl refl)
      ∙ ap (λ k. not (same_key k (key_at (with_kernel cs) place))) (sym at_is)

  one_by : (b c : Bool) → b ≡ true → c ≡ (b && c)
  one_by true c e = refl
  one_by false c e = cc

  none_by : (b c : Bool) → b ≡ false → false ≡ (b && c)
  none_by true c e = cc
  none_by false c e = refl

  is_none : (b : Bool) → b ≡ true → not b ≡ false
  is_none true e = refl
  is_none false e = cc

  is_some : (b : Bool) → b ≡ false → not b ≡ true
  is_some true e = cc
  is_some false e = refl

  abbrev Descends : (ClassKey → ClassKey → Bool) → ClassKey → Bool
  Descends is k = is_inherited (with_kernel cs) (key_at (with_kernel cs) place) name && is k (introducer (with_kernel cs) (key_at (with_kernel cs) place) name)

  same_test : (n : ℕ) (b : Bool) → (n == place) ≡ b → n ≡ place → b ≡ true
  same_test n true e is = refl
  same_test n false e is = absurd (eqb-false n place e is)

  other_test : (n : ℕ) (b : Bool) → (n == place) ≡ b → (n ≡ place → ⊥) → b ≡ false
  other_test n true e other = absurd (other (eqb-true n place e))
  other_test n false e other = refl

  -- nothing is taken where the class itself stands
  pub not_taken : (n : ℕ) (k : ClassKey) → n ≡ at → n ≡ place → false ≡ Descends (is_a (with_kernel cs)) k
  not_taken n k e t = none_by (is_inherited (with_kernel cs) (key_at (with_kernel cs) place) name) _ (sym (other_place n e) ∙ is_none (n == place) (same_test n (n == place) refl t))

  taken : (n : ℕ) (k : ClassKey) → n ≡ at → (n ≡ place → ⊥) → is_a (with_kernel cs) k (key_at (with_kernel cs) n) ≡ Descends (is_a (with_kernel cs)) k
  taken n k e f =
      ap (is_a (with_kernel cs) k) (ap (key_at (with_kernel cs)) e ∙ sym at_is)
      ∙ one_by (is_inherited (with_kernel cs) (key_at (with_kernel cs) place) name) _ (sym (other_place n e) ∙ is_some (n == place) (other_test n (n == place) refl f))

  pub taken_so : (r : Result Bool NoMemory) (n : ℕ) (k : ClassKey) → n ≡ at → (n ≡ place → ⊥) → IfOk r (λ b. b ≡ is_a (with_kernel cs) k (key_at (with_kernel cs) n)) → IfOk r (λ b. b ≡ Descends (is_a (with_kernel cs)) k)
  taken_so (Ok b) n k e f t = t ∙ taken n k e f
  taken_so (Err x) n k e f t = t

-- the ranks of the ancestors of a class
pub along_known : (cs : List Class) (w : AncestorTable) (place : ℕ) (lists : List (List ℕ)) (r : Ranking) → lists ≡ w.lists.items
    → IsRanking (with_kernel cs) (slice_index_or lists place []) r → IsRanking (with_kernel cs) (slice_index_or w.lists.items place []) r
along_known cs w place lists r e h = subst (λ (z : List (List ℕ)). IsRanking (with_kernel cs) (slice_index_or z place []) r) e h
