-- One class more among those that are asked.
use Rattle.std.proofs.Common.{◌≡◌, ℕ, Bool, true, false, cond, ◌&&◌, ◌||◌, List, [], ◌∷◌, ◌++◌, map, filter, sym, ap, ◌∙◌, append-nil}
use Rattle.std.proofs.lemmas.List.{map-append}
use Rattle.std.proofs.lemmas.List.Elements.{filter-append}
use Rattle.som_model.specs.declared.key.ClassKey.{ClassKey}

module _ (key : ℕ → ClassKey) (test : ClassKey → Bool) (done hooks : List ℕ) (x : ℕ) (so_far : map key hooks ≡ filter test (map key done)) where
  all_is : (b : Bool) → test (key x) ≡ b → filter test (map key (done ++ x ∷ [])) ≡ filter test (map key done) ++ cond b (key x ∷ []) []
  all_is b is = ap (filter test) (map-append key done (x ∷ [])) ∙ filter-append test (map key done) (key x ∷ []) ∙ ap (λ t. filter test (map key done) ++ cond t (key x ∷ []) []) is

  pub one_more : test (key x) ≡ true → map key (hooks ++ x ∷ []) ≡ filter test (map key (done ++ x ∷ []))
  one_more is = map-append key hooks (x ∷ []) ∙ ap (λ l. l ++ key x ∷ []) so_far ∙ sym (all_is true is)

  pub no_more : test (key x) ≡ false → map key hooks ≡ filter test (map key (done ++ x ∷ []))
  no_more is = so_far ∙ sym (all_is false is ∙ append-nil (filter test (map key done)))

-- what the test on one class answers
pub hook_before : (a b d r : Bool) → a ≡ true → b ≡ true → r ≡ b → r ≡ (a && (b || d))
hook_before a b d r e is same = rw (e, is) (same ∙ is)

pub hook_after : (a b d r : Bool) → a ≡ true → b ≡ false → r ≡ d → r ≡ (a && (b || d))
hook_after a b d r e is same = rw (e, is) same

pub no_hook : (a b d r : Bool) → a ≡ false → r ≡ a → r ≡ (a && (b || d))
no_hook a b d r e same = rw e (same ∙ e)
