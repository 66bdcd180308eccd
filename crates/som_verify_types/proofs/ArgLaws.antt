-- Arguments, one after the other.
use Rattle.std.proofs.Common.{◌≡◌, ℕ, suc, ◌<◌, List, [], ◌∷◌, ◌++◌, drop, map, length, slice_index_or, Ok, sym, ap, ◌∙◌, drop-cons}
use Rattle.std.proofs.lemmas.List.{map-append}
use Rattle.som_model.specs.declared.syntax.Expr.{Expr}
use Rattle.som_model.specs.Class.{Class}
use Rattle.som_model.specs.Typing.{Typed, value, values}
use Rattle.som_verify_forms.specs.declared.kind.Kind.{Kind}
use Rattle.som_verify_forms.specs.Kinds.{kind_at}
use Rattle.som_verify_forms.proofs.KindLaws.{after_those, values_more}

drop_at : (es : List Expr) (i : ℕ) (e : Expr) → i < length es → e ≡ slice_index_or es i e → drop i es ≡ e ∷ drop (suc i) es
drop_at es i e lt is = drop-cons es i e lt ∙ ap (λ z. z ∷ drop (suc i) es) (sym is)

map_more : (cs : List Class) (given : List Kind) (k : Kind) → map (kind_at cs) given ++ kind_at cs k ∷ [] ≡ map (kind_at cs) (given ++ k ∷ [])
map_more cs given k = sym (map-append (kind_at cs) given (k ∷ []))

module _ (cs : List Class) (typed : Expr → Typed) (es : List Expr) (given : List Kind) (i : ℕ) (before : values (map typed es) ≡ after_those (map (kind_at cs) given) (values (map typed (drop i es)))) where
  -- a further argument has a kind
  pub args_go_on : (j : ℕ) (e : Expr) (k : Kind) (more : List Kind) → j ≡ suc i → i < length es → e ≡ slice_index_or es i e → value (typed e) ≡ Ok (kind_at cs k) → more ≡ given ++ k ∷ []
      → values (map typed es) ≡ after_those (map (kind_at cs) more) (values (map typed (drop j es)))
  args_go_on j e k more next lt is t pushed =
      before
      ∙ ap (λ z. after_those (map (kind_at cs) given) (values (map typed z))) (drop_at es i e lt is)
      ∙ values_more (map (kind_at cs) given) (typed e) (kind_at cs k) (values (map typed (drop (suc i) es))) t
      ∙ ap (λ z. after_those z (values (map typed (drop (suc i) es)))) (map_more cs given k)
      ∙ ap (λ z. after_those (map (kind_at cs) z) (values (map typed (drop (suc i) es)))) (sym pushed)
      ∙ ap (λ z. after_those (map (kind_at cs) more) (values (map typed (drop z es)))) (sym next)
