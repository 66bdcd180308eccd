-- One class more among those whose methods are forwarded.
use Rattle.std.proofs.Common.{◌≡◌, ℕ, Bool, true, false, if◌then◌else◌, List, [], ◌∷◌, ◌++◌, map, sym, ap, ◌∙◌, append-nil}
use Rattle.std.specs.List.{flat_map}
use Rattle.std.proofs.lemmas.List.{map-append}
use Rattle.std.proofs.lemmas.Grind.{flat_map-append}
use Rattle.som_model.specs.declared.key.MethodRef.{MethodRef}
use Rattle.som_model.specs.Implementation.{is_kernel}
use Rattle.som_meta.specs.Numbering.{Numbering, key_at, names_of, method_at, tokens_of}
use Rattle.som_meta.proofs.Tokens.{methods_are}
use Rattle.som_proxy.specs.Forwards.{forwards_of}

module _ (k : Numbering) (done : List ℕ) (tokens : List (ℕ × ℕ)) (n : ℕ) (so_far : map (method_at k) tokens ≡ flat_map (forwards_of k.classes) (map (key_at k) done)) where
  abbrev own : List MethodRef
  own = map (λ name. record { class = key_at k n; name = name }) (names_of k n)

  all_is : (b : Bool) → is_kernel (key_at k n) ≡ b → flat_map (forwards_of k.classes) (map (key_at k) (done ++ n ∷ [])) ≡ flat_map (forwards_of k.classes) (map (key_at k) done) ++ (if b then [] else own)
  all_is b is = ap (flat_map (forwards_of k.classes)) (map-append (key_at k) done (n ∷ []))
      ∙ flat_map-append (forwards_of k.classes) (map (key_at k) done) (key_at k n ∷ [])
      ∙ ap (λ l. flat_map (forwards_of k.classes) (map (key_at k) done) ++ l) (append-nil (forwards_of k.classes (key_at k n)) ∙ ap (λ t. if t then [] else own) is)

  pub some_more : is_kernel (key_at k n) ≡ false → map (method_at k) (tokens ++ tokens_of k n) ≡ flat_map (forwards_of k.classes) (map (key_at k) (done ++ n ∷ []))
  some_more is = map-append (method_at k) tokens (tokens_of k n) ∙ ap (λ l. l ++ map (method_at k) (tokens_of k n)) so_far
      ∙ ap (λ l. flat_map (forwards_of k.classes) (map (key_at k) done) ++ l) (methods_are k n) ∙ sym (all_is false is)

  pub no_more : is_kernel (key_at k n) ≡ true → map (method_at k) tokens ≡ flat_map (forwards_of k.classes) (map (key_at k) (done ++ n ∷ []))
  no_more is = so_far ∙ sym (all_is true is ∙ append-nil (flat_map (forwards_of k.classes) (map (key_at k) done)))
