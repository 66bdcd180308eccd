-- The readers of words, names, hosts and types read their languages.
use Rattle.std.proofs.Common.{◌≡◌, ℕ, List, [], ◌∷◌, Bool, true, false, cond, Option, Some, None, refl, subst}
use Rattle.std.proofs.lemmas.List.{append-nil}
use Rattle.som_model.specs.declared.syntax.HostCode.{HostCode}
use Rattle.som_model.specs.declared.syntax.HostCode.TheVariants as host
use Rattle.som_parse.specs.Languages.{Listed}
use Rattle.som_parse.specs.Readers.{listed}
use Rattle.som_parse.specs.Tokens.{word}
use Rattle.som_parse.specs.declared.token.Key.{Key}
use Rattle.som_parse.specs.declared.token.Key.TheVariants as key
use Rattle.som_parse.specs.declared.token.Token.{Token}
use Rattle.som_parse.specs.declared.token.Token.TheVariants as token
use Rattle.som_ast.specs.declared.words.Word.{Word}
use Rattle.som_parse.proofs.Laws.{Lawful, wider, bind_law, pure_law}
use Rattle.som_parse.proofs.Repetition.{listed_law}
use Rattle.som_parse.proofs.Steps.{IsTaken, it_is_taken, take_word_law, after_key}
use Rattle.som_body.specs.Grammar as g
use Rattle.som_body.specs.Reading as r

taken_host : {u : List Token} {c : HostCode} (text_at : ℕ → List ℕ) → IsTaken (r.hosted text_at) u c → g.IsHost text_at u c
taken_host text_at (it_is_taken k p e) = g.a_host k p e

module _ (text_at : ℕ → List ℕ) where
  worded_by : (k : Key) (p : ℕ) (a : Word) → ◌≡◌ {A = Option Word} (Some (word text_at p)) (Some a) → g.IsWord text_at (token.Word k p ∷ []) a
  worded_by k p a same = let s : word text_at p ≡ a = cc in subst (λ y. g.IsWord text_at (token.Word k p ∷ []) y) s (g.a_word k p)

  taken_word : {u : List Token} {a : Word} → IsTaken (r.worded text_at) u a → g.IsWord text_at u a
  taken_word (it_is_taken k p {a = a} e) = worded_by k p a e

  pub any_word_law : Lawful (g.IsWord text_at) (r.any_word text_at)
  unfolding r.any_word
  any_word_law = wider (IsTaken (r.worded text_at)) (g.IsWord text_at) _ (λ u a h. taken_word h)
      (take_word_law (r.worded text_at) (record { tokens = token.Word key.Plain 0 ∷ []; value = word text_at 0; reads = it_is_taken key.Plain 0 refl }))

  named_by : (b : Bool) (k : Key) (p : ℕ) (a : Word) → g.is_name k ≡ b → ◌≡◌ {A = Option Word} (cond b (Some (word text_at p)) None) (Some a) → g.IsName text_at (token.Word k p ∷ []) a
  named_by true k p a e same = let s : word text_at p ≡ a = cc in subst (λ y. g.IsName text_at (token.Word k p ∷ []) y) s (g.a_name k p e)
  named_by false k p a e same = cc

  taken_name : {u : List Token} {a : Word} → IsTaken (r.named text_at) u a → g.IsName text_at u a
  taken_name (it_is_taken k p {a = a} e) = named_by (g.is_name k) k p a refl e

  pub name_law : Lawful (g.IsName text_at) (r.name text_at)
  unfolding r.name
  name_law = wider (IsTaken (r.named text_at)) (g.IsName text_at) _ (λ u a h. taken_name h)
      (take_word_law (r.named text_at) (record { tokens = token.Word key.Plain 0 ∷ []; value = word text_at 0; reads = it_is_taken key.Plain 0 refl }))

  pub names_law : Lawful (Listed (g.IsName text_at)) (listed (r.name text_at))
  names_law = listed_law (g.IsName text_at) (r.name text_at) name_law

  pub host_law : Lawful (g.IsHost text_at) (r.host text_at)
  unfolding r.host
  host_law = wider (IsTaken (r.hosted text_at)) (g.IsHost text_at) _ (λ u c h. taken_host text_at h)
      (take_word_law (r.hosted text_at) (record { tokens = token.Word key.Min 0 ∷ []; value = host.Min; reads = it_is_taken key.Min 0 refl }))

  pub kind_law : Lawful (g.IsType text_at) (r.kind text_at)
  unfolding r.kind
  kind_law = after_key (g.IsType text_at) _ _ key.Long (λ x. pure_law _ _ g.type_long)
      (after_key (g.IsType text_at) _ _ key.Boolean (λ x. pure_law _ _ g.type_boolean)
      (after_key (g.IsType text_at) _ _ key.Str (λ x. pure_law _ _ g.type_string)
      (bind_law (g.IsName text_at) (g.IsType text_at) _ _ name_law (λ u n h. pure_law _ _ (rw append-nil (g.type_class h))))))

  pub outcome_law : Lawful (g.IsResult text_at) (r.outcome text_at)
  unfolding r.outcome
  outcome_law = after_key (g.IsResult text_at) _ _ key.Void (λ x. pure_law _ _ g.result_void)
      (bind_law (g.IsType text_at) (g.IsResult text_at) _ _ kind_law (λ u t h. pure_law _ _ (rw append-nil (g.result_type h))))
