-- Whether a made class has a number, and the numbering where it has one.
use Rattle.std.proofs.Common.{◌≡◌, ◌≢◌, ℕ, ◌≤◌, true, false, List, [], ◌∷◌, ◌++◌, length, map, Option, Some, None, refl, sym, ap, ◌∙◌, subst, arith}
use Rattle.std.specs.Option.{IfNone, IfSome}
use Rattle.som_model.specs.declared.key.ClassKey.{ClassKey}
use Rattle.som_model.specs.Lists.{Mem, some}
use Rattle.som_model.specs.Keys.{same_key}
use Rattle.som_model.specs.Class.{Class}
use Rattle.som_model.proofs.KeyLaws.{exact_keys}
use Rattle.som_model_laws.proofs.Members.{mem_some, not_true, some_mem}
use Rattle.som_meta.specs.Numbering.{IsNumbered, Numbering, key_at}
use Rattle.som_class_ids.specs.declared.position.Kind.{Kind}
use Rattle.som_class_ids.specs.declared.position.Kind.TheVariants as kinds
use Rattle.som_class_ids.specs.declared.position.Position.{Position}
use Rattle.som_class_ids.specs.Positions.{IsMade}
use Rattle.som_class_ids.specs.Numbers.{IsNumbers, at, keys_by, made_key, with_key}
use Rattle.som_class_ids.proofs.Declaring.{at_mem, mem_at}
use Rattle.som_class_ids.proofs.Numbered.{get_within}
use Rattle.som_class_ids.proofs.Adding.{fresh}

-- a class that has a number keeps it
pub with_same : (k : Numbering) (key : ClassKey) (n : ℕ) → IsNumbered k n → key_at k n ≡ key → k ≡ with_key k key
unfolding with_key
with_same k key n lt e =
    let m : Mem key k.keys = subst (λ z. Mem z k.keys) e (at_mem k.keys n lt) in
    let t : some (same_key key) k.keys ≡ true = mem_some (same_key key) key k.keys m (exact_keys.one key) in
    rw t refl

-- and another has the next
pub with_new : (k : Numbering) (key : ClassKey) → ((n : ℕ) → IsNumbered k n → key_at k n ≡ key → ⊥) → with_key k key ≡ record { classes = k.classes; keys = k.keys ++ key ∷ [] }
unfolding with_key
with_new k key none =
    let t : some (same_key key) k.keys ≡ false = not_true (some (same_key key) k.keys) (λ s.
    let r = some_mem (same_key key) k.keys s in
    let p = mem_at k.keys r.0 r.1 in
    none p.0 p.1 (p.2 ∙ sym (exact_keys.two key r.0 r.2))) in
    rw t refl

module _ (cs : List Class) (ps : List Position) (ok : IsNumbers cs ps) (kind : Kind) (parents : List ℕ) where
  abbrev k : Numbering
  k = record { classes = cs; keys = keys_by cs ps }

  -- a class that is made so has that key
  pub made_is : (n : ℕ) → length cs ≤ n → IsMade ps kind parents n → IsNumbered k n × (key_at k n ≡ made_key kind (map (key_at k) parents))
  made_is n le m =
      let w = get_within ps n m.position m.there in (
        omega (arith, w, ok.each),
        (ok.made n m.position le m.there).1 ∙ ap (λ z. made_key z (map (at (keys_by cs ps)) m.position.parents)) m.kind_is ∙ ap (λ l. made_key kind (map (at (keys_by cs ps)) l)) m.parents_are,
      )

  pub made_some : (first : ℕ) → first ≡ length cs → (o : Option ℕ) → IfSome o (λ n. (first ≤ n) × IsMade ps kind parents n) → IfSome o (λ n. IsNumbered k n × (key_at k n ≡ made_key kind (map (key_at k) parents)))
  made_some first e None h = h
  made_some first e (Some n) h = let le = h.0 in made_is n (omega (arith, le, e)) h.1

  pub made_none : kind ≢ kinds.Declared → (kind ≡ kinds.Proxy → length parents ≡ 1) → ((n : ℕ) → Mem n parents → IsNumbered k n) → (first : ℕ) → first ≡ length cs → (o : Option ℕ)
      → IfNone o ((n : ℕ) → first ≤ n → IsMade ps kind parents n → ⊥) → IfNone o ((n : ℕ) → IsNumbered k n → key_at k n ≡ made_key kind (map (key_at k) parents) → ⊥)
  made_none made one within first e None h = fresh cs ps ok kind parents made one within (λ n le m. h n (omega (arith, le, e)) m)
  made_none made one within first e (Some n) h = h
