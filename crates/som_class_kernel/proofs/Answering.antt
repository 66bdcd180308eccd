-- What a linked kernel answers, from what its rows and names hold.
use Rattle.std.proofs.Common.{◌≡◌, ℕ, zero, suc, ◌<◌, List, [], ◌∷◌, length, Option, Some, slice_get, slice_index_or, arith, refl, sym, ap, ◌∙◌, subst}
use Rattle.std.specs.Option.{option_map}
use Rattle.som_model.specs.Classes.{ancestors}
use Rattle.som_model.specs.Owner.{introduces}
use Rattle.som_meta.specs.Numbering.{IsNumbered, IsToken, Numbering, key_at}
use Rattle.som_names.specs.declared.named.Named.{Named}
use Rattle.som_names.specs.Index.{ancestors_at, asked, found}
use Rattle.som_class_loaded.specs.Added.{IsMeant, count_to}
use Rattle.som_class_loaded.proofs.Meant.{asked_up_to, found_meant}
use Rattle.som_class_table.specs.Loaded.{AreLoaded}
use Rattle.som_class_bodies.specs.declared.body.BodyAt.{BodyAt}
use Rattle.som_class_bodies.specs.Bodies.{IsSourced, MethodRows}
use Rattle.som_class_bodies.specs.Bodies as bodies
use Rattle.som_class_loaded.specs.Made.{AreHooks, hooks_at}
use Rattle.som_class_kernel.specs.Linked.{IsLinked, IsMadeIn, Linkage}
use Rattle.som_class_kernel.specs.Shown.{IsAnswer}
use Rattle.som_class_kernel.proofs.Above.{answer_made, has_classes}
use Rattle.som_class_kernel.proofs.Holding.{distinct}

-- the source of a body is right
pub sourced_at : (l : Linkage) → IsLinked l → {v : MethodRows} → v ≡ l.parts.bodies → (b : ℕ) (x : BodyAt) → slice_get v.bodies b ≡ Some x → IsSourced l.classes x
sourced_at l linked {v} same b x e = linked.are.bodies.sourced b x (subst (λ (z : MethodRows). slice_get z.bodies b ≡ Some x) same e)

-- the cell of a row is the body that answers
pub answer_of : (l : Linkage) → IsLinked l → AreLoaded l.classes → (n : ℕ) → IsMadeIn l n → (t : ℕ × ℕ) → IsToken l.classes t → {k : Numbering} → k ≡ l.classes → {v : MethodRows} → v ≡ l.parts.bodies
    → (b : ℕ) → bodies.IsAnswer k v n t b → IsAnswer l (key_at l.classes n) t b
answer_of l linked loaded n im t is {k} ke {v} ve b a =
    let r = subst (λ (z : Numbering). bodies.IsAnswer z l.parts.bodies n t b) ke (subst (λ (z : MethodRows). bodies.IsAnswer k z n t b) ve a) in
    let s = sourced_at l linked refl b r.body r.there in
    record {
      class = r.body.class;
      made = answer_made l linked loaded n r.body.class t im s.class is r.class;
      body = ap (option_map (λ (x : BodyAt). (x.class, x.method))) r.there ∙ ap (λ (z : ℕ × ℕ). Some (r.body.class, z)) r.method;
      answers = r.class;
    }

-- what the index finds is what the name means
module _ (l : Linkage) (linked : IsLinked l) (loaded : AreLoaded l.classes) (n : ℕ) (im : IsMadeIn l n) (name : List ℕ) where
  pub meant_of : {index : List (ℕ × Named)} → index ≡ l.parts.names → (o : Option (ℕ × ℕ)) → o ≡ found index n name → IsMeant l.classes n name o
  meant_of {index} same o e =
      subst (IsMeant l.classes n name) (sym (e ∙ ap (λ (z : List (ℕ × Named)). found z n name) same)) (found_meant l.classes l.parts.names n name (distinct l.classes loaded) (has_classes l linked loaded n im))

  pub cost_of : {index : List (ℕ × Named)} → index ≡ l.parts.names → asked index name (ancestors_at index n) ≡ count_to (introduces l.classes.classes name) (ancestors l.classes.classes (key_at l.classes n))
  cost_of {index} same = ap (λ (z : List (ℕ × Named)). asked z name (ancestors_at z n)) same ∙ asked_up_to l.classes l.parts.names n name (distinct l.classes loaded) (has_classes l linked loaded n im)

any_default : {A : Type 0} (xs : List A) (i : ℕ) (d e : A) → i < length xs → slice_index_or xs i d ≡ slice_index_or xs i e
any_default [] i d e lt = absurd (omega (arith, lt))
any_default (x ∷ xs) zero d e lt = refl
any_default (x ∷ xs) (suc i) d e lt = any_default xs i d e (omega (arith, lt))

-- the list at the number of a metaclass that is made has its hooks
pub hooks_shown : (l : Linkage) → IsLinked l → (n : ℕ) → IsNumbered l.classes n → IsMadeIn l n → {all : List (List ℕ)} → all ≡ l.parts.hooks → {i : ℕ} → i ≡ n → (d ns : List ℕ) → ns ≡ slice_index_or all i d → AreHooks l.classes n ns
hooks_shown l linked n num im {all} same {i} at d ns e =
    let long = linked.are.long in
    let lt : n < length l.parts.hooks = omega (arith, long, num) in
    let is : ns ≡ hooks_at l.parts.hooks n = e ∙ ap (λ (z : List (List ℕ)). slice_index_or z i d) same ∙ ap (λ j. slice_index_or l.parts.hooks j d) at ∙ any_default l.parts.hooks n d [] lt in
    subst (AreHooks l.classes n) (sym is) (linked.are.whole n im).hooks_are
