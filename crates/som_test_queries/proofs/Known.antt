-- What a linked kernel may be asked: the method that a parent has, and the method that an entry names.
use Rattle.std.proofs.Common.{◌≡◌, ℕ, zero, suc, ◌<◌, true, List, [], ◌∷◌, length, map, Option, Some, IsSome, slice_get, slice_index_or, refl, sym, ap, ◌∙◌, subst, arith}
use Rattle.som_model.specs.declared.key.ClassKey.{ClassKey}
use Rattle.som_model.specs.declared.key.MethodRef.{MethodRef}
use Rattle.som_model.specs.declared.class.Entry.{Entry}
use Rattle.som_model.specs.Class.{Class, entry_name}
use Rattle.som_model.specs.Classes.{hierarchy, is_a}
use Rattle.som_model.specs.Owner.{entry_at}
use Rattle.som_model.proofs.NamedLaws.{hierarchy_parents}
use Rattle.som_model_laws.proofs.Lists.{get_mem}
use Rattle.som_meta.specs.Numbering.{Numbering, key_at}
use Rattle.som_class_methods.proofs.Facts.{entry_at_found, facts}
use Rattle.som_class_table.specs.Loaded.{AreLoaded}
use Rattle.som_class_table.proofs.LoadedClasses.{faces}
use Rattle.som_classmgr.specs.Parents.{HasMethodAbove}
use Rattle.som_classmgr.proofs.Asking.{below_told}

mapped_there : {A B : Type 0} (f : A → B) (xs : List A) (i : ℕ) (d : A) → i < length xs → slice_get (map f xs) i ≡ Some (f (slice_index_or xs i d))
mapped_there f [] i d lt = absurd (omega (arith, lt))
mapped_there f (x ∷ xs) zero d lt = refl
mapped_there f (x ∷ xs) (suc i) d lt = mapped_there f xs i d (omega (arith, lt))

-- a parent that descends from the class of a method has it
pub has_above : (k : Numbering) → AreLoaded k → (n i : ℕ) (ps : List ℕ) → map (key_at k) ps ≡ (hierarchy k.classes).parents (key_at k n) → (all : List ℕ) → all ≡ ps → (j : ℕ) → j ≡ i → j < length all
    → (p : ℕ) → p ≡ slice_index_or all j p → (t : ℕ × ℕ) → is_a k.classes (key_at k p) (key_at k t.0) ≡ true → HasMethodAbove k n i t
has_above k l n i ps keys all same j at lt p is t below =
    let within : i < length ps = (let long = ap (λ (z : List ℕ). length z) same in omega (arith, lt, at, long)) in
    let here : p ≡ slice_index_or ps i p = is ∙ ap (λ (z : List ℕ). slice_index_or z j p) same ∙ ap (λ z. slice_index_or ps z p) at in
    record {
      parent = key_at k p;
      there = ap (λ (z : List ClassKey). slice_get z i) (sym (keys ∙ hierarchy_parents k.classes (key_at k n))) ∙ mapped_there (key_at k) ps i p within ∙ ap (λ z. Some (key_at k z)) (sym here);
      below = below_told k l (key_at k p) (key_at k t.0) below;
    }

-- an entry of a declared class is found by its name
pub entry_known : (k : Numbering) → AreLoaded k → (n : ℕ) (c : Class) → slice_get k.classes n ≡ Some c → (es : List Entry) → es ≡ c.decl.face.entries → (i : ℕ) (e : Entry) → slice_get es i ≡ Some e
    → (r : MethodRef) → r.class ≡ c.key → r.name ≡ entry_name e → IsSome (entry_at k.classes r.class r.name)
entry_known k l n c at es same i e there r class name =
    let here : slice_get c.decl.face.entries i ≡ Some e = ap (λ (z : List Entry). slice_get z i) (sym same) ∙ there in
    let found : entry_at k.classes c.key (entry_name e) ≡ Some e = entry_at_found k.classes (facts k.classes (faces k l)) c (get_mem k.classes n c at) i e here in
    let known : IsSome (entry_at k.classes c.key (entry_name e)) = subst (λ (z : Option Entry). IsSome z) (sym found) refl in
    subst (λ z. IsSome (entry_at k.classes z r.name)) (sym class) (subst (λ z. IsSome (entry_at k.classes c.key z)) (sym name) known)
