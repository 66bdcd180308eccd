-- What the numbers of a linked kernel stand for: declared classes, their versions, and parents by their places.
use Rattle.std.proofs.Common.{◌≡◌, ℕ, zero, suc, ◌<◌, ◌≤◌, ℤ, inl, inr, if◌then◌else◌, List, [], ◌∷◌, length, map, Option, Some, None, slice_get, slice_index_or, refl, sym, ap, ◌∙◌, subst, arith}
use Rattle.std.proofs.lemmas.Option.{none-some, same_Some}
use Rattle.som_model.specs.declared.key.ClassKey.{ClassKey}
use Rattle.som_model.specs.Lists.{Mem}
use Rattle.som_model.specs.Class.{Class}
use Rattle.som_model.specs.Classes.{hierarchy, version_of}
use Rattle.som_semantics.specs.Invoked.{class_found, version_fits}
use Rattle.som_semantics.specs.State.{Long, Str}
use Rattle.som_semantics.specs.World.{World, named_class, world}
use Rattle.som_model.proofs.NamedLaws.{hierarchy_parents}
use Rattle.som_model_laws.proofs.Lists.{get_mem}
use Rattle.som_model_laws.proofs.Standing as standing
use Rattle.som_model_laws.specs.Metaclasses.{IsDeclared}
use Rattle.som_meta.specs.Numbering.{IsNumbered, Numbering, key_at}
use Rattle.som_class_ids.proofs.Making.{some_class}
use Rattle.som_class_table.specs.Loaded.{AreLoaded}
use Rattle.som_class_table.proofs.Bodies.{found, made_unknown}
use Rattle.som_classmgr.specs.Parents.{parent_at}

-- a declared class has a module and a name
pub declared_key : (k : Numbering) (l : AreLoaded k) (n : ℕ) (c : Class) → slice_get k.classes n ≡ Some c → IsDeclared (key_at k n)
declared_key k l n c e =
    let m : Mem c k.classes = get_mem k.classes n c e in
    let r = standing.keyed l.others l.loads.faces.ordered c (subst (λ z. Mem c z) l.is m) in
    record { module_ = r.0; name = r.1; is = l.first.key n c e ∙ r.2 }

-- ---- parents by their places

pub low_numbered : (ns : List ℕ) (n count : ℕ) → ((p : ℕ) → Mem p ns → p < n) → n < count → (i d : ℕ) → i < length ns → slice_index_or ns i d < count
low_numbered [] n count low lt i d il = absurd (omega (arith, il))
low_numbered (x ∷ xs) n count low lt zero d il = (let l = low x (inl refl) in omega (arith, l, lt))
low_numbered (x ∷ xs) n count low lt (suc i) d il = low_numbered xs n count (λ p m. low p (inr m)) lt i d (omega (arith, il))

pub mapped_at : {A B : Type 0} (f : A → B) (xs : List A) (i : ℕ) (y : B) → slice_get (map f xs) i ≡ Some y → (i < length xs) × ((d : A) → Mem (slice_index_or xs i d) xs × (f (slice_index_or xs i d) ≡ y))
mapped_at f [] i y e = absurd (none-some y e)
mapped_at f (x ∷ xs) zero y e = (omega arith, λ d. (inl refl, same_Some (f x) y e))
mapped_at f (x ∷ xs) (suc i) y e = (let r = mapped_at f xs i y e in (let lt = r.0 in omega (arith, lt), λ d. (inr (r.1 d).0, (r.1 d).1)))

-- the parent at a place, by number
pub parent_shown : (k : Numbering) (n i : ℕ) (ps : List ℕ) → map (key_at k) ps ≡ (hierarchy k.classes).parents (key_at k n) → (x : ClassKey) → parent_at k n i ≡ Some x
    → (all : List ℕ) → all ≡ ps → (j : ℕ) → j ≡ i → (j < length all) × ((p : ℕ) → p ≡ slice_index_or all j p → Mem p ps × (key_at k p ≡ x))
parent_shown k n i ps keys x e all same j at =
    let g : slice_get (map (key_at k) ps) i ≡ Some x = ap (λ (z : List ClassKey). slice_get z i) (keys ∙ hierarchy_parents k.classes (key_at k n)) ∙ e in
    let r = mapped_at (key_at k) ps i x g in
    rw (same, at) (r.0, λ p is. subst (λ z. Mem z ps × (key_at k z ≡ x)) (sym is) (r.1 p))

-- ---- classes by their numbers

pub version_at : (k : Numbering) → AreLoaded k → (n : ℕ) (c : Class) → slice_get k.classes n ≡ Some c → (c.decl.face.major, c.decl.face.minor) ≡ version_of k.classes (key_at k n)
version_at k l n c at = (let e = found k l n c at in rw e refl)

pub version_made : (k : Numbering) → AreLoaded k → (n : ℕ) → IsNumbered k n → length k.classes ≤ n → (0, 0) ≡ version_of k.classes (key_at k n)
version_made k l n num ge = (let e = made_unknown k l n num ge in rw e refl)

pub declared_numbered : (k : Numbering) → AreLoaded k → (n : ℕ) → n < length k.classes → IsNumbered k n
declared_numbered k l n lt = (let c = some_class k.classes n lt in l.first.numbered n c.0 c.1)

-- ---- the class that a search by name and version finds

abbrev fit : World → Option ClassKey → ℤ → ℤ → Option ClassKey
fit w None major minor = None
fit w (Some k) major minor = if version_fits (w.version k) major minor then Some k else None

pub found_none : (cs : List Class) (name : List ℕ) (major minor : ℤ) → named_class cs name ≡ None → None ≡ class_found (world cs) (Str name ∷ Long major ∷ Long minor ∷ [])
unfolding world
found_none cs name major minor e = sym (ap (λ (o : Option ClassKey). fit (world cs) o major minor) e)

pub found_some : (cs : List Class) (name : List ℕ) (major minor : ℤ) (key : ClassKey) → named_class cs name ≡ Some key
    → (if version_fits (version_of cs key) major minor then Some key else None) ≡ class_found (world cs) (Str name ∷ Long major ∷ Long minor ∷ [])
unfolding world
found_some cs name major minor key e = sym (ap (λ (o : Option ClassKey). fit (world cs) o major minor) e)
