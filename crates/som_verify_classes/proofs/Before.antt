-- What a rule that looks at the classes before each class says of every class.
use Rattle.std.proofs.Common.{◌≡◌, ℕ, zero, suc, ◌<◌, arith, inl, inr, Bool, true, false, if◌then◌else◌, List, [], ◌∷◌, ◌++◌, length, take, Some, None, is_some, slice_index_or, refl, sym, ap, ◌∙◌, subst, append_assoc, slice_get}
use Rattle.std.proofs.lemmas.List.{append-nil}
use Rattle.std.proofs.lemmas.Option.{slice_get-get_or}
use Rattle.som_model.specs.Lists.{Mem, first, find, some, every, option_list}
use Rattle.som_model.specs.Keys.{same_key}
use Rattle.som_model.specs.Class.{Class}
use Rattle.som_model.specs.Classes.{class_at}
use Rattle.som_model.specs.Kernel.{kernel}
use Rattle.som_model.specs.Conforming.{each_after}
use Rattle.som_model.specs.Rules.{RuleBreach, demand, s2}
use Rattle.som_model.specs.declared.key.ClassKey.{ClassKey}
use Rattle.som_model.proofs.KeyLaws.{exact_keys}
use Rattle.som_model_laws.proofs.Members.{mem_left, mem_right, mem_split, mem_some, some_mem}
use Rattle.som_model_laws.proofs.Lists.{every_mem, mem_every}
use Rattle.som_verify_classes.specs.declared.types.Declared.{Declared}
use Rattle.som_verify_classes.specs.Modules.{class_of, classes_of}
use Rattle.som_verify_classes.specs.Places.{with_kernel}
use Rattle.som_verify_classes.proofs.DeclaredClasses.{long_map, item_of}
use Rattle.som_verify_classes.proofs.ClassTable.{front}

pub none_both : {A : Type 0} (xs ys : List A) → first (xs ++ ys) ≡ None → (first xs ≡ None) × (first ys ≡ None)
none_both [] ys e = (refl, e)
none_both (x ∷ xs) ys e = cc

pub both_none : {A : Type 0} (xs ys : List A) → first xs ≡ None → first ys ≡ None → first (xs ++ ys) ≡ None
both_none [] ys e f = f
both_none (x ∷ xs) ys e f = cc

pub after_says : (rule : List Class → Class → List RuleBreach) (k : List Class) (cs : List Class) → first (each_after rule k cs) ≡ None
    → (i : ℕ) (c : Class) → slice_get cs i ≡ Some c → first (rule (k ++ take i cs) c) ≡ None
after_says rule k [] e i c at = absurd (cc)
after_says rule k (x ∷ cs) e zero c at =
    let same : x ≡ c = cc in
    subst (λ (z : Class). first (rule (k ++ []) z) ≡ None) same
    (subst (λ (z : List Class). first (rule z x) ≡ None) (sym (append-nil k)) (none_both (rule k x) (each_after rule (k ++ x ∷ []) cs) e).0)
after_says rule k (x ∷ cs) e (suc i) c at =
    subst (λ (z : List Class). first (rule z c) ≡ None) (append_assoc k (x ∷ []) (take i cs))
    (after_says rule (k ++ x ∷ []) cs (none_both (rule k x) (each_after rule (k ++ x ∷ []) cs) e).1 i c at)

pub demanded : (n : ℕ) (c : Class) (b : Bool) → first (demand n c b) ≡ None → b ≡ true
demanded n c true e = refl
demanded n c false e = cc

find_some : {A : Type 0} (test : A → Bool) (xs : List A) → is_some (find test xs) ≡ some test xs
find_some test [] = refl
find_some test (x ∷ xs) = by (test x) (find_some test xs)
  where
    by : (b : Bool) → is_some (find test xs) ≡ some test xs → is_some (if b then Some x else find test xs) ≡ (if b then true else some test xs)
    by true e = refl
    by false e = e

-- a class of the key is among these
pub known_mem : (cs : List Class) (k : ClassKey) → is_some (class_at cs k) ≡ true → (c : Class) × Mem c cs × (c.key ≡ k)
known_mem cs k e =
    let r = some_mem (λ (c : Class). same_key c.key k) cs (sym (find_some (λ (c : Class). same_key c.key k) cs) ∙ e) in
    (r.0, r.1, exact_keys.two r.0.key k r.2)

pub mem_known : (cs : List Class) (k : ClassKey) (c : Class) → Mem c cs → c.key ≡ k → is_some (class_at cs k) ≡ true
mem_known cs k c m e =
    find_some (λ (z : Class). same_key z.key k) cs
    ∙ mem_some (λ (z : Class). same_key z.key k) c cs m (ap (λ z. same_key z k) e ∙ exact_keys.one k)

mem_taken : (cs : List Class) (i : ℕ) (c : Class) → Mem c (take i cs) → Mem c cs
mem_taken [] zero c m = m
mem_taken [] (suc i) c m = m
mem_taken (x ∷ cs) zero c m = absurd m
mem_taken (x ∷ cs) (suc i) c (inl e) = inl e
mem_taken (x ∷ cs) (suc i) c (inr m) = inr (mem_taken cs i c m)

pub mem_front : (cs : List Class) (i : ℕ) (c : Class) → Mem c (front kernel cs i) → Mem c (with_kernel cs)
mem_front cs i c m = elim (mem_split c kernel (take i cs) m) [
  | inl k ↦ mem_left c kernel cs k
  | inr k ↦ mem_right c kernel cs (mem_taken cs i c k)
]

-- each parent and the metaclass of a class is known, where they stand before it
pub known_by_s2 : (cs : List Class) (i : ℕ) (c : Class) → first (each_after s2 kernel cs) ≡ None → slice_get cs i ≡ Some c
    → (k : ClassKey) → Mem k (c.decl.face.parents ++ option_list c.decl.face.metaclass) → is_some (class_at (with_kernel cs) k) ≡ true
known_by_s2 cs i c e at k m =
    let stands : every (λ k. is_some (class_at (front kernel cs i) k)) (c.decl.face.parents ++ option_list c.decl.face.metaclass) ≡ true =
    demanded 2 c _ (after_says s2 kernel cs e i c at) in
    let r = known_mem (front kernel cs i) k (every_mem (λ k. is_some (class_at (front kernel cs i) k)) k (c.decl.face.parents ++ option_list c.decl.face.metaclass) stands m) in
    mem_known (with_kernel cs) k r.0 (mem_front cs i r.0 r.1) r.2

-- the metaclass is known
pub metaclass_known : (cs : List Class) (i : ℕ) (c : Class) → first (each_after s2 kernel cs) ≡ None → i < length cs → c ≡ slice_index_or cs i c
    → every (λ k. is_some (class_at (with_kernel cs) k)) (option_list c.decl.face.metaclass) ≡ true
metaclass_known cs i c e lt is =
    mem_every (λ k. is_some (class_at (with_kernel cs) k)) (option_list c.decl.face.metaclass) (λ k m.
    known_by_s2 cs i c e (slice_get-get_or cs i c lt ∙ ap (λ z. Some z) (sym is)) k (mem_right k c.decl.face.parents (option_list c.decl.face.metaclass) m))

-- the metaclass of a declared class is known
pub declared_metaclass : (ds : List Declared) (i : ℕ) (d : Declared) → first (each_after s2 kernel (classes_of ds)) ≡ None → i < length ds → d ≡ slice_index_or ds i d
    → every (λ k. is_some (class_at (with_kernel (classes_of ds)) k)) (option_list d.decl.now.face.metaclass) ≡ true
declared_metaclass ds i d e lt is = metaclass_known (classes_of ds) i (class_of d) e (omega (arith, long_map class_of ds)) (ap class_of is ∙ item_of ds i d lt)

-- each parent of a declared class is known
pub declared_parents : (ds : List Declared) (i : ℕ) (d : Declared) → first (each_after s2 kernel (classes_of ds)) ≡ None → i < length ds → d ≡ slice_index_or ds i d
    → (k : ClassKey) → Mem k d.decl.now.face.parents → is_some (class_at (with_kernel (classes_of ds)) k) ≡ true
declared_parents ds i d e lt is k m =
    let cs = classes_of ds in
    let within : i < length cs = omega (arith, lt, long_map class_of ds) in
    known_by_s2 cs i (class_of d) e (slice_get-get_or cs i (class_of d) within ∙ ap (λ z. Some z) (sym (ap class_of is ∙ item_of ds i d lt))) k (mem_left k d.decl.now.face.parents (option_list d.decl.now.face.metaclass) m)
