-- The metaclass that is chosen by number is that of the definition.
use Rattle.std.proofs.Common.{◌≡◌, ℕ, zero, suc, ◌<◌, ◌≤◌, inl, inr, ◌+◌, true, false, if◌then◌else◌, List, [], ◌∷◌, ◌++◌, map, length, take, get_or, Option, Some, None, slice_get, nat_eq, nat_lt, refl, sym, ap, ◌∙◌, subst, arith}
use Rattle.std.specs.List.{All}
use Rattle.std.specs.Option.{option_map, IfSome}
use Rattle.std.proofs.lemmas.List.Elements.{All-cons, All-head, All-nil, All-tail}
use Rattle.som_model.specs.declared.key.ClassKey.{ClassKey}
use Rattle.som_model.specs.Lists.{Mem, firsts, option_list}
use Rattle.som_model.specs.Keys.{same_key}
use Rattle.som_model.specs.Hierarchy.{Hierarchy}
use Rattle.som_model.specs.declared.key.Module.TheVariants as modules
use Rattle.som_model.specs.Class.{Class, bare, class_in}
use Rattle.som_model.specs.Classes.{class_at, hierarchy, parents_of}
use Rattle.som_model.specs.Kernel.{class_face, kernel, som_class}
use Rattle.som_model.specs.Loads.{IsOrdered, keys_of}
use Rattle.som_model.specs.Metaclass.{is_low, lowest, made_of, meta, meta_within, rank}
use Rattle.som_model.proofs.NamedLaws.{hierarchy_parents}
use Rattle.som_model_laws.proofs.Members.{map_on}
use Rattle.som_model_laws.proofs.Lists.{get_mem, map_mem, mem_get, mem_map}
use Rattle.som_model_laws.proofs.Standing.{falls, found, found_is}
use Rattle.som_model_laws.proofs.Metas.{meta_stable}
use Rattle.som_model_laws.proofs.Owners.{metaclass_known}
use Rattle.som_meta.specs.declared.plan.MetaPlan.{MetaPlan}
use Rattle.som_meta.specs.Numbering.{AreApart, AreNumbered, IsNumbered, Numbering, key_at}
use Rattle.som_meta.specs.Planning.{chosen_key, constraints, is_above_some, plan_of, planned}
use Rattle.som_meta.proofs.Plans.{firsts-all, without-all}
use Rattle.som_meta.proofs.Once.{step_is}
use Rattle.som_class_ids.specs.Numbers.{AreFirst, with_key}
use Rattle.som_class_ids.proofs.Asking.{with_same}
use Rattle.som_class_ids.proofs.Declaring.{at_mem}
use Rattle.som_class_table.specs.Loaded.{AreLoaded}
use Rattle.som_class_load_order.specs.Metas.{HasParents, HaveMetas, meta_at, metaclass_in, plan_numbers}

-- what a metaclass is made of, one level of the definition
abbrev pub chosen : List Class → ClassKey → ClassKey
chosen cs x = made_of (lowest cs (firsts same_key (option_list (metaclass_in (class_at cs x)) ++ map (meta cs) (parents_of cs x))))

-- what a metaclass is made of, with the metaclasses of parents by fewer levels
abbrev chosen_within : List Class → ℕ → ClassKey → ClassKey
chosen_within cs n x = made_of (lowest cs (firsts same_key (option_list (metaclass_in (class_at cs x)) ++ map (meta_within cs n) (parents_of cs x))))

abbrev declared_in : Option Class → List ClassKey
declared_in None = []
declared_in (Some c) = option_list c.decl.face.metaclass

declared_one : (o : Option Class) → declared_in o ≡ option_list (metaclass_in o)
declared_one None = refl
declared_one (Some c) = refl

level : (cs : List Class) (n : ℕ) (x : ClassKey) → meta_within cs (suc n) x ≡ (if is_low cs x then som_class else chosen_within cs n x)
level cs n x = ap (λ d. if is_low cs x then som_class else made_of (lowest cs (firsts same_key (d ++ map (meta_within cs n) (parents_of cs x))))) (declared_one (class_at cs x))

module _ (cs : List Class) (o : IsOrdered cs) where
  abbrev all : List Class
  all = kernel ++ cs

  abbrev h : Hierarchy ClassKey
  h = hierarchy all

  meta_level : (x : ClassKey) → meta all x ≡ (if is_low all x then som_class else chosen_within all (h.height x) x)
  meta_level x =
      let up : h.height x ≤ suc (h.height x) = omega arith in
      meta_stable cs o (h.height x) (suc (h.height x)) x (omega arith) up ∙ level all (h.height x) x

  low_here : (x : ClassKey) → is_low all x ≡ true → meta all x ≡ som_class
  low_here x low = meta_level x ∙ ap (λ b. if b then som_class else chosen_within all (h.height x) x) low

  high_here : (x : ClassKey) → is_low all x ≡ false → meta all x ≡ chosen all x
  high_here x high =
      meta_level x
      ∙ ap (λ b. if b then som_class else chosen_within all (h.height x) x) high
      ∙ ap (λ ms. made_of (lowest all (firsts same_key (option_list (metaclass_in (class_at all x)) ++ ms))))
      (map_on (meta_within all (h.height x)) (meta all) (parents_of all x) (λ p m.
      let lower = falls cs o x p (subst (λ z. Mem p z) (sym (hierarchy_parents all x)) m) in
      let le : h.height p ≤ h.height x = omega (arith, lower) in
      meta_stable cs o (h.height x) (h.height p) p le (omega arith)))

module _ (all cs : List Class) (is : all ≡ kernel ++ cs) (o : IsOrdered cs) where
  pub low_meta : (x : ClassKey) → is_low all x ≡ true → meta all x ≡ som_class
  low_meta = subst (λ (z : List Class). (x : ClassKey) → is_low z x ≡ true → meta z x ≡ som_class) (sym is) (low_here cs o)

  pub high_meta : (x : ClassKey) → is_low all x ≡ false → meta all x ≡ chosen all x
  high_meta = subst (λ (z : List Class). (x : ClassKey) → is_low z x ≡ false → meta z x ≡ chosen z x) (sym is) (high_here cs o)

  -- a class that is found by its key
  pub found_all : (c : Class) → Mem c all → class_at all c.key ≡ Some c
  found_all = subst (λ (z : List Class). (c : Class) → Mem c z → class_at z c.key ≡ Some c) (sym is) (λ c m. found cs o c c.key m refl)

  pub found_one : (x : ClassKey) (c : Class) → class_at all x ≡ Some c → Mem c all × (c.key ≡ x)
  found_one = subst (λ (z : List Class). (x : ClassKey) (c : Class) → class_at z x ≡ Some c → Mem c z × (c.key ≡ x)) (sym is) (found_is cs o)

  known_here : (c : Class) (m : ClassKey) → Mem c (kernel ++ cs) → c.decl.face.metaclass ≡ Some m → Mem m (keys_of (kernel ++ cs))
  known_here c m there e =
      let r = metaclass_known cs o c.key c m (found cs o c c.key there refl) e in
      let f = found_is cs o m r.0 r.1 in
      subst (λ z. Mem z (keys_of (kernel ++ cs))) f.1 (mem_map (λ (z : Class). z.key) r.0 (kernel ++ cs) f.0)

  -- a declared metaclass is one of the classes
  pub metaclass_there : (c : Class) (m : ClassKey) → Mem c all → c.decl.face.metaclass ≡ Some m → Mem m (keys_of all)
  metaclass_there = subst (λ (z : List Class). (c : Class) (m : ClassKey) → Mem c z → c.decl.face.metaclass ≡ Some m → Mem m (keys_of z)) (sym is) known_here

-- a class whose number is none of the declared ones isn't declared
module _ (k : Numbering) (cs : List Class) (is : k.classes ≡ kernel ++ cs) (o : IsOrdered cs) (first : AreFirst k) (apart : AreApart k) where
  pub not_declared : (n : ℕ) → IsNumbered k n → length k.classes ≤ n → class_at k.classes (key_at k n) ≡ None
  not_declared n im le = by (class_at k.classes (key_at k n)) refl
    where
      within : (xs : List Class) (i : ℕ) (c : Class) → slice_get xs i ≡ Some c → i < length xs
      within [] i c e = absurd (cc)
      within (y ∷ xs) zero c e = omega arith
      within (y ∷ xs) (suc i) c e = let l = within xs i c e in omega (arith, l)

      by : (q : Option Class) → class_at k.classes (key_at k n) ≡ q → q ≡ None
      by None e = refl
      by (Some c) e =
          let f = found_one k.classes cs is o (key_at k n) c e in
          let i = mem_get k.classes c f.0 in
          let same = apart i.0 n (first.numbered i.0 c i.1) im (first.key i.0 c i.1 ∙ f.1) in
          let w = within k.classes i.0 c i.1 in
          absurd (omega (arith, same, w, le))

  -- what is chosen by number is the metaclass
  pub chosen_meta : (x : ClassKey) (declared : Option ℕ) (ms : List ℕ) → is_low k.classes x ≡ false → option_map (key_at k) declared ≡ metaclass_in (class_at k.classes x)
      → map (key_at k) ms ≡ map (meta k.classes) (parents_of k.classes x) → chosen_key k declared ms ≡ meta k.classes x
  chosen_meta x declared ms high d m =
      ap (λ z. made_of (lowest k.classes (firsts same_key (option_list z ++ map (key_at k) ms)))) d
      ∙ ap (λ z. made_of (lowest k.classes (firsts same_key (option_list (metaclass_in (class_at k.classes x)) ++ z)))) m
      ∙ sym (high_meta k.classes cs is o x high)

-- the metaclasses of parents, by number

module _ (k : Numbering) (ms : List ℕ) (have : HaveMetas k ms) where
  pub metas_of_parents : (ps : List ℕ) → ((p : ℕ) → Mem p ps → p < length ms) → map (key_at k) (map (meta_at ms) ps) ≡ map (meta k.classes) (map (key_at k) ps)
  metas_of_parents [] f = refl
  metas_of_parents (p ∷ ps) f =
      ap (λ z. z ∷ map (key_at k) (map (meta_at ms) ps)) (have.keys p (f p (inl refl)))
      ∙ ap (λ l. meta k.classes (key_at k p) ∷ l) (metas_of_parents ps (λ q m. f q (inr m)))

  pub metas_numbered : (ps : List ℕ) → ((p : ℕ) → Mem p ps → p < length ms) → AreNumbered k (map (meta_at ms) ps)
  metas_numbered [] f = All-nil (IsNumbered k)
  metas_numbered (p ∷ ps) f = All-cons (IsNumbered k) (meta_at ms p) (map (meta_at ms) ps) (have.numbered p (f p (inl refl))) (metas_numbered ps (λ q m. f q (inr m)))

-- the classes of a plan have numbers

module _ (k : Numbering) where
  pub constraints_numbered : (d : Option ℕ) (ms : List ℕ) → IfSome d (IsNumbered k) → AreNumbered k ms → AreNumbered k (constraints d ms)
  constraints_numbered None ms h all = all
  constraints_numbered (Some n) ms h all = All-cons (IsNumbered k) n ms h all

  numbers_of : (ns : List ℕ) → plan_numbers (plan_of ns) ≡ ns
  numbers_of [] = refl
  numbers_of (n ∷ []) = refl
  numbers_of (m ∷ n ∷ ns) = refl

  pub plan_numbered : (d : Option ℕ) (ms : List ℕ) (plan : MetaPlan) → AreNumbered k (constraints d ms) → plan ≡ plan_of (planned k d ms) → AreNumbered k (plan_numbers plan)
  plan_numbered d ms plan all e =
      let once = firsts nat_eq (constraints d ms) in
      subst (AreNumbered k) (sym (ap plan_numbers e ∙ numbers_of (planned k d ms)))
      (without-all (IsNumbered k) (is_above_some k once) once (firsts-all (IsNumbered k) (constraints d ms) all))

below : (n m : ℕ) → n < m → nat_lt n m ≡ true
below n m lt = grind (arith, lt)

not_below : (n m : ℕ) → m ≤ n → nat_lt n m ≡ false
not_below n m le = grind (arith, le)

-- what classes that are loaded tell

module _ (k : Numbering) (l : AreLoaded k) where
  abbrev ordered : IsOrdered l.others
  ordered = l.loads.faces.ordered

  -- SOMClass is the second of the kernel's
  pub second_numbered : IsNumbered k 1
  second_numbered = l.first.numbered 1 (class_in modules.Kernel (bare class_face)) (ap (λ (z : List Class). slice_get z 1) l.is)

  pub second_key : key_at k 1 ≡ som_class
  second_key = l.first.key 1 (class_in modules.Kernel (bare class_face)) (ap (λ (z : List Class). slice_get z 1) l.is)

  pub none_declared : (n : ℕ) → IsNumbered k n → length k.classes ≤ n → None ≡ metaclass_in (class_at k.classes (key_at k n))
  none_declared n im le = ap metaclass_in (sym (not_declared k l.others l.is ordered l.first l.apart n im le))

  pub metaclass_found : (n : ℕ) (c : Class) → slice_get k.classes n ≡ Some c → c.decl.face.metaclass ≡ metaclass_in (class_at k.classes (key_at k n))
  metaclass_found n c at =
      ap metaclass_in (sym (subst (λ z. class_at k.classes z ≡ Some c) (sym (l.first.key n c at)) (found_all k.classes l.others l.is ordered c (get_mem k.classes n c at))))

  pub metaclass_known_there : (n : ℕ) (c : Class) (m : ClassKey) → slice_get k.classes n ≡ Some c → c.decl.face.metaclass ≡ Some m → Mem m (keys_of k.classes)
  metaclass_known_there n c m at e = metaclass_there k.classes l.others l.is ordered c m (get_mem k.classes n c at) e

  -- a low class has SOMClass
  pub low_is : (x : ClassKey) → rank k.classes x < 4 → som_class ≡ meta k.classes x
  low_is x low = sym (low_meta k.classes l.others l.is ordered x (below (rank k.classes x) 4 low))

  pub low_same : (x : ClassKey) (n : ℕ) → rank k.classes x < 4 → IsNumbered k n → key_at k n ≡ som_class → k ≡ with_key k (meta k.classes x)
  low_same x n low im e = with_same k (meta k.classes x) n im (e ∙ low_is x low)

  -- another has what is chosen
  pub high_is : (x : ClassKey) (declared : Option ℕ) (ms : List ℕ) → is_low k.classes x ≡ false → option_map (key_at k) declared ≡ metaclass_in (class_at k.classes x)
      → map (key_at k) ms ≡ map (meta k.classes) (parents_of k.classes x) → chosen_key k declared ms ≡ meta k.classes x
  high_is = chosen_meta k l.others l.is ordered l.first l.apart

pub not_low : (cs : List Class) (x : ClassKey) → 4 ≤ rank cs x → is_low cs x ≡ false
not_low cs x le = not_below (rank cs x) 4 le

-- the parents of a class have numbers
pub parents_there : (k : Numbering) (n : ℕ) (ps : List ℕ) → IsNumbered k n → ((p : ℕ) → Mem p ps → p < n) → map (key_at k) ps ≡ (hierarchy k.classes).parents (key_at k n) → HasParents k (key_at k n)
parents_there k n ps im low e p m =
    let r = map_mem (key_at k) p ps (subst (λ z. Mem p z) (sym (e ∙ hierarchy_parents k.classes (key_at k n))) m) in
    let lt = low r.0 r.1 in
    subst (λ z. Mem z k.keys) (sym r.2) (at_mem k.keys r.0 (omega (arith, lt, im)))

-- the metaclasses of parents are those by the definition
pub parents_metas : (k : Numbering) (ms : List ℕ) (have : HaveMetas k ms) (x : ClassKey) (ps : List ℕ) → ((p : ℕ) → Mem p ps → p < length ms) → map (key_at k) ps ≡ (hierarchy k.classes).parents x
    → map (key_at k) (map (meta_at ms) ps) ≡ map (meta k.classes) (parents_of k.classes x)
parents_metas k ms have x ps low e = metas_of_parents k ms have ps low ∙ ap (map (meta k.classes)) (e ∙ hierarchy_parents k.classes x)

pub all_mem : {A : Type 0} (P : A → Type 0) (xs : List A) (x : A) → All P xs → Mem x xs → P x
all_mem P [] x each m = absurd m
all_mem P (y ∷ ys) x each (inl e) = subst P (sym e) (All-head P y ys each)
all_mem P (y ∷ ys) x each (inr m) = all_mem P ys x (All-tail P y ys each) m

map_push : (f : ℕ → ℕ) (xs : List ℕ) (x : ℕ) → map f (xs ++ x ∷ []) ≡ map f xs ++ f x ∷ []
map_push f [] x = refl
map_push f (y ∷ ys) x = ap (λ l. f y ∷ l) (map_push f ys x)

-- one class more whose metaclass is listed
pub metas_more : (ms cs list : List ℕ) (i c m : ℕ) → i < length cs → c ≡ get_or cs i c → list ≡ map (meta_at ms) (take i cs) → m ≡ meta_at ms c → list ++ m ∷ [] ≡ map (meta_at ms) (take (i + 1) cs)
metas_more ms cs list i c m lt is e f =
    ap (λ z. z ++ m ∷ []) e
    ∙ ap (λ z. map (meta_at ms) (take i cs) ++ z ∷ []) f
    ∙ sym (map_push (meta_at ms) (take i cs) c)
    ∙ ap (map (meta_at ms)) (sym (step_is cs i c lt is))
