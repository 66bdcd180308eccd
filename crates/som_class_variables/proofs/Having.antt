-- The variables that classes have of their own.
use Rattle.std.proofs.Common.{◌≡◌, ℕ, ◌+◌, ◌<◌, ◌≤◌, inl, inr, List, [], ◌∷◌, ◌++◌, length, map, flat_map, take, get_or, Some, slice_get, sym, ap, ◌∙◌, subst, arith, append-nil}
use Rattle.std.proofs.lemmas.Grind.{flat_map-append}
use Rattle.std.proofs.lemmas.List.{length-map, map-append, take_all, take_more}
use Rattle.som_model.specs.declared.key.ClassKey.{ClassKey}
use Rattle.som_model.specs.declared.key.ValueType.{ValueType}
use Rattle.som_model.specs.declared.class.Variable.{Variable}
use Rattle.som_model.specs.declared.limits.TheConstants.{MAX_VARIABLES}
use Rattle.som_model.specs.Lists.{Mem}
use Rattle.som_model.specs.Class.{Class}
use Rattle.som_model.specs.Kernel.{kernel}
use Rattle.som_model_laws.proofs.Members.{mem_split}
use Rattle.som_model_laws.proofs.Lists.{get_mem}
use Rattle.som_meta.specs.Numbering.{IsNumbered, Numbering, key_at}
use Rattle.som_class_table.specs.Loaded.{AreLoaded}
use Rattle.som_class_table.proofs.Bodies.{found, made_unknown}
use Rattle.som_class_variables.specs.Variables.{own_variables, types_of, variables_in}

-- the kernel's classes have no variables
kernel_none : (c : Class) → Mem c kernel → length c.decl.variables ≤ MAX_VARIABLES
kernel_none c (inl e) = let l : length c.decl.variables ≡ 0 = ap (λ (z : Class). length z.decl.variables) e in omega (arith, l)
kernel_none c (inr (inl e)) = let l : length c.decl.variables ≡ 0 = ap (λ (z : Class). length z.decl.variables) e in omega (arith, l)
kernel_none c (inr (inr (inl e))) = let l : length c.decl.variables ≡ 0 = ap (λ (z : Class). length z.decl.variables) e in omega (arith, l)
kernel_none c (inr (inr (inr (inl e)))) = let l : length c.decl.variables ≡ 0 = ap (λ (z : Class). length z.decl.variables) e in omega (arith, l)
kernel_none c (inr (inr (inr (inr m)))) = absurd m

module _ (k : Numbering) (l : AreLoaded k) where
  pub few_variables : (n : ℕ) (c : Class) → slice_get k.classes n ≡ Some c → length c.decl.variables ≤ MAX_VARIABLES
  few_variables n c e = elim (mem_split c kernel l.others (subst (λ (z : List Class). Mem c z) l.is (get_mem k.classes n c e))) [
    | inl m ↦ kernel_none c m
    | inr m ↦ (l.loads.counted c m).variables
  ]

  pub own_declared : (n : ℕ) (c : Class) → slice_get k.classes n ≡ Some c → types_of c.decl.variables ≡ own_variables k.classes (key_at k n)
  own_declared n c e = sym (ap variables_in (found k l n c e))

  pub count_declared : (n : ℕ) (c : Class) → slice_get k.classes n ≡ Some c → length c.decl.variables ≡ length (own_variables k.classes (key_at k n))
  count_declared n c e = sym (length-map c.decl.variables (λ (v : Variable). v.kind)) ∙ ap length (own_declared n c e)

  pub own_made : (n : ℕ) → IsNumbered k n → length k.classes ≤ n → own_variables k.classes (key_at k n) ≡ []
  own_made n lt le = ap variables_in (made_unknown k l n lt le)

  pub count_made : (n : ℕ) → IsNumbered k n → length k.classes ≤ n → 0 ≡ length (own_variables k.classes (key_at k n))
  count_made n lt le = sym (ap length (own_made n lt le))

  pub few_own : (n m : ℕ) → m ≡ length (own_variables k.classes (key_at k n)) → (c : Class) → slice_get k.classes n ≡ Some c → m ≤ 64
  few_own n m e c at = (let a = few_variables n c at in let b = count_declared n c at in omega (arith, a, b, e))

-- types, one class further

pub types_next : (f : ℕ → ClassKey) (own : ClassKey → List ValueType) (ns : List ℕ) (i n : ℕ) (now new : List ValueType) → i < length ns → n ≡ get_or ns i n → now ≡ flat_map own (map f (take i ns)) → new ≡ now ++ own (f n)
    → new ≡ flat_map own (map f (take (i + 1) ns))
types_next f own ns i n now new lt at so next =
    next ∙ ap (λ l. l ++ own (f n)) so ∙ ap (λ l. flat_map own (map f (take i ns)) ++ l) (sym (append-nil (own (f n))))
    ∙ sym (ap (flat_map own) (ap (map f) (take_more ns i n lt ∙ ap (λ z. take i ns ++ z ∷ []) (sym at)) ∙ map-append f (take i ns) (n ∷ [])) ∙ flat_map-append own (map f (take i ns)) (f n ∷ []))

pub types_all : (f : ℕ → ClassKey) (own : ClassKey → List ValueType) (ns : List ℕ) (i : ℕ) (now : List ValueType) → length ns ≤ i → now ≡ flat_map own (map f (take i ns)) → now ≡ flat_map own (map f ns)
types_all f own ns i now le so = so ∙ ap (λ l. flat_map own (map f l)) (take_all i ns le)

pub types_end : (vs : List Variable) (v : Variable) → types_of (vs ++ v ∷ []) ≡ types_of vs ++ v.kind ∷ []
types_end vs v = map-append (λ (x : Variable). x.kind) vs (v ∷ [])
