-- The names W0, W1 and so on, and those of the classes.
use Rattle.std.proofs.Common.{◌≡◌, ◌≢◌, ℕ, zero, suc, ◌+◌, ◌-◌, ◌<◌, ◌≤◌, Bool, true, false, if◌then◌else◌, List, [], ◌∷◌, ◌++◌, length, map, Result, Ok, Err, refl, sym, ap, ◌∙◌, arith}
use Rattle.std.specs.Prelude.{IfOk}
use Rattle.som_model.specs.declared.memory.NoMemory.{NoMemory}
use Rattle.std.proofs.lemmas.List.{length-map}
use Rattle.som_model.specs.declared.program.Interface.{Interface}
use Rattle.som_model.specs.declared.class.ClassFace.{ClassFace}
use Rattle.som_model.specs.declared.key.Module.TheVariants as modules
use Rattle.som_model.specs.Class.{Class, bare, class_in}
use Rattle.som_model.specs.Classes.{interface_classes}
use Rattle.som_model.specs.Kernel.{kernel}
use Rattle.som_model.specs.Lists.{among}
use Rattle.som_model.specs.Rules.{name_of}
use Rattle.som_order.specs.Names.{texts}
use Rattle.som_verify_forms.specs.declared.knowledge.Knowledge.{Knowledge}
use Rattle.som_witness.specs.Program.{class_names, free_from, numbered_w, w_name}
use Rattle.som_witness_programs.specs.Lent.{IsOf}

names_are : (fs : List ClassFace) → map name_of (map (λ f. class_in modules.Library (bare f)) fs) ≡ map (λ f. f.name) fs
names_are [] = refl
names_are (f ∷ fs) = ap (λ (l : List (List ℕ)). f.name ∷ l) (names_are fs)

-- no class of the kernel has such a name
not_kernel : (n : ℕ) (names : List (List ℕ)) → among (numbered_w n) (map name_of kernel ++ names) ≡ among (numbered_w n) names
not_kernel n names = refl

map_both : {A B : Type 0} (f : A → B) (xs ys : List A) → map f (xs ++ ys) ≡ map f xs ++ map f ys
map_both f [] ys = refl
map_both f (x ∷ xs) ys = ap (λ l. f x ∷ l) (map_both f xs ys)

-- so the names that are known are those of the interface
pub taken : (i : Interface) (known : Knowledge) (n : ℕ) → IsOf i known → among (numbered_w n) (texts known.table.now.keys) ≡ among (numbered_w n) (class_names i)
taken i known n is =
    ap (among (numbered_w n)) (is.knowledge.table.are ∙ ap (λ (cs : List Class). map name_of (kernel ++ cs)) is.classes ∙ map_both name_of kernel (interface_classes i))
    ∙ not_kernel n (map name_of (interface_classes i))
    ∙ ap (among (numbered_w n)) (names_are i.classes)

-- how many classes there are
pub as_many : (i : Interface) (known : Knowledge) → IsOf i known → length known.classes.now ≡ length i.classes
as_many i known is =
    sym (length-map known.classes.now (λ d. class_in d.module d.decl.now)) ∙ ap length is.classes ∙ length-map i.classes (λ f. class_in modules.Library (bare f))

module _ (names : List (List ℕ)) where
  -- a number is taken
  pub next_number : (left n : ℕ) → among (numbered_w n) names ≡ true → free_from names (suc left) n ≡ free_from names left (suc n)
  next_number left n e = ap (λ (b : Bool). if b then free_from names left (suc n) else n) e

  -- or free
  pub this_number : (left n : ℕ) → among (numbered_w n) names ≡ false → free_from names left n ≡ n
  this_number zero n e = refl
  this_number (suc left) n e = ap (λ (b : Bool). if b then free_from names left (suc n) else n) e

-- the first number that is free, counted on
abbrev Tried : Interface → ℕ → Type 0
Tried i n = free_from (class_names i) (length i.classes - n) n ≡ free_from (class_names i) (length i.classes) 0

left_by : (l n : ℕ) → n < l → l - n ≡ suc (l - (n + 1))
left_by l n lt = omega arith

pub goes_on : (i : Interface) (known : Knowledge) → IsOf i known → (n : ℕ) → n < length known.classes.now → among (numbered_w n) (class_names i) ≡ true → Tried i n → Tried i (n + 1)
goes_on i known is n lt e tried =
    let many = as_many i known is in
    let left = left_by (length i.classes) n (omega (arith, many, lt)) in
    let next : free_from (class_names i) (length i.classes - (n + 1)) (suc n) ≡ free_from (class_names i) (length i.classes - (n + 1)) (n + 1) = ap (free_from (class_names i) (length i.classes - (n + 1))) (omega arith) in
    sym next ∙ sym (next_number (class_names i) (length i.classes - (n + 1)) n e) ∙ ap (λ (l : ℕ). free_from (class_names i) l n) (sym left) ∙ tried

pub is_free : (i : Interface) (n : ℕ) → among (numbered_w n) (class_names i) ≡ false → Tried i n → numbered_w n ≡ w_name i
unfolding w_name
is_free i n e tried = ap numbered_w (sym (this_number (class_names i) (length i.classes - n) n e) ∙ tried)

pub none_left : (i : Interface) (known : Knowledge) → IsOf i known → (n : ℕ) → n ≤ length known.classes.now → length known.classes.now ≤ n → (r : Result (List ℕ) NoMemory) → IfOk r (λ name. name ≡ numbered_w (length known.classes.now)) → Tried i n
    → IfOk r (λ name. name ≡ w_name i)
unfolding w_name
none_left i known is n within over (Ok name) named tried =
    let many = as_many i known is in
    let at : length known.classes.now ≡ n = omega (arith, within, over) in
    let done : length i.classes - n ≡ 0 = omega (arith, many, at) in
    named ∙ ap numbered_w (at ∙ ap (λ (l : ℕ). free_from (class_names i) l n) (sym done) ∙ tried)
none_left i known is n within over (Err e) named tried = tt
