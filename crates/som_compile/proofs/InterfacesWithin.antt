-- What an interface declares is within the limits of images: its names, versions, entries and variables.
use Rattle.std.proofs.Common.{◌≡◌, ℕ, ◌≤◌, inl, inr, Bool, true, false, if◌then◌else◌, List, [], ◌∷◌, ◌++◌, length, map, flat_map, codes, Option, Some, None, unwrap_or, All, refl, sym, subst, arith, length-append}
use Rattle.std.specs.List.{AllByRecursion}
use Rattle.std.specs.Str.{bytes_eq}
use Rattle.std.proofs.lemmas.List.Elements.{recursion_from_All}
use Rattle.som_model.specs.declared.limits.TheConstants.{MAX_NAME, MAX_VERSION}
use Rattle.som_model.specs.declared.key.ClassKey.{ClassKey}
use Rattle.som_model.specs.declared.key.Module.{Module}
use Rattle.som_model.specs.declared.key.ValueType.{ValueType}
use Rattle.som_model.specs.declared.class.Entry.{Entry}
use Rattle.som_model.specs.declared.class.Entry.TheVariants as entries
use Rattle.som_model.specs.declared.class.Variable.{Variable}
use Rattle.som_model.specs.Lists.{Mem, among, find, first_some, or_else, without}
use Rattle.som_model.specs.Class.{entry_name, entry_of, introduced}
use Rattle.som_model.specs.EffectiveOrder.{effective_order}
use Rattle.som_ast.specs.declared.words.Word.{Word}
use Rattle.som_ast.specs.declared.interface.IdlInterface.{IdlInterface}
use Rattle.som_ast.specs.declared.interface.Export.{Export}
use Rattle.som_ast.specs.declared.interface.Export.TheVariants as exports
use Rattle.som_ast.specs.declared.interface.Item.{Item}
use Rattle.som_ast.specs.declared.interface.Item.TheVariants as items
use Rattle.som_idl.specs.Within.{WordWithin, ExportWithin, ItemWithin, InterfaceWithin}
use Rattle.som_image_decode.specs.BlockLimits.{TextWithin}
use Rattle.som_sema_decls.specs.Finished.{entry_or_moved}
use Rattle.som_sema_scope.specs.ClassNames.{key_of, type_of}
use Rattle.som_sema_drafts.specs.Items.{by_name, listed, listed_in, major_in, minor_in, number_of, or_object}
use Rattle.som_sema_drafts.specs.Drafts.{accessors, export_entries, export_variables, getter, introduces, item_variables, setter, variables, variables_of}
use Rattle.som_sema_scope.specs.Words.{words}

-- ---- lists

module _ {A : Type 0} (P : A → Type 0) where
  pub all_join : (xs ys : List A) → AllByRecursion P xs → AllByRecursion P ys → AllByRecursion P (xs ++ ys)
  all_join [] ys p q = q
  all_join (x ∷ xs) ys p q = (p.0, all_join xs ys p.1 q)

  kept_or_not : (x : A) (xs : List A) → P x → AllByRecursion P xs → (b : Bool) → AllByRecursion P (if b then xs else x ∷ xs)
  kept_or_not x xs p ps true = ps
  kept_or_not x xs p ps false = (p, ps)

  pub all_without : (test : A → Bool) (xs : List A) → AllByRecursion P xs → AllByRecursion P (without test xs)
  all_without test [] p = tt
  all_without test (x ∷ xs) p = kept_or_not x (without test xs) p.0 (all_without test xs p.1) (test x)

  here_or_later : (y x : A) (later : Option A) → P y → (later ≡ Some x → P x) → (b : Bool) → (if b then Some y else later) ≡ Some x → P x
  here_or_later y x later p f true e = let same : y ≡ x = cc in subst P same p
  here_or_later y x later p f false e = f e

  pub all_found : (test : A → Bool) (xs : List A) (x : A) → AllByRecursion P xs → find test xs ≡ Some x → P x
  all_found test [] x p e = absurd cc
  all_found test (y ∷ ys) x p e = here_or_later y x (find test ys) p.0 (λ h. all_found test ys x p.1 h) (test y) e

  pub all_members : (xs : List A) → ((x : A) → Mem x xs → P x) → AllByRecursion P xs
  all_members [] f = tt
  all_members (x ∷ xs) f = (f x (inl refl), all_members xs (λ y m. f y (inr m)))

  pub member_of_all : (xs : List A) (x : A) → AllByRecursion P xs → Mem x xs → P x
  member_of_all [] x p m = absurd m
  member_of_all (y ∷ ys) x p (inl e) = subst P (sym e) p.0
  member_of_all (y ∷ ys) x p (inr m) = member_of_all ys x p.1 m

module _ {A B : Type 0} (P : A → Type 0) (Q : B → Type 0) where
  pub all_map : (f : A → B) → ((x : A) → P x → Q (f x)) → (xs : List A) → AllByRecursion P xs → AllByRecursion Q (map f xs)
  all_map f g [] p = tt
  all_map f g (x ∷ xs) p = (g x p.0, all_map f g xs p.1)

  pub all_flat : (f : A → List B) → ((x : A) → P x → AllByRecursion Q (f x)) → (xs : List A) → AllByRecursion P xs → AllByRecursion Q (flat_map f xs)
  all_flat f g [] p = tt
  all_flat f g (x ∷ xs) p = all_join Q (f x) (flat_map f xs) (g x p.0) (all_flat f g xs p.1)

-- ---- names

pub word_within : (w : Word) → WordWithin w → TextWithin w.text
word_within w le = omega (arith, le)

getter_within : (name : List ℕ) → length name ≤ MAX_NAME → TextWithin (getter name)
getter_within name le = omega (arith, le, length-append (codes "_get_") name)

setter_within : (name : List ℕ) → length name ≤ MAX_NAME → TextWithin (setter name)
setter_within name le = omega (arith, le, length-append (codes "_set_") name)

abbrev pub Named : Entry → Type 0
Named e = TextWithin (entry_name e)

abbrev pub Names : List (List ℕ) → Type 0
Names = AllByRecursion TextWithin

words_named : (ws : List Word) → All WordWithin ws → Names (words ws)
words_named ws all = all_map WordWithin TextWithin (λ (w : Word). w.text) word_within ws (recursion_from_All WordWithin ws all)

module _ (module_of : List ℕ → Module) (by : List (List ℕ)) where
  accessors_named : (readonly : Bool) (kind : ValueType) (name : List ℕ) → length name ≤ MAX_NAME → AllByRecursion Named (accessors by readonly kind name)
  accessors_named true kind name le = (getter_within name le, tt)
  accessors_named false kind name le = (getter_within name le, (setter_within name le, tt))

  export_named : (x : Export) → ExportWithin x → AllByRecursion Named (export_entries module_of by x)
  export_named (exports.Attribute readonly kind names) p =
      all_flat WordWithin Named (λ (w : Word). accessors by readonly (type_of module_of kind) w.text) (λ w le. accessors_named readonly (type_of module_of kind) w.text le) names (recursion_from_All WordWithin names p.1)
  export_named (exports.Operation result name params) p = (word_within name p.1, tt)

pub introduces_named : (module_of : List ℕ → Module) (i : IdlInterface) → InterfaceWithin i → AllByRecursion Named (introduces module_of i)
introduces_named module_of i p =
    all_join Named (flat_map (export_entries module_of (by_name i.items)) i.before) (flat_map (export_entries module_of (by_name i.items)) i.after)
    (all_flat ExportWithin Named (export_entries module_of (by_name i.items)) (export_named module_of (by_name i.items)) i.before (recursion_from_All ExportWithin i.before p.before))
    (all_flat ExportWithin Named (export_entries module_of (by_name i.items)) (export_named module_of (by_name i.items)) i.after (recursion_from_All ExportWithin i.after p.after))

introduced_named : (es : List Entry) → AllByRecursion Named es → Names (introduced es)
introduced_named [] p = tt
introduced_named (entries.Introduced name sig way ∷ es) p = (p.0, introduced_named es p.1)
introduced_named (entries.Moved name to ∷ es) p = introduced_named es p.1

item_listed : (x : Item) → ItemWithin x → Names (listed_in x)
item_listed (items.ReleaseOrder names) p = words_named names p
item_listed (items.Metaclass name) p = tt
item_listed (items.Major n) p = tt
item_listed (items.Minor n) p = tt
item_listed (items.Method name ms) p = tt
item_listed (items.Variables kind names) p = tt

pub order_named : (i : IdlInterface) → InterfaceWithin i → (es : List Entry) → AllByRecursion Named es → Names (effective_order (listed i.items) (introduced es))
order_named i p es named =
    all_join TextWithin (listed i.items) (without (λ name. among name (listed i.items)) (introduced es))
    (all_flat ItemWithin TextWithin listed_in item_listed i.items (recursion_from_All ItemWithin i.items p.items))
    (all_without TextWithin (λ name. among name (listed i.items)) (introduced es) (introduced_named es named))

pub entry_named : (to : ClassKey) (name : List ℕ) (es : List Entry) → AllByRecursion Named es → TextWithin name → (o : Option Entry) → entry_of es name ≡ o → Named (entry_or_moved to name o)
entry_named to name es named le None e = le
entry_named to name es named le (Some x) e = all_found Named (λ e. bytes_eq (entry_name e) name) es x named e

-- ---- variables and versions

variables_named : (kind : ValueType) (ws : List Word) → All WordWithin ws → AllByRecursion (λ (v : Variable). TextWithin v.name) (variables_of kind ws)
variables_named kind ws all = all_map WordWithin (λ (v : Variable). TextWithin v.name) (λ (w : Word). record { name = w.text; kind = kind }) word_within ws (recursion_from_All WordWithin ws all)

export_variables_named : (module_of : List ℕ → Module) (x : Export) → ExportWithin x → AllByRecursion (λ (v : Variable). TextWithin v.name) (export_variables module_of x)
export_variables_named module_of (exports.Attribute readonly kind names) p = variables_named (type_of module_of kind) names p.1
export_variables_named module_of (exports.Operation result name params) p = tt

item_variables_named : (module_of : List ℕ → Module) (x : Item) → ItemWithin x → AllByRecursion (λ (v : Variable). TextWithin v.name) (item_variables module_of x)
item_variables_named module_of (items.ReleaseOrder names) p = tt
item_variables_named module_of (items.Metaclass name) p = tt
item_variables_named module_of (items.Major n) p = tt
item_variables_named module_of (items.Minor n) p = tt
item_variables_named module_of (items.Method name ms) p = tt
item_variables_named module_of (items.Variables kind names) p = variables_named (type_of module_of kind) names p.1

pub all_variables : (module_of : List ℕ → Module) (i : IdlInterface) → InterfaceWithin i → AllByRecursion (λ (v : Variable). TextWithin v.name) (variables module_of i)
all_variables module_of i p =
    let Within = λ (v : Variable). TextWithin v.name in
    all_join Within (flat_map (export_variables module_of) i.before ++ flat_map (item_variables module_of) i.items) (flat_map (export_variables module_of) i.after)
    (all_join Within (flat_map (export_variables module_of) i.before) (flat_map (item_variables module_of) i.items)
    (all_flat ExportWithin Within (export_variables module_of) (export_variables_named module_of) i.before (recursion_from_All ExportWithin i.before p.before))
    (all_flat ItemWithin Within (item_variables module_of) (item_variables_named module_of) i.items (recursion_from_All ItemWithin i.items p.items)))
    (all_flat ExportWithin Within (export_variables module_of) (export_variables_named module_of) i.after (recursion_from_All ExportWithin i.after p.after))

by_first : (o later : Option ℕ) → ((n : ℕ) → o ≡ Some n → n ≤ MAX_VERSION) → unwrap_or later 0 ≤ MAX_VERSION → unwrap_or (or_else o later) 0 ≤ MAX_VERSION
by_first None later f g = g
by_first (Some n) later f g = f n refl

pub number_within : (number : Item → Option ℕ) → ((x : Item) (n : ℕ) → ItemWithin x → number x ≡ Some n → n ≤ MAX_VERSION) → (is : List Item) → AllByRecursion ItemWithin is → number_of number is ≤ MAX_VERSION
number_within number f [] p = omega arith
number_within number f (x ∷ is) p = by_first (number x) (first_some number is) (λ n e. f x n p.0 e) (number_within number f is p.1)

same_number : (m n : ℕ) → ◌≡◌ {A = Option ℕ} (Some m) (Some n) → m ≡ n
same_number m n e = cc

no_number : {B : Type 0} (n : ℕ) → None ≡ Some n → B
no_number n e = cc

pub major_within : (x : Item) (n : ℕ) → ItemWithin x → major_in x ≡ Some n → n ≤ MAX_VERSION
major_within (items.Major m) n p e = subst (λ k. k ≤ MAX_VERSION) (same_number m n e) p
major_within (items.Minor m) n p e = no_number n e
major_within (items.ReleaseOrder names) n p e = no_number n e
major_within (items.Metaclass name) n p e = no_number n e
major_within (items.Method name ms) n p e = no_number n e
major_within (items.Variables kind names) n p e = no_number n e

pub minor_within : (x : Item) (n : ℕ) → ItemWithin x → minor_in x ≡ Some n → n ≤ MAX_VERSION
minor_within (items.Minor m) n p e = subst (λ k. k ≤ MAX_VERSION) (same_number m n e) p
minor_within (items.Major m) n p e = no_number n e
minor_within (items.ReleaseOrder names) n p e = no_number n e
minor_within (items.Metaclass name) n p e = no_number n e
minor_within (items.Method name ms) n p e = no_number n e
minor_within (items.Variables kind names) n p e = no_number n e

pub some_parent : (module_of : List ℕ → Module) (ws : List Word) → 1 ≤ length (map (key_of module_of) (or_object ws))
some_parent module_of [] = omega arith
some_parent module_of (w ∷ ws) = omega arith
