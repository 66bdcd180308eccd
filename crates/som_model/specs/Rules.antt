-- The rules of releases and client programs as images have them, each as the list of what breaks it, in order.
-- A rule is asked only where all rules of lower number hold.
use Rattle.std.specs.Prelude.{ℕ, ◌==◌, Bool, true, false, not, ◌&&◌, if◌then◌else◌, List, [], ◌∷◌, ◌++◌, map, flat_map, length, slice_get, Option, Some, None, is_some, codes}
use Rattle.std.specs.Str.{bytes_eq}
use Rattle.som_model.specs.declared.key.ClassKey.{ClassKey}
use Rattle.som_model.specs.declared.key.MethodRef.{MethodRef}
use Rattle.som_model.specs.declared.key.ValueType.{ValueType}
use Rattle.som_model.specs.declared.key.ValueType.TheVariants as types
use Rattle.som_model.specs.declared.class.Sig.{Sig}
use Rattle.som_model.specs.declared.class.Entry.{Entry}
use Rattle.som_model.specs.declared.class.Entry.TheVariants as entries
use Rattle.som_model.specs.declared.class.Body.{Body}
use Rattle.som_model.specs.declared.class.Body.TheVariants as bodies
use Rattle.som_model.specs.declared.class.Variable.{Variable}
use Rattle.som_model.specs.declared.class.Override.{Override}
use Rattle.som_model.specs.declared.class.Select.{Select}
use Rattle.som_model.specs.Lists.{doubles, some, every, option_list, among}
use Rattle.som_model.specs.Keys.{same_key, same_method}
use Rattle.som_model.specs.Same.{same_type}
use Rattle.som_model.specs.Class.{Class, entry_name, introduced}
use Rattle.som_model.specs.Kernel.{som_class}
use Rattle.som_model.specs.Classes.{class_at, ancestors, is_a}
use Rattle.som_model.specs.Owner.{owner, introduces}
pub use Rattle.som_model.specs.Owner.{introduced_by}

-- a rule that is broken, the class, and the member or `-`
pub record RuleBreach : Type 0 where
  pub rule : ℕ
  pub class : List ℕ
  pub member : List ℕ

abbrev pub name_of : Class → List ℕ
name_of c = c.decl.face.name

abbrev pub breach : ℕ → Class → List ℕ → RuleBreach
breach rule c member = record { rule = rule; class = name_of c; member = member }

-- a breach of the class as a whole, unless the demand holds
abbrev pub demand : ℕ → Class → Bool → List RuleBreach
demand rule c holds = if holds then [] else breach rule c (codes "-") ∷ []

-- a breach of a member, unless the demand holds
abbrev pub demand_of : ℕ → Class → List ℕ → Bool → List RuleBreach
demand_of rule c member holds = if holds then [] else breach rule c member ∷ []

-- S1: the name of a class differs from those of all classes before it, the kernel's first
abbrev pub s1 : List Class → Class → List RuleBreach
s1 before c = demand 1 c (not (among (name_of c) (map name_of before)))

-- S2: each parent and the metaclass is a kernel class or stands before the class
abbrev pub s2 : List Class → Class → List RuleBreach
s2 before c = demand 2 c (every (λ k. is_some (class_at before k)) (c.decl.face.parents ++ option_list c.decl.face.metaclass))

-- S3: no parent stands twice
abbrev pub s3 : Class → List RuleBreach
s3 c = map (λ k. breach 3 c (codes "-")) (doubles same_key [] c.decl.face.parents)

-- S4: the metaclass descends from SOMClass
abbrev pub s4 : List Class → Class → List RuleBreach
s4 cs c = demand 4 c (every (λ k. is_a cs k som_class) (option_list c.decl.face.metaclass))

-- a type names a class that is known
abbrev pub is_known : List Class → ValueType → Bool
is_known known (types.Class k) = is_some (class_at known k)
is_known known _ = true

abbrev pub is_void : ValueType → Bool
is_void types.Void = true
is_void _ = false

-- a type of a value: known, and not void
abbrev pub is_value_type : List Class → ValueType → Bool
is_value_type known t = not (is_void t) && is_known known t

-- S5: each type of a signature or variable names a class that is known, and only a result is void
abbrev s5_entry : List Class → Class → Entry → List RuleBreach
s5_entry known c (entries.Introduced name sig way) = demand_of 5 c name (is_known known sig.result && every (is_value_type known) sig.params)
s5_entry known c (entries.Moved name to) = []

abbrev pub s5 : List Class → Class → List RuleBreach
s5 known c = flat_map (s5_entry known c) c.decl.face.entries ++ flat_map (λ v. demand_of 5 c v.name (is_value_type known v.kind)) c.decl.variables

-- S6: the names of the release order are distinct
abbrev pub s6 : Class → List RuleBreach
s6 c = map (breach 6 c) (doubles bytes_eq [] (map entry_name c.decl.face.entries))

-- S7: the names of the variables are distinct
abbrev pub s7 : Class → List RuleBreach
s7 c = map (breach 7 c) (doubles bytes_eq [] (map (λ v. v.name) c.decl.variables))

-- S8: each name is introduced by at most one class of the ancestors
abbrev pub s8 : List Class → Class → List RuleBreach
s8 cs c = map (breach 8 c) (doubles bytes_eq [] (flat_map (introduced_by cs) (ancestors cs c.key)))

-- whether a is a proper ancestor of a class
abbrev pub is_proper : List Class → Class → ClassKey → Bool
is_proper cs c a = not (same_key a c.key) && is_a cs c.key a

-- S9: each moved entry names a proper ancestor that introduces its name
abbrev s9_entry : List Class → Class → Entry → List RuleBreach
s9_entry cs c (entries.Introduced name sig way) = []
s9_entry cs c (entries.Moved name to) = demand_of 9 c name (is_proper cs c to && introduces cs name to)

abbrev pub s9 : List Class → Class → List RuleBreach
s9 cs c = flat_map (s9_entry cs c) c.decl.face.entries

-- whether a proper ancestor introduces a method, and it is none of those before it
abbrev pub is_replaced_once : List Class → Class → List MethodRef → MethodRef → Bool
is_replaced_once cs c before r = is_proper cs c r.class && introduces cs r.name r.class && not (some (same_method r) before)

-- S10, of the overrides: a proper ancestor introduces the method, and none before replaces it
abbrev pub s10_from : List Class → Class → List MethodRef → List Override → List RuleBreach
s10_from cs c before [] = []
s10_from cs c before (o ∷ os) =
    let r = owner cs o.method in
    demand_of 10 c o.method.name (is_replaced_once cs c before r)
    ++ s10_from cs c (before ++ r ∷ []) os

-- whether there is this parent, and it descends from a class
abbrev pub is_parent_below : List Class → ClassKey → Option ClassKey → Bool
is_parent_below cs a None = false
is_parent_below cs a (Some p) = is_a cs p a

-- S10, of the selects: a proper ancestor introduces the method, none before replaces it, and the place is that of a parent that descends from the method's class
abbrev pub s10_selects : List Class → Class → List MethodRef → List Select → List RuleBreach
s10_selects cs c before [] = []
s10_selects cs c before (s ∷ ss) =
    let r = owner cs s.method in
    demand_of 10 c s.method.name (is_replaced_once cs c before r && is_parent_below cs r.class (slice_get c.decl.face.parents s.parent))
    ++ s10_selects cs c (before ++ r ∷ []) ss

-- S10: each override, and then each select, is of a method that a proper ancestor introduces, and no method stands twice among both; methods go by their owners
abbrev pub s10 : List Class → Class → List RuleBreach
s10 cs c = s10_from cs c [] c.decl.overrides ++ s10_selects cs c (map (λ o. owner cs o.method) c.decl.overrides) c.decl.selects

abbrev is_kind : Option ValueType → ValueType → Bool
is_kind None t = false
is_kind (Some kind) t = same_type kind t

abbrev is_empty : {A : Type 0} → List A → Bool
is_empty [] = true
is_empty (x ∷ xs) = false

abbrev is_one : List ValueType → ValueType → Bool
is_one (p ∷ []) t = same_type p t
is_one _ t = false

-- whether a body fits its signature: a block does; a reader takes nothing and answers its variable's type; a writer takes that type and answers nothing
abbrev pub body_fits : List Variable → Sig → Body → Bool
body_fits vs sig (bodies.User block) = true
body_fits vs sig (bodies.Get n) = is_kind (slice_get (map (λ v. v.kind) vs) n) sig.result && is_empty sig.params
body_fits vs sig (bodies.Set n) = is_void sig.result && (elim (slice_get (map (λ v. v.kind) vs) n) [ None ↦ false | Some kind ↦ is_one sig.params kind ])

abbrev s14_from : Class → List Entry → List Body → List RuleBreach
s14_from c [] bs = []
s14_from c (entries.Moved name to ∷ es) bs = s14_from c es bs
s14_from c (entries.Introduced name sig way ∷ es) [] = []
s14_from c (entries.Introduced name sig way ∷ es) (b ∷ bs) = demand_of 14 c name (body_fits c.decl.variables sig b) ++ s14_from c es bs

-- S14: there are as many bodies as introduced entries, and each fits its signature
abbrev pub s14 : Class → List RuleBreach
s14 c = demand 14 c (length c.decl.bodies == length (introduced c.decl.face.entries)) ++ s14_from c c.decl.face.entries c.decl.bodies
