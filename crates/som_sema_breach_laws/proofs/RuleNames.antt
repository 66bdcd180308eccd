-- That what a rule tells of an interface has the rule's number and the interface's name.
use Rattle.std.proofs.Common.{◌≡◌, ℕ, zero, suc, ◌+◌, Bool, true, false, not, if◌then◌else◌, List, [], ◌∷◌, ◌++◌, map, flat_map, take, codes, length, Some, slice_get, refl, sym, ap, ◌∙◌, subst, arith}
use Rattle.som_model.specs.declared.key.ClassKey.{ClassKey}
use Rattle.som_model.specs.declared.key.Module.{Module}
use Rattle.som_model.specs.declared.class.Entry.{Entry}
use Rattle.som_model.specs.declared.class.Entry.TheVariants as entries
use Rattle.som_model.specs.declared.class.Variable.{Variable}
use Rattle.som_model.specs.declared.program.Interface.{Interface}
use Rattle.som_model.specs.Class.{Class, introduced}
use Rattle.som_model.specs.Lists.{among, first}
use Rattle.som_model.specs.Rules.{RuleBreach, breach, name_of, s1, s3, s5, s7, s8, s9}
use Rattle.som_ast.specs.declared.interface.IdlInterface.{IdlInterface}
use Rattle.som_verify_classes.specs.Inherited.{moved_entry}
use Rattle.som_verify_classes.specs.Places.{key_at}
use Rattle.som_verify_classes.specs.Typed.{entry_types, variable_types}
use Rattle.som_sema_drafts.specs.Drafts.{InterfaceDraft}
use Rattle.som_sema_drafts.specs.Items.{Given, given, item_words, listed, metaclass_names}
use Rattle.som_sema_drafts.specs.Demands.{text_breach}
use Rattle.som_sema_local.specs.OwnRules.{second, text_s6, text_s11, text_s12}
use Rattle.som_sema.specs.Building.{module_over}
use Rattle.som_sema.specs.TextRules.{base_stands, bases, makes_classes, replaces_inherited, text_s10, text_s2, text_s4}
use Rattle.som_sema_breach_laws.specs.Telling.{draft, earlier_classes, finished, finished_class, known, own_class, text_rules}

-- all of these breaches are of a rule, and of a class of this name
abbrev pub AreOf : ℕ → List ℕ → List RuleBreach → Type 0
AreOf n name [] = Unit {0}
AreOf n name (b ∷ bs) = ((b.rule ≡ n) × (b.class ≡ name)) × AreOf n name bs

-- so the first of them is
pub first_is : (n : ℕ) (name : List ℕ) (bs : List RuleBreach) → AreOf n name bs → (b : RuleBreach) → first bs ≡ Some b → (b.rule ≡ n) × (b.class ≡ name)
first_is n name [] all b e = absurd (cc)
first_is n name (x ∷ bs) all b e = let same : x ≡ b = let z = e in cc in subst (λ (r : RuleBreach). (r.rule ≡ n) × (r.class ≡ name)) same all.0

both_of : (n : ℕ) (name : List ℕ) (xs ys : List RuleBreach) → AreOf n name xs → AreOf n name ys → AreOf n name (xs ++ ys)
both_of n name [] ys a b = b
both_of n name (x ∷ xs) ys a b = (a.0, both_of n name xs ys a.1 b)

all_of : {A : Type 0} (n : ℕ) (name : List ℕ) (f : A → List RuleBreach) (xs : List A) → ((x : A) → AreOf n name (f x)) → AreOf n name (flat_map f xs)
all_of n name f [] h = tt
all_of n name f (x ∷ xs) h = both_of n name (f x) (flat_map f xs) (h x) (all_of n name f xs h)

each_of : {A : Type 0} (n : ℕ) (name : List ℕ) (f : A → RuleBreach) (xs : List A) → ((x : A) → ((f x).rule ≡ n) × ((f x).class ≡ name)) → AreOf n name (map f xs)
each_of n name f [] h = tt
each_of n name f (x ∷ xs) h = (h x, each_of n name f xs h)

one_of : (n : ℕ) (name : List ℕ) (b : RuleBreach) (holds : Bool) → b.rule ≡ n → b.class ≡ name → AreOf n name (if holds then [] else b ∷ [])
one_of n name b true e f = tt
one_of n name b false e f = ((e, f), tt)

-- ---- the rules of a class, and of a text

abbrev class_of : InterfaceDraft → List ℕ
class_of d = d.class.face.name

second_of : (n : ℕ) (d : InterfaceDraft) (names : List (List ℕ)) → AreOf n (class_of d) (second n d names)
second_of n d names = each_of n (class_of d) (text_breach n d) _ (λ name. (refl, refl))

of_s1 : (before : List Class) (c : Class) → AreOf 1 (name_of c) (s1 before c)
of_s1 before c = one_of 1 (name_of c) (breach 1 c (codes "-")) (not (among (name_of c) (map name_of before))) refl refl

of_s2 : (module_of : List ℕ → Module) (before : List Class) (d : InterfaceDraft) → AreOf 2 (class_of d) (text_s2 module_of before d)
of_s2 module_of before d = all_of 2 (class_of d) (base_stands module_of before d) (bases d.text) (λ name. one_of 2 (class_of d) (text_breach 2 d name) _ refl refl)

of_s3 : (c : Class) → AreOf 3 (name_of c) (s3 c)
of_s3 c = each_of 3 (name_of c) (λ (k : ClassKey). breach 3 c (codes "-")) _ (λ k. (refl, refl))

of_s4 : (module_of : List ℕ → Module) (cs : List Class) (d : InterfaceDraft) → AreOf 4 (class_of d) (text_s4 module_of cs d)
of_s4 module_of cs d = all_of 4 (class_of d) (makes_classes module_of cs d) (metaclass_names d.text.items) (λ name. one_of 4 (class_of d) (text_breach 4 d (codes "-")) _ refl refl)

types_of : (cs : List Class) (c : Class) (e : Entry) → AreOf 5 (name_of c) (entry_types cs c e)
types_of cs c (entries.Introduced name sig way) = one_of 5 (name_of c) (breach 5 c name) _ refl refl
types_of cs c (entries.Moved name to) = tt

of_s5 : (known : List Class) (c : Class) → AreOf 5 (name_of c) (s5 known c)
of_s5 known c =
    both_of 5 (name_of c) (flat_map (entry_types known c) c.decl.face.entries) (flat_map (variable_types known c) c.decl.variables)
    (all_of 5 (name_of c) (entry_types known c) c.decl.face.entries (types_of known c))
    (all_of 5 (name_of c) (variable_types known c) c.decl.variables (λ (v : Variable). one_of 5 (name_of c) (breach 5 c v.name) _ refl refl))

of_s6 : (d : InterfaceDraft) → AreOf 6 (class_of d) (text_s6 d)
of_s6 d =
    both_of 6 (class_of d) (second 6 d (introduced d.class.face.entries)) (second 6 d (listed d.text.items))
    (second_of 6 d (introduced d.class.face.entries)) (second_of 6 d (listed d.text.items))

of_s7 : (c : Class) → AreOf 7 (name_of c) (s7 c)
of_s7 c = each_of 7 (name_of c) (breach 7 c) _ (λ name. (refl, refl))

of_s8 : (all : List Class) (c : Class) → AreOf 8 (name_of c) (s8 all c)
of_s8 all c = each_of 8 (name_of c) (breach 8 c) _ (λ name. (refl, refl))

moved_of : (all : List Class) (c : Class) (e : Entry) → AreOf 9 (name_of c) (moved_entry all c.key c e)
moved_of all c (entries.Introduced name sig way) = tt
moved_of all c (entries.Moved name to) = one_of 9 (name_of c) (breach 9 c name) _ refl refl

of_s9 : (all : List Class) (c : Class) → AreOf 9 (name_of c) (s9 all c)
of_s9 all c = all_of 9 (name_of c) (moved_entry all c.key c) c.decl.face.entries (moved_of all c)

of_s10 : (module_of : List ℕ → Module) (cs : List Class) (k : ClassKey) (d : InterfaceDraft) → AreOf 10 (class_of d) (text_s10 module_of cs k d)
of_s10 module_of cs k d = all_of 10 (class_of d) (replaces_inherited module_of cs k d) (given d.text.items) (λ (g : Given). one_of 10 (class_of d) (text_breach 10 d g.method) _ refl refl)

of_s11 : (d : InterfaceDraft) → AreOf 11 (class_of d) (text_s11 d)
of_s11 d = each_of 11 (class_of d) (text_breach 11 d) _ (λ name. (refl, refl))

of_s12 : (d : InterfaceDraft) → AreOf 12 (class_of d) (text_s12 d)
of_s12 d = second_of 12 d (item_words d.text.items)

-- ---- all rules

-- what the rules tell has their numbers, counted from n, and the names of the interfaces
abbrev pub AreNamed : ℕ → List (List IdlInterface → IdlInterface → List RuleBreach) → Type 0
AreNamed n [] = Unit {0}
AreNamed n (rule ∷ rules) = ((before : List IdlInterface) (i : IdlInterface) → AreOf n i.name.text (rule before i)) × AreNamed (suc n) rules

pub named_at : (n : ℕ) (rules : List (List IdlInterface → IdlInterface → List RuleBreach)) → AreNamed n rules → (place : ℕ) (rule : List IdlInterface → IdlInterface → List RuleBreach) → slice_get rules place ≡ Some rule
    → (before : List IdlInterface) (i : IdlInterface) → AreOf (n + place) i.name.text (rule before i)
named_at n [] all place rule e before i = absurd (cc)
named_at n (r ∷ rules) all zero rule e before i =
    let same : r ≡ rule = cc in
    let none : n ≡ n + 0 = omega arith in
    subst (λ k. AreOf k i.name.text (rule before i)) none (subst (λ (z : List IdlInterface → IdlInterface → List RuleBreach). AreOf n i.name.text (z before i)) same (all.0 before i))
named_at n (r ∷ rules) all (suc place) rule e before i =
    let sum : suc n + place ≡ n + suc place = omega arith in
    subst (λ k. AreOf k i.name.text (rule before i)) sum (named_at (suc n) rules all.1 place rule e before i)

module _ (m : Module) (base : Interface) (is : List IdlInterface) where
  abbrev module_of : List ℕ → Module
  module_of = module_over m base is

  abbrev all : List Class
  all = known m base is

  abbrev d : IdlInterface → InterfaceDraft
  d = draft m base is

  abbrev own : IdlInterface → Class
  own = own_class m base is

  abbrev done : IdlInterface → Class
  done = finished_class m base is

  abbrev done_all : List Class
  done_all = finished m base is

  abbrev before_all : List Class
  before_all = earlier_classes m base is

  pub rules_named : AreNamed 1 (text_rules m base is)
  rules_named = (
    (λ before i. of_s1 (before_all ++ map own before) (own i)),
    (
      (λ before i. of_s2 module_of (take (length before_all + length before) all) (d i)),
      (
        (λ before i. of_s3 (own i)),
        (
          (λ before i. of_s4 module_of all (d i)),
          (
            (λ before i. of_s5 all (own i)),
            (
              (λ before i. of_s6 (d i)),
              (
                (λ before i. of_s7 (own i)),
                (
                  (λ before i. of_s8 done_all (done i)),
                  (
                    (λ before i. of_s9 done_all (done i)),
                    (
                      (λ before i. of_s10 module_of all (key_at all (length before_all + length before)) (d i)),
                      (
                        (λ before i. of_s11 (d i)),
                        (
                          (λ before i. of_s12 (d i)),
                          tt,
                        ),
                      ),
                    ),
                  ),
                ),
              ),
            ),
          ),
        ),
      ),
    ),
  )
