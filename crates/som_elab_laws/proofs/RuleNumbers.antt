-- That what is told of a rule has its number.
use Rattle.std.proofs.Common.{◌≡◌, ℕ, suc, Bool, true, false, not, if◌then◌else◌, List, [], ◌∷◌, ◌++◌, map, flat_map, take, codes, Some, refl, sym, ap, ◌∙◌}
use Rattle.som_model.specs.declared.key.ClassKey.{ClassKey}
use Rattle.som_model.specs.declared.key.Module.{Module}
use Rattle.som_model.specs.declared.class.Entry.{Entry}
use Rattle.som_model.specs.declared.class.Entry.TheVariants as entries
use Rattle.som_model.specs.declared.class.Variable.{Variable}
use Rattle.som_model.specs.Class.{Class, introduced}
use Rattle.som_model.specs.Conforming.{each_after}
use Rattle.som_model.specs.Lists.{among, first}
use Rattle.som_model.specs.Rules.{RuleBreach, breach, name_of, s1, s3, s5, s7, s8, s9}
use Rattle.som_verify_classes.specs.Inherited.{moved_entry}
use Rattle.som_verify_classes.specs.Places.{key_at}
use Rattle.som_verify_classes.specs.Typed.{entry_types, variable_types}
use Rattle.som_sema_drafts.specs.Drafts.{InterfaceDraft}
use Rattle.som_sema_drafts.specs.Items.{Given, given, item_words, listed, metaclass_names}
use Rattle.som_sema_drafts.specs.Demands.{text_breach}
use Rattle.som_sema_local.specs.OwnRules.{second, text_s6, text_s11, text_s12}
use Rattle.som_sema.specs.TextRules.{base_stands, bases, makes_classes, replaces_inherited, text_s10, text_s10_from, text_s2, text_s2_from, text_s4}

-- all of these breaches are of a rule
abbrev pub AreOf : ℕ → List RuleBreach → Type 0
AreOf n [] = Unit {0}
AreOf n (b ∷ bs) = (b.rule ≡ n) × AreOf n bs

-- so the first of them is
pub first_is : (n : ℕ) (bs : List RuleBreach) → AreOf n bs → (b : RuleBreach) → first bs ≡ Some b → b.rule ≡ n
first_is n [] all b e = absurd (cc)
first_is n (x ∷ bs) all b e = let same : x ≡ b = let z = e in cc in ap (λ (r : RuleBreach). r.rule) (sym same) ∙ all.0

both_of : (n : ℕ) (xs ys : List RuleBreach) → AreOf n xs → AreOf n ys → AreOf n (xs ++ ys)
both_of n [] ys a b = b
both_of n (x ∷ xs) ys a b = (a.0, both_of n xs ys a.1 b)

all_of : {A : Type 0} (n : ℕ) (f : A → List RuleBreach) (xs : List A) → ((x : A) → AreOf n (f x)) → AreOf n (flat_map f xs)
all_of n f [] h = tt
all_of n f (x ∷ xs) h = both_of n (f x) (flat_map f xs) (h x) (all_of n f xs h)

each_of : {A : Type 0} (n : ℕ) (f : A → RuleBreach) (xs : List A) → ((x : A) → (f x).rule ≡ n) → AreOf n (map f xs)
each_of n f [] h = tt
each_of n f (x ∷ xs) h = (h x, each_of n f xs h)

one_of : (n : ℕ) (b : RuleBreach) (holds : Bool) → b.rule ≡ n → AreOf n (if holds then [] else b ∷ [])
one_of n b true e = tt
one_of n b false e = (e, tt)

second_of : (n : ℕ) (d : InterfaceDraft) (names : List (List ℕ)) → AreOf n (second n d names)
second_of n d names = each_of n (text_breach n d) _ (λ name. refl)

-- ---- the rules, one by one

pub of_s1 : (before cs : List Class) → AreOf 1 (each_after s1 before cs)
of_s1 before [] = tt
of_s1 before (c ∷ cs) = both_of 1 (s1 before c) (each_after s1 (before ++ c ∷ []) cs) (one_of 1 (breach 1 c (codes "-")) (not (among (name_of c) (map name_of before))) refl) (of_s1 (before ++ c ∷ []) cs)

pub of_s2 : (module_of : List ℕ → Module) (cs : List Class) (place : ℕ) (ds : List InterfaceDraft) → AreOf 2 (text_s2_from module_of cs place ds)
of_s2 module_of cs place [] = tt
of_s2 module_of cs place (d ∷ ds) =
    both_of 2 (text_s2 module_of (take place cs) d) (text_s2_from module_of cs (suc place) ds)
    (all_of 2 (base_stands module_of (take place cs) d) (bases d.text) (λ name. one_of 2 (text_breach 2 d name) _ refl))
    (of_s2 module_of cs (suc place) ds)

pub of_s3 : (cs : List Class) → AreOf 3 (flat_map s3 cs)
of_s3 cs = all_of 3 s3 cs (λ c. each_of 3 (λ (k : ClassKey). breach 3 c (codes "-")) _ (λ k. refl))

pub of_s4 : (module_of : List ℕ → Module) (cs : List Class) (ds : List InterfaceDraft) → AreOf 4 (flat_map (text_s4 module_of cs) ds)
of_s4 module_of cs ds = all_of 4 (text_s4 module_of cs) ds (λ d. all_of 4 (makes_classes module_of cs d) (metaclass_names d.text.items) (λ name. one_of 4 (text_breach 4 d (codes "-")) _ refl))

types_of : (cs : List Class) (c : Class) (e : Entry) → AreOf 5 (entry_types cs c e)
types_of cs c (entries.Introduced name sig way) = one_of 5 (breach 5 c name) _ refl
types_of cs c (entries.Moved name to) = tt

pub of_s5 : (known cs : List Class) → AreOf 5 (flat_map (s5 known) cs)
of_s5 known cs = all_of 5 (s5 known) cs (λ c.
    both_of 5 (flat_map (entry_types known c) c.decl.face.entries) (flat_map (variable_types known c) c.decl.variables)
    (all_of 5 (entry_types known c) c.decl.face.entries (types_of known c))
    (all_of 5 (variable_types known c) c.decl.variables (λ (v : Variable). one_of 5 (breach 5 c v.name) _ refl)))

pub of_s6 : (ds : List InterfaceDraft) → AreOf 6 (flat_map text_s6 ds)
of_s6 ds = all_of 6 text_s6 ds (λ d.
    both_of 6 (second 6 d (introduced d.class.face.entries)) (second 6 d (listed d.text.items))
    (second_of 6 d (introduced d.class.face.entries)) (second_of 6 d (listed d.text.items)))

pub of_s7 : (cs : List Class) → AreOf 7 (flat_map s7 cs)
of_s7 cs = all_of 7 s7 cs (λ c. each_of 7 (breach 7 c) _ (λ name. refl))

pub of_s8 : (all cs : List Class) → AreOf 8 (flat_map (s8 all) cs)
of_s8 all cs = all_of 8 (s8 all) cs (λ c. each_of 8 (breach 8 c) _ (λ name. refl))

moved_of : (all : List Class) (c : Class) (e : Entry) → AreOf 9 (moved_entry all c.key c e)
moved_of all c (entries.Introduced name sig way) = tt
moved_of all c (entries.Moved name to) = one_of 9 (breach 9 c name) _ refl

pub of_s9 : (all cs : List Class) → AreOf 9 (flat_map (s9 all) cs)
of_s9 all cs = all_of 9 (s9 all) cs (λ c. all_of 9 (moved_entry all c.key c) c.decl.face.entries (moved_of all c))

pub of_s10 : (module_of : List ℕ → Module) (cs : List Class) (place : ℕ) (ds : List InterfaceDraft) → AreOf 10 (text_s10_from module_of cs place ds)
of_s10 module_of cs place [] = tt
of_s10 module_of cs place (d ∷ ds) =
    both_of 10 (text_s10 module_of cs (key_at cs place) d) (text_s10_from module_of cs (suc place) ds)
    (all_of 10 (replaces_inherited module_of cs (key_at cs place) d) (given d.text.items) (λ (g : Given). one_of 10 (text_breach 10 d g.method) _ refl))
    (of_s10 module_of cs (suc place) ds)

pub of_s11 : (ds : List InterfaceDraft) → AreOf 11 (flat_map text_s11 ds)
of_s11 ds = all_of 11 text_s11 ds (λ d. each_of 11 (text_breach 11 d) _ (λ name. refl))

pub of_s12 : (ds : List InterfaceDraft) → AreOf 12 (flat_map text_s12 ds)
of_s12 ds = all_of 12 text_s12 ds (λ d. second_of 12 d (item_words d.text.items))
