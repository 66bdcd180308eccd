-- The classes of a base and those after them, and what the passes over them tell together.
use Rattle.std.proofs.Common.{◌≡◌, ℕ, zero, suc, ◌+◌, ◌≤◌, List, [], ◌∷◌, ◌++◌, length, map, flat_map, take, drop, None, Result, refl, sym, ap, ◌∙◌, subst, arith, append_assoc}
use Rattle.som_model.specs.Lists.{first}
use Rattle.som_model.specs.Hierarchy.{Falls}
use Rattle.som_model.specs.Class.{Class, class_in}
use Rattle.som_model.specs.Classes.{hierarchy}
use Rattle.som_model.specs.Conforming.{each_after}
use Rattle.som_model.specs.Kernel.{kernel}
use Rattle.som_model.specs.Rules.{RuleBreach, s1, s2, s5, s9}
use Rattle.som_model.specs.declared.key.Module.{Module}
use Rattle.som_model.proofs.ListLaws.{take_front, drop_front}
use Rattle.som_order.specs.Names.{texts}
use Rattle.som_verify_classes.specs.declared.types.Declared.{Declared}
use Rattle.som_verify_classes.specs.declared.types.VerifyFault.{VerifyFault}
use Rattle.som_verify_classes.specs.Faces.{faces_breach}
use Rattle.som_verify_classes.specs.Modules.{class_of, classes_of}
use Rattle.som_verify_classes.specs.Places.{IsTable, with_kernel}
use Rattle.som_verify_classes.specs.Told.{Tells}
use Rattle.som_verify_classes.specs.Walk.{AreLists}
use Rattle.som_verify_classes.proofs.Before.{both_none}
use Rattle.som_verify_classes.proofs.ClassTable.{is_table}
use Rattle.som_verify_classes.proofs.DeclaredClasses.{are_declared, drop_map, known_number, take_map}
use Rattle.som_verify_classes.proofs.Finding.{take_all}
use Rattle.som_verify_classes.proofs.KeyLists.{lists_of}
use Rattle.som_verify_classes.proofs.PlainMoves.{lower}
use Rattle.som_verify_classes.proofs.PlainNames.{names_say, parents_say}
use Rattle.som_sema_drafts.specs.Drafts.{InterfaceDraft, draft_classes}
use Rattle.som_sema.specs.TextRules.{text_s2_from}
use Rattle.som_sema.specs.Ancestry.{AreDrafts, IsAncestorTable, AreAncestorLists}
use Rattle.som_sema.specs.declared.ancestry.AncestorTable.{AncestorTable}
use Rattle.som_sema.proofs.BaseLaws.{base_moves, base_names, base_stands, moves_more, own_first}
use Rattle.som_sema.proofs.TextBases.{texts_stand}

-- the first classes, and the others
pub parts : (ds : List Declared) (n : ℕ) → classes_of ds ≡ classes_of (take n ds) ++ classes_of (drop n ds)
parts [] zero = refl
parts [] (suc n) = refl
parts (d ∷ ds) zero = refl
parts (d ∷ ds) (suc n) = ap (λ z. class_of d ∷ z) (parts ds n)

pub long_front : (ds : List Declared) (n : ℕ) → n ≤ length ds → length (classes_of (take n ds)) ≡ n
long_front [] zero le = refl
long_front [] (suc n) le = absurd (omega arith)
long_front (d ∷ ds) zero le = refl
long_front (d ∷ ds) (suc n) le = ap suc (long_front ds n (omega arith))

pub front_is : (ds : List Declared) (xs ys : List Class) (n : ℕ) → classes_of ds ≡ xs ++ ys → n ≡ length xs → classes_of (take n ds) ≡ xs
front_is ds xs ys n e l = sym (take_map class_of ds n) ∙ ap (λ k. take k (classes_of ds)) l ∙ ap (take (length xs)) e ∙ take_front xs ys

pub rest_is : (ds : List Declared) (xs ys : List Class) (n : ℕ) → classes_of ds ≡ xs ++ ys → n ≡ length xs → classes_of (drop n ds) ≡ ys
rest_is ds xs ys n e l = sym (drop_map class_of ds n) ∙ ap (λ k. drop k (classes_of ds)) l ∙ ap (drop (length xs)) e ∙ drop_front xs ys

-- S1
pub own_names : (ds : List Declared) (n : ℕ) → faces_breach (classes_of (take n ds)) ≡ None
    → first (each_after s1 kernel (classes_of ds)) ≡ first (each_after s1 (with_kernel (classes_of (take n ds))) (classes_of (drop n ds)))
own_names ds n e = ap (λ z. first (each_after s1 kernel z)) (parts ds n) ∙ own_first s1 kernel (classes_of (take n ds)) (classes_of (drop n ds)) (base_names (classes_of (take n ds)) e)

-- S2
pub front_place : (ds : List Declared) (n place : ℕ) → n ≤ length ds → place ≡ n + 4 → place ≡ length (with_kernel (classes_of (take n ds)))
front_place ds n place le e = omega (arith, e, long_front ds n le)

pub all_stand : (module_of : List ℕ → Module) (m : Module) (ds : List Declared) (n : ℕ) (drafts : List InterfaceDraft) → faces_breach (classes_of (take n ds)) ≡ None → AreDrafts module_of drafts
    → classes_of (drop n ds) ≡ map (class_in m) (draft_classes drafts)
    → first (text_s2_from module_of (with_kernel (classes_of ds)) (length (with_kernel (classes_of (take n ds)))) drafts) ≡ None
    → first (each_after s2 kernel (classes_of ds)) ≡ None
all_stand module_of m ds n drafts conforms are own e =
    let bs = classes_of (take n ds) in
    let all : with_kernel (classes_of ds) ≡ with_kernel bs ++ map (class_in m) (draft_classes drafts) = ap with_kernel (parts ds n ∙ ap (λ z. bs ++ z) own) in
    ap (λ z. first (each_after s2 kernel z)) (parts ds n)
    ∙ own_first s2 kernel bs (classes_of (drop n ds)) (base_stands bs conforms)
    ∙ ap (λ z. first (each_after s2 (with_kernel bs) z)) own
    ∙ texts_stand module_of m (with_kernel (classes_of ds)) (with_kernel bs) drafts (length (with_kernel bs)) are.by refl all e

-- rules that look at each class alone
pub own_tell : (rule : Class → List RuleBreach) (ds asked : List Declared) (n : ℕ) (r : Result (Unit {0}) VerifyFault) → asked ≡ drop n ds
    → Tells (first (flat_map rule (classes_of asked))) r → Tells (first (flat_map rule (classes_of (drop n ds)))) r
own_tell rule ds asked n r e t = subst (λ (z : List Declared). Tells (first (flat_map rule (classes_of z))) r) e t

-- S5
pub own_types_tell : (ds asked : List Declared) (n number : ℕ) (r : Result (Unit {0}) VerifyFault) → number ≡ length ds + 4 → asked ≡ drop n ds
    → Tells (first (flat_map (s5 (take number (with_kernel (classes_of ds)))) (classes_of asked))) r → Tells (first (flat_map (s5 (with_kernel (classes_of ds))) (classes_of (drop n ds)))) r
own_types_tell ds asked n number r e f t =
    own_tell (s5 (with_kernel (classes_of ds))) ds asked n r f
    (subst (λ (z : List Class). Tells (first (flat_map (s5 z) (classes_of asked))) r)
    (ap (λ k. take k (with_kernel (classes_of ds))) (e ∙ known_number ds) ∙ take_all (with_kernel (classes_of ds))) t)

-- the table and the lists of classes whose ancestors are listed
pub lists_are : (cs : List Class) (names : List (List ℕ)) (all lent : List (List ℕ)) → IsTable cs names → AreAncestorLists cs all → lent ≡ all → AreLists (with_kernel cs) lent
lists_are cs names all lent t w e = lists_of cs names t w.rows w.rows all lent w.are refl w.lists e

pub table_names : (cs : List Class) (w : AncestorTable) → IsAncestorTable cs w → IsTable cs (texts w.table.keys)
table_names cs w h = is_table cs (texts w.table.keys) h.declared h.names h.apart

pub table_lists : (cs : List Class) (w : AncestorTable) (lent : List (List ℕ)) → IsAncestorTable cs w → lent ≡ w.lists.items → AreLists (with_kernel cs) lent
table_lists cs w lent h e = lists_are cs (texts w.table.keys) w.lists.items lent (table_names cs w h) h.lists e

-- S9
flat_both : {A B : Type 0} (f : A → List B) (xs ys : List A) → flat_map f (xs ++ ys) ≡ flat_map f xs ++ flat_map f ys
flat_both f [] ys = refl
flat_both f (x ∷ xs) ys = ap (λ z. f x ++ z) (flat_both f xs ys) ∙ sym (append_assoc (f x) (flat_map f xs) (flat_map f ys))

pub all_moved : (ds : List Declared) (n : ℕ) (w : AncestorTable) → IsAncestorTable (classes_of ds) w → faces_breach (classes_of (take n ds)) ≡ None
    → first (flat_map (s9 (with_kernel (classes_of ds))) (classes_of (drop n ds))) ≡ None → first (flat_map (s9 (with_kernel (classes_of ds))) (classes_of ds)) ≡ None
all_moved ds n w h conforms e =
    let cs = classes_of ds in
    let bs = classes_of (take n ds) in
    let own = classes_of (drop n ds) in
    let low : Falls (hierarchy (with_kernel bs)) = lower bs (are_declared (take n ds)) (names_say bs (base_names bs conforms)) (parents_say bs (base_stands bs conforms)) in
    let high : Falls (hierarchy (with_kernel cs)) = lower cs h.declared (names_say cs h.apart) (parents_say cs h.stand) in
    let grown : Falls (hierarchy (with_kernel bs ++ own)) = subst (λ (z : List Class). Falls (hierarchy (with_kernel z))) (parts ds n) high in
    let base : first (flat_map (s9 (with_kernel cs)) bs) ≡ None =
    subst (λ (z : List Class). first (flat_map (s9 (with_kernel z)) bs) ≡ None) (sym (parts ds n)) (moves_more (with_kernel bs) own low grown bs (base_moves bs conforms)) in
    ap (λ z. first (flat_map (s9 (with_kernel cs)) z)) (parts ds n)
    ∙ ap first (flat_both (s9 (with_kernel cs)) bs own)
    ∙ both_none (flat_map (s9 (with_kernel cs)) bs) (flat_map (s9 (with_kernel cs)) own) base e
