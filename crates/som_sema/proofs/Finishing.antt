-- From drafts to declarations.
use Rattle.std.proofs.Common.{◌≡◌, ℕ, suc, ◌+◌, inl, inr, List, [], ◌∷◌, ◌++◌, length, map, take, drop, refl, sym, ap, ◌∙◌, subst, arith, append_assoc, length-append}
use Rattle.som_model.specs.Class.{Class, bare, class_in}
use Rattle.som_model.specs.Classes.{interface_classes}
use Rattle.som_model.specs.declared.key.Module.{Module}
use Rattle.som_model.specs.declared.key.Module.TheVariants as modules
use Rattle.som_model.specs.declared.class.ClassDecl.{ClassDecl}
use Rattle.som_model.specs.declared.class.ClassFace.{ClassFace}
use Rattle.som_model.specs.declared.program.Interface.{Interface}
use Rattle.som_verify_classes.specs.Modules.{AreDeclared, classes_of}
use Rattle.som_verify_classes.specs.Places.{key_at, with_kernel}
use Rattle.som_verify_classes.specs.declared.types.Declared.{Declared}
use Rattle.som_verify_classes.proofs.DeclaredClasses.{long_map, map_declared}
use Rattle.som_model_laws.proofs.Members.{mem_split}
use Rattle.som_model.specs.Lists.{first}
use Rattle.som_sema_decls.specs.Known.{after_base}
use Rattle.som_sema.specs.Building.{declared_all, moved_breach, draft_breach}
use Rattle.som_sema.specs.TextRules.{text_s10_from}
use Rattle.som_sema.proofs.Composing.{front_is, rest_is}
use Rattle.som_sema_decls.specs.Finished.{declare, declare_at, declared_from}
use Rattle.som_sema_drafts.specs.Drafts.{InterfaceDraft, draft_classes}
use Rattle.som_sema.specs.Ancestry.{IsAncestorTable}
use Rattle.som_sema.specs.declared.ancestry.AncestorTable.{AncestorTable}
use Rattle.som_sema_names.proofs.Noting.{at_end}
use Rattle.som_sema.proofs.Alike.{alike_both, alike_declared, alike_self, alike_table}

-- the classes stand at the places that follow each other
keys_from : (m : Module) (cs front : List Class) (ds : List InterfaceDraft) (place : ℕ) → place ≡ length front → cs ≡ front ++ map (class_in m) (draft_classes ds)
    → declared_from cs place ds ≡ map (declare cs m) ds
keys_from m cs front [] place at is = refl
keys_from m cs front (d ∷ ds) place at is =
    let c = class_in m d.class in
    let key : key_at cs place ≡ c.key =
    ap (key_at cs) at ∙ ap (λ z. key_at z (length front)) is ∙ ap (λ (z : Class). z.key) (at_end front (map (class_in m) (draft_classes ds)) c _) in
    let next : suc place ≡ length (front ++ c ∷ []) = omega (arith, at, length-append front (c ∷ [])) in
    ap (λ k. declare_at cs k d ∷ declared_from cs (suc place) ds) key
    ∙ ap (λ z. declare cs m d ∷ z) (keys_from m cs (front ++ c ∷ []) ds (suc place) next (is ∙ sym (append_assoc front (c ∷ []) (map (class_in m) (draft_classes ds)))))

pub declared_is : (m : Module) (base : List Class) (ds : List InterfaceDraft) (cs : List Class) (place : ℕ) → cs ≡ after_base m base (draft_classes ds) → place ≡ length base + 4
    → declared_from (with_kernel cs) place ds ≡ declared_all m base ds
declared_is m base ds cs place e at =
    let four : place ≡ length (with_kernel base) = omega (arith, at) in
    ap (λ z. declared_from (with_kernel z) place ds) e
    ∙ keys_from m (with_kernel (after_base m base (draft_classes ds))) (with_kernel base) ds place four refl

both_declared : (m : Module) (bs os : List ClassDecl) → AreDeclared (after_base m (map (class_in modules.Library) bs) os)
both_declared m bs os = record {
  by = λ c n. elim (mem_split c (map (class_in modules.Library) bs) (map (class_in m) os) n) [
    | inl k ↦ (map_declared modules.Library bs).by c k
    | inr k ↦ (map_declared m os).by c k
  ];
}

-- the declarations have the names and the ancestors that their drafts have
pub finished_table : (m : Module) (bs : List ClassDecl) (ds : List InterfaceDraft) (cs : List Class) (all : List ClassDecl) (w : AncestorTable)
    → cs ≡ after_base m (map (class_in modules.Library) bs) (draft_classes ds) → all ≡ declared_all m (map (class_in modules.Library) bs) ds
    → IsAncestorTable cs w → IsAncestorTable (after_base m (map (class_in modules.Library) bs) all) w
finished_table m bs ds cs all w e f h =
    let base = map (class_in modules.Library) bs in
    let full = with_kernel (after_base m base (draft_classes ds)) in
    subst (λ (z : List ClassDecl). IsAncestorTable (after_base m base z) w) (sym f)
    (alike_table (after_base m base (draft_classes ds)) (after_base m base (map (declare full m) ds)) w
    (alike_both base base (map (class_in m) (draft_classes ds)) (map (class_in m) (map (declare full m) ds)) (alike_self base) (alike_declared m full ds))
    (both_declared m bs (map (declare full m) ds))
    (subst (λ (z : List Class). IsAncestorTable z w) e h))

pub bare_is : (fs : List ClassFace) → map (class_in modules.Library) (map bare fs) ≡ map (λ f. class_in modules.Library (bare f)) fs
bare_is [] = refl
bare_is (f ∷ fs) = ap (λ z. class_in modules.Library (bare f) ∷ z) (bare_is fs)

pub base_is : (base : Interface) (ds : List ClassDecl) (fs : List ClassFace) → ds ≡ map bare fs → fs ≡ base.classes → map (class_in modules.Library) ds ≡ interface_classes base
base_is base ds fs e f = ap (map (class_in modules.Library)) e ∙ bare_is fs ∙ ap (map (λ f. class_in modules.Library (bare f))) f

-- what the drafts break, by the classes that were declared
pub draft_class_is : (module_of : List ℕ → Module) (m : Module) (ds : List Declared) (bs : List ClassDecl) (drafts : List InterfaceDraft) (n : ℕ) → classes_of ds ≡ after_base m (map (class_in modules.Library) bs) (draft_classes drafts) → n ≡ length bs
    → draft_breach module_of (classes_of ds) (classes_of (take n ds)) (classes_of (drop n ds)) drafts
    ≡ draft_breach module_of (after_base m (map (class_in modules.Library) bs) (draft_classes drafts)) (map (class_in modules.Library) bs) (map (class_in m) (draft_classes drafts)) drafts
draft_class_is module_of m ds bs drafts n e l =
    let base = map (class_in modules.Library) bs in
    let own = map (class_in m) (draft_classes drafts) in
    let long : n ≡ length base = l ∙ sym (long_map (class_in modules.Library) bs) in
    ap (λ z. draft_breach module_of z (classes_of (take n ds)) (classes_of (drop n ds)) drafts) e
    ∙ ap (λ z. draft_breach module_of (after_base m base (draft_classes drafts)) z (classes_of (drop n ds)) drafts) (front_is ds base own n e long)
    ∙ ap (λ z. draft_breach module_of (after_base m base (draft_classes drafts)) base z drafts) (rest_is ds base own n e long)

pub base_front : (m : Module) (ds : List Declared) (bs os : List ClassDecl) (n : ℕ) → classes_of ds ≡ after_base m (map (class_in modules.Library) bs) os → n ≡ length bs → classes_of (take n ds) ≡ map (class_in modules.Library) bs
base_front m ds bs os n e l = front_is ds (map (class_in modules.Library) bs) (map (class_in m) os) n e (l ∙ sym (long_map (class_in modules.Library) bs))

pub own_rest : (m : Module) (ds : List Declared) (bs os : List ClassDecl) (n : ℕ) → classes_of ds ≡ after_base m (map (class_in modules.Library) bs) os → n ≡ length bs → classes_of (drop n ds) ≡ map (class_in m) os
own_rest m ds bs os n e l = rest_is ds (map (class_in modules.Library) bs) (map (class_in m) os) n e (l ∙ sym (long_map (class_in modules.Library) bs))

pub moved_is : (m : Module) (ds : List Declared) (bs os : List ClassDecl) (n : ℕ) → classes_of ds ≡ after_base m (map (class_in modules.Library) bs) os → n ≡ length bs
    → moved_breach (classes_of ds) (classes_of (drop n ds)) ≡ moved_breach (after_base m (map (class_in modules.Library) bs) os) (map (class_in m) os)
moved_is m ds bs os n e l =
    ap (λ z. moved_breach z (classes_of (drop n ds))) e
    ∙ ap (moved_breach (after_base m (map (class_in modules.Library) bs) os)) (own_rest m ds bs os n e l)

-- S10 of texts, by the classes that were declared
pub inherited_is : (module_of : List ℕ → Module) (m : Module) (ds : List Declared) (bs : List ClassDecl) (drafts : List InterfaceDraft) (place : ℕ) → classes_of ds ≡ after_base m (map (class_in modules.Library) bs) (draft_classes drafts) → place ≡ length bs + 4
    → first (text_s10_from module_of (with_kernel (classes_of ds)) place drafts)
    ≡ first (text_s10_from module_of (with_kernel (after_base m (map (class_in modules.Library) bs) (draft_classes drafts))) (length (with_kernel (map (class_in modules.Library) bs))) drafts)
inherited_is module_of m ds bs drafts place e at =
    let base = map (class_in modules.Library) bs in
    let four : place ≡ length (with_kernel base) = omega (arith, at, long_map (class_in modules.Library) bs) in
    ap (λ (z : List Class). first (text_s10_from module_of (with_kernel z) place drafts)) e
    ∙ ap (λ n. first (text_s10_from module_of (with_kernel (after_base m base (draft_classes drafts))) n drafts)) four
