-- The rules of texts one after the other, each over all interfaces, are what the first breach is taken from.
use Rattle.std.proofs.Common.{◌≡◌, ℕ, zero, suc, ◌+◌, List, [], ◌∷◌, ◌++◌, map, flat_map, take, length, Option, Some, None, slice_get, refl, sym, ap, ◌∙◌, subst, arith}
use Rattle.som_model.specs.declared.key.ClassKey.{ClassKey}
use Rattle.som_model.specs.declared.key.Module.{Module}
use Rattle.som_model.specs.declared.program.Interface.{Interface}
use Rattle.som_model.specs.Class.{Class, class_in}
use Rattle.som_model.specs.Classes.{interface_classes}
use Rattle.som_model.specs.Conforming.{each_after}
use Rattle.som_model.specs.Lists.{first, or_else}
use Rattle.som_model.specs.Rules.{RuleBreach, s1, s3, s5, s7, s8, s9}
use Rattle.som_ast.specs.declared.interface.IdlInterface.{IdlInterface}
use Rattle.som_verify_classes.specs.Places.{key_at, with_kernel}
use Rattle.som_sema_drafts.specs.Drafts.{InterfaceDraft, draft_classes, draft_of}
use Rattle.som_sema_decls.specs.Finished.{declare}
use Rattle.som_sema_local.specs.OwnRules.{text_s6, text_s11, text_s12}
use Rattle.som_sema.specs.TextRules.{text_s2, text_s2_from, text_s4, text_s10, text_s10_from}
use Rattle.som_sema.specs.Building.{declarations, declared_all, module_over, texts_breach}
use Rattle.som_sema_breach_laws.specs.Telling.{IsFirstTold, draft, earlier_classes, finished, finished_class, known, own_class, text_rules}
use Rattle.som_sema_breach_laws.proofs.Firsts.{append_none, over, told_by, told_first}
use Rattle.som_sema_breach_laws.proofs.RuleNames.{first_is, named_at, rules_named}

length_one : {A : Type 0} (xs : List A) (x : A) → length (xs ++ x ∷ []) ≡ suc (length xs)
length_one [] x = refl
length_one (y ∷ xs) x = let r = length_one xs x in omega (arith, r)

map_one : {A B : Type 0} (f : A → B) (xs : List A) (x : A) → map f (xs ++ x ∷ []) ≡ map f xs ++ f x ∷ []
map_one f [] x = refl
map_one f (y ∷ xs) x = ap (λ z. f y ∷ z) (map_one f xs x)

append_both : {A : Type 0} (xs ys zs : List A) → (xs ++ ys) ++ zs ≡ xs ++ (ys ++ zs)
append_both [] ys zs = refl
append_both (x ∷ xs) ys zs = ap (λ l. x ∷ l) (append_both xs ys zs)

or_both : {B : Type 0} (o p q r : Option B) → o ≡ p → q ≡ r → or_else o q ≡ or_else p r
or_both o p q r e f = ap (λ z. or_else z q) e ∙ ap (or_else p) f

-- options in the groups of the definition, one after the other
twelve : {B : Type 0} (a b c d e f g h i j k l : Option B)
    → or_else (or_else a (or_else b (or_else c (or_else d (or_else e (or_else f g)))))) (or_else (or_else h i) (or_else j (or_else k l)))
    ≡ or_else a (or_else b (or_else c (or_else d (or_else e (or_else f (or_else g (or_else h (or_else i (or_else j (or_else k (or_else l None)))))))))))
twelve (Some x) b c d e f g h i j k l = refl
twelve None (Some x) c d e f g h i j k l = refl
twelve None None (Some x) d e f g h i j k l = refl
twelve None None None (Some x) e f g h i j k l = refl
twelve None None None None (Some x) f g h i j k l = refl
twelve None None None None None (Some x) g h i j k l = refl
twelve None None None None None None (Some x) h i j k l = refl
twelve None None None None None None None (Some x) i j k l = refl
twelve None None None None None None None None (Some x) j k l = refl
twelve None None None None None None None None None (Some x) k l = refl
twelve None None None None None None None None None None (Some x) l = refl
twelve None None None None None None None None None None None (Some x) = refl
twelve None None None None None None None None None None None None = refl

module _ (m : Module) (base : Interface) (all : List IdlInterface) where
  abbrev module_of : List ℕ → Module
  module_of = module_over m base all

  abbrev d : IdlInterface → InterfaceDraft
  d = draft m base all

  abbrev own : IdlInterface → Class
  own = own_class m base all

  abbrev first_ones : List Class
  first_ones = earlier_classes m base all

  abbrev known_ones : List Class
  known_ones = known m base all

  abbrev done : IdlInterface → Class
  done = finished_class m base all

  -- ---- each rule, over the interfaces that are left behind others

  one_over : (pre is : List IdlInterface) (before : List Class) → before ≡ first_ones ++ map own pre
      → each_after s1 before (map (class_in m) (draft_classes (map d is))) ≡ over (λ before i. s1 (first_ones ++ map own before) (own i)) pre is
  one_over pre [] before e = refl
  one_over pre (i ∷ is) before e =
      ap (λ z. s1 z (own i) ++ each_after s1 (before ++ own i ∷ []) (map (class_in m) (draft_classes (map d is)))) e
      ∙ ap (λ z. s1 (first_ones ++ map own pre) (own i) ++ z) (one_over (pre ++ i ∷ []) is (before ++ own i ∷ [])
      (ap (λ z. z ++ own i ∷ []) e ∙ append_both first_ones (map own pre) (own i ∷ []) ∙ ap (λ z. first_ones ++ z) (sym (map_one own pre i))))

  next_place : (pre : List IdlInterface) (i : IdlInterface) (place : ℕ) → place ≡ length first_ones + length pre → suc place ≡ length first_ones + length (pre ++ i ∷ [])
  next_place pre i place e = let r = length_one pre i in omega (arith, e, r)

  two_over : (pre is : List IdlInterface) (place : ℕ) → place ≡ length first_ones + length pre
      → text_s2_from module_of known_ones place (map d is) ≡ over (λ before i. text_s2 module_of (take (length first_ones + length before) known_ones) (d i)) pre is
  two_over pre [] place e = refl
  two_over pre (i ∷ is) place e =
      ap (λ z. text_s2 module_of (take z known_ones) (d i) ++ text_s2_from module_of known_ones (suc place) (map d is)) e
      ∙ ap (λ z. text_s2 module_of (take (length first_ones + length pre) known_ones) (d i) ++ z) (two_over (pre ++ i ∷ []) is (suc place) (next_place pre i place e))

  ten_over : (pre is : List IdlInterface) (place : ℕ) → place ≡ length first_ones + length pre
      → text_s10_from module_of known_ones place (map d is) ≡ over (λ before i. text_s10 module_of known_ones (key_at known_ones (length first_ones + length before)) (d i)) pre is
  ten_over pre [] place e = refl
  ten_over pre (i ∷ is) place e =
      ap (λ z. text_s10 module_of known_ones (key_at known_ones z) (d i) ++ text_s10_from module_of known_ones (suc place) (map d is)) e
      ∙ ap (λ z. text_s10 module_of known_ones (key_at known_ones (length first_ones + length pre)) (d i) ++ z) (ten_over (pre ++ i ∷ []) is (suc place) (next_place pre i place e))

  text_over : (rule : InterfaceDraft → List RuleBreach) (pre is : List IdlInterface) → flat_map rule (map d is) ≡ over (λ before i. rule (d i)) pre is
  text_over rule pre [] = refl
  text_over rule pre (i ∷ is) = ap (λ z. rule (d i) ++ z) (text_over rule (pre ++ i ∷ []) is)

  own_over : (rule : Class → List RuleBreach) (pre is : List IdlInterface) → flat_map rule (map (class_in m) (draft_classes (map d is))) ≡ over (λ before i. rule (own i)) pre is
  own_over rule pre [] = refl
  own_over rule pre (i ∷ is) = ap (λ z. rule (own i) ++ z) (own_over rule (pre ++ i ∷ []) is)

  done_over : (rule : Class → List RuleBreach) (pre is : List IdlInterface) → flat_map rule (map (class_in m) (map (declare known_ones m) (map d is))) ≡ over (λ before i. rule (done i)) pre is
  done_over rule pre [] = refl
  done_over rule pre (i ∷ is) = ap (λ z. rule (done i) ++ z) (done_over rule (pre ++ i ∷ []) is)

  -- ---- all of them

  start : length first_ones ≡ length first_ones + 0
  start = omega arith

  pub told_is : texts_breach m base all ≡ told_by (text_rules m base all) all
  told_is =
      twelve
      (first (each_after s1 first_ones (map (class_in m) (draft_classes (map d all)))))
      (first (text_s2_from module_of known_ones (length first_ones) (map d all)))
      (first (flat_map s3 (map (class_in m) (draft_classes (map d all)))))
      (first (flat_map (text_s4 module_of known_ones) (map d all)))
      (first (flat_map (s5 known_ones) (map (class_in m) (draft_classes (map d all)))))
      (first (flat_map text_s6 (map d all)))
      (first (flat_map s7 (map (class_in m) (draft_classes (map d all)))))
      (first (flat_map (s8 (finished m base all)) (map (class_in m) (map (declare known_ones m) (map d all)))))
      (first (flat_map (s9 (finished m base all)) (map (class_in m) (map (declare known_ones m) (map d all)))))
      (first (text_s10_from module_of known_ones (length first_ones) (map d all)))
      (first (flat_map text_s11 (map d all)))
      (first (flat_map text_s12 (map d all)))
      ∙ or_both _ _ _ _ (ap first (one_over [] all first_ones (sym (append_none first_ones))))
      (or_both _ _ _ _ (ap first (two_over [] all (length first_ones) start))
      (or_both _ _ _ _ (ap first (own_over s3 [] all))
      (or_both _ _ _ _ (ap first (text_over (text_s4 module_of known_ones) [] all))
      (or_both _ _ _ _ (ap first (own_over (s5 known_ones) [] all))
      (or_both _ _ _ _ (ap first (text_over text_s6 [] all))
      (or_both _ _ _ _ (ap first (own_over s7 [] all))
      (or_both _ _ _ _ (ap first (done_over (s8 (finished m base all)) [] all))
      (or_both _ _ _ _ (ap first (done_over (s9 (finished m base all)) [] all))
      (or_both _ _ _ _ (ap first (ten_over [] all (length first_ones) start))
      (or_both _ _ _ _ (ap first (text_over text_s11 [] all))
      (or_both _ _ _ _ (ap first (text_over text_s12 [] all)) refl)))))))))))

  pub first_told : (b : RuleBreach) → texts_breach m base all ≡ Some b → IsFirstTold m base all b
  first_told b e =
      let t = told_first (text_rules m base all) all b (sym told_is ∙ e) in
      let f = t.is_first in
      let r = first_is (1 + t.place) f.item.name.text (t.rule f.before f.item) (named_at 1 (text_rules m base all) (rules_named m base all) t.place t.rule t.is_rule f.before f.item) b f.begins in
      record {
        place = t.place;
        rule = t.rule;
        is_rule = t.is_rule;
        numbered = r.0;
        lower = t.lower;
        before = f.before;
        interface = f.item;
        after = f.after;
        parts = f.parts;
        earlier = f.earlier;
        named = r.1;
        member = f.begins;
      }
