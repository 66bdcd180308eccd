-- What the rules say of the base and of the client's own classes, each alone.
use Rattle.std.proofs.Common.{◌≡◌, ℕ, List, [], ◌∷◌, ◌++◌, sym, ap, subst, ◌∙◌, append_assoc}
use Rattle.std.specs.Prelude.{flat_map}
use Rattle.std.proofs.lemmas.List.{append-nil}
use Rattle.std.proofs.lemmas.Grind.{flat_map-append}
use Rattle.som_model.specs.declared.program.ClientProgram.{ClientProgram}
use Rattle.som_model.specs.Lists.{first}
use Rattle.som_model.specs.Class.{Class}
use Rattle.som_model.specs.Kernel.{kernel}
use Rattle.som_model.specs.Classes.{interface_classes, client_classes}
use Rattle.som_model.specs.Rules.{RuleBreach, s1, s2, s5, s6, s7, s8, s9, s10, s14}
use Rattle.som_model.specs.Conforming.{each_after, class_typed, main_typed, ProgramOk}
use Rattle.som_image_classes.proofs.Conforming.{neither_is, none_first, both_empty}

-- a rule on the classes before each, of two lists one after the other
after_both : (rule : List Class → Class → List RuleBreach) (before xs ys : List Class) → each_after rule before (xs ++ ys) ≡ each_after rule before xs ++ each_after rule (before ++ xs) ys
after_both rule before [] ys = ap (λ (l : List Class). each_after rule l ys) (sym (append-nil before))
after_both rule before (x ∷ xs) ys =
    let told : List RuleBreach = rule before x in
    let next : List Class = before ++ x ∷ [] in
    ap (λ (l : List RuleBreach). told ++ l) (after_both rule next xs ys)
    ∙ sym (append_assoc told (each_after rule next xs) (each_after rule (next ++ xs) ys))
    ∙ ap (λ (l : List Class). (told ++ each_after rule next xs) ++ each_after rule l ys) (append_assoc before (x ∷ []) xs)

two_after : (rule : List Class → Class → List RuleBreach) (before xs ys : List Class) → each_after rule before (xs ++ ys) ≡ [] → (each_after rule before xs ≡ []) × (each_after rule (before ++ xs) ys ≡ [])
two_after rule before xs ys h = both_empty (each_after rule before xs) (each_after rule (before ++ xs) ys) (sym (after_both rule before xs ys) ∙ h)

two_of : (rule : Class → List RuleBreach) (xs ys : List Class) → flat_map rule (xs ++ ys) ≡ [] → (flat_map rule xs ≡ []) × (flat_map rule ys ≡ [])
two_of rule xs ys h = both_empty (flat_map rule xs) (flat_map rule ys) (sym (flat_map-append rule xs ys) ∙ h)

module _ (p : ClientProgram) where
  abbrev pub base : List Class
  base = interface_classes p.base

  abbrev pub own : List Class
  own = client_classes p

  abbrev pub before : List Class
  before = kernel ++ base

  abbrev pub all : List Class
  all = before ++ own

  -- the rules that are used of a client program
  pub record Holds : Type 0 where
    pub names : each_after s1 kernel (base ++ own) ≡ []
    pub base_names : each_after s1 kernel base ≡ []
    pub own_names : each_after s1 before own ≡ []
    pub base_parents : each_after s2 kernel base ≡ []
    pub own_parents : each_after s2 before own ≡ []
    pub base_types : flat_map (s5 before) base ≡ []
    pub own_types : flat_map (s5 all) own ≡ []
    pub base_entries : flat_map s6 base ≡ []
    pub own_entries : flat_map s6 own ≡ []
    pub base_moves : flat_map (s9 all) base ≡ []
    pub own_moves : flat_map (s9 all) own ≡ []
    pub overrides : flat_map (s10 all) own ≡ []
    pub bodies : flat_map s14 own ≡ []
    pub blocks : flat_map (class_typed all) own ≡ []
    pub main : main_typed all p.main ≡ []

  pub holds : ProgramOk p → Holds
  holds ok =
      let same : kernel ++ (base ++ own) ≡ all = sym (append_assoc kernel base own) in
      let r = neither_is _ _ ok.rules in
      let n1 = neither_is _ _ r.0 in
      let n2 = neither_is _ _ n1.1 in
      let types = neither_is _ _ r.1 in
      let members = neither_is _ _ types.1 in
      let m6 = neither_is (first (flat_map s6 (base ++ own))) _ members.0 in
      let m7 = neither_is (first (flat_map s7 (base ++ own))) _ m6.1 in
      let m8 = neither_is (first (flat_map (s8 (kernel ++ (base ++ own))) (base ++ own))) _ m7.1 in
      let m9 = neither_is (first (flat_map (s9 (kernel ++ (base ++ own))) (base ++ own))) _ m8.1 in
      let names = none_first (each_after s1 kernel (base ++ own)) n1.0 in
      let two_names = two_after s1 kernel base own names in
      let parents = two_after s2 kernel base own (none_first (each_after s2 kernel (base ++ own)) n2.0) in
      let kinds = both_empty (flat_map (s5 before) base) (flat_map (s5 all) own) (none_first (flat_map (s5 before) base ++ flat_map (s5 all) own) types.0) in
      let entries = two_of s6 base own (none_first (flat_map s6 (base ++ own)) m6.0) in
      let moves = two_of (s9 all) base own (subst (λ (l : List Class). flat_map (s9 l) (base ++ own) ≡ []) same (none_first (flat_map (s9 (kernel ++ (base ++ own))) (base ++ own)) m9.0)) in
      let overrides = two_of (s10 all) base own (subst (λ (l : List Class). flat_map (s10 l) (base ++ own) ≡ []) same (none_first (flat_map (s10 (kernel ++ (base ++ own))) (base ++ own)) m9.1)) in
      let blocks = both_empty (flat_map (class_typed all) own) (main_typed all p.main) (none_first (flat_map (class_typed all) own ++ main_typed all p.main) ok.blocks) in
      record {
        names = names;
        base_names = two_names.0;
        own_names = two_names.1;
        base_parents = parents.0;
        own_parents = parents.1;
        base_types = kinds.0;
        own_types = kinds.1;
        base_entries = entries.0;
        own_entries = entries.1;
        base_moves = moves.0;
        own_moves = moves.1;
        overrides = overrides.1;
        bodies = none_first (flat_map s14 own) members.1;
        blocks = blocks.0;
        main = blocks.1;
      }
