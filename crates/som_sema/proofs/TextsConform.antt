-- Texts that break none of the rules S1 to S12 declare classes that break none of the rules S1 to S10.
use Rattle.std.proofs.Common.{◌≡◌, ℕ, inl, inr, List, [], ◌∷◌, ◌++◌, length, map, flat_map, take, drop, Option, None, refl, sym, ap, ◌∙◌, append_assoc}
use Rattle.std.proofs.lemmas.List.{map-append}
use Rattle.som_model.specs.declared.key.Module.{Module}
use Rattle.som_model.specs.declared.key.Module.TheVariants as modules
use Rattle.som_model.specs.declared.key.ClassKey.{ClassKey}
use Rattle.som_model.specs.declared.class.ClassFace.{ClassFace}
use Rattle.som_model.specs.declared.program.Interface.{Interface}
use Rattle.som_model.specs.Lists.{Mem, first, or_else}
use Rattle.som_model.specs.Hierarchy.{Falls}
use Rattle.som_model.specs.Class.{Class, bare, class_in}
use Rattle.som_model.specs.Classes.{hierarchy, interface_classes}
use Rattle.som_model.specs.Conforming.{each_after, first_of_members, first_of_names}
use Rattle.som_model.specs.Kernel.{kernel}
use Rattle.som_model.specs.Rules.{RuleBreach, s1, s2, s3, s4, s5, s6, s7, s8, s9, s10}
use Rattle.som_ast.specs.declared.interface.IdlInterface.{IdlInterface}
use Rattle.som_model_laws.proofs.Members.{mem_right, mem_split}
use Rattle.som_verify_classes.specs.Faces.{classes_breach, faces_breach}
use Rattle.som_verify_classes.specs.Modules.{AreDeclared}
use Rattle.som_verify_classes.specs.Places.{with_kernel}
use Rattle.som_verify_classes.specs.Plainly.{EntriesDiffer, IsAmong, NamesApart, OverridesInherited, ParentsBefore, SelectsInherited}
use Rattle.som_verify_classes.proofs.PlainSelects.{say_replaced}
use Rattle.som_verify_classes.specs.Told.{of_release}
use Rattle.som_verify_classes.proofs.Before.{both_none}
use Rattle.som_verify_classes.proofs.DeclaredClasses.{faces_declared, long_map, map_declared}
use Rattle.som_verify_classes.proofs.Finding.{kernel_declared}
use Rattle.som_verify_classes.proofs.Conformity.{none_or, or_none}
use Rattle.som_verify_classes.proofs.PlainMembers.{entries_say, say_types, types_say}
use Rattle.som_verify_classes.proofs.PlainMoves.{lower}
use Rattle.som_verify_classes.proofs.PlainNames.{among_known, known_among, names_say, parents_say}
use Rattle.som_verify_classes.proofs.Outlines.{outline, same_bases, same_descent, same_known, same_names, same_parents}
use Rattle.som_model.specs.declared.class.Select.{Select}
use Rattle.som_model.proofs.ListLaws.{take_front, drop_front}
use Rattle.som_sema_decls.specs.Known.{after_base}
use Rattle.som_sema.specs.Building.{declarations, declared_all, draft_rules_breach, items_breach, module_over, moved_breach, draft_breach, selecting_declarations, texts_breach}
use Rattle.som_sema_decls.specs.Finished.{place_of, select_of, selects_at}
use Rattle.som_sema_drafts.specs.Items.{chosen, or_object}
use Rattle.som_sema.proofs.Introducing.{same_introducer}
use Rattle.som_sema.proofs.Replaced.{filled, inherited_own, introduce_same, map_where, none_selected, outlines, overrides_inherited, same_entries, same_outlines, selects_inherited}
use Rattle.som_sema_drafts.specs.Drafts.{InterfaceDraft, draft_of, draft_classes}
use Rattle.som_sema_local.specs.OwnRules.{text_s6, text_s11, text_s12}
use Rattle.som_sema.specs.TextRules.{text_s10, text_s10_from, text_s2_from, text_s4}
use Rattle.som_sema.specs.Ancestry.{AreDrafts}
use Rattle.som_sema.proofs.BaseKept.{AreClosed, base_closed, s4_more, s8_more}
use Rattle.som_sema.proofs.BaseLaws.{base_moves, base_names, base_stands, moves_more, own_first}
use Rattle.som_sema.proofs.OwnClasses.{own_outlines, own_s4, own_s6, own_s7, own_types}
use Rattle.som_sema.proofs.TextBases.{are_drafts, texts_stand}

-- a rule of the first classes and of those after them
join_none : (rule : Class → List RuleBreach) (xs ys : List Class) → first (flat_map rule xs) ≡ None → first (flat_map rule ys) ≡ None → first (flat_map rule (xs ++ ys)) ≡ None
join_none rule xs ys e f = ap first (flat_both xs) ∙ both_none (flat_map rule xs) (flat_map rule ys) e f
  where
    flat_both : (xs : List Class) → flat_map rule (xs ++ ys) ≡ flat_map rule xs ++ flat_map rule ys
    flat_both [] = refl
    flat_both (x ∷ xs) = ap (λ z. rule x ++ z) (flat_both xs) ∙ sym (append_assoc (rule x) (flat_map rule xs) (flat_map rule ys))

-- the rules of drafts and their texts, which all hold
record DraftsHold (module_of : List ℕ → Module) (cs base own : List Class) (ds : List InterfaceDraft) : Type 0 where
  names : first (each_after s1 (with_kernel base) own) ≡ None
  stand : first (text_s2_from module_of (with_kernel cs) (length (with_kernel base)) ds) ≡ None
  parents : first (flat_map s3 own) ≡ None
  metaclasses : first (flat_map (text_s4 module_of (with_kernel cs)) ds) ≡ None
  types : first (flat_map (s5 (with_kernel cs)) own) ≡ None
  entries : first (flat_map text_s6 ds) ≡ None
  variables : first (flat_map s7 own) ≡ None

drafts_hold : (module_of : List ℕ → Module) (cs base own : List Class) (ds : List InterfaceDraft) → draft_breach module_of cs base own ds ≡ None → DraftsHold module_of cs base own ds
drafts_hold module_of cs base own ds e =
    let r1 : Option RuleBreach = first (each_after s1 (with_kernel base) own) in
    let r2 : Option RuleBreach = first (text_s2_from module_of (with_kernel cs) (length (with_kernel base)) ds) in
    let r3 : Option RuleBreach = first (flat_map s3 own) in
    let r4 : Option RuleBreach = first (flat_map (text_s4 module_of (with_kernel cs)) ds) in
    let r5 : Option RuleBreach = first (flat_map (s5 (with_kernel cs)) own) in
    let r6 : Option RuleBreach = first (flat_map text_s6 ds) in
    let r7 : Option RuleBreach = first (flat_map s7 own) in
    let p1 = or_none r1 (or_else r2 (or_else r3 (or_else r4 (or_else r5 (or_else r6 r7))))) e in
    let p2 = or_none r2 (or_else r3 (or_else r4 (or_else r5 (or_else r6 r7)))) p1.1 in
    let p3 = or_none r3 (or_else r4 (or_else r5 (or_else r6 r7))) p2.1 in
    let p4 = or_none r4 (or_else r5 (or_else r6 r7)) p3.1 in
    let p5 = or_none r5 (or_else r6 r7) p4.1 in
    let p6 = or_none r6 r7 p5.1 in
    record { names = p1.0; stand = p2.0; parents = p3.0; metaclasses = p4.0; types = p5.0; entries = p6.0; variables = p6.1 }

-- the rules S8 and S9 of classes, which both hold
record MovesHold (cs own : List Class) : Type 0 where
  once : first (flat_map (s8 cs) own) ≡ None
  moved : first (flat_map (s9 cs) own) ≡ None

moves_hold : (cs own : List Class) → or_else (first (flat_map (s8 cs) own)) (first (flat_map (s9 cs) own)) ≡ None → MovesHold cs own
moves_hold cs own e = let p = or_none (first (flat_map (s8 cs) own)) (first (flat_map (s9 cs) own)) e in record { once = p.0; moved = p.1 }

moves_more_hold : (cs own : List Class) → or_else (first (flat_map (s8 cs) own)) (or_else (first (flat_map (s9 cs) own)) (first (flat_map (s10 cs) own))) ≡ None → MovesHold cs own
moves_more_hold cs own e =
    let p1 = or_none (first (flat_map (s8 cs) own)) (or_else (first (flat_map (s9 cs) own)) (first (flat_map (s10 cs) own))) e in
    let p2 = or_none (first (flat_map (s9 cs) own)) (first (flat_map (s10 cs) own)) p1.1 in
    record { once = p1.0; moved = p2.0 }

-- the rules of a base, which all hold
record BaseHolds (bs : List Class) : Type 0 where
  parents : first (flat_map s3 bs) ≡ None
  metaclasses : first (flat_map (s4 (with_kernel bs)) bs) ≡ None
  types : first (flat_map (s5 (with_kernel bs)) bs) ≡ None
  entries : first (flat_map s6 bs) ≡ None
  variables : first (flat_map s7 bs) ≡ None
  moves : MovesHold (with_kernel bs) bs

base_holds : (bs : List Class) → faces_breach bs ≡ None → BaseHolds bs
base_holds bs e =
    let r1 : Option RuleBreach = first (each_after s1 kernel bs) in
    let r2 : Option RuleBreach = first (each_after s2 kernel bs) in
    let r3 : Option RuleBreach = first (flat_map s3 bs) in
    let r4 : Option RuleBreach = first (flat_map (s4 (with_kernel bs)) bs) in
    let r6 : Option RuleBreach = first (flat_map s6 bs) in
    let r7 : Option RuleBreach = first (flat_map s7 bs) in
    let moves : Option RuleBreach = or_else (first (flat_map (s8 (with_kernel bs)) bs)) (or_else (first (flat_map (s9 (with_kernel bs)) bs)) (first (flat_map (s10 (with_kernel bs)) bs))) in
    let p = or_none (first_of_names kernel bs) (or_else (first (flat_map (s5 (with_kernel bs)) bs)) (first_of_members kernel bs)) e in
    let p1 = or_none r1 (or_else r2 (or_else r3 r4)) p.0 in
    let p2 = or_none r2 (or_else r3 r4) p1.1 in
    let p3 = or_none r3 r4 p2.1 in
    let p5 = or_none (first (flat_map (s5 (with_kernel bs)) bs)) (first_of_members kernel bs) p.1 in
    let p6 = or_none r6 (or_else r7 moves) p5.1 in
    let p7 = or_none r7 moves p6.1 in
    record { parents = p3.0; metaclasses = p3.1; types = p5.0; entries = p6.0; variables = p7.0; moves = moves_more_hold (with_kernel bs) bs p7.1 }

-- a face alone has neither overrides nor selects
base_bare : (fs : List ClassFace) (c : Class) → Mem c (map (λ f. class_in modules.Library (bare f)) fs) → (c.decl.overrides ≡ []) × (c.decl.selects ≡ [])
base_bare [] c n = absurd n
base_bare (f ∷ fs) c (inl e) = (ap (λ (z : Class). z.decl.overrides) e, ap (λ (z : Class). z.decl.selects) e)
base_bare (f ∷ fs) c (inr n) = base_bare fs c n

module _ (module_of : List ℕ → Module) (m : Module) (i : Interface) (ds : List InterfaceDraft) (are : AreDrafts module_of ds)
    (conforms : faces_breach (interface_classes i) ≡ None) (holds : draft_rules_breach module_of m (interface_classes i) ds ≡ None) where
  abbrev base : List Class
  base = interface_classes i

  abbrev own : List Class
  own = map (class_in m) (draft_classes ds)

  abbrev all : List Class
  all = base ++ own

  abbrev done : List Class
  done = map (class_in m) (declared_all m base ds)

  abbrev finished : List Class
  finished = base ++ done

  abbrev rules_of_drafts : Option RuleBreach
  rules_of_drafts = draft_breach module_of all base own ds

  abbrev rules_of_moves : Option RuleBreach
  rules_of_moves = moved_breach finished done

  abbrev rules_of_items : Option RuleBreach
  rules_of_items = items_breach module_of all base ds

  abbrev inherited_breach : Option RuleBreach
  inherited_breach = first (text_s10_from module_of (with_kernel all) (length (with_kernel base)) ds)

  abbrev modifiers_breach : Option RuleBreach
  modifiers_breach = first (flat_map text_s11 ds)

  items : (inherited_breach ≡ None) × (modifiers_breach ≡ None)
  items =
      let e = (or_none rules_of_moves rules_of_items (or_none rules_of_drafts (or_else rules_of_moves rules_of_items) holds).1).1 in
      let p = or_none inherited_breach (or_else modifiers_breach (first (flat_map text_s12 ds))) e in
      (p.0, (or_none modifiers_breach (first (flat_map text_s12 ds)) p.1).0)

  drafted : DraftsHold module_of all base own ds
  drafted = drafts_hold module_of all base own ds (or_none rules_of_drafts (or_else rules_of_moves rules_of_items) holds).0

  moving : MovesHold (with_kernel finished) done
  moving = moves_hold (with_kernel finished) done (or_none rules_of_moves rules_of_items (or_none rules_of_drafts (or_else rules_of_moves rules_of_items) holds).1).0

  based : BaseHolds base
  based = base_holds base conforms

  same : map outline all ≡ map outline finished
  same = map-append outline base own ∙ ap (λ z. map outline base ++ z) (own_outlines (with_kernel all) m ds) ∙ sym (map-append outline base done)

  same_all : map outline (with_kernel all) ≡ map outline (with_kernel finished)
  same_all = ap (λ z. map outline kernel ++ z) same

  base_declared : AreDeclared base
  base_declared = faces_declared modules.Library i.classes

  finished_declared : AreDeclared finished
  finished_declared = record {
    by = λ c n. elim (mem_split c base done n) [
      | inl k ↦ base_declared.by c k
      | inr k ↦ (map_declared m (declared_all m base ds)).by c k
    ];
  }

  closed : AreClosed (with_kernel base)
  closed = base_closed base (base_stands base conforms)

  low : Falls (hierarchy (with_kernel base))
  low = lower base base_declared (names_say base (base_names base conforms)) (parents_say base (base_stands base conforms))

  base_among : (c : Class) → Mem c base → Mem c (with_kernel base)
  base_among c n = mem_right c kernel base n

  names_rule : first (each_after s1 kernel finished) ≡ None
  names_rule = ap first (sym (same_names all finished same kernel)) ∙ own_first s1 kernel base own (base_names base conforms) ∙ drafted.names

  stand_rule : first (each_after s2 kernel finished) ≡ None
  stand_rule =
      ap first (sym (same_bases all finished same kernel))
      ∙ own_first s2 kernel base own (base_stands base conforms)
      ∙ texts_stand module_of m (with_kernel all) (with_kernel base) ds (length (with_kernel base)) are.by refl refl drafted.stand

  parents_rule : first (flat_map s3 finished) ≡ None
  parents_rule = ap first (sym (same_parents all finished same)) ∙ join_none s3 base own based.parents drafted.parents

  metaclasses_rule : first (flat_map (s4 (with_kernel finished)) finished) ≡ None
  metaclasses_rule =
      join_none (s4 (with_kernel finished)) base done
      (s4_more (with_kernel base) done (kernel_declared base base_declared) closed base base_among based.metaclasses)
      (own_s4 (with_kernel all) m module_of (with_kernel all) (with_kernel finished) (same_descent (with_kernel all) (with_kernel finished) same_all) ds are.by drafted.metaclasses)

  known_so : (k : ClassKey) → IsAmong (with_kernel all) k → IsAmong (with_kernel finished) k
  known_so k a = known_among (with_kernel finished) k (sym (same_known (with_kernel all) (with_kernel finished) same_all k) ∙ among_known (with_kernel all) k a)

  types_rule : first (flat_map (s5 (with_kernel finished)) done) ≡ None
  types_rule =
      say_types (with_kernel finished) done
      (own_types (with_kernel all) m (with_kernel all) (with_kernel finished) known_so ds (types_say (with_kernel all) own drafted.types))

  entries_rule : first (flat_map s6 finished) ≡ None
  entries_rule = join_none s6 base done based.entries (own_s6 (with_kernel all) m ds drafted.entries)

  variables_rule : first (flat_map s7 finished) ≡ None
  variables_rule = join_none s7 base done based.variables (ap first (own_s7 (with_kernel all) m ds) ∙ drafted.variables)

  once_rule : first (flat_map (s8 (with_kernel finished)) finished) ≡ None
  once_rule =
      join_none (s8 (with_kernel finished)) base done
      (s8_more (with_kernel base) done (kernel_declared base base_declared) closed low base base_among based.moves.once)
      moving.once

  grown : Falls (hierarchy (with_kernel base ++ done))
  grown = lower finished finished_declared (names_say finished names_rule) (parents_say finished stand_rule)

  moved_rule : first (flat_map (s9 (with_kernel finished)) finished) ≡ None
  moved_rule = join_none (s9 (with_kernel finished)) base done (moves_more (with_kernel base) done low grown base (base_moves base conforms)) moving.moved

  inherited : (d : InterfaceDraft) → Mem d ds → first (text_s10 module_of (with_kernel all) (class_in m d.class).key d) ≡ None
  inherited = inherited_own module_of m base ds are.by (with_kernel base) ds (length (with_kernel base)) refl refl items.0

  overrides_rule : first (flat_map (s10 (with_kernel finished)) finished) ≡ None
  overrides_rule =
      say_replaced finished finished_declared (names_say finished names_rule) (parents_say finished stand_rule) (entries_say finished entries_rule)
      (overrides_inherited module_of m base ds are.by (λ d. []) finished_declared (names_say finished names_rule) (parents_say finished stand_rule) (entries_say finished entries_rule) (base_bare i.classes) inherited)
      (none_selected module_of m base ds are.by (λ d. []) (base_bare i.classes) (λ d. refl))

  -- ---- with what is selected

  abbrev chosen_by_texts : InterfaceDraft → List Select
  chosen_by_texts d = selects_at (with_kernel finished) (class_in m d.class).key d

  abbrev selected : List Class
  selected = map (class_in m) (map (filled (with_kernel all) m chosen_by_texts) ds)

  abbrev full : List Class
  full = base ++ selected

  same_full : map outline all ≡ map outline full
  same_full = map-append outline base own ∙ ap (λ z. map outline base ++ z) (same_outlines module_of m base ds are.by chosen_by_texts ds) ∙ sym (map-append outline base selected)

  full_declared : AreDeclared full
  full_declared = record {
    by = λ c n. elim (mem_split c base selected n) [
      | inl k ↦ base_declared.by c k
      | inr k ↦ (map_declared m (map (filled (with_kernel all) m chosen_by_texts) ds)).by c k
    ];
  }

  full_names : NamesApart full
  full_names = names_say full (ap first (sym (same_names all full same_full kernel)) ∙ own_first s1 kernel base own (base_names base conforms) ∙ drafted.names)

  full_stand : ParentsBefore full
  full_stand = parents_say full (
      ap first (sym (same_bases all full same_full kernel))
      ∙ own_first s2 kernel base own (base_stands base conforms)
      ∙ texts_stand module_of m (with_kernel all) (with_kernel base) ds (length (with_kernel base)) are.by refl refl drafted.stand)

  full_entries : EntriesDiffer full
  full_entries = entries_say full (join_none s6 base selected based.entries
      (ap first (same_entries module_of m base ds are.by chosen_by_texts ds) ∙ own_s6 (with_kernel all) m ds drafted.entries))

  chosen_so : (d : InterfaceDraft) → Mem d ds → chosen_by_texts d ≡ map (select_of (with_kernel all) (class_in m d.class).key (or_object d.text.parents)) (chosen d.text.items)
  chosen_so d n =
      map_where (select_of (with_kernel finished) (class_in m d.class).key (or_object d.text.parents)) (select_of (with_kernel all) (class_in m d.class).key (or_object d.text.parents)) (chosen d.text.items)
      (λ s k. ap (λ (a : ClassKey). record { method = record { class = a; name = s.method }; parent = place_of (or_object d.text.parents) s.parent })
      (sym (same_introducer (with_kernel all) (with_kernel finished) (outlines module_of m base ds are.by (λ d. [])) (introduce_same module_of m base ds are.by (λ d. [])) (class_in m d.class).key s.method)))

  -- what texts select is inherited, and from parents that have it
  pub drafts_select : SelectsInherited full
  drafts_select = selects_inherited module_of m base ds are.by chosen_by_texts full_declared full_names full_stand full_entries (base_bare i.classes) inherited chosen_so items.1

  -- what texts override is inherited
  pub drafts_override : OverridesInherited full
  drafts_override = overrides_inherited module_of m base ds are.by chosen_by_texts full_declared full_names full_stand full_entries (base_bare i.classes) inherited

  number : length i.classes ≡ length base
  number = sym (long_map (λ (f : ClassFace). class_in modules.Library (bare f)) i.classes)

  front_is : take (length i.classes) finished ≡ base
  front_is = ap (λ n. take n finished) number ∙ take_front base done

  rest_is : drop (length i.classes) finished ≡ done
  rest_is = ap (λ n. drop n finished) number ∙ drop_front base done

  abbrev types_breach : List Class → List Class → Option RuleBreach
  types_breach front rest = first (flat_map (s5 (kernel ++ front)) front ++ flat_map (s5 (kernel ++ finished)) rest)

  all_types : types_breach (take (length i.classes) finished) (drop (length i.classes) finished) ≡ None
  all_types =
      ap (λ z. types_breach z (drop (length i.classes) finished)) front_is
      ∙ ap (types_breach base) rest_is
      ∙ both_none (flat_map (s5 (kernel ++ base)) base) (flat_map (s5 (kernel ++ finished)) done) based.types types_rule

  pub drafts_conform : classes_breach (length i.classes) finished ≡ None
  drafts_conform =
      none_or _ _ (none_or _ _ names_rule (none_or _ _ stand_rule (none_or _ _ parents_rule metaclasses_rule)))
      (none_or _ _ all_types (none_or _ _ entries_rule (none_or _ _ variables_rule (none_or _ _ once_rule (none_or _ _ moved_rule overrides_rule)))))

-- over a base that conforms, texts that break no rule declare classes that break none of S1 to S10
pub texts_conform : (m : Module) (base : Interface) (is : List IdlInterface) → faces_breach (interface_classes base) ≡ None → texts_breach m base is ≡ None
    → classes_breach (length base.classes) (after_base m (interface_classes base) (declarations m base is)) ≡ None
texts_conform m base is conforms holds =
    drafts_conform (module_over m base is) m base (map (draft_of (module_over m base is)) is) (are_drafts (module_over m base is) is (map (draft_of (module_over m base is)) is) refl) conforms holds

-- what such texts select, with the declarations of which they are selects
pub texts_select : (m : Module) (base : Interface) (is : List IdlInterface) → faces_breach (interface_classes base) ≡ None → texts_breach m base is ≡ None
    → SelectsInherited (after_base m (interface_classes base) (selecting_declarations m base is))
texts_select m base is conforms holds =
    drafts_select (module_over m base is) m base (map (draft_of (module_over m base is)) is) (are_drafts (module_over m base is) is (map (draft_of (module_over m base is)) is) refl) conforms holds

-- over no base

no_front : (cs : List Class) → classes_breach 0 cs ≡ faces_breach cs
no_front [] = refl
no_front (c ∷ cs) = refl

pub library_conforms : (is : List IdlInterface) → texts_breach modules.Library (record { classes = [] }) is ≡ None → faces_breach (of_release (declarations modules.Library (record { classes = [] }) is)) ≡ None
library_conforms is holds = sym (no_front (of_release (declarations modules.Library (record { classes = [] }) is))) ∙ texts_conform modules.Library (record { classes = [] }) is refl holds
