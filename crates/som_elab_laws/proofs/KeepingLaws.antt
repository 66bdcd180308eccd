-- Interfaces break none of the rules S1 to S12 exactly where they keep each; and what is told is the lowest that is broken.
use Rattle.std.proofs.Common.{◌≡◌, ℕ, zero, suc, ◌+◌, ◌<◌, inl, inr, true, not, List, [], ◌∷◌, ◌++◌, length, map, flat_map, Option, Some, None, refl, sym, ap, ◌∙◌, subst, arith}
use Rattle.std.proofs.lemmas.List.{map-append}
use Rattle.std.specs.Prelude.{◌↔◌}
use Rattle.som_model.specs.declared.class.ClassDecl.{ClassDecl}
use Rattle.som_model.specs.declared.key.Module.{Module}
use Rattle.som_model.specs.declared.key.Module.TheVariants as modules
use Rattle.som_model.specs.declared.program.Interface.{Interface}
use Rattle.som_model.specs.declared.class.Entry.{Entry}
use Rattle.som_model.specs.declared.class.Entry.TheVariants as entries
use Rattle.som_model.specs.EffectiveOrder.{effective_order}
use Rattle.som_model.specs.Keys.{same_key}
use Rattle.som_model.proofs.KeyLaws.{exact_keys}
use Rattle.som_model.specs.Lists.{Mem, among, first, or_else, without}
use Rattle.som_model.specs.Hierarchy.{Falls}
use Rattle.som_model.specs.Class.{Class, class_in, entry_of, introduced}
use Rattle.som_model.specs.Classes.{hierarchy, interface_classes}
use Rattle.som_model.specs.Conforming.{each_after, first_of_members, first_of_names}
use Rattle.som_model.specs.Kernel.{kernel}
use Rattle.som_model.specs.Rules.{RuleBreach, s1, s2, s3, s5, s6, s7, s8, s9, s10}
use Rattle.som_model_laws.proofs.Members.{mem_left, mem_right, mem_split, not_true, without_mem}
use Rattle.som_ast.specs.declared.interface.IdlInterface.{IdlInterface}
use Rattle.som_verify_classes.specs.Faces.{classes_breach, faces_breach}
use Rattle.som_verify_classes.specs.Inherited.{inherits, moved_entry}
use Rattle.som_verify_classes.specs.Places.{with_kernel}
use Rattle.som_verify_classes.specs.Modules.{AreDeclared}
use Rattle.som_verify_classes.specs.Plainly.{ClassesHold, EntriesDiffer, IntroducedOnce, MovedUp, NamesApart, ParentsBefore}
use Rattle.som_verify_classes.proofs.DeclaredClasses.{faces_declared}
use Rattle.som_verify_classes.proofs.Finding.{kernel_declared}
use Rattle.som_verify_classes.proofs.Conformity.{none_or, or_none}
use Rattle.som_verify_classes.proofs.PlainFaces.{classes_say}
use Rattle.som_verify_classes.proofs.PlainLists.{each_says, map_mem, mem_map, none_flat, says_each}
use Rattle.som_verify_classes.proofs.PlainMembers.{demand_of_none, entries_say, say_types, say_variables, types_say, variables_say}
use Rattle.som_verify_classes.proofs.PlainMoves.{lower, moved_says, once_says, says_inherits, say_once}
use Rattle.som_verify_classes.proofs.PlainNames.{names_say, parents_differ_say, parents_say, say_names, say_parents_differ}
use Rattle.som_verify_classes.proofs.Outlines.{outline, same_bases, same_names}
use Rattle.som_sema_decls.specs.Known.{after_base}
use Rattle.som_sema.specs.Building.{declarations, module_over, texts_breach}
use Rattle.som_sema.specs.TextRules.{is_inherited, text_s10_from, text_s2_from, text_s4}
use Rattle.som_sema_decls.specs.Finished.{declare, entry_for, entry_or_moved, introducer}
use Rattle.som_sema.proofs.BaseKept.{base_closed, s8_more}
use Rattle.som_sema.proofs.BaseLaws.{base_moves, base_names, base_stands, moves_more, own_first}
use Rattle.som_sema.proofs.OwnClasses.{entry_there, own_outlines, own_s6}
use Rattle.som_sema.proofs.TextBases.{texts_stand}
use Rattle.som_sema.proofs.TextInherited.{from_inherited, inherited_law, inherits_from}
use Rattle.som_sema.proofs.TextLaws.{bases_law, items_law, metaclasses_law, modifiers_law, names_law}
use Rattle.som_sema.proofs.TextsConform.{texts_conform}
use Rattle.som_sema_drafts.specs.Drafts.{InterfaceDraft, draft_classes}
use Rattle.som_sema_local.specs.OwnRules.{text_s6, text_s11, text_s12}
use Rattle.som_sema_drafts.specs.Items.{listed}
use Rattle.som_elab_methods.proofs.Fitting.{introduced_there}
use Rattle.som_elab_laws.specs.Lowest.{KeepBelow}
use Rattle.som_elab_laws.proofs.Chains.{AreNumbered, first_told, none_below, told_at, told_there, twelve}
use Rattle.som_elab_laws.proofs.RuleNumbers.{first_is, of_s1, of_s2, of_s3, of_s4, of_s5, of_s6, of_s7, of_s8, of_s9, of_s10, of_s11, of_s12}
use Rattle.som_elab_laws.specs.Keeping.{OrdersStand, TextsKeep, first_place, interfaces_over, known_classes, own_classes}
use Rattle.som_elab_laws.proofs.InheritedLaws.{above_so, all_turned, are, declared_of, entry_found, hierarchies, none_moved, other_once, same_methods}

-- a rule of one class that holds of all holds of the last, and one that holds of both parts holds of all
last_of : (rule : Class → List RuleBreach) (xs ys : List Class) → first (flat_map rule (xs ++ ys)) ≡ None → first (flat_map rule ys) ≡ None
last_of rule xs ys e = says_each rule ys (λ c n. each_says rule (xs ++ ys) e c (mem_right c xs ys n))

both_of : (rule : Class → List RuleBreach) (xs ys : List Class) → first (flat_map rule xs) ≡ None → first (flat_map rule ys) ≡ None → first (flat_map rule (xs ++ ys)) ≡ None
both_of rule xs ys e f = says_each rule (xs ++ ys) (λ c n. elim (mem_split c xs ys n) [
  | inl k ↦ each_says rule xs e c k
  | inr k ↦ each_says rule ys f c k
])

module _ (m : Module) (base : Interface) (is : List IdlInterface) where
  abbrev module_of : List ℕ → Module
  module_of = module_over m base is

  abbrev ds : List InterfaceDraft
  ds = interfaces_over m base is

  abbrev before : List Class
  before = interface_classes base

  abbrev own : List Class
  own = own_classes m base is

  abbrev known : List Class
  known = known_classes m base is

  abbrev done : List Class
  done = map (class_in m) (declarations m base is)

  abbrev finished : List Class
  finished = after_base m before (declarations m base is)

  -- none of the rules has a breach
  pub record NoneBroken : Type 0 where
    pub one : first (each_after s1 (with_kernel before) own) ≡ None
    pub two : first (text_s2_from module_of (with_kernel known) (first_place base) ds) ≡ None
    pub three : first (flat_map s3 own) ≡ None
    pub four : first (flat_map (text_s4 module_of (with_kernel known)) ds) ≡ None
    pub five : first (flat_map (s5 (with_kernel known)) own) ≡ None
    pub six : first (flat_map text_s6 ds) ≡ None
    pub seven : first (flat_map s7 own) ≡ None
    pub eight : first (flat_map (s8 (with_kernel finished)) done) ≡ None
    pub nine : first (flat_map (s9 (with_kernel finished)) done) ≡ None
    pub ten : first (text_s10_from module_of (with_kernel known) (first_place base) ds) ≡ None
    pub eleven : first (flat_map text_s11 ds) ≡ None
    pub twelve : first (flat_map text_s12 ds) ≡ None

  pub none_broken : texts_breach m base is ≡ None → NoneBroken
  none_broken e =
      let r1 : Option RuleBreach = first (each_after s1 (with_kernel before) own) in
      let r2 : Option RuleBreach = first (text_s2_from module_of (with_kernel known) (first_place base) ds) in
      let r3 : Option RuleBreach = first (flat_map s3 own) in
      let r4 : Option RuleBreach = first (flat_map (text_s4 module_of (with_kernel known)) ds) in
      let r5 : Option RuleBreach = first (flat_map (s5 (with_kernel known)) own) in
      let r6 : Option RuleBreach = first (flat_map text_s6 ds) in
      let r7 : Option RuleBreach = first (flat_map s7 own) in
      let r8 : Option RuleBreach = first (flat_map (s8 (with_kernel finished)) done) in
      let r9 : Option RuleBreach = first (flat_map (s9 (with_kernel finished)) done) in
      let r10 : Option RuleBreach = first (text_s10_from module_of (with_kernel known) (first_place base) ds) in
      let r11 : Option RuleBreach = first (flat_map text_s11 ds) in
      let r12 : Option RuleBreach = first (flat_map text_s12 ds) in
      let p = or_none (or_else r1 (or_else r2 (or_else r3 (or_else r4 (or_else r5 (or_else r6 r7)))))) (or_else (or_else r8 r9) (or_else r10 (or_else r11 r12))) e in
      let p1 = or_none r1 (or_else r2 (or_else r3 (or_else r4 (or_else r5 (or_else r6 r7))))) p.0 in
      let p2 = or_none r2 (or_else r3 (or_else r4 (or_else r5 (or_else r6 r7)))) p1.1 in
      let p3 = or_none r3 (or_else r4 (or_else r5 (or_else r6 r7))) p2.1 in
      let p4 = or_none r4 (or_else r5 (or_else r6 r7)) p3.1 in
      let p5 = or_none r5 (or_else r6 r7) p4.1 in
      let p6 = or_none r6 r7 p5.1 in
      let q = or_none (or_else r8 r9) (or_else r10 (or_else r11 r12)) p.1 in
      let q8 = or_none r8 r9 q.0 in
      let q10 = or_none r10 (or_else r11 r12) q.1 in
      let q11 = or_none r11 r12 q10.1 in
      record {
        one = p1.0;
        two = p2.0;
        three = p3.0;
        four = p4.0;
        five = p5.0;
        six = p6.0;
        seven = p6.1;
        eight = q8.0;
        nine = q8.1;
        ten = q10.0;
        eleven = q11.0;
        twelve = q11.1;
      }

  so_unbroken : NoneBroken → texts_breach m base is ≡ None
  so_unbroken r =
      none_or _ _
      (none_or _ _ r.one (none_or _ _ r.two (none_or _ _ r.three (none_or _ _ r.four (none_or _ _ r.five (none_or _ _ r.six r.seven))))))
      (none_or _ _ (none_or _ _ r.eight r.nine) (none_or _ _ r.ten (none_or _ _ r.eleven r.twelve)))

  -- ---- what is told first

  -- none of the rules with a lower number than this has a breach
  pub record NoneBelow (rule : ℕ) : Type 0 where
    pub one : 1 < rule → first (each_after s1 (with_kernel before) own) ≡ None
    pub two : 2 < rule → first (text_s2_from module_of (with_kernel known) (first_place base) ds) ≡ None
    pub three : 3 < rule → first (flat_map s3 own) ≡ None
    pub four : 4 < rule → first (flat_map (text_s4 module_of (with_kernel known)) ds) ≡ None
    pub five : 5 < rule → first (flat_map (s5 (with_kernel known)) own) ≡ None
    pub six : 6 < rule → first (flat_map text_s6 ds) ≡ None
    pub seven : 7 < rule → first (flat_map s7 own) ≡ None
    pub eight : 8 < rule → first (flat_map (s8 (with_kernel finished)) done) ≡ None
    pub nine : 9 < rule → first (flat_map (s9 (with_kernel finished)) done) ≡ None
    pub ten : 10 < rule → first (text_s10_from module_of (with_kernel known) (first_place base) ds) ≡ None
    pub eleven : 11 < rule → first (flat_map text_s11 ds) ≡ None
    pub twelve : 12 < rule → first (flat_map text_s12 ds) ≡ None

  abbrev told : List (Option RuleBreach)
  told =
      first (each_after s1 (with_kernel before) own)
      ∷ first (text_s2_from module_of (with_kernel known) (first_place base) ds)
      ∷ first (flat_map s3 own)
      ∷ first (flat_map (text_s4 module_of (with_kernel known)) ds)
      ∷ first (flat_map (s5 (with_kernel known)) own)
      ∷ first (flat_map text_s6 ds)
      ∷ first (flat_map s7 own)
      ∷ first (flat_map (s8 (with_kernel finished)) done)
      ∷ first (flat_map (s9 (with_kernel finished)) done)
      ∷ first (text_s10_from module_of (with_kernel known) (first_place base) ds)
      ∷ first (flat_map text_s11 ds)
      ∷ first (flat_map text_s12 ds)
      ∷ []

  numbered : AreNumbered 1 told
  numbered = (
    first_is 1 (each_after s1 (with_kernel before) own) (of_s1 (with_kernel before) own),
    (
      first_is 2 (text_s2_from module_of (with_kernel known) (first_place base) ds) (of_s2 module_of (with_kernel known) (first_place base) ds),
      (
        first_is 3 (flat_map s3 own) (of_s3 own),
        (
          first_is 4 (flat_map (text_s4 module_of (with_kernel known)) ds) (of_s4 module_of (with_kernel known) ds),
          (
            first_is 5 (flat_map (s5 (with_kernel known)) own) (of_s5 (with_kernel known) own),
            (
              first_is 6 (flat_map text_s6 ds) (of_s6 ds),
              (
                first_is 7 (flat_map s7 own) (of_s7 own),
                (
                  first_is 8 (flat_map (s8 (with_kernel finished)) done) (of_s8 (with_kernel finished) done),
                  (
                    first_is 9 (flat_map (s9 (with_kernel finished)) done) (of_s9 (with_kernel finished) done),
                    (
                      first_is 10 (text_s10_from module_of (with_kernel known) (first_place base) ds) (of_s10 module_of (with_kernel known) (first_place base) ds),
                      (
                        first_is 11 (flat_map text_s11 ds) (of_s11 ds),
                        (first_is 12 (flat_map text_s12 ds) (of_s12 ds), tt),
                      ),
                    ),
                  ),
                ),
              ),
            ),
          ),
        ),
      ),
    ),
  )

  told_first : texts_breach m base is ≡ first_told told
  told_first =
      twelve
      (first (each_after s1 (with_kernel before) own))
      (first (text_s2_from module_of (with_kernel known) (first_place base) ds))
      (first (flat_map s3 own))
      (first (flat_map (text_s4 module_of (with_kernel known)) ds))
      (first (flat_map (s5 (with_kernel known)) own))
      (first (flat_map text_s6 ds))
      (first (flat_map s7 own))
      (first (flat_map (s8 (with_kernel finished)) done))
      (first (flat_map (s9 (with_kernel finished)) done))
      (first (text_s10_from module_of (with_kernel known) (first_place base) ds))
      (first (flat_map text_s11 ds))
      (first (flat_map text_s12 ds))

  none_lower : (b : RuleBreach) → texts_breach m base is ≡ Some b → NoneBelow b.rule
  none_lower b e =
      let none = none_below 1 told b numbered (sym told_first ∙ e) in
      record {
        one = λ lt. none 0 lt;
        two = λ lt. none 1 lt;
        three = λ lt. none 2 lt;
        four = λ lt. none 3 lt;
        five = λ lt. none 4 lt;
        six = λ lt. none 5 lt;
        seven = λ lt. none 6 lt;
        eight = λ lt. none 7 lt;
        nine = λ lt. none 8 lt;
        ten = λ lt. none 9 lt;
        eleven = λ lt. none 10 lt;
        twelve = λ lt. none 11 lt;
      }

  clash : (o : Option RuleBreach) (b : RuleBreach) → o ≡ Some b → o ≡ None → ⊥
  clash o b e f = cc

  none_at : (rule : ℕ) → NoneBelow rule → (k : ℕ) → 1 + k < rule → told_at told k ≡ None
  none_at rule r zero lt = r.one lt
  none_at rule r (suc zero) lt = r.two lt
  none_at rule r (suc (suc zero)) lt = r.three lt
  none_at rule r (suc (suc (suc zero))) lt = r.four lt
  none_at rule r (suc (suc (suc (suc zero)))) lt = r.five lt
  none_at rule r (suc (suc (suc (suc (suc zero))))) lt = r.six lt
  none_at rule r (suc (suc (suc (suc (suc (suc zero)))))) lt = r.seven lt
  none_at rule r (suc (suc (suc (suc (suc (suc (suc zero))))))) lt = r.eight lt
  none_at rule r (suc (suc (suc (suc (suc (suc (suc (suc zero)))))))) lt = r.nine lt
  none_at rule r (suc (suc (suc (suc (suc (suc (suc (suc (suc zero))))))))) lt = r.ten lt
  none_at rule r (suc (suc (suc (suc (suc (suc (suc (suc (suc (suc zero)))))))))) lt = r.eleven lt
  none_at rule r (suc (suc (suc (suc (suc (suc (suc (suc (suc (suc (suc zero))))))))))) lt = r.twelve lt
  none_at rule r (suc (suc (suc (suc (suc (suc (suc (suc (suc (suc (suc (suc k)))))))))))) lt = refl

  not_all : (b : RuleBreach) → texts_breach m base is ≡ Some b → NoneBelow (suc b.rule) → ⊥
  not_all b e r =
      let there = told_there 1 told b numbered (sym told_first ∙ e) in
      clash (told_at told there.0) b there.2 (none_at (suc b.rule) r there.0 (omega (arith, there.1)))

  module _ (conforms : faces_breach (interface_classes base) ≡ None) where
    same : map outline known ≡ map outline finished
    same = map-append outline before own ∙ ap (λ z. map outline before ++ z) (own_outlines (with_kernel known) m ds) ∙ sym (map-append outline before done)

    -- ---- the rules S1 and S2 of all classes, from those of the own ones

    known_names : first (each_after s1 (with_kernel before) own) ≡ None → first (each_after s1 kernel known) ≡ None
    known_names e = own_first s1 kernel before own (base_names before conforms) ∙ e

    known_bases : first (text_s2_from module_of (with_kernel known) (first_place base) ds) ≡ None → first (each_after s2 kernel known) ≡ None
    known_bases e = own_first s2 kernel before own (base_stands before conforms) ∙ texts_stand module_of m (with_kernel known) (with_kernel before) ds (first_place base) (are m base is).by refl refl e

    known_fall : first (each_after s1 (with_kernel before) own) ≡ None → first (text_s2_from module_of (with_kernel known) (first_place base) ds) ≡ None → Falls (hierarchy (with_kernel known))
    known_fall one two = lower known (declared_of m base is (draft_classes ds)) (names_say known (known_names one)) (parents_say known (known_bases two))

    finished_names : first (each_after s1 (with_kernel before) own) ≡ None → NamesApart finished
    finished_names one = names_say finished (ap first (sym (same_names known finished same kernel)) ∙ known_names one)

    finished_bases : first (text_s2_from module_of (with_kernel known) (first_place base) ds) ≡ None → ParentsBefore finished
    finished_bases two = parents_say finished (ap first (sym (same_bases known finished same kernel)) ∙ known_bases two)

    -- ---- and S6

    base_entries : first (flat_map s6 before) ≡ None
    base_entries =
        let r6 : Option RuleBreach = first (flat_map s6 before) in
        let r7 : Option RuleBreach = first (flat_map s7 before) in
        let moves : Option RuleBreach = or_else (first (flat_map (s8 (with_kernel before)) before)) (or_else (first (flat_map (s9 (with_kernel before)) before)) (first (flat_map (s10 (with_kernel before)) before))) in
        let p = or_none (first_of_names kernel before) (or_else (first (flat_map (s5 (with_kernel before)) before)) (first_of_members kernel before)) conforms in
        let q = or_none (first (flat_map (s5 (with_kernel before)) before)) (first_of_members kernel before) p.1 in
        (or_none r6 (or_else r7 moves) q.1).0

    finished_entries : first (flat_map text_s6 ds) ≡ None → EntriesDiffer finished
    finished_entries six = entries_say finished (both_of s6 before done base_entries (own_s6 (with_kernel known) m ds six))

    -- ---- what is declared

    finished_hold : texts_breach m base is ≡ None → ClassesHold finished
    finished_hold e =
        let h : classes_breach (length base.classes) finished ≡ None = texts_conform m base is conforms e in
        let p = or_none (first_of_names kernel finished) (or_else _ (first_of_members kernel finished)) h in
        classes_say finished (declared_of m base is (declarations m base is)) p.0 (or_none _ (first_of_members kernel finished) p.1).1

    -- ---- S9, of the names in release orders

    abbrev class_of : InterfaceDraft → Class
    class_of d = class_in m (declare (with_kernel known) m d)

    class_there : (d : InterfaceDraft) → Mem d ds → Mem (class_of d) done
    class_there d n = mem_map (class_in m) (declare (with_kernel known) m d) (declarations m base is) (mem_map (declare (with_kernel known) m) d ds n)

    moved_there : (d : InterfaceDraft) → Mem d ds → (name : List ℕ) → Mem name (listed d.text.items) → (Mem name (introduced d.class.face.entries) → ⊥)
        → Mem (entries.Moved name (introducer (with_kernel known) (class_of d).key name)) (class_of d).decl.face.entries
    moved_there d n name l none =
        let k = (class_of d).key in
        let own_es = d.class.face.entries in
        let order = effective_order (listed d.text.items) (introduced own_es) in
        let here : entry_for (with_kernel known) k own_es name ≡ entries.Moved name (introducer (with_kernel known) k name) =
        ap (entry_or_moved (introducer (with_kernel known) k name) name) (by (entry_of own_es name) refl) in
        subst (λ (z : Entry). Mem z (class_of d).decl.face.entries) here
        (mem_map (entry_for (with_kernel known) k own_es) name order (mem_left name (listed d.text.items) (without (λ x. among x (listed d.text.items)) (introduced own_es)) l))
      where
        by : (o : Option Entry) → entry_of d.class.face.entries name ≡ o → entry_of d.class.face.entries name ≡ None
        by None e = e
        by (Some (entries.Introduced x sig way)) e =
            let r = entry_there d.class.face.entries name (entries.Introduced x sig way) e in
            absurd (none (subst (λ z. Mem z (introduced d.class.face.entries)) r.1 (introduced_there d.class.face.entries x sig way r.0)))
        by (Some (entries.Moved x to)) e =
            let r = entry_there d.class.face.entries name (entries.Moved x to) e in
            absurd (none_moved module_of d.text x to (subst (λ (z : ClassDecl). Mem (entries.Moved x to) z.face.entries) ((are m base is).by d n) r.0))

    orders_say : MovedUp finished → OrdersStand m (with_kernel known) ds
    orders_say moved = record {
      by = λ d name n l none.
          let k = (class_of d).key in
          let up = moved.above (class_of d) name (introducer (with_kernel known) k name) (mem_right (class_of d) before done (class_there d n)) (moved_there d n name l none) in
          let other : is_inherited (with_kernel known) k name ≡ true =
          ap not (not_true (same_key (introducer (with_kernel known) k name) k) (λ t. up.other (exact_keys.two (introducer (with_kernel known) k name) k t))) in
          (introducer (with_kernel known) k name, inherits_from (with_kernel known) k name other);
    }

    module _ (names : NamesApart finished) (stand : ParentsBefore finished) (rule : EntriesDiffer finished) (orders : OrdersStand m (with_kernel known) ds) where
      -- an entry of the release order that was moved
      moved_stands : (d : InterfaceDraft) → Mem d ds → (name : List ℕ) → Mem name (effective_order (listed d.text.items) (introduced d.class.face.entries)) → entry_of d.class.face.entries name ≡ None
          → first (moved_entry (with_kernel finished) (class_of d).key (class_of d) (entries.Moved name (introducer (with_kernel known) (class_of d).key name))) ≡ None
      moved_stands d n name l none =
          let c = class_of d in
          let own_es = d.class.face.entries in
          let a = introducer (with_kernel known) c.key name in
          let fresh = entry_found own_es name none in
          let in_order : Mem name (listed d.text.items) = elim (mem_split name (listed d.text.items) (without (λ x. among x (listed d.text.items)) (introduced own_es)) l) [
            | inl k ↦ k
            | inr k ↦ absurd (fresh (without_mem (λ x. among x (listed d.text.items)) name (introduced own_es) k))
          ] in
          let r = orders.by d name n in_order fresh in
          let up = above_so m base is names stand c name (from_inherited (with_kernel known) c.key name r.0 r.1) in
          demand_of_none 9 c name (inherits (with_kernel finished) c.key a name)
          (says_inherits finished (declared_of m base is (declarations m base is)) names stand rule c a name up.above up.introduced)

      entry_stands : (d : InterfaceDraft) → Mem d ds → (name : List ℕ) → Mem name (effective_order (listed d.text.items) (introduced d.class.face.entries)) → (o : Option Entry) → entry_of d.class.face.entries name ≡ o
          → first (moved_entry (with_kernel finished) (class_of d).key (class_of d) (entry_or_moved (introducer (with_kernel known) (class_of d).key name) name o)) ≡ None
      entry_stands d n name l None e = moved_stands d n name l e
      entry_stands d n name l (Some (entries.Introduced x sig way)) e = refl
      entry_stands d n name l (Some (entries.Moved x to)) e =
          let r = entry_there d.class.face.entries name (entries.Moved x to) e in
          absurd (none_moved module_of d.text x to (subst (λ (z : ClassDecl). Mem (entries.Moved x to) z.face.entries) ((are m base is).by d n) r.0))

      class_stands : (d : InterfaceDraft) → Mem d ds → first (s9 (with_kernel finished) (class_of d)) ≡ None
      class_stands d n = none_flat (moved_entry (with_kernel finished) (class_of d).key (class_of d)) (class_of d).decl.face.entries (λ e k.
          (let r = map_mem (entry_for (with_kernel known) (class_of d).key d.class.face.entries) e (effective_order (listed d.text.items) (introduced d.class.face.entries)) k in
          subst (λ (z : Entry). first (moved_entry (with_kernel finished) (class_of d).key (class_of d) z) ≡ None) (sym r.2) (entry_stands d n r.0 r.1 (entry_of d.class.face.entries r.0) refl)))

      say_orders : first (flat_map (s9 (with_kernel finished)) done) ≡ None
      say_orders = says_each (s9 (with_kernel finished)) done (λ c n.
          (let r = map_mem (class_in m) c (declarations m base is) n in
          let q = map_mem (declare (with_kernel known) m) r.0 ds r.1 in
          subst (λ (z : Class). first (s9 (with_kernel finished) z) ≡ None) (sym (r.2 ∙ ap (class_in m) q.2)) (class_stands q.0 q.1)))

    -- ---- the law

    texts_keep : texts_breach m base is ≡ None → TextsKeep m base is
    texts_keep e =
        let r = none_broken e in
        let h = finished_hold e in
        let falls = known_fall r.one r.two in
        record {
          names = names_say known (known_names r.one);
          bases = (bases_law module_of (with_kernel known) (first_place base) ds).0 r.two;
          parents = parents_differ_say own r.three;
          metaclasses = (metaclasses_law module_of (with_kernel known) falls ds).0 r.four;
          types = types_say (with_kernel known) own r.five;
          introduced = (names_law ds).0 r.six;
          variables = variables_say own r.seven;
          once = other_once finished known (all_turned (with_kernel known) (with_kernel finished) (same_methods m base is)) (sym (hierarchies m base is)) h.once;
          orders = orders_say h.moved;
          inherited = (inherited_law module_of (with_kernel known) falls (first_place base) ds).0 r.ten;
          modifiers = (modifiers_law ds).0 r.eleven;
          items = (items_law ds).0 r.twelve;
        }

    keep_texts : TextsKeep m base is → texts_breach m base is ≡ None
    keep_texts k =
        let one : first (each_after s1 (with_kernel before) own) ≡ None = sym (own_first s1 kernel before own (base_names before conforms)) ∙ say_names known k.names in
        let two = (bases_law module_of (with_kernel known) (first_place base) ds).1 k.bases in
        let six = (names_law ds).1 k.introduced in
        let falls = known_fall one two in
        let declared = declared_of m base is (declarations m base is) in
        let names = finished_names one in
        let stand = finished_bases two in
        let entries = finished_entries six in
        so_unbroken (record {
          one = one;
          two = two;
          three = say_parents_differ own k.parents;
          four = (metaclasses_law module_of (with_kernel known) falls ds).1 k.metaclasses;
          five = say_types (with_kernel known) own k.types;
          six = six;
          seven = say_variables own k.variables;
          eight = last_of (s8 (with_kernel finished)) before done (say_once finished declared names stand entries (other_once known finished (same_methods m base is) (hierarchies m base is) k.once));
          nine = say_orders names stand entries k.orders;
          ten = (inherited_law module_of (with_kernel known) falls (first_place base) ds).1 k.inherited;
          eleven = (modifiers_law ds).1 k.modifiers;
          twelve = (items_law ds).1 k.items;
        })

    -- the rules have no breach exactly where the interfaces keep them
    pub keeping_law : (texts_breach m base is ≡ None) ↔ TextsKeep m base is
    keeping_law = (texts_keep, keep_texts)

    -- ---- the lowest that is broken

    base_once : first (flat_map (s8 (with_kernel before)) before) ≡ None
    base_once =
        let all = with_kernel before in
        let r5 : Option RuleBreach = first (flat_map (s5 all) before) in
        let r6 : Option RuleBreach = first (flat_map s6 before) in
        let r7 : Option RuleBreach = first (flat_map s7 before) in
        let r8 : Option RuleBreach = first (flat_map (s8 all) before) in
        let moves : Option RuleBreach = or_else (first (flat_map (s9 all) before)) (first (flat_map (s10 all) before)) in
        let p = or_none (first_of_names kernel before) (or_else r5 (first_of_members kernel before)) conforms in
        let q = or_none r5 (first_of_members kernel before) p.1 in
        let q6 = or_none r6 (or_else r7 (or_else r8 moves)) q.1 in
        let q7 = or_none r7 (or_else r8 moves) q6.1 in
        (or_none r8 moves q7.1).0

    base_declared : AreDeclared before
    base_declared = faces_declared modules.Library base.classes

    base_falls : Falls (hierarchy (with_kernel before))
    base_falls = lower before base_declared (names_say before (base_names before conforms)) (parents_say before (base_stands before conforms))

    own_names : NamesApart known → first (each_after s1 (with_kernel before) own) ≡ None
    own_names names = sym (own_first s1 kernel before own (base_names before conforms)) ∙ say_names known names

    known_once : NamesApart finished → ParentsBefore finished → EntriesDiffer finished → first (flat_map (s8 (with_kernel finished)) done) ≡ None → IntroducedOnce known
    known_once names stand rule eight =
        other_once finished known (all_turned (with_kernel known) (with_kernel finished) (same_methods m base is)) (sym (hierarchies m base is))
        (once_says finished (declared_of m base is (declarations m base is)) names stand rule
        (both_of (s8 (with_kernel finished)) before done
        (s8_more (with_kernel before) done (kernel_declared before base_declared) (base_closed before (base_stands before conforms)) base_falls before (λ c n. mem_right c kernel before n) base_once)
        eight))

    moved_up : NamesApart finished → ParentsBefore finished → first (flat_map (s9 (with_kernel finished)) done) ≡ None → MovedUp finished
    moved_up names stand nine =
        let declared = declared_of m base is (declarations m base is) in
        moved_says finished declared names stand
        (both_of (s9 (with_kernel finished)) before done
        (moves_more (with_kernel before) done base_falls (lower finished declared names stand) before (base_moves before conforms))
        nine)

    unmoved_once : NamesApart finished → ParentsBefore finished → EntriesDiffer finished → IntroducedOnce known → first (flat_map (s8 (with_kernel finished)) done) ≡ None
    unmoved_once names stand rule once =
        last_of (s8 (with_kernel finished)) before done
        (say_once finished (declared_of m base is (declarations m base is)) names stand rule (other_once known finished (same_methods m base is) (hierarchies m base is) once))

    keep_below : (rule : ℕ) → NoneBelow rule → KeepBelow m base is rule
    keep_below rule r = record {
      names = λ lt. names_say known (known_names (r.one lt));
      bases = λ lt. (bases_law module_of (with_kernel known) (first_place base) ds).0 (r.two lt);
      parents = λ lt. parents_differ_say own (r.three lt);
      metaclasses = λ lt. (metaclasses_law module_of (with_kernel known) (known_fall (r.one (omega (arith, lt))) (r.two (omega (arith, lt)))) ds).0 (r.four lt);
      types = λ lt. types_say (with_kernel known) own (r.five lt);
      introduced = λ lt. (names_law ds).0 (r.six lt);
      variables = λ lt. variables_say own (r.seven lt);
      once = λ lt. known_once (finished_names (r.one (omega (arith, lt)))) (finished_bases (r.two (omega (arith, lt)))) (finished_entries (r.six (omega (arith, lt)))) (r.eight lt);
      orders = λ lt. orders_say (moved_up (finished_names (r.one (omega (arith, lt)))) (finished_bases (r.two (omega (arith, lt)))) (r.nine lt));
      inherited = λ lt. (inherited_law module_of (with_kernel known) (known_fall (r.one (omega (arith, lt))) (r.two (omega (arith, lt)))) (first_place base) ds).0 (r.ten lt);
      modifiers = λ lt. (modifiers_law ds).0 (r.eleven lt);
      items = λ lt. (items_law ds).0 (r.twelve lt);
    }

    module _ (rule : ℕ) (k : KeepBelow m base is rule) where
      none_one : 1 < rule → first (each_after s1 (with_kernel before) own) ≡ None
      none_one lt = own_names (k.names lt)

      none_two : 2 < rule → first (text_s2_from module_of (with_kernel known) (first_place base) ds) ≡ None
      none_two lt = (bases_law module_of (with_kernel known) (first_place base) ds).1 (k.bases lt)

      none_six : 6 < rule → first (flat_map text_s6 ds) ≡ None
      none_six lt = (names_law ds).1 (k.introduced lt)

      falls : 2 < rule → Falls (hierarchy (with_kernel known))
      falls lt = known_fall (none_one (omega (arith, lt))) (none_two lt)

      unbroken_below : NoneBelow rule
      unbroken_below = record {
        one = none_one;
        two = none_two;
        three = λ lt. say_parents_differ own (k.parents lt);
        four = λ lt. (metaclasses_law module_of (with_kernel known) (falls (omega (arith, lt))) ds).1 (k.metaclasses lt);
        five = λ lt. say_types (with_kernel known) own (k.types lt);
        six = none_six;
        seven = λ lt. say_variables own (k.variables lt);
        eight = λ lt. unmoved_once (finished_names (none_one (omega (arith, lt)))) (finished_bases (none_two (omega (arith, lt)))) (finished_entries (none_six (omega (arith, lt)))) (k.once lt);
        nine = λ lt. say_orders (finished_names (none_one (omega (arith, lt)))) (finished_bases (none_two (omega (arith, lt)))) (finished_entries (none_six (omega (arith, lt)))) (k.orders lt);
        ten = λ lt. (inherited_law module_of (with_kernel known) (falls (omega (arith, lt))) (first_place base) ds).1 (k.inherited lt);
        eleven = λ lt. (modifiers_law ds).1 (k.modifiers lt);
        twelve = λ lt. (items_law ds).1 (k.items lt);
      }

    -- where a breach is told, the rules below it are kept, and not it too
    pub lower_kept : (b : RuleBreach) → texts_breach m base is ≡ Some b → KeepBelow m base is b.rule
    lower_kept b e = keep_below b.rule (none_lower b e)

    pub told_broken : (b : RuleBreach) → texts_breach m base is ≡ Some b → KeepBelow m base is (suc b.rule) → ⊥
    told_broken b e k = not_all b e (unbroken_below (suc b.rule) k)
