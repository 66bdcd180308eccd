use Rattle.std.proofs.Common.{◌≡◌, ◌<◌, ◌≤◌, ◌++◌, ◌∙◌, List, ap, get_or, length, map, subst}
use Rattle.std.proofs.lemmas.List.{take_all}
use Rattle.som_class_ids.specs.Classes.{classes_of}
use Rattle.som_level_programs.specs.ByLevels.{level_change, own_module}
use Rattle.som_model.specs.declared.class.ClassDecl.{ClassDecl}
use Rattle.som_model.specs.declared.program.Interface.{Interface}
use Rattle.som_model.specs.Class.{class_in}
use Rattle.som_rekey_laws.specs.Rekeying.{rekey_decl}
use Rattle.som_levels.proofs.Adding.{classes_more}
use Rattle.som_levels.proofs.own.note_own.Goals as goal

pub loop-class-preserved : goal.loop-class-preserved
loop-class-preserved c =
    let m = c.args.modules.now in
    let same = c.as_slice-class-items.ensures in
    let i = c.loop-class.class-index in
    let low : i < length c.args.program.now.classes = subst (λ (l : List ClassDecl). i < length l) same c.loop-class-test.true in
    rw c.in_ok-push.ensures.ok (classes_more (λ d. class_in (own_module (length m.sizes) m.client) (rekey_decl (level_change m.sizes m.client m.base) d)) (classes_of c.args.all.now) c.loop-class.all c.args.program.now.classes i c.class-item.result c.in_ok-keyed.field-0
    low (c.class-item.is ∙ ap (λ (l : List ClassDecl). get_or l i c.class-item.result) same) c.in_ok-keyed.ensures c.loop-class.invariant)

pub returns : goal.returns
returns c =
    let m = c.args.modules.now in
    let same = c.as_slice-class-items.ensures in
    let i = c.loop-class.class-index in
    let over : length c.args.program.now.classes ≤ i = subst (λ (l : List ClassDecl). length l ≤ i) same c.loop-class-test.false in
    subst (λ (b : Interface). classes_of c.loop-class.all ≡ classes_of c.args.all.now ++ map (λ d. class_in (own_module (length m.sizes) m.client) (rekey_decl (level_change m.sizes m.client b) d)) c.args.program.now.classes) c.requires
    (c.loop-class.invariant ∙ ap (λ (l : List ClassDecl). classes_of c.args.all.now ++ map (λ d. class_in (own_module (length m.sizes) m.client) (rekey_decl (level_change m.sizes m.client m.base) d)) l) (take_all i c.args.program.now.classes over))
