use Rattle.std.proofs.Common.{◌≡◌, ◌++◌, ◌∙◌, subst, sym}
use Rattle.som_class_ids.specs.Classes.{classes_of}
use Rattle.som_level_laws.specs.Levels.{CompatibleLevels}
use Rattle.som_level_programs.specs.ByLevels.{levels_below, main_by_level, own_by_level}
use Rattle.som_levels.specs.Flat.{Flat}
use Rattle.som_model.specs.Loads.{Loads}
use Rattle.som_model.specs.declared.syntax.Block.{Block}
use Rattle.som_compat_levels.specs.Conditions.{AreComparable}
use Rattle.som_tower.proofs.Climbing.{all_load, comparable, is_flat}
use Rattle.som_tower.proofs.laying.lay_client.Goals as goal

pub new-requires : goal.new-requires
new-requires c = is_flat c.args.client.now c.requires.tower.sound

pub compare-requires : goal.compare-requires
compare-requires c =
    let t = c.requires.tower in
    subst (λ (m : Flat). AreComparable (levels_below m.sizes m.client m.base) c.args.built.interfaces) (sym c.in_ok-modules.ensures)
    (comparable c.args.base.now c.args.uppers.now t.libraries c.args.uppers.now (λ x m. m) t.libraries.few c.args.built.interfaces c.args.built.classes c.requires.built c.args.client.now t.sound t.levels)

pub lay_owned-requires : goal.lay_owned-requires
lay_owned-requires c =
    let t = c.requires.tower in
    let l = c.args.client.now in
    let kept : CompatibleLevels (levels_below l.sizes l.client l.program.base) c.args.built.interfaces = subst (λ (m : Flat). CompatibleLevels (levels_below m.sizes m.client m.base) c.args.built.interfaces) c.in_ok-modules.ensures c.in_ok-compare.ensures.kept in
    let added : classes_of c.note_own.new.all ≡ classes_of c.args.built.classes ++ own_by_level l.sizes l.client l.program =
    subst (λ (m : Flat). classes_of c.note_own.new.all ≡ classes_of c.args.built.classes ++ own_by_level m.sizes m.client l.program) c.in_ok-modules.ensures c.in_ok-note_own.ensures in
    let main : c.in_ok-main.main ≡ main_by_level l.sizes l.client l.program = subst (λ (m : Flat). c.in_ok-main.main ≡ main_by_level m.sizes m.client l.program) c.in_ok-modules.ensures c.in_ok-main.ensures in
    subst (λ (z : Block). Loads (classes_of c.note_own.new.all) z) (sym main)
    (all_load c.args.base.now c.args.uppers.now t.libraries c.args.uppers.now (λ x m. m) t.libraries.few c.args.built.interfaces c.args.built.classes c.requires.built l t.sound t.levels kept c.note_own.new.all added)

pub returns-clause-main : goal.returns-clause-main
returns-clause-main c =
    let l = c.args.client.now in
    c.in_ok-lay_owned.ensures.main ∙ subst (λ (m : Flat). c.in_ok-main.main ≡ main_by_level m.sizes m.client l.program) c.in_ok-modules.ensures c.in_ok-main.ensures
