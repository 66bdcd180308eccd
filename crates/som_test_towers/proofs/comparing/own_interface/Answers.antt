use Rattle.std.proofs.Common.{◌≡◌, ◌≤◌, ◌∙◌, List, ap, length, map, subst}
use Rattle.std.proofs.lemmas.List.{take_all}
use Rattle.som_level_programs.specs.ByLevels.{level_change}
use Rattle.som_levels.specs.Flat.{Flat}
use Rattle.som_model.specs.declared.class.ClassDecl.{ClassDecl}
use Rattle.som_model.specs.declared.class.ClassFace.{ClassFace}
use Rattle.som_model.specs.declared.program.Interface.{Interface}
use Rattle.som_rekey_laws.specs.Rekeying.{rekey_face}
use Rattle.som_test_towers.proofs.comparing.own_interface.Goals as goal

pub returns : goal.returns
returns c =
    let m = c.args.modules.now in
    let own = c.args.level.now.program.classes in
    let i = c.loop-class.class-index in
    let over : length own ≤ i = subst (λ (l : List ClassDecl). length l ≤ i) c.as_slice-class-items.ensures c.loop-class-test.false in
    let faces : c.loop-class.classes ≡ map (λ (d : ClassDecl). rekey_face (level_change m.sizes m.client m.base) d.face) own =
    c.loop-class.invariant ∙ ap (map (λ (d : ClassDecl). rekey_face (level_change m.sizes m.client m.base) d.face)) (take_all i own over) in
    ap (λ (fs : List ClassFace). let i : Interface = record { classes = fs } in i)
    (subst (λ (f : Flat). c.loop-class.classes ≡ map (λ (d : ClassDecl). rekey_face (level_change f.sizes f.client f.base) d.face) own) c.requires faces)
