use Rattle.std.proofs.Common.{◌≡◌, ◌≤◌, ◌∙◌, Bool, List, ℕ, ap, length, map, subst}
use Rattle.std.proofs.lemmas.List.{take_all}
use Rattle.som_level_programs.specs.ByLevels.{level_change}
use Rattle.som_model.specs.declared.class.ClassDecl.{ClassDecl}
use Rattle.som_model.specs.declared.class.ClassFace.{ClassFace}
use Rattle.som_model.specs.declared.program.Interface.{Interface}
use Rattle.som_rekey_laws.specs.Rekeying.{rekey_face}
use Rattle.som_tower.proofs.building.own_interface.Goals as goal

pub returns : goal.returns
returns c =
    let m = c.args.modules.now in
    let own = c.args.level.now.program.classes in
    let i = c.loop-class.class-index in
    let over : length own ≤ i = subst (λ (l : List ClassDecl). length l ≤ i) c.as_slice-class-items.ensures c.loop-class-test.false in
    let faces : c.loop-class.classes ≡ map (λ (d : ClassDecl). rekey_face (level_change m.sizes m.client m.base) d.face) own =
    c.loop-class.invariant ∙ ap (map (λ (d : ClassDecl). rekey_face (level_change m.sizes m.client m.base) d.face)) (take_all i own over) in
    let a = subst (λ (s : List ℕ). c.loop-class.classes ≡ map (λ (d : ClassDecl). rekey_face (level_change s m.client m.base) d.face) own) c.requires.sizes faces in
    let b = subst (λ (s : Bool). c.loop-class.classes ≡ map (λ (d : ClassDecl). rekey_face (level_change c.args.level.now.sizes s m.base) d.face) own) c.requires.client a in
    let e = subst (λ (s : Interface). c.loop-class.classes ≡ map (λ (d : ClassDecl). rekey_face (level_change c.args.level.now.sizes c.args.level.now.client s) d.face) own) c.requires.base b in
    ap (λ (fs : List ClassFace). let i : Interface = record { classes = fs } in i) e
