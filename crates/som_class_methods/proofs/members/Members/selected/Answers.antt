use Rattle.som_class_ids.specs.Classes.{class_of}
use Rattle.som_class_methods.proofs.Own.{first_there, if_none, if_picked, none_selected, parent_picked, select_there, some_class}
use Rattle.som_class_methods.proofs.members.Members.selected.Goals as goal

pub chosen_at-chosen-requires : goal.chosen_at-chosen-requires
chosen_at-chosen-requires c =
    let k = c.args.numbers.now in
    let d = class_of c.declared.result.now in
    let have = c.requires.members.own c.args.class d c.own_at.result.now c.declared.ensures.class c.own_at.ensures in
    let s = select_there k c.requires.faces c.requires.laid c.requires.members.first c.args.token c.requires.token c.args.class d c.declared.ensures.class c.own_at.result.now have c.in-Some.place (rw c.as_slice.ensures at c.in-Some.ensures.some) in
    rw c.as_slice-in-Some.ensures (first_there d.decl.selects c.in-Some.place s.0 s.1)

pub returns-in-Some-clause-some : goal.returns-in-Some-clause-some
returns-in-Some-clause-some c =
    let k = c.args.numbers.now in
    let d = class_of c.declared.result.now in
    let have = c.requires.members.own c.args.class d c.own_at.result.now c.declared.ensures.class c.own_at.ensures in
    if_picked k c.requires.faces c.requires.laid c.requires.members.first c.args.class c.declared.ensures.numbered c.parents.result.now c.parents.ensures.lower c.chosen_at-chosen.result _ c.parent_at.result
    (rw c.as_slice-in-Some-2.ensures at c.parent_at.ensures)
    (parent_picked k c.requires.faces c.requires.laid c.requires.members.first c.args.token c.requires.token c.args.class d c.declared.ensures.class c.own_at.result.now have c.parents.result.now c.parents.ensures.keys c.in-Some.place c.chosen_at-chosen.result
    (rw c.as_slice.ensures at c.in-Some.ensures.some) (rw c.as_slice-in-Some.ensures at c.chosen_at-chosen.ensures) c.parent_at.result (rw c.as_slice-in-Some-2.ensures at c.parent_at.ensures))

pub returns-in-Some-clause-none : goal.returns-in-Some-clause-none
returns-in-Some-clause-none c =
    let k = c.args.numbers.now in
    let d = class_of c.declared.result.now in
    let have = c.requires.members.own c.args.class d c.own_at.result.now c.declared.ensures.class c.own_at.ensures in
    if_none k c.requires.faces c.requires.laid c.requires.members.first _ c.parent_at.result
    (parent_picked k c.requires.faces c.requires.laid c.requires.members.first c.args.token c.requires.token c.args.class d c.declared.ensures.class c.own_at.result.now have c.parents.result.now c.parents.ensures.keys c.in-Some.place c.chosen_at-chosen.result
    (rw c.as_slice.ensures at c.in-Some.ensures.some) (rw c.as_slice-in-Some.ensures at c.chosen_at-chosen.ensures) c.parent_at.result (rw c.as_slice-in-Some-2.ensures at c.parent_at.ensures))

pub returns-in-None-clause-none : goal.returns-in-None-clause-none
returns-in-None-clause-none c =
    let k = c.args.numbers.now in
    let d = some_class k.classes c.args.class c.requires.declared in
    none_selected k c.requires.faces c.requires.laid c.requires.members.first c.args.token c.requires.token c.args.class d.0 d.1 c.own_at.result.now
    (c.requires.members.own c.args.class d.0 c.own_at.result.now d.1 c.own_at.ensures) (rw c.as_slice.ensures at c.in-None.ensures.none)
