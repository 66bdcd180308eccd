use Rattle.std.proofs.Common.{◌∙◌, ◌∷◌, [], ◌+◌, List, sym, ap, subst, length, map, take, slice_index_or}
use Rattle.som_model.specs.declared.key.ClassKey.{ClassKey}
use Rattle.som_model.specs.Lists.{Mem, joined}
use Rattle.som_model.specs.Keys.{same_key}
use Rattle.som_model.specs.Class.{Class}
use Rattle.som_model.specs.Classes.{ancestors}
use Rattle.som_model.specs.Compatible.{declared_name}
use Rattle.som_model_laws.specs.Once.{adds}
use Rattle.som_compat.specs.Marks.{lost_from}
use Rattle.som_compat.specs.Views.{classes_of, shown}
use Rattle.som_compat.proofs.Filled.{take_mem}
use Rattle.som_compat.proofs.Viewing.{known_of}
use Rattle.som_compat.proofs.Fronts.{k3_none, k3_some}
use Rattle.som_compat.proofs.ancestors.keeps_ancestors.Goals as goal

pub count_before-requires-clause-front : goal.count_before-requires-clause-front
count_before-requires-clause-front c = λ k m.
    let in_list = subst (λ (z : List ClassKey). Mem k z) c.as_slice-parents.ensures (take_mem k c.in-Some.number c.as_slice-parents.result.now m) in
    subst (λ (z : Class). Mem k z.decl.face.parents) (sym c.requires.class) in_list

pub returns-in-None : goal.returns-in-None
returns-in-None c =
    let olds = c.args.old.now.lookup.faces.now in
    let news = c.args.new.now.faces.now in
    let x = (shown c.args.class.now).key in
    sym (k3_none (classes_of olds) (classes_of news) (known_of olds c.requires.old.conforms) (known_of news c.requires.new) (shown c.args.class.now) (c.args.place + 4) c.requires.place c.requires.class c.requires.earlier
    (sym (c.in-None.ensures.first x c.requires.known c.requires.marks ∙ ap (lost_from (classes_of news) x 0) c.as_slice-parents.ensures)))

pub returns-in-Some : goal.returns-in-Some
returns-in-Some c =
    let olds = c.args.old.now.lookup.faces.now in
    let news = c.args.new.now.faces.now in
    let x = (shown c.args.class.now).key in
    let n = c.in-Some.number in
    let items = c.as_slice-parents.ensures in
    sym (k3_some (classes_of olds) (classes_of news) (known_of olds c.requires.old.conforms) (known_of news c.requires.new) (shown c.args.class.now) (c.args.place + 4) c.requires.place c.requires.class c.requires.earlier
    n c.index-parents-number.result _ _
    (sym (c.in-Some.ensures.first x c.requires.known c.requires.marks ∙ ap (lost_from (classes_of news) x 0) items))
    (c.declared_text.ensures ∙ (ap declared_name c.index-parents-number.is ∙ ap (λ (z : List ClassKey). declared_name (slice_index_or z n c.index-parents-number.result)) items))
    (c.count_before.ensures.is
    ∙ (ap (λ (z : Class). length (adds same_key (z.key ∷ []) (joined (map (ancestors (classes_of olds)) (take n c.as_slice-parents.result.now))))) c.requires.class
    ∙ ap (λ (z : List ClassKey). length (adds same_key (x ∷ []) (joined (map (ancestors (classes_of olds)) (take n z))))) items)))
