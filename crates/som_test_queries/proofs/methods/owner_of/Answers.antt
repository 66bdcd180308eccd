use Rattle.std.proofs.Common.{◌≡◌, ◌∙◌, Option, Some, ap, sym}
use Rattle.std.specs.Option.{option_map}
use Rattle.std.proofs.lemmas.Option.{same_Some}
use Rattle.som_model.specs.Class.{Class}
use Rattle.som_model.specs.declared.class.ClassFace.{ClassFace}
use Rattle.som_class_ids.proofs.Making.{some_class}
use Rattle.som_test_queries.proofs.Known.{entry_known}
use Rattle.som_test_queries.proofs.methods.owner_of.Goals as goal

pub method_token-requires : goal.method_token-requires
method_token-requires c =
    let k = c.args.kernel.now.classes in
    let loaded = c.know.ensures.loaded in
    let d = some_class k.classes c.args.class c.requires.declared in
    let face = same_Some d.0.decl.face c.face.result.now (sym (ap (λ (o : Option Class). option_map (λ (x : Class). x.decl.face) o) d.1) ∙ c.face.ensures) in
    entry_known k loaded c.args.class d.0 d.1 c.as_slice-entries.result.now (c.as_slice-entries.ensures ∙ ap (λ (f : ClassFace). f.entries) (sym face)) c.in-Some.place c.entry_in-entry.result.now c.entry_in-entry.ensures
    (record { class = c.in_ok-class.class; name = c.in_ok-name.name }) (c.in_ok-class.ensures ∙ loaded.first.key c.args.class d.0 d.1) (c.in_ok-name.ensures ∙ c.entry_name.ensures)
