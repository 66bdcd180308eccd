use Rattle.std.proofs.Common.{sym, ap, ◌∙◌}
use Rattle.som_model.specs.declared.key.ClassKey.TheVariants as keys
use Rattle.som_model.specs.declared.class.ClassFace.{ClassFace}
use Rattle.som_verify_classes.specs.Modules.{classes_of}
use Rattle.som_verify_classes.specs.Places.{module_at, with_kernel}
use Rattle.som_sema_decls.proofs.PlacedFaces.{key_there}
use Rattle.som_sema_decls.proofs.faces.key_at.Goals as goal

pub returns : goal.returns
returns c =
    let ds = c.args.classes.now in
    ap (λ m. keys.Named m c.in_ok-name.name) c.module_of-class_module.ensures
    ∙ ap (λ n. keys.Named (module_at (with_kernel (classes_of ds)) c.args.place) n) (c.in_ok-name.ensures ∙ ap (λ (f : ClassFace). f.name) c.face_of-face.ensures)
    ∙ sym (key_there ds c.args.place c.requires.place)
