use Rattle.som_sema_decls.proofs.PlacedFaces.{face_there_in}
use Rattle.som_sema_decls.proofs.faces.face_of.Goals as goal

pub returns-else-place-lt-KERNEL_CLASSES : goal.returns-else-place-lt-KERNEL_CLASSES
returns-else-place-lt-KERNEL_CLASSES c = face_there_in c.args.classes.now c.args.place c.index-classes-place.result c.if-place-lt-KERNEL_CLASSES.false c.requires.place
