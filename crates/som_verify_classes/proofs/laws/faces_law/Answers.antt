use Rattle.som_verify_classes.proofs.PlainWhole.{faces_say, say_faces}
use Rattle.som_verify_classes.proofs.laws.faces_law.Goals as goal

pub returns : goal.returns
returns c = λ ds. (faces_say ds, say_faces ds)
