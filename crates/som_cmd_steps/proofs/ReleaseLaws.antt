-- The interface of a release that conforms, and is within the limits of images, may be compared.
use Rattle.std.proofs.Common.{get_or, arith}
use Rattle.som_model.specs.declared.class.ClassDecl.{ClassDecl}
use Rattle.som_model.specs.declared.program.Release.{Release}
use Rattle.som_model.specs.Class.{interface_of}
use Rattle.som_model.specs.Conforming.{ReleaseOk}
use Rattle.som_image_classes.specs.ClassLimits.{ClassWithin}
use Rattle.som_libimage.specs.Limits.{IsWithinLimits}
use Rattle.som_compat.specs.Conditions.{Conforms, IsCounted}
use Rattle.som_compat.proofs.Released.{interface_conforms}
use Rattle.som_libimage.proofs.Decoded.{within}

counted : (d : ClassDecl) → ClassWithin d → IsCounted d.face
counted d w = record { some = w.face.some_parent; parents = w.face.parents; entries = w.face.entries }

pub may_be : (r : Release) → ReleaseOk r → IsWithinLimits r → Conforms (interface_of r)
may_be r ok within = interface_conforms r ok (let few = within.classes in omega (arith, few)) (λ k d lt. counted (get_or r.classes k d) (within.each_class k d lt))
