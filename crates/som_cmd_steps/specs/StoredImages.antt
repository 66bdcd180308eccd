-- Images that a store holds.
use Rattle.std.specs.Prelude.{◌≡◌, ℕ, List, Option, Some}
use Rattle.std.specs.FinMap.{get}
use Rattle.som_model.specs.declared.program.Release.{Release}
use Rattle.som_model.specs.declared.program.ClientProgram.{ClientProgram}
use Rattle.som_model.specs.Bytes.{AreBytes, Files}
use Rattle.som_model.specs.Conforming.{ProgramOk, ReleaseOk}
use Rattle.som_model.specs.Images.{client_image, library_image}

-- there is an image, and the store holds its bytes under the name
pub record HoldsImage (files : Files) (name : List ℕ) (image : Option (List ℕ)) : Type 0 where
  pub bytes : List ℕ
  pub image_is : get files name ≡ Some bytes
  pub bytes_are : AreBytes bytes
  pub spelled : image ≡ Some bytes

-- the store holds the image of the release under the name, and the release conforms
pub record IsUnder (files : Files) (name : List ℕ) (r : Release) : Type 0 where
  pub bytes : List ℕ
  pub image_is : get files name ≡ Some bytes
  pub bytes_are : AreBytes bytes
  pub spelled : library_image r ≡ Some bytes
  pub conforms : ReleaseOk r

-- the store holds the image of the client program under the name, and the program conforms
pub record IsClientUnder (files : Files) (name : List ℕ) (p : ClientProgram) : Type 0 where
  pub bytes : List ℕ
  pub image_is : get files name ≡ Some bytes
  pub bytes_are : AreBytes bytes
  pub spelled : client_image p ≡ Some bytes
  pub conforms : ProgramOk p
