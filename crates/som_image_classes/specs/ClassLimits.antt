-- How much of each thing of a class an image has room for.
use Rattle.std.specs.Prelude.{◌≤◌, length, All}
use Rattle.som_model.specs.declared.limits.TheConstants.{MAX_VERSION, MAX_PARENTS, MAX_ENTRIES, MAX_PARAMETERS, MAX_VARIABLES, MAX_OVERRIDES, MAX_SELECTS}
use Rattle.som_model.specs.declared.class.Entry.{Entry}
use Rattle.som_model.specs.declared.class.Entry.TheVariants as entries
use Rattle.som_model.specs.declared.class.Body.{Body}
use Rattle.som_model.specs.declared.class.Body.TheVariants as bodies
use Rattle.som_model.specs.declared.class.ClassFace.{ClassFace}
use Rattle.som_model.specs.declared.class.ClassDecl.{ClassDecl}
use Rattle.som_image_decode.specs.BlockLimits.{TextWithin, BlockWithin}

-- a name that isn't too long, and not too many parameters
abbrev pub EntryWithin : Entry → Type 0
EntryWithin (entries.Introduced name sig way) = TextWithin name × (length sig.params ≤ MAX_PARAMETERS)
EntryWithin (entries.Moved name to) = TextWithin name

-- a class has one parent at least: nothing else says so
pub record FaceWithin (f : ClassFace) : Type 0 where
  pub name : TextWithin f.name
  pub major : f.major ≤ MAX_VERSION
  pub minor : f.minor ≤ MAX_VERSION
  pub some_parent : 1 ≤ length f.parents
  pub parents : length f.parents ≤ MAX_PARENTS
  pub entries : length f.entries ≤ MAX_ENTRIES
  pub each_entry : All EntryWithin f.entries

abbrev pub BodyWithin : Body → Type 0
BodyWithin (bodies.User b) = BlockWithin b
BodyWithin (bodies.Get n) = Unit {0}
BodyWithin (bodies.Set n) = Unit {0}

pub record ClassWithin (c : ClassDecl) : Type 0 where
  pub face : FaceWithin c.face
  pub variables : length c.variables ≤ MAX_VARIABLES
  pub each_variable : All (λ v. TextWithin v.name) c.variables
  pub each_body : All BodyWithin c.bodies
  pub overrides : length c.overrides ≤ MAX_OVERRIDES
  pub each_override : All (λ o. BlockWithin o.block) c.overrides
  pub selects : length c.selects ≤ MAX_SELECTS
