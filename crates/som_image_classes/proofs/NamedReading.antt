-- A part that is read with names is what the part with numbers there stands for.
use Rattle.std.proofs.Common.{◌≡◌, ℕ, eqb, false, List, [], ◌∷◌, map, Err, refl, ap}
use Rattle.std.specs.Int.{w8, w16}
use Rattle.som_model.specs.declared.limits.TheConstants.{MAX_VARIABLES, MAX_OVERRIDES}
use Rattle.som_model.specs.Steps.{◌>>=◌}
use Rattle.som_model.specs.declared.key.ClassKey.{ClassKey}
use Rattle.som_model.specs.declared.class.Body.TheVariants as named_bodies
use Rattle.som_model.specs.declared.class.ClassDecl.{ClassDecl}
use Rattle.som_image_fields.specs.declared.fault.ImageFault.TheVariants as faults
use Rattle.som_image_fields.specs.declared.read.Read.{Read}
use Rattle.som_image_fields.specs.declared.face.WireFace.{WireFace}
use Rattle.som_image_fields.specs.declared.method.Ranges.{Ranges}
use Rattle.som_image_fields.specs.declared.syntax.WireBody.TheVariants as bodies
use Rattle.som_image_fields.specs.declared.syntax.WirePart.{WirePart}
use Rattle.som_image_fields.specs.Fields.{done}
use Rattle.som_image_fields.specs.Fitting.{levels_left}
use Rattle.som_image_fields.specs.Reading.{number_at, text_at, kind_at, method_at}
use Rattle.som_wire.specs.Making.{of_one}
use Rattle.som_wire.specs.Reading.{block_at, variable_at, body_after, body_at, override_at, variables_at, bodies_at, overrides_at, part_at}
use Rattle.som_image_decode.specs.declared.directory.Directory.{Directory}
use Rattle.som_image_decode.specs.Naming.{kind_named, method_named}
use Rattle.som_image_decode.specs.NamedBlocks.{block_named}
use Rattle.som_image_bodies.specs.Naming.{naming}
use Rattle.som_image_classes.specs.ReadClasses.{introduced_count, parts_at}
use Rattle.som_image_classes.specs.NamedClasses.{variable_named, body_named, override_named, part_named, class_named, classes_named, classes_of}
use Rattle.som_image_classes.specs.NamedReading.{named_block_at, named_variable_at, named_body_after, named_body_at, named_override_at, named_variables_at, named_bodies_at, named_overrides_at, named_part_at, named_parts_at}
use Rattle.som_image_bodies.proofs.Naming.{after, either, many_named, step}
use Rattle.som_image_classes.proofs.NamedSteps.{counted_named, each_named}

variable_is : (ks : List ClassKey) (classes : ℕ) (bytes : List ℕ) (place : ℕ) → naming (variable_named ks) (variable_at classes bytes place) ≡ named_variable_at ks classes bytes place
unfolding variable_at named_variable_at
variable_is ks classes bytes place =
    after (variable_named ks) (text_at bytes place)
    (λ a. kind_at classes false bytes a.next >>= λ b. done (record { name = a.value; kind = b.value }) b.next)
    (λ a. kind_at classes false bytes a.next >>= λ b. done (record { name = a.value; kind = kind_named ks b.value }) b.next)
    (λ a. after (variable_named ks) (kind_at classes false bytes a.next)
    (λ b. done (record { name = a.value; kind = b.value }) b.next)
    (λ b. done (record { name = a.value; kind = kind_named ks b.value }) b.next)
    (λ b. refl))

module _ (d : Directory) (ranges : Ranges) (bytes : List ℕ) where
  user_is : (place : ℕ) → naming (body_named d) (of_one (block_at (levels_left 1) ranges) bodies.User bytes place) ≡ of_one (named_block_at d ranges) named_bodies.User bytes place
  user_is place =
      step (body_named d) (block_named d) (block_at (levels_left 1) ranges bytes place) (named_block_at d ranges bytes place)
      (λ a. done (bodies.User a.value) a.next) (λ a. done (named_bodies.User a.value) a.next) refl (λ a. refl)

  get_is : (place : ℕ) → naming (body_named d) (of_one (number_at w8) bodies.Get bytes place) ≡ of_one (number_at w8) named_bodies.Get bytes place
  get_is place = after (body_named d) (number_at w8 bytes place) (λ a. done (bodies.Get a.value) a.next) (λ a. done (named_bodies.Get a.value) a.next) (λ a. refl)

  set_is : (place : ℕ) → naming (body_named d) (of_one (number_at w8) bodies.Set bytes place) ≡ of_one (number_at w8) named_bodies.Set bytes place
  set_is place = after (body_named d) (number_at w8 bytes place) (λ a. done (bodies.Set a.value) a.next) (λ a. done (named_bodies.Set a.value) a.next) (λ a. refl)

  after_is : (place : ℕ) (tag : Read ℕ) → naming (body_named d) (body_after (block_at (levels_left 1) ranges) bytes place tag) ≡ named_body_after (named_block_at d ranges) bytes place tag
  after_is place tag =
      either (body_named d) (eqb tag.value 0) _ _ _ _ (user_is tag.next)
      (either (body_named d) (eqb tag.value 1) _ _ _ _ (get_is tag.next)
      (either (body_named d) (eqb tag.value 2) _ (Err (faults.Tag place)) _ (Err (faults.Tag place)) (set_is tag.next) refl))

  body_is : (place : ℕ) → naming (body_named d) (body_at ranges bytes place) ≡ named_body_at d ranges bytes place
  unfolding body_at named_body_at
  body_is place =
      after (body_named d) (number_at w8 bytes place) (body_after (block_at (levels_left 1) ranges) bytes place) (named_body_after (named_block_at d ranges) bytes place) (after_is place)

  override_is : (place : ℕ) → naming (override_named d) (override_at ranges bytes place) ≡ named_override_at d ranges bytes place
  unfolding override_at named_override_at
  override_is place =
      after (override_named d) (method_at ranges bytes place)
      (λ a. block_at (levels_left 1) ranges bytes a.next >>= λ b. done (record { method = a.value; block = b.value }) b.next)
      (λ a. named_block_at d ranges bytes a.next >>= λ b. done (record { method = method_named d a.value; block = b.value }) b.next)
      (λ a. step (override_named d) (block_named d) (block_at (levels_left 1) ranges bytes a.next) (named_block_at d ranges bytes a.next)
      (λ b. done (record { method = a.value; block = b.value }) b.next)
      (λ b. done (record { method = method_named d a.value; block = b.value }) b.next)
      refl (λ b. refl))

  variables_is : (place : ℕ) → naming (map (variable_named d.keys)) (variables_at ranges.classes bytes place) ≡ named_variables_at d.keys ranges.classes bytes place
  variables_is place = counted_named (variable_named d.keys) (variable_at ranges.classes bytes) (named_variable_at d.keys ranges.classes bytes) (variable_is d.keys ranges.classes bytes) (number_at w8 bytes) 0 MAX_VARIABLES place

  bodies_is : (introduced place : ℕ) → naming (map (body_named d)) (bodies_at ranges introduced bytes place) ≡ named_bodies_at d ranges introduced bytes place
  bodies_is introduced place = many_named (body_named d) (body_at ranges bytes) (named_body_at d ranges bytes) body_is introduced place

  overrides_is : (place : ℕ) → naming (map (override_named d)) (overrides_at ranges bytes place) ≡ named_overrides_at d ranges bytes place
  overrides_is place = counted_named (override_named d) (override_at ranges bytes) (named_override_at d ranges bytes) override_is (number_at w16 bytes) 0 MAX_OVERRIDES place

  pub part_is : (introduced place : ℕ) → naming (part_named d) (part_at ranges introduced bytes place) ≡ named_part_at d ranges introduced bytes place
  unfolding part_at named_part_at
  part_is introduced place =
      step (part_named d) (map (variable_named d.keys)) (variables_at ranges.classes bytes place) (named_variables_at d.keys ranges.classes bytes place)
      (λ a. bodies_at ranges introduced bytes a.next >>= λ b. overrides_at ranges bytes b.next >>= λ c. done (record { variables = a.value; bodies = b.value; overrides = c.value }) c.next)
      (λ a. named_bodies_at d ranges introduced bytes a.next >>= λ b. named_overrides_at d ranges bytes b.next >>= λ c. done (record { variables = a.value; bodies = b.value; overrides = c.value }) c.next)
      (variables_is place)
      (λ a. step (part_named d) (map (body_named d)) (bodies_at ranges introduced bytes a.next) (named_bodies_at d ranges introduced bytes a.next)
      (λ b. overrides_at ranges bytes b.next >>= λ c. done (record { variables = a.value; bodies = b.value; overrides = c.value }) c.next)
      (λ b. named_overrides_at d ranges bytes b.next >>= λ c. done (record { variables = map (variable_named d.keys) a.value; bodies = b.value; overrides = c.value }) c.next)
      (bodies_is introduced a.next)
      (λ b. step (part_named d) (map (override_named d)) (overrides_at ranges bytes b.next) (named_overrides_at d ranges bytes b.next)
      (λ c. done (record { variables = a.value; bodies = b.value; overrides = c.value }) c.next)
      (λ c. done (record { variables = map (variable_named d.keys) a.value; bodies = map (body_named d) b.value; overrides = c.value }) c.next)
      (overrides_is b.next) (λ c. refl)))

  -- a part for each face
  pub parts_are : (faces : List WireFace) (place : ℕ) → naming (map (part_named d)) (parts_at ranges faces bytes place) ≡ named_parts_at d ranges faces bytes place
  parts_are faces place = each_named (part_named d) (λ f. part_at ranges (introduced_count f) bytes) (λ f. named_part_at d ranges (introduced_count f) bytes) (λ f p. part_is (introduced_count f) p) faces place

-- classes of parts with numbers are those of what these parts stand for
pub classes_are : (d : Directory) (fs : List WireFace) (ps : List WirePart) → classes_named d fs ps ≡ classes_of d fs (map (part_named d) ps)
classes_are d [] ps = refl
classes_are d (f ∷ fs) [] = refl
classes_are d (f ∷ fs) (p ∷ ps) = ap (λ (cs : List ClassDecl). class_named d f p ∷ cs) (classes_are d fs ps)
