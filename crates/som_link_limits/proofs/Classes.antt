-- Classes that an image has room for are within the counts, and so are whole releases and client programs.
use Rattle.std.proofs.Common.{◌≡◌, ℕ, ◌≤◌, inl, inr, Bool, true, List, [], ◌∷◌, length, refl, sym, subst, le-leb}
use Rattle.std.specs.List.{AllByRecursion}
use Rattle.std.proofs.lemmas.List.Elements.{recursion_from_All}
use Rattle.som_model.specs.declared.class.Body.{Body}
use Rattle.som_model.specs.declared.class.Body.TheVariants as bodies
use Rattle.som_model.specs.declared.class.ClassDecl.{ClassDecl}
use Rattle.som_model.specs.declared.class.ClassFace.{ClassFace}
use Rattle.som_model.specs.declared.class.Entry.{Entry}
use Rattle.som_model.specs.declared.class.Entry.TheVariants as entries
use Rattle.som_model.specs.declared.class.Override.{Override}
use Rattle.som_model.specs.declared.class.Variable.{Variable}
use Rattle.som_model.specs.declared.limits.TheConstants.{MAX_TEXT}
use Rattle.som_model.specs.declared.program.ClientProgram.{ClientProgram}
use Rattle.som_model.specs.declared.program.Release.{Release}
use Rattle.som_model.specs.Class.{entry_name}
use Rattle.som_model.specs.Counts.{ClassCounted, FaceCounted, block_counted, body_counted, is_short}
use Rattle.som_model.specs.Lists.{Mem, every}
use Rattle.som_image_decode.specs.BlockLimits.{BlockWithin, TextWithin}
use Rattle.som_image_classes.specs.ClassLimits.{BodyWithin, ClassWithin, EntryWithin, FaceWithin}
use Rattle.som_libimage.specs.Limits as libraries
use Rattle.som_cliimage.specs.Limits as clients
use Rattle.som_link_check.specs.Pairs.{ProgramCounted, ReleaseCounted}
use Rattle.som_link_limits.proofs.Blocks.{block_counts, first_of, rest_of}

member : {A : Type 0} (P : A → Type 0) (xs : List A) → AllByRecursion P xs → (x : A) → Mem x xs → P x
member P [] all x m = absurd m
member P (y ∷ xs) all x (inl e) = subst P (sym e) all.0
member P (y ∷ xs) all x (inr m) = member P xs all.1 x m

every_one : {A : Type 0} (P : A → Type 0) (test : A → Bool) → ((x : A) → P x → test x ≡ true) → (xs : List A) → AllByRecursion P xs → every test xs ≡ true
every_one P test one [] all = refl
every_one P test one (x ∷ xs) all = rw (one x all.0) (every_one P test one xs all.1)

entry_short : (e : Entry) → EntryWithin e → length (entry_name e) ≤ MAX_TEXT
entry_short (entries.Introduced name sig way) w = first_of w
entry_short (entries.Moved name to) w = w

face_counts : (f : ClassFace) → FaceWithin f → FaceCounted f
face_counts f w =
    let all = recursion_from_All EntryWithin f.entries w.each_entry in
    record {
      name = w.name;
      some_parent = w.some_parent;
      parents = w.parents;
      order = w.entries;
      names = λ e m. entry_short e (member EntryWithin f.entries all e m);
      params = λ name sig way m. rest_of (member EntryWithin f.entries all (entries.Introduced name sig way) m);
    }

body_counts : (b : Body) → BodyWithin b → body_counted b ≡ true
body_counts (bodies.User block) w = block_counts block w
body_counts (bodies.Get n) w = refl
body_counts (bodies.Set n) w = refl

class_counts : (d : ClassDecl) → ClassWithin d → ClassCounted d
class_counts d w = record {
  face = face_counts d.face w.face;
  variables = w.variables;
  names = every_one (λ (v : Variable). TextWithin v.name) (λ (v : Variable). is_short v.name) (λ v short. le-leb (length v.name) MAX_TEXT short) d.variables
      (recursion_from_All (λ (v : Variable). TextWithin v.name) d.variables w.each_variable);
  user = every_one BodyWithin body_counted body_counts d.bodies (recursion_from_All BodyWithin d.bodies w.each_body);
  overrides = w.overrides;
  blocks = every_one (λ (o : Override). BlockWithin o.block) (λ (o : Override). block_counted o.block) (λ o within. block_counts o.block within) d.overrides
      (recursion_from_All (λ (o : Override). BlockWithin o.block) d.overrides w.each_override);
  selects = w.selects;
}

pub release_counts : (r : Release) → libraries.IsWithinLimits r → ReleaseCounted r
release_counts r w = record {
  few = w.classes;
  each = λ d m. class_counts d (member ClassWithin r.classes (recursion_from_All ClassWithin r.classes w.each_class) d m);
}

pub program_counts : (p : ClientProgram) → clients.IsWithinLimits p → ProgramCounted p
program_counts p w = record {
  few_faces = w.faces;
  each_face = λ f m. face_counts f (member FaceWithin p.base.classes (recursion_from_All FaceWithin p.base.classes w.each_face) f m);
  few = w.classes;
  each = λ d m. class_counts d (member ClassWithin p.classes (recursion_from_All ClassWithin p.classes w.each_class) d m);
  main = block_counts p.main w.main;
}
