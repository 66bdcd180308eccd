-- Bodies that are no text's are within the limits of images, and the texts of a method are short where all are.
use Rattle.std.proofs.Common.{◌≡◌, ℕ, ◌<◌, ◌≤◌, ◌^◌, ◌&&◌, Bool, true, false, if◌then◌else◌, List, [], ◌∷◌, length, map, Option, Some, None, option_map, subst, arith}
use Rattle.std.specs.List.{AllByRecursion}
use Rattle.std.specs.Str.{bytes_eq}
use Rattle.std.proofs.lemmas.List.Elements.{All-from_recursion}
use Rattle.som_model.specs.declared.key.ClassKey.{ClassKey}
use Rattle.som_model.specs.declared.key.ValueType.{ValueType}
use Rattle.som_model.specs.declared.class.Variable.{Variable}
use Rattle.som_model.specs.declared.class.Body.{Body}
use Rattle.som_model.specs.declared.class.Body.TheVariants as bodies
use Rattle.som_model.specs.declared.class.Override.{Override}
use Rattle.som_model.specs.Class.{Class}
use Rattle.som_ast.specs.declared.words.Word.{Word}
use Rattle.som_ast.specs.declared.body.BodyText.{BodyText}
use Rattle.som_body.specs.Within.{BodyTextWithin}
use Rattle.som_image_decode.specs.BlockLimits.{BlockWithin, StmtWithin}
use Rattle.som_image_fields.specs.Fitting.{levels_left}
use Rattle.som_image_classes.specs.ClassLimits.{BodyWithin}
use Rattle.som_sema_decls.specs.Finished.{override_of}
use Rattle.som_elab_methods.specs.Accessors.{Access, accessor_body, place_of}
use Rattle.som_elab_methods.specs.Bodies.{texts_for}
use Rattle.som_elab_body.specs.MethodBody.{parameters}

-- a body whose statements can be counted, whatever file it is of
pub record IsShort (b : BodyText) : Type 0 where
  pub most : ℕ
  pub few : most < 2 ^ 32
  pub within : BodyTextWithin most b

-- ---- bodies

pub no_block : BlockWithin (record { statements = [] })
no_block = (omega arith, All-from_recursion (StmtWithin (levels_left 1)) [] tt)

pub parameters_few : (ws : List Word) (kinds : List ValueType) → length (parameters ws kinds) ≤ length kinds
parameters_few [] kinds = omega arith
parameters_few (w ∷ ws) [] = omega arith
parameters_few (w ∷ ws) (kind ∷ kinds) = let le = parameters_few ws kinds in omega (arith, le)

module _ (P : BodyText → Type 0) where
  picked : (b : BodyText) (bs : List BodyText) → P b → AllByRecursion P bs → (test : Bool) → AllByRecursion P (if test then b ∷ bs else bs)
  picked b bs p ps true = (p, ps)
  picked b bs p ps false = ps

  pub all_texts : (class name : List ℕ) (bs : List BodyText) → AllByRecursion P bs → AllByRecursion P (texts_for bs class name)
  all_texts class name [] p = tt
  all_texts class name (b ∷ bs) p = picked b (texts_for bs class name) p.0 (all_texts class name bs p.1) (bytes_eq b.class.text class && bytes_eq b.method.text name)

-- an accessor's body has no block
one_access : (vs : List Variable) (a : Access) → BodyWithin (accessor_body vs a)
one_access vs a = by_kind a.sets
  where
    by_kind : (b : Bool) → BodyWithin (if b then bodies.Set (place_of (map (λ (v : Variable). v.name) vs) a.attribute) else bodies.Get (place_of (map (λ (v : Variable). v.name) vs) a.attribute))
    by_kind true = tt
    by_kind false = tt

pub access_within : (vs : List Variable) (o : Option Access) (body : Body) → option_map (accessor_body vs) o ≡ Some body → BodyWithin body
access_within vs None body e = absurd (let z = e in cc)
access_within vs (Some a) body e = let same : accessor_body vs a ≡ body = (let z = e in cc) in subst BodyWithin same (one_access vs a)

-- nor has an override, before its text is looked for
pub empty_overrides : (cs : List Class) (k : ClassKey) (names : List (List ℕ)) → AllByRecursion (λ (o : Override). BlockWithin o.block) (map (override_of cs k) names)
empty_overrides cs k [] = tt
empty_overrides cs k (name ∷ names) = (no_block, empty_overrides cs k names)
