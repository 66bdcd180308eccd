-- The kernel's classes stay as they are.
use Rattle.std.proofs.Common.{◌≡◌, inl, inr, ℕ, List, [], ◌∷◌, ◌++◌, map, codes, refl, ap, ◌∙◌}
use Rattle.std.specs.Prelude.{⊤}
use Rattle.som_model.specs.declared.key.Module.TheVariants as modules
use Rattle.som_model.specs.declared.key.ClassKey.{ClassKey}
use Rattle.som_model.specs.declared.key.ValueType.TheVariants as types
use Rattle.som_model.specs.declared.class.Entry.{Entry}
use Rattle.som_model.specs.declared.class.ClassFace.{ClassFace}
use Rattle.som_model.specs.Lists.{Mem}
use Rattle.som_model.specs.Class.{Class, bare, class_in}
use Rattle.som_model.specs.Kernel.{kernel, kernel_key, kernel_face, kernel_interface, method, a_class, an_object, som_object, som_class, object_face, class_face, class_mgr_face, before_after_face}
use Rattle.som_rekey_laws.specs.Rekeying.{ModuleChange, rekey, rekey_type, rekey_entry, rekey_face, rekey_decl, rekey_class, rekey_classes}
use Rattle.som_rekey_laws.specs.Apart.{Names, KeepsKernel}
use Rattle.som_rekey_laws.proofs.Lists.{map_append}
use Rattle.som_rekey_laws.proofs.BodiesKept.{kernel_stays, object_stays, class_stays}

module _ (f : ModuleChange) (names : Names) (kk : KeepsKernel f names) where
  abbrev AllStay : List Entry → Type 0
  AllStay [] = ⊤
  AllStay (e ∷ es) = (rekey_entry f e ≡ e) × AllStay es

  list_stays : (es : List Entry) → AllStay es → map (rekey_entry f) es ≡ es
  list_stays [] all = refl
  list_stays (e ∷ es) all = ap (λ x. x ∷ map (rekey_entry f) es) all.0 ∙ ap (λ l. e ∷ l) (list_stays es all.1)

  class_type : rekey_type f a_class ≡ a_class
  class_type = ap types.Class (class_stays f names kk)

  object_type : rekey_type f an_object ≡ an_object
  object_type = ap types.Class (object_stays f names kk)

  face_stays : (name : List ℕ) (parents : List ClassKey) (entries : List Entry) → map (rekey f) parents ≡ parents → AllStay entries → rekey_face f (kernel_face name parents entries) ≡ kernel_face name parents entries
  face_stays name parents entries p all =
      ap (λ ps. kernel_face name ps (map (rekey_entry f) entries)) p ∙ ap (λ es. kernel_face name parents es) (list_stays entries all)

  below_object : map (rekey f) (som_object ∷ []) ≡ som_object ∷ []
  below_object = ap (λ k. k ∷ []) (object_stays f names kk)

  below_class : map (rekey f) (som_class ∷ []) ≡ som_class ∷ []
  below_class = ap (λ k. k ∷ []) (class_stays f names kk)

  object_face_stays : rekey_face f object_face ≡ object_face
  object_face_stays = face_stays object_face.name [] object_face.entries refl
      (refl, (refl, (refl, (ap (λ t. method (codes "somGetClass") t []) class_type, (refl, (ap (λ t. method (codes "somIsA") types.Boolean (t ∷ [])) class_type, (ap (λ t. method (codes "somIsInstanceOf") types.Boolean (t ∷ [])) class_type, (refl, (refl, tt)))))))))

  class_face_stays : rekey_face f class_face ≡ class_face
  class_face_stays = face_stays class_face.name (som_object ∷ []) class_face.entries below_object
      (ap (λ t. method (codes "somNew") t []) object_type, (ap (λ t. method (codes "somNewNoInit") t []) object_type, (refl, (ap (λ t. method (codes "somDescendedFrom") types.Boolean (t ∷ [])) class_type, (refl, (refl, tt))))))

  mgr_face_stays : rekey_face f class_mgr_face ≡ class_mgr_face
  mgr_face_stays = face_stays class_mgr_face.name (som_object ∷ []) class_mgr_face.entries below_object
      (ap (λ t. method (codes "somFindClass") t (types.Str ∷ types.Long ∷ types.Long ∷ [])) class_type, tt)

  before_after_face_stays : rekey_face f before_after_face ≡ before_after_face
  before_after_face_stays = face_stays before_after_face.name (som_class ∷ []) before_after_face.entries below_class
      (ap (λ t. method (codes "sommBeforeMethod") types.Void (t ∷ types.Str ∷ [])) object_type, (ap (λ t. method (codes "sommAfterMethod") types.Void (t ∷ types.Str ∷ [])) object_type, tt))

  class_of_face : (face : ClassFace) → Mem face kernel_interface.classes → rekey_face f face ≡ face → rekey_class f (class_in modules.Kernel (bare face)) ≡ class_in modules.Kernel (bare face)
  class_of_face face m e =
      ap (λ k. record { key = k; decl = rekey_decl f (bare face) }) (kernel_stays f names kk face.name (kk.here face m))
      ∙ ap (λ x. record { key = kernel_key face.name; decl = bare x }) e

  pub kernel_classes_stay : rekey_classes f kernel ≡ kernel
  kernel_classes_stay =
      let one = class_of_face object_face (inl refl) object_face_stays in
      let two = class_of_face class_face (inr (inl refl)) class_face_stays in
      let three = class_of_face class_mgr_face (inr (inr (inl refl))) mgr_face_stays in
      let four = class_of_face before_after_face (inr (inr (inr (inl refl)))) before_after_face_stays in
      let new : ClassFace → Class = λ face. rekey_class f (class_in modules.Kernel (bare face)) in
      let old : ClassFace → Class = λ face. class_in modules.Kernel (bare face) in
      ap (λ (c : Class). c ∷ new class_face ∷ new class_mgr_face ∷ new before_after_face ∷ []) one
      ∙ ap (λ (c : Class). old object_face ∷ c ∷ new class_mgr_face ∷ new before_after_face ∷ []) two
      ∙ ap (λ (c : Class). old object_face ∷ old class_face ∷ c ∷ new before_after_face ∷ []) three
      ∙ ap (λ (c : Class). old object_face ∷ old class_face ∷ old class_mgr_face ∷ c ∷ []) four

  pub with_kernel : (cs : List Class) → rekey_classes f (kernel ++ cs) ≡ kernel ++ rekey_classes f cs
  with_kernel cs = map_append (rekey_class f) kernel cs ∙ ap (λ l. l ++ rekey_classes f cs) kernel_classes_stay
