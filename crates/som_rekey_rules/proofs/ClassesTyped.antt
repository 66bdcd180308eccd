-- The bodies of classes and main break the same rules under new keys.
use Rattle.std.proofs.Common.{◌≡◌, inl, inr, ℕ, List, [], ◌∷◌, ◌++◌, map, flat_map, Option, Some, None, Ok, Err, refl, ap, ◌∙◌, subst}
use Rattle.std.specs.Option.{option_map}
use Rattle.som_model.specs.declared.syntax.Block.{Block}
use Rattle.som_model.specs.declared.class.Sig.{Sig}
use Rattle.som_model.specs.declared.class.Entry.{Entry}
use Rattle.som_model.specs.declared.class.Entry.TheVariants as entries
use Rattle.som_model.specs.declared.class.Body.{Body}
use Rattle.som_model.specs.declared.class.Body.TheVariants as bodies
use Rattle.som_model.specs.declared.class.Override.{Override}
use Rattle.som_model.specs.Lists.{Mem}
use Rattle.som_model.specs.Class.{Class}
use Rattle.som_model.specs.Conforming.{block_breach_by, bodies_typed_by, class_typed_by, main_typed_by, override_typed_by, body_breach, override_breach_by, main_breach}
use Rattle.som_model.specs.Named.{block_names, body_names, entry_names, method_names, sig_names}
use Rattle.som_model.specs.Owner.{owner, sig_of}
use Rattle.som_model.specs.Typing.{ClassFacts, Ruled, in_body, in_main}
use Rattle.som_model.specs.TypedBlocks.{Scope, block_scope}
use Rattle.som_rekey_laws.specs.Rekeying.{ModuleChange, rekey_type, rekey_sig, rekey_block, rekey_entry, rekey_body, rekey_override, rekey_class, rekey_classes}
use Rattle.som_rekey_laws.specs.Apart.{Names, IsApart, KeepsKernel}
use Rattle.som_rekey_laws.specs.AlikeFacts.{AreFactsAlike}
use Rattle.som_rekey_laws.proofs.OwnersKept.{owner_signature_kept}
use Rattle.som_rekey_rules.specs.NamesAlone.{AreOf, IsClassNamed, AreFacesNamed, AreAnswersNamed, IsPlaceNamed}
use Rattle.som_rekey_rules.specs.NewTypes.{ruled_map}
use Rattle.som_rekey_rules.proofs.TypesRekeyed.{right_of, none_of, params_of, result_of}
use Rattle.som_rekey_rules.proofs.ExpressionsRekeyed.{face_of}
use Rattle.som_rekey_rules.proofs.StatementsRekeyed.{block_kept}
use Rattle.som_rekey_rules.proofs.ClassesNamed.{all_named, all_targets, entry_is_named, body_is_named, override_is_named, overridden_is_named, signature_named}

-- a breach names no key
body_same : (f : ModuleChange) (c : Class) (name : List ℕ) (g : Scope → Scope) (x : Ruled Scope) → body_breach (rekey_class f c) name (ruled_map g x) ≡ body_breach c name x
body_same f c name g (Ok scope) = refl
body_same f c name g (Err rule) = refl

main_same : (g : Scope → Scope) (x : Ruled Scope) → main_breach (ruled_map g x) ≡ main_breach x
main_same g (Ok scope) = refl
main_same g (Err rule) = refl

pub flat_same : {A B C : Type 0} (old : A → List C) (new : B → List C) (g : A → B) (xs : List A) → ((x : A) → Mem x xs → new (g x) ≡ old x) → flat_map new (map g xs) ≡ flat_map old xs
flat_same old new g [] e = refl
flat_same old new g (x ∷ xs) e =
    ap (λ l. l ++ flat_map new (map g xs)) (e x (inl refl))
    ∙ ap (λ l. old x ++ l) (flat_same old new g xs (λ a m. e a (inr m)))

module _ (f : ModuleChange) (names : Names) (kk : KeepsKernel f names) (apart : IsApart f names)
    (old new : ClassFacts) (like : AreFactsAlike f names old new) (told : AreAnswersNamed names old) where
  pub main_kept : (main : Block) → AreOf names (block_names main) → main_typed_by new (rekey_block f main) ≡ main_typed_by old main
  main_kept main n =
      let stands : IsPlaceNamed names in_main = record { class_ = λ c e. absurd (let z = e in cc); result = none_of names } in
      ap main_breach (block_kept f names kk apart old new like told in_main stands main n [] (λ t m. absurd m)).same
      ∙ main_same (map (rekey_type f)) (block_scope old in_main main [])

  module _ (c : Class) (is : IsClassNamed names c) where
    abbrev later : Class
    later = rekey_class f c

    block_same : (name : List ℕ) (sig : Sig) (block : Block) → AreOf names (sig_names sig) → AreOf names (block_names block) → block_breach_by new later name (rekey_sig f sig) (rekey_block f block) ≡ block_breach_by old c name sig block
    block_same name sig block n l =
        let stands : IsPlaceNamed names (in_body c sig.result) = record { class_ = λ d e. (let same : c ≡ d = cc in subst (IsClassNamed names) same is); result = result_of names sig n } in
        ap (body_breach later name) (block_kept f names kk apart old new like told (in_body c sig.result) stands block l sig.params (params_of names sig n)).same
        ∙ body_same f c name (map (rekey_type f)) (block_scope old (in_body c sig.result) block sig.params)

    bodies_same : (es : List Entry) (bs : List Body) → ((e : Entry) → Mem e es → AreOf names (entry_names e)) → ((b : Body) → Mem b bs → AreOf names (body_names b))
        → bodies_typed_by new later (map (rekey_entry f) es) (map (rekey_body f) bs) ≡ bodies_typed_by old c es bs
    bodies_same [] bs n l = refl
    bodies_same (entries.Moved name to ∷ es) bs n l = bodies_same es bs (λ e m. n e (inr m)) l
    bodies_same (entries.Introduced name sig way ∷ es) [] n l = refl
    bodies_same (entries.Introduced name sig way ∷ es) (bodies.User block ∷ bs) n l =
        ap (λ z. z ++ bodies_typed_by new later (map (rekey_entry f) es) (map (rekey_body f) bs)) (block_same name sig block (n (entries.Introduced name sig way) (inl refl)) (l (bodies.User block) (inl refl)))
        ∙ ap (λ z. block_breach_by old c name sig block ++ z) (bodies_same es bs (λ e m. n e (inr m)) (λ b m. l b (inr m)))
    bodies_same (entries.Introduced name sig way ∷ es) (bodies.Get i ∷ bs) n l = bodies_same es bs (λ e m. n e (inr m)) (λ b m. l b (inr m))
    bodies_same (entries.Introduced name sig way ∷ es) (bodies.Set i ∷ bs) n l = bodies_same es bs (λ e m. n e (inr m)) (λ b m. l b (inr m))

    override_by : (o : Override) (q : Option Sig) → ((s : Sig) → q ≡ Some s → AreOf names (sig_names s)) → AreOf names (block_names o.block)
        → override_breach_by new later (rekey_override f o) (option_map (rekey_sig f) q) ≡ override_breach_by old c o q
    override_by o None n l = refl
    override_by o (Some s) n l = block_same o.method.name s o.block (n s refl) l

    module _ (cs : List Class) (are : AreFacesNamed names cs) where
      override_same : (o : Override) → Mem o c.decl.overrides → override_typed_by new (rekey_classes f cs) later (rekey_override f o) ≡ override_typed_by old cs c o
      override_same o m =
          ap (override_breach_by new later (rekey_override f o)) (owner_signature_kept f names cs apart (all_named names cs are) (all_targets names cs are) o.method (overridden_is_named names c is o m))
          ∙ override_by o (sig_of cs (owner cs o.method)) (λ s e. signature_named names cs are (owner cs o.method) s e)
          (right_of names (method_names o.method) (block_names o.block) (override_is_named names c is o m))

      pub class_typed_kept : class_typed_by new (rekey_classes f cs) later ≡ class_typed_by old cs c
      class_typed_kept =
          ap (λ z. z ++ flat_map (override_typed_by new (rekey_classes f cs) later) (map (rekey_override f) c.decl.overrides))
          (bodies_same c.decl.face.entries c.decl.bodies (entry_is_named names c (face_of names c is)) (body_is_named names c is))
          ∙ ap (λ z. bodies_typed_by old c c.decl.face.entries c.decl.bodies ++ z)
          (flat_same (override_typed_by old cs c) (override_typed_by new (rekey_classes f cs) later) (rekey_override f) c.decl.overrides override_same)
