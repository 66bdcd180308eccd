-- The bodies of one class and of all classes, one after the other.
use Rattle.std.proofs.Common.{◌≡◌, ℕ, ◌+◌, ◌<◌, ◌≤◌, List, [], ◌∷◌, ◌++◌, length, drop, get_or, Option, Some, None, Result, Ok, Err, refl, sym, ap, ◌∙◌, subst}
use Rattle.som_model.specs.declared.key.ClassKey.{ClassKey}
use Rattle.som_model.specs.declared.key.MethodRef.{MethodRef}
use Rattle.som_model.specs.declared.key.Module.{Module}
use Rattle.som_model.specs.declared.syntax.Block.{Block}
use Rattle.som_model.specs.declared.class.Sig.{Sig}
use Rattle.som_model.specs.declared.class.Way.{Way}
use Rattle.som_model.specs.declared.class.Entry.{Entry}
use Rattle.som_model.specs.declared.class.Entry.TheVariants as entries
use Rattle.som_model.specs.declared.class.Body.{Body}
use Rattle.som_model.specs.declared.class.Body.TheVariants as bodies
use Rattle.som_model.specs.declared.class.Override.{Override}
use Rattle.som_model.specs.Class.{Class, class_in}
use Rattle.som_model.specs.Owner.{owner, sig_of}
use Rattle.som_model.specs.Steps.{◌>>=◌}
use Rattle.som_model.specs.Typing.{class_facts}
use Rattle.som_ast.specs.declared.body.BodyText.{BodyText}
use Rattle.som_verify_forms.proofs.Facts.{signature_said}
use Rattle.som_sema_drafts.specs.declared.types.Refused.{Refused}
use Rattle.som_elab_methods.specs.Accessors.{body_of}
use Rattle.som_sema_drafts.specs.Drafts.{InterfaceDraft, plain_drafts, plain_draft}
use Rattle.som_sema_drafts.specs.declared.drafts.Draft.{Draft}
use Rattle.som_elab.specs.declared.class_bodies.ClassBodies.{ClassBodies}
use Rattle.som_elab_methods.specs.Bodies.{texts_for}
use Rattle.som_elab_body.specs.Expressions.{Among}
use Rattle.som_elab.specs.Blocks.{Answers, Refusal, entry_bodies, entry_body, override_block, override_blocks, text_block}
use Rattle.som_elab.specs.Contexts.{class_steps, each_steps, signed_steps}
use Rattle.som_elab.proofs.Gathering.{after, after_none, ends, gathers, refuses, skips, stops, with_more}

module _ (a : Among) (bs : List BodyText) where
  -- ---- entries

  module _ (d : InterfaceDraft) (c : Class) where
    module _ (es : List Entry) (i : ℕ) (x : Entry) (lt : i < length es) (is : x ≡ get_or es i x) (done : List Body) (so : after done (entry_bodies a bs d c (drop i es)) ≡ entry_bodies a bs d c es) where
      pub moved_next : (name : List ℕ) (to : ClassKey) → x ≡ entries.Moved name to → after done (entry_bodies a bs d c (drop (i + 1) es)) ≡ entry_bodies a bs d c es
      moved_next name to form = skips (entry_bodies a bs d c) es i x lt is (entry_bodies a bs d c es) done (λ ys. ap (λ (z : Entry). entry_bodies a bs d c (z ∷ ys)) form) so

      module _ (name : List ℕ) (sig : Sig) (way : Way) (form : x ≡ entries.Introduced name sig way) where
        law : (ys : List Entry) → entry_bodies a bs d c (x ∷ ys) ≡ (entry_body a bs c name sig (body_of d name) >>= λ y. with_more y (entry_bodies a bs d c ys))
        law ys = ap (λ (z : Entry). entry_bodies a bs d c (z ∷ ys)) form

        pub entry_next : (b : Body) → entry_body a bs c name sig (body_of d name) ≡ Ok b → after (done ++ b ∷ []) (entry_bodies a bs d c (drop (i + 1) es)) ≡ entry_bodies a bs d c es
        entry_next b e = gathers (entry_bodies a bs d c) es i x lt is (entry_body a bs c name sig (body_of d name)) law (entry_bodies a bs d c es) done b e so

        pub entry_stops : (e : Refused) → Answers {A = Body} (entry_body a bs c name sig (body_of d name)) (Err e) → Answers {A = List Body} (entry_bodies a bs d c es) (Err e)
        entry_stops e t = refuses (entry_bodies a bs d c) es i x lt is (entry_body a bs c name sig (body_of d name)) law (entry_bodies a bs d c es) done e t so

    pub entries_end : (es : List Entry) (i : ℕ) (done : List Body) → length es ≤ i → after done (entry_bodies a bs d c (drop i es)) ≡ entry_bodies a bs d c es → entry_bodies a bs d c es ≡ Ok done
    entries_end es i done le so = ends (entry_bodies a bs d c) es i (entry_bodies a bs d c es) done le refl so

    pub entries_start : (es : List Entry) → after [] (entry_bodies a bs d c es) ≡ entry_bodies a bs d c es
    entries_start es = after_none (entry_bodies a bs d c es)

  -- ---- overrides

  module _ (c : Class) where
    abbrev one_override : Override → Result Override Refusal
    one_override o = override_block a bs c o (sig_of a.classes (owner a.classes o.method))

    module _ (os : List Override) (i : ℕ) (x : Override) (lt : i < length os) (is : x ≡ get_or os i x) (done : List Override) (so : after done (override_blocks a bs c (drop i os)) ≡ override_blocks a bs c os) where
      pub override_next : (o : Override) → one_override x ≡ Ok o → after (done ++ o ∷ []) (override_blocks a bs c (drop (i + 1) os)) ≡ override_blocks a bs c os
      override_next o e = gathers (override_blocks a bs c) os i x lt is (one_override x) (λ ys. refl) (override_blocks a bs c os) done o e so

      pub override_stops : (e : Refused) → Answers {A = Override} (one_override x) (Err e) → Answers {A = List Override} (override_blocks a bs c os) (Err e)
      override_stops e t = refuses (override_blocks a bs c) os i x lt is (one_override x) (λ ys. refl) (override_blocks a bs c os) done e t so

    pub overrides_end : (os : List Override) (i : ℕ) (done : List Override) → length os ≤ i → after done (override_blocks a bs c (drop i os)) ≡ override_blocks a bs c os → override_blocks a bs c os ≡ Ok done
    overrides_end os i done le so = ends (override_blocks a bs c) os i (override_blocks a bs c os) done le refl so

    pub overrides_start : (os : List Override) → after [] (override_blocks a bs c os) ≡ override_blocks a bs c os
    overrides_start os = after_none (override_blocks a bs c os)

    -- ---- blocks of methods

    pub entry_refused : (name : List ℕ) (sig : Sig) (e : Refused) → Answers {A = Block} (text_block a c name sig (texts_for bs c.decl.face.name name)) (Err e) → Answers {A = Body} (entry_body a bs c name sig None) (Err e)
    entry_refused name sig e t = stops (text_block a c name sig (texts_for bs c.decl.face.name name)) (λ block. Ok (bodies.User block)) e t

    pub entry_made : (name : List ℕ) (sig : Sig) (b : Block) → text_block a c name sig (texts_for bs c.decl.face.name name) ≡ Ok b → entry_body a bs c name sig None ≡ Ok (bodies.User b)
    entry_made name sig b e = ap (λ (z : Result Block Refusal). z >>= λ block. Ok (bodies.User block)) e

    abbrev with_block : MethodRef → Block → Result Override Refusal
    with_block method block = Ok (record { method = method; block = block })

    pub signed_refused : (method : MethodRef) (sig : Sig) (e : Refused) → Answers {A = Block} (text_block a c method.name sig (texts_for bs c.decl.face.name method.name)) (Err e) → Answers {A = Override} (signed_steps a bs c method sig) (Err e)
    signed_refused method sig e t = stops (text_block a c method.name sig (texts_for bs c.decl.face.name method.name)) (with_block method) e t

    pub signed_made : (method : MethodRef) (sig : Sig) (b : Block) → text_block a c method.name sig (texts_for bs c.decl.face.name method.name) ≡ Ok b → signed_steps a bs c method sig ≡ Ok (record { method = method; block = b })
    signed_made method sig b e = ap (λ (z : Result Block Refusal). z >>= with_block method) e

    -- an override by the signature that is known
    pub unsigned_made : (o : Override) → None ≡ (class_facts a.classes).signature o.method → one_override o ≡ Ok o
    unsigned_made o e = ap (override_block a bs c o) (sym (e ∙ signature_said a.classes o.method))

    pub signed_told : (o : Override) (sig : Sig) (r : Result Override Refused) → Some sig ≡ (class_facts a.classes).signature o.method → Answers (signed_steps a bs c o.method sig) r → Answers (one_override o) r
    signed_told o sig r e t = subst (λ (z : Option Sig). Answers (override_block a bs c o z) r) (e ∙ signature_said a.classes o.method) t

  -- ---- all classes

  module _ (m : Module) where
    abbrev each_of : List Draft → Result (List ClassBodies) Refusal
    each_of ds = each_steps a m bs (plain_drafts ds)

    module _ (ds : List Draft) (i : ℕ) (x : Draft) (lt : i < length ds) (is : x ≡ get_or ds i x) (done : List ClassBodies) (so : after done (each_of (drop i ds)) ≡ each_of ds) (c : Class) (there : c ≡ class_in m x.decl) where
      class_law : (ys : List Draft) → each_of (x ∷ ys) ≡ (class_steps a bs (plain_draft x) c >>= λ y. with_more y (each_of ys))
      class_law ys = ap (λ (z : Class). class_steps a bs (plain_draft x) z >>= λ y. with_more y (each_of ys)) (sym there)

      pub class_next : (b : ClassBodies) → class_steps a bs (plain_draft x) c ≡ Ok b → after (done ++ b ∷ []) (each_of (drop (i + 1) ds)) ≡ each_of ds
      class_next b e = gathers each_of ds i x lt is (class_steps a bs (plain_draft x) c) class_law (each_of ds) done b e so

      pub class_stops : (e : Refused) → Answers {A = ClassBodies} (class_steps a bs (plain_draft x) c) (Err e) → Answers {A = List ClassBodies} (each_of ds) (Err e)
      class_stops e t = refuses each_of ds i x lt is (class_steps a bs (plain_draft x) c) class_law (each_of ds) done e t so

    pub classes_end : (ds : List Draft) (i : ℕ) (done : List ClassBodies) → length ds ≤ i → after done (each_of (drop i ds)) ≡ each_of ds → each_of ds ≡ Ok done
    classes_end ds i done le so = ends each_of ds i (each_of ds) done le refl so

    pub classes_start : (ds : List Draft) → after [] (each_of ds) ≡ each_of ds
    classes_start ds = after_none (each_of ds)
