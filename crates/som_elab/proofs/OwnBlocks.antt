-- Where the bodies of one class are made of its own texts alone.
use Rattle.std.proofs.Common.{◌≡◌, ℕ, List, [], ◌∷◌, Option, Some, None, Result, Ok, refl, sym, ap, ◌∙◌, subst}
use Rattle.som_model.specs.declared.class.Sig.{Sig}
use Rattle.som_model.specs.declared.class.Body.{Body}
use Rattle.som_model.specs.declared.class.Body.TheVariants as bodies
use Rattle.som_model.specs.declared.class.Entry.{Entry}
use Rattle.som_model.specs.declared.class.Entry.TheVariants as entries
use Rattle.som_model.specs.declared.class.Override.{Override}
use Rattle.som_model.specs.declared.class.ClassDecl.{ClassDecl}
use Rattle.som_model.specs.Class.{Class}
use Rattle.som_model.specs.Owner.{owner, sig_of}
use Rattle.som_model.specs.Steps.{◌>>=◌}
use Rattle.som_ast.specs.declared.body.BodyText.{BodyText}
use Rattle.som_sema_drafts.specs.declared.types.Refused.{Refused}
use Rattle.som_elab_methods.specs.Accessors.{body_of}
use Rattle.som_sema_drafts.specs.Drafts.{InterfaceDraft}
use Rattle.som_sema_decls.specs.Finished.{selects_at}
use Rattle.som_elab_body.specs.Expressions.{Among}
use Rattle.som_elab.specs.declared.class_bodies.ClassBodies.{ClassBodies}
use Rattle.som_elab.specs.Blocks.{Answers, Refusal, entry_bodies, entry_body, override_block, override_blocks, text_block}
use Rattle.som_elab.specs.Contexts.{class_steps}
use Rattle.som_elab_methods.specs.Texts.{of_class}
use Rattle.som_elab_methods.proofs.OwnTexts.{own_texts}

module _ (a : Among) (bs : List BodyText) (c : Class) where
  abbrev own : List BodyText
  own = of_class bs c.decl.face.name

  body_own : (name : List ℕ) (sig : Sig) (o : Option Body) → entry_body a own c name sig o ≡ entry_body a bs c name sig o
  body_own name sig (Some body) = refl
  body_own name sig None = ap (λ z. text_block a c name sig z >>= λ block. Ok (bodies.User block)) (own_texts bs c.decl.face.name name)

  entries_own : (d : InterfaceDraft) (es : List Entry) → entry_bodies a own d c es ≡ entry_bodies a bs d c es
  entries_own d [] = refl
  entries_own d (entries.Moved name to ∷ es) = entries_own d es
  entries_own d (entries.Introduced name sig way ∷ es) =
      ap (λ (z : Result Body Refusal). z >>= λ body. entry_bodies a own d c es >>= λ more. Ok (body ∷ more)) (body_own name sig (body_of d name))
      ∙ ap (λ (z : Result (List Body) Refusal). entry_body a bs c name sig (body_of d name) >>= λ body. z >>= λ more. Ok (body ∷ more)) (entries_own d es)

  override_own : (o : Override) (s : Option Sig) → override_block a own c o s ≡ override_block a bs c o s
  override_own o None = refl
  override_own o (Some sig) =
      ap (λ z. text_block a c o.method.name sig z >>= λ block. let made : Override = record { method = o.method; block = block } in Ok made) (own_texts bs c.decl.face.name o.method.name)

  overrides_own : (os : List Override) → override_blocks a own c os ≡ override_blocks a bs c os
  overrides_own [] = refl
  overrides_own (o ∷ os) =
      ap (λ (z : Result Override Refusal). z >>= λ p. override_blocks a own c os >>= λ more. Ok (p ∷ more)) (override_own o (sig_of a.classes (owner a.classes o.method)))
      ∙ ap (λ (z : Result (List Override) Refusal). override_block a bs c o (sig_of a.classes (owner a.classes o.method)) >>= λ p. z >>= λ more. Ok (p ∷ more)) (overrides_own os)

  pub class_own : (d : InterfaceDraft) → class_steps a own d c ≡ class_steps a bs d c
  class_own d =
      ap (λ (z : Result (List Body) Refusal). z >>= λ own_bodies. override_blocks a own c d.class.overrides >>= λ others. Ok (record { bodies = own_bodies; overrides = others; selects = selects_at a.classes c.key d })) (entries_own d d.class.face.entries)
      ∙ ap (λ (z : Result (List Override) Refusal). entry_bodies a bs d c d.class.face.entries >>= λ own_bodies. z >>= λ others. Ok (record { bodies = own_bodies; overrides = others; selects = selects_at a.classes c.key d })) (overrides_own d.class.overrides)

-- what comes of the texts of one class comes of all texts
pub class_told : (a : Among) (bs kept : List BodyText) (d : InterfaceDraft) (c : Class) (name : List ℕ) (r : Result ClassBodies Refused) → c.decl ≡ d.class → name ≡ d.class.face.name → kept ≡ of_class bs name
    → Answers (class_steps a kept d c) r → Answers (class_steps a bs d c) r
class_told a bs kept d c name r is named narrow t =
    let whole : kept ≡ of_class bs c.decl.face.name = narrow ∙ ap (of_class bs) (named ∙ ap (λ (z : ClassDecl). z.face.name) (sym is)) in
    subst (λ (z : Result ClassBodies Refusal). Answers z r) (ap (λ (z : List BodyText). class_steps a z d c) whole ∙ class_own a bs c d) t
