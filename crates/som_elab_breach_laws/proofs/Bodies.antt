-- What the bodies of classes are refused with is the first of what their members break.
use Rattle.std.proofs.Common.{◌≡◌, ℕ, List, [], ◌∷◌, ◌++◌, flat_map, Option, Some, None, Ok, Err, refl, sym, ap, ◌∙◌}
use Rattle.som_model.specs.declared.key.Module.{Module}
use Rattle.som_model.specs.declared.syntax.Block.{Block}
use Rattle.som_model.specs.declared.class.Sig.{Sig}
use Rattle.som_model.specs.declared.class.Entry.{Entry}
use Rattle.som_model.specs.declared.class.Entry.TheVariants as entries
use Rattle.som_model.specs.declared.class.Body.{Body}
use Rattle.som_model.specs.declared.class.Body.TheVariants as bodies
use Rattle.som_model.specs.declared.class.Override.{Override}
use Rattle.som_model.specs.declared.class.ClassDecl.{ClassDecl}
use Rattle.som_model.specs.Lists.{first, or_else}
use Rattle.som_model.specs.Steps.{◌>>=◌}
use Rattle.som_model.specs.Class.{Class, class_in}
use Rattle.som_model.specs.Owner.{owner, sig_of}
use Rattle.som_ast.specs.declared.body.BodyText.{BodyText}
use Rattle.som_sema_drafts.specs.Drafts.{InterfaceDraft}
use Rattle.som_sema_decls.specs.Finished.{selects_at}
use Rattle.som_elab_methods.specs.Accessors.{body_of}
use Rattle.som_elab_methods.specs.Bodies.{texts_for}
use Rattle.som_elab_body.specs.Expressions.{Among}
use Rattle.som_elab_body.specs.MethodBody.{elaborated_body}
use Rattle.som_elab_body.specs.Statements.{Told}
use Rattle.som_elab.specs.Blocks.{Refusal, elaborated_class, elaborated_each, entry_bodies, entry_body, override_block, override_blocks, refused_at, text_block, with_blocks}
use Rattle.som_elab_breach_laws.specs.Telling.{IsFirstBody, Member, class_refusals, if_refused, if_signed, introduced_member, member_refusals, members, overridden_member, text_refusals, unless_own}
use Rattle.som_elab_breach_laws.proofs.Firsts.{first_both, first_flat, flat_both, flat_first, is_refused, last_refused, or_last, refused_with, then_refused}

told_refused : (class member : List ℕ) (t : Told Block) → refused_with (refused_at class member t) ≡ first (if_refused class member t)
told_refused class member (Ok block) = refl
told_refused class member (Err breach) = refl

text_refused : (a : Among) (c : Class) (name : List ℕ) (sig : Sig) (ts : List BodyText) → refused_with (text_block a c name sig ts) ≡ first (text_refusals a c (record { name = name; sig = sig }) ts)
text_refused a c name sig [] = refl
text_refused a c name sig (b ∷ ts) = told_refused c.decl.face.name name (elaborated_body a c sig b)

first_one : {B : Type 0} (xs : List B) → first (xs ++ []) ≡ first xs
first_one xs = first_both xs [] ∙ or_last (first xs)

module _ (a : Among) (m : Module) (bs : List BodyText) where
  module _ (d : InterfaceDraft) where
    abbrev c : Class
    c = class_in m d.class

    abbrev wrong : Member → List Refusal
    wrong = member_refusals a m bs d

    entry_refused : (name : List ℕ) (sig : Sig) (own : Option Body) → refused_with (entry_body a bs c name sig own) ≡ first (flat_map wrong (unless_own name sig own))
    entry_refused name sig (Some body) = refl
    entry_refused name sig None =
        last_refused (text_block a c name sig (texts_for bs d.class.face.name name)) (λ (block : Block). bodies.User block)
        ∙ text_refused a c name sig (texts_for bs d.class.face.name name)
        ∙ sym (first_one (wrong (record { name = name; sig = sig })))

    -- one member, and then others
    one_more : (xs ys : List Member) → first (flat_map wrong (xs ++ ys)) ≡ or_else (first (flat_map wrong xs)) (first (flat_map wrong ys))
    one_more xs ys = ap first (flat_both wrong xs ys) ∙ first_both (flat_map wrong xs) (flat_map wrong ys)

    entries_refused : (es : List Entry) → refused_with (entry_bodies a bs d c es) ≡ first (flat_map wrong (flat_map (introduced_member d) es))
    entries_refused [] = refl
    entries_refused (entries.Moved name to ∷ es) = entries_refused es
    entries_refused (entries.Introduced name sig way ∷ es) =
        then_refused (entry_body a bs c name sig (body_of d name)) (λ (body : Body). entry_bodies a bs d c es >>= λ more. Ok (body ∷ more))
        (refused_with (entry_bodies a bs d c es)) (λ body. last_refused (entry_bodies a bs d c es) (λ (more : List Body). body ∷ more))
        ∙ ap (λ (o : Option Refusal). or_else o (refused_with (entry_bodies a bs d c es))) (entry_refused name sig (body_of d name))
        ∙ ap (λ (o : Option Refusal). or_else (first (flat_map wrong (unless_own name sig (body_of d name)))) o) (entries_refused es)
        ∙ sym (one_more (unless_own name sig (body_of d name)) (flat_map (introduced_member d) es))

    override_refused : (o : Override) (q : Option Sig) → refused_with (override_block a bs c o q) ≡ first (flat_map wrong (if_signed o.method.name q))
    override_refused o None = refl
    override_refused o (Some sig) =
        last_refused (text_block a c o.method.name sig (texts_for bs d.class.face.name o.method.name)) (λ (block : Block). record { method = o.method; block = block })
        ∙ text_refused a c o.method.name sig (texts_for bs d.class.face.name o.method.name)
        ∙ sym (first_one (wrong (record { name = o.method.name; sig = sig })))

    overrides_refused : (os : List Override) → refused_with (override_blocks a bs c os) ≡ first (flat_map wrong (flat_map (overridden_member a.classes) os))
    overrides_refused [] = refl
    overrides_refused (o ∷ os) =
        then_refused (override_block a bs c o (sig_of a.classes (owner a.classes o.method))) (λ (p : Override). override_blocks a bs c os >>= λ more. Ok (p ∷ more))
        (refused_with (override_blocks a bs c os)) (λ p. last_refused (override_blocks a bs c os) (λ (more : List Override). p ∷ more))
        ∙ ap (λ (q : Option Refusal). or_else q (refused_with (override_blocks a bs c os))) (override_refused o (sig_of a.classes (owner a.classes o.method)))
        ∙ ap (λ (q : Option Refusal). or_else (first (flat_map wrong (overridden_member a.classes o))) q) (overrides_refused os)
        ∙ sym (one_more (overridden_member a.classes o) (flat_map (overridden_member a.classes) os))

    class_refused : refused_with (elaborated_class a m bs d) ≡ first (class_refusals a m bs d)
    class_refused =
        then_refused (entry_bodies a bs d c d.class.face.entries)
        (λ (own : List Body). override_blocks a bs c d.class.overrides >>= λ others. Ok (with_blocks d.class own others (selects_at a.classes c.key d)))
        (refused_with (override_blocks a bs c d.class.overrides))
        (λ own. last_refused (override_blocks a bs c d.class.overrides) (λ (others : List Override). with_blocks d.class own others (selects_at a.classes c.key d)))
        ∙ ap (λ (q : Option Refusal). or_else q (refused_with (override_blocks a bs c d.class.overrides))) (entries_refused d.class.face.entries)
        ∙ ap (λ (q : Option Refusal). or_else (first (flat_map wrong (flat_map (introduced_member d) d.class.face.entries))) q) (overrides_refused d.class.overrides)
        ∙ sym (one_more (flat_map (introduced_member d) d.class.face.entries) (flat_map (overridden_member a.classes) d.class.overrides))

  each_refused : (ds : List InterfaceDraft) → refused_with (elaborated_each a m bs ds) ≡ first (flat_map (class_refusals a m bs) ds)
  each_refused [] = refl
  each_refused (d ∷ ds) =
      then_refused (elaborated_class a m bs d) (λ (x : ClassDecl). elaborated_each a m bs ds >>= λ xs. Ok (x ∷ xs))
      (refused_with (elaborated_each a m bs ds)) (λ x. last_refused (elaborated_each a m bs ds) (λ (xs : List ClassDecl). x ∷ xs))
      ∙ ap (λ (q : Option Refusal). or_else q (refused_with (elaborated_each a m bs ds))) (class_refused d)
      ∙ ap (λ (q : Option Refusal). or_else (first (class_refusals a m bs d)) q) (each_refused ds)
      ∙ sym (first_both (class_refusals a m bs d) (flat_map (class_refusals a m bs) ds))

  pub first_body : (ds : List InterfaceDraft) (r : Refusal) → elaborated_each a m bs ds ≡ Err r → IsFirstBody a m bs ds r
  first_body ds r e =
      let f = first_flat (class_refusals a m bs) ds r (sym (each_refused ds) ∙ ap (λ z. refused_with z) e) in
      record { class = f; member = first_flat (member_refusals a m bs f.item) (members a.classes f.item) r f.begins }

  pub body_first : (ds : List InterfaceDraft) (r : Refusal) → IsFirstBody a m bs ds r → elaborated_each a m bs ds ≡ Err r
  body_first ds r f = is_refused (elaborated_each a m bs ds) r (each_refused ds ∙ flat_first (class_refusals a m bs) ds r f.class)
