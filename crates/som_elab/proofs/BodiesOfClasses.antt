-- The bodies of a class of texts: there are as many as it introduces methods, they fit, and they are well typed.
use Rattle.std.proofs.Common.{◌≡◌, ℕ, zero, suc, inl, inr, Bool, true, false, if◌then◌else◌, List, [], ◌∷◌, ◌++◌, length, map, flat_map, slice_get, Option, Some, None, is_some, Ok, Err, refl, sym, ap, ◌∙◌, subst, arith}
use Rattle.std.specs.Str.{bytes_eq}
use Rattle.som_model.specs.declared.key.ClassKey.{ClassKey}
use Rattle.som_model.specs.declared.key.MethodRef.{MethodRef}
use Rattle.som_model.specs.declared.key.Module.{Module}
use Rattle.som_model.specs.declared.key.ValueType.{ValueType}
use Rattle.som_model.specs.declared.syntax.Block.{Block, fold-roll-Block}
use Rattle.som_model.specs.declared.class.Sig.{Sig}
use Rattle.som_model.specs.declared.class.Way.{Way}
use Rattle.som_model.specs.declared.class.Entry.{Entry}
use Rattle.som_model.specs.declared.class.Entry.TheVariants as entries
use Rattle.som_model.specs.declared.class.Override.{Override}
use Rattle.som_model.specs.declared.class.Body.{Body}
use Rattle.som_model.specs.declared.class.Body.TheVariants as bodies
use Rattle.som_model.specs.declared.class.ClassDecl.{ClassDecl}
use Rattle.som_model.specs.declared.class.Select.{Select}
use Rattle.som_model.specs.declared.class.Variable.{Variable}
use Rattle.som_model.specs.declared.program.Interface.{Interface}
use Rattle.som_model.specs.Lists.{Mem, doubles, first}
use Rattle.som_model.specs.Steps.{◌>>=◌}
use Rattle.som_model.specs.Class.{Class, class_in, introduced}
use Rattle.som_model.specs.Classes.{interface_classes}
use Rattle.som_model.specs.Conforming.{block_breach, bodies_typed, class_typed, override_typed}
use Rattle.som_model.specs.Owner.{owner, sig_of}
use Rattle.som_model.specs.Rules.{RuleBreach, breach}
use Rattle.som_model.specs.Typing.{Ruled, class_facts, in_body}
use Rattle.som_model.specs.TypedBlocks.{Scope, Scoped, block_scope, block_step, stmt_step}
use Rattle.som_model.proofs.StepLaws.{same_answer, went}
use Rattle.som_ast.specs.declared.words.Word.{Word}
use Rattle.som_ast.specs.declared.interface.IdlInterface.{IdlInterface}
use Rattle.som_ast.specs.declared.body.BodyText.{BodyText}
use Rattle.som_verify_classes.specs.Plainly.{ClassesHold, Fits, a_block, signatures}
use Rattle.som_elab_methods.specs.Accessors.{Access, accessor_body, body_of}
use Rattle.som_sema_decls.specs.Known.{after_base}
use Rattle.som_sema.specs.Building.{declarations, texts_breach}
use Rattle.som_sema_drafts.specs.Drafts.{InterfaceDraft}
use Rattle.som_sema_decls.specs.Finished.{selects_at}
use Rattle.som_sema_scope.specs.Words.{words}
use Rattle.som_elab_body.specs.Locals.{kinds_of}
use Rattle.som_elab_body.specs.Expressions.{Among}
use Rattle.som_elab_body.specs.Statements.{Breaks, Told, elaborated_block}
use Rattle.som_elab_methods.specs.Bodies.{body_sig, text_s13, texts_for}
use Rattle.som_elab.specs.Elaboration.{classes_over, drafts_over, among_over}
use Rattle.som_elab_body.specs.MethodBody.{elaborated_body, parameters}
use Rattle.som_elab.specs.Blocks.{elaborated_class, entry_bodies, entry_body, override_block, override_blocks, refused_at, text_block, with_blocks}
use Rattle.som_elab.proofs.Declared.{body_fits, own}
use Rattle.som_elab_methods.proofs.Fitting.{accessed}
use Rattle.som_elab.proofs.Plain.{emptied, plain, scope_other}
use Rattle.som_elab.proofs.Signatures.{as_many, operation_signed, override_signed}
use Rattle.som_elab_body.proofs.TypedBodies.{text_typed}

pub refused_ok : {A : Type 0} (class member : List ℕ) (x : Told A) (r : A) → refused_at class member x ≡ Ok r → x ≡ Ok r
refused_ok class member (Ok a) r e = ap Ok (same_answer e)
refused_ok class member (Err fault) r e = absurd (let z = e in cc)

-- parameters have the types of the signature
pub kinds_are : (ws : List Word) (kinds : List ValueType) → length ws ≡ length kinds → kinds_of (parameters ws kinds) ≡ kinds
kinds_are [] [] e = refl
kinds_are [] (k ∷ kinds) e = absurd (omega (arith, e))
kinds_are (w ∷ ws) [] e = absurd (omega (arith, e))
kinds_are (w ∷ ws) (k ∷ kinds) e = ap (λ z. k ∷ z) (kinds_are ws kinds (omega (arith, e)))

-- an accessor's body is no block
no_block : (vs : List Variable) (a : Access) (sets : Bool) (b : Block) → a.sets ≡ sets → bodies.User b ≡ accessor_body vs a → ⊥
no_block vs a true b e is = let user : bodies.User b ≡ bodies.Set _ = rw e at is in cc
no_block vs a false b e is = let user : bodies.User b ≡ bodies.Get _ = rw e at is in cc

abbrev empty : (A : Type 0) → List A
empty A = []

nothing_there : {A P : Type 0} (n : ℕ) (x : A) → slice_get (empty A) n ≡ Some x → P
nothing_there n x e = absurd (cc)

-- what a body breaks that came to a scope
abbrev scope_breach : Class → List ℕ → Ruled Scope → List RuleBreach
scope_breach c name (Ok scope) = []
scope_breach c name (Err rule) = breach rule c name ∷ []

abbrev breach_by : List Class → Class → Override → Option Sig → List RuleBreach
breach_by cs c o None = []
breach_by cs c o (Some sig) = block_breach cs c o.method.name sig o.block

module _ (m : Module) (base : Interface) (is : List IdlInterface) (bs : List BodyText)
    (holds : ClassesHold (after_base m (interface_classes base) (declarations m base is)))
    (rules : texts_breach m base is ≡ None)
    (s13 : first (flat_map (text_s13 (classes_over m base is) (drafts_over m base is)) bs) ≡ None)
    (all : List Class)
    (facts : class_facts all ≡ class_facts (classes_over m base is))
    (signed : (r : MethodRef) → sig_of all (owner all r) ≡ sig_of (classes_over m base is) (owner (classes_over m base is) r))
    (i : IdlInterface) (there : Mem i is) where
  abbrev a : Among
  a = among_over m base is

  abbrev d : InterfaceDraft
  d = own m base is i

  abbrev c : Class
  c = class_in m d.class

  abbrev Types : Sig → Block → Type 0
  Types sig block = (k : Scope) × (block_scope (class_facts a.classes) (in_body c sig.result) block sig.params ≡ Ok k)

  body_typed : (name : List ℕ) (sig : Sig) (b : BodyText) (block : Block) → length b.params ≡ length sig.params → refused_at d.class.face.name name (elaborated_body a c sig b) ≡ Ok block → Types sig block
  body_typed name sig b block long h = by (is_some (first (doubles bytes_eq [] (words b.params)))) (refused_ok d.class.face.name name (elaborated_body a c sig b) block h)
    where
      by : (t : Bool) → (if t then Err (Breaks 15) else elaborated_block a (in_body c sig.result) b.block (parameters b.params sig.params)) ≡ Ok block → Types sig block
      by true e = absurd (let z = e in cc)
      by false e =
          let t = text_typed a (in_body c sig.result) b.block (parameters b.params sig.params) block e in
          (t.0, ap (block_scope (class_facts a.classes) (in_body c sig.result) block) (sym (kinds_are b.params sig.params long)) ∙ t.1)

  text_block_typed : (name : List ℕ) (sig : Sig) → body_sig (classes_over m base is) d name ≡ Some sig → (block : Block) → text_block a c name sig (texts_for bs d.class.face.name name) ≡ Ok block → Types sig block
  text_block_typed name sig is_sig block h = by (texts_for bs d.class.face.name name) refl h
    where
      by : (ts : List BodyText) → texts_for bs d.class.face.name name ≡ ts → text_block a c name sig ts ≡ Ok block → Types sig block
      by [] e h = (
        sig.params,
        subst (λ z. block_scope (class_facts a.classes) (in_body c sig.result) z sig.params ≡ Ok sig.params) (same_answer h)
            (ap (λ (f : Scoped). f sig.params) (fold-roll-Block Scoped Scoped (stmt_step (class_facts a.classes) (in_body c sig.result)) block_step (record { statements = [] }))),
      )
      by (b ∷ rest) e h = body_typed name sig b block (as_many m base is holds bs s13 i there name sig is_sig b rest e) h

  -- the class with its bodies
  module _ (c2 : Class) (same : plain c ≡ plain c2) where
    unbroken : (name : List ℕ) (sig : Sig) (block : Block) → Types sig block → block_breach all c2 name sig block ≡ []
    unbroken name sig block t =
        ap (scope_breach c2 name)
        (ap (λ w. block_scope w (in_body c2 sig.result) block sig.params) facts
        ∙ sym (scope_other (class_facts a.classes) c c2 sig.result block sig.params same) ∙ t.1)

    record AreBodies (es : List Entry) (made : List Body) : Type 0 where
      long : length made ≡ length (introduced es)
      fit : (n : ℕ) (sig : Sig) (b : Body) → slice_get (signatures es) n ≡ Some sig → slice_get made n ≡ Some b → Fits d.class.variables sig b
      typed : bodies_typed all c2 es made ≡ []

    -- one more body, which fits and breaks nothing
    one_more : (name : List ℕ) (sig : Sig) (way : Way) (es : List Entry) (b : Body) (more : List Body) → Fits d.class.variables sig b
        → bodies_typed all c2 (entries.Introduced name sig way ∷ es) (b ∷ more) ≡ bodies_typed all c2 es more → AreBodies es more → AreBodies (entries.Introduced name sig way ∷ es) (b ∷ more)
    one_more name sig way es b more fits typed r = record { long = ap suc r.long; fit = fit_by; typed = typed ∙ r.typed }
      where
        fit_by : (n : ℕ) (s : Sig) (x : Body) → slice_get (sig ∷ signatures es) n ≡ Some s → slice_get (b ∷ more) n ≡ Some x → Fits d.class.variables s x
        fit_by zero s x p q =
            let one : sig ≡ s = cc in
            let two : b ≡ x = cc in
            subst (λ z. Fits d.class.variables z x) one (subst (Fits d.class.variables sig) two fits)
        fit_by (suc n) s x p q = r.fit n s x p q

    accessor_more : (name : List ℕ) (sig : Sig) (way : Way) (es : List Entry) (b : Body) (more : List Body) → body_of d name ≡ Some b → Fits d.class.variables sig b → AreBodies es more → AreBodies (entries.Introduced name sig way ∷ es) (b ∷ more)
    accessor_more name sig way es (bodies.User block) more e fits r = absurd (let x = accessed d name (bodies.User block) e in no_block d.class.variables x.accessor x.accessor.sets block refl (sym x.is))
    accessor_more name sig way es (bodies.Get n) more e fits r = one_more name sig way es (bodies.Get n) more fits refl r
    accessor_more name sig way es (bodies.Set n) more e fits r = one_more name sig way es (bodies.Set n) more fits refl r

    no_entries : (made : List Body) → entry_bodies a bs d c [] ≡ Ok made → AreBodies [] made
    no_entries made h = subst (AreBodies []) (same_answer h) (record { long = refl; fit = λ n sig b p q. nothing_there n sig p; typed = refl })

    moved_more : (name : List ℕ) (to : ClassKey) (es : List Entry) (made : List Body) → AreBodies es made → AreBodies (entries.Moved name to ∷ es) made
    moved_more name to es made r = record { long = r.long; fit = r.fit; typed = r.typed }

    text_more : (name : List ℕ) (sig : Sig) (way : Way) (es : List Entry) (b : Body) (more : List Body) → Mem (entries.Introduced name sig way) d.class.face.entries → body_of d name ≡ None
        → entry_body a bs c name sig None ≡ Ok b → AreBodies es more → AreBodies (entries.Introduced name sig way ∷ es) (b ∷ more)
    text_more name sig way es b more mine none k r =
        let t = went (text_block a c name sig (texts_for bs d.class.face.name name)) (λ block. Ok (bodies.User block)) b k in
        let typed = unbroken name sig t.value (text_block_typed name sig (operation_signed m base is holds i there name sig way mine none) t.value t.first) in
        subst (λ (z : Body). AreBodies (entries.Introduced name sig way ∷ es) (z ∷ more)) (same_answer t.further)
        (one_more name sig way es (bodies.User t.value) more (a_block t.value) (ap (λ z. z ++ bodies_typed all c2 es more) typed) r)

    entry_more : (name : List ℕ) (sig : Sig) (way : Way) (es : List Entry) (b : Body) (more : List Body) → Mem (entries.Introduced name sig way) d.class.face.entries → (o : Option Body) → body_of d name ≡ o
        → entry_body a bs c name sig o ≡ Ok b → AreBodies es more → AreBodies (entries.Introduced name sig way ∷ es) (b ∷ more)
    entry_more name sig way es b more mine None e k r = text_more name sig way es b more mine e k r
    entry_more name sig way es b more mine (Some x) e k r =
        let is_body : body_of d name ≡ Some b = e ∙ ap Some (same_answer k) in
        accessor_more name sig way es b more is_body (body_fits m base is rules i there name sig way b mine is_body) r

    entries_stand : (es : List Entry) (made : List Body) → ((name : List ℕ) (sig : Sig) (way : Way) → Mem (entries.Introduced name sig way) es → Mem (entries.Introduced name sig way) d.class.face.entries)
        → entry_bodies a bs d c es ≡ Ok made → AreBodies es made
    entries_stand [] made part h = no_entries made h
    entries_stand (entries.Moved name to ∷ es) made part h = moved_more name to es made (entries_stand es made (λ n s w k. part n s w (inr k)) h)
    entries_stand (entries.Introduced name sig way ∷ es) made part h =
        let x = went (entry_body a bs c name sig (body_of d name)) (λ body. entry_bodies a bs d c es >>= λ more. Ok (body ∷ more)) made h in
        let y = went (entry_bodies a bs d c es) (λ more. Ok (x.value ∷ more)) made x.further in
        subst (λ (z : List Body). AreBodies (entries.Introduced name sig way ∷ es) z) (same_answer y.further)
        (entry_more name sig way es x.value y.value (part name sig way (inl refl)) (body_of d name) refl x.first (entries_stand es y.value (λ n s w k. part n s w (inr k)) y.first))

    overrides_stand : (os others : List Override) → ((o : Override) → Mem o os → Mem o d.class.overrides) → override_blocks a bs c os ≡ Ok others → flat_map (override_typed all c2) others ≡ []
    overrides_stand [] others part h = subst (λ z. flat_map (override_typed all c2) z ≡ []) (same_answer h) refl
    overrides_stand (o ∷ os) others part h =
        let x = went (override_block a bs c o (sig_of a.classes (owner a.classes o.method))) (λ p. override_blocks a bs c os >>= λ more. Ok (p ∷ more)) others h in
        let y = went (override_blocks a bs c os) (λ more. Ok (x.value ∷ more)) others x.further in
        subst (λ z. flat_map (override_typed all c2) z ≡ []) (same_answer y.further)
        (ap (λ z. z ++ flat_map (override_typed all c2) y.value) (by x.value (sig_of a.classes (owner a.classes o.method)) refl x.first)
        ∙ overrides_stand os y.value (λ p k. part p (inr k)) y.first)
      where
        by : (p : Override) (s : Option Sig) → sig_of a.classes (owner a.classes o.method) ≡ s → override_block a bs c o s ≡ Ok p → override_typed all c2 p ≡ []
        by p None e k =
            subst (λ z. override_typed all c2 z ≡ []) (same_answer k) (ap (breach_by all c2 o) (signed o.method ∙ e))
        by p (Some sig) e k =
            let t = went (text_block a c o.method.name sig (texts_for bs d.class.face.name o.method.name)) (λ block. Ok (record { method = o.method; block = block })) p k in
            let q : Override = record { method = o.method; block = t.value } in
            subst (λ z. override_typed all c2 z ≡ []) (same_answer t.further)
            (ap (breach_by all c2 q) (signed o.method ∙ e)
            ∙ unbroken o.method.name sig t.value (text_block_typed o.method.name sig (override_signed m base is holds i there o (part o (inl refl)) sig e) t.value t.first))

-- the overrides keep their methods
pub methods_kept : (a : Among) (bs : List BodyText) (c : Class) (os others : List Override) → override_blocks a bs c os ≡ Ok others → map emptied os ≡ map emptied others
methods_kept a bs c [] others h = ap (map emptied) (same_answer h)
methods_kept a bs c (o ∷ os) others h =
    let x = went (override_block a bs c o (sig_of a.classes (owner a.classes o.method))) (λ p. override_blocks a bs c os >>= λ more. Ok (p ∷ more)) others h in
    let y = went (override_blocks a bs c os) (λ more. Ok (x.value ∷ more)) others x.further in
    ap (λ z. z ∷ map emptied os) (one x.value (sig_of a.classes (owner a.classes o.method)) x.first)
    ∙ ap (λ z. emptied x.value ∷ z) (methods_kept a bs c os y.value y.first)
    ∙ ap (map emptied) (same_answer y.further)
  where
    one : (p : Override) (s : Option Sig) → override_block a bs c o s ≡ Ok p → emptied o ≡ emptied p
    one p None k = ap emptied (same_answer k)
    one p (Some sig) k =
        let t = went (text_block a c o.method.name sig (texts_for bs c.decl.face.name o.method.name)) (λ block. Ok (record { method = o.method; block = block })) p k in
        ap emptied (same_answer t.further)

pub same_but_bodies : (m : Module) (d : ClassDecl) (made : List Body) (others : List Override) (selects : List Select) → map emptied d.overrides ≡ map emptied others → plain (class_in m d) ≡ plain (class_in m (with_blocks d made others selects))
same_but_bodies m d made others selects e = ap (λ (os : List Override). record { key = (class_in m d).key; decl = record { face = d.face; variables = d.variables; bodies = []; overrides = os; selects = [] } }) e

-- a class with its bodies and blocks
pub record ClassStands (all : List Class) (m : Module) (c : ClassDecl) : Type 0 where
  pub long : length c.bodies ≡ length (introduced c.face.entries)
  pub fit : (n : ℕ) (sig : Sig) (b : Body) → slice_get (signatures c.face.entries) n ≡ Some sig → slice_get c.bodies n ≡ Some b → Fits c.variables sig b
  pub typed : class_typed all (class_in m c) ≡ []

module _ (m : Module) (base : Interface) (is : List IdlInterface) (bs : List BodyText)
    (holds : ClassesHold (after_base m (interface_classes base) (declarations m base is)))
    (rules : texts_breach m base is ≡ None)
    (s13 : first (flat_map (text_s13 (classes_over m base is) (drafts_over m base is)) bs) ≡ None)
    (all : List Class)
    (facts : class_facts all ≡ class_facts (classes_over m base is))
    (signed : (r : MethodRef) → sig_of all (owner all r) ≡ sig_of (classes_over m base is) (owner (classes_over m base is) r)) where
  pub class_stands : (i : IdlInterface) → Mem i is → (c2 : ClassDecl) → elaborated_class (among_over m base is) m bs (own m base is i) ≡ Ok c2 → ClassStands all m c2
  class_stands i there c2 h =
      let a = among_over m base is in
      let d = own m base is i in
      let c = class_in m d.class in
      let x = went (entry_bodies a bs d c d.class.face.entries) (λ made. override_blocks a bs c d.class.overrides >>= λ others. Ok (with_blocks d.class made others (selects_at a.classes c.key d))) c2 h in
      let y = went (override_blocks a bs c d.class.overrides) (λ others. Ok (with_blocks d.class x.value others (selects_at a.classes c.key d))) c2 x.further in
      let same = same_but_bodies m d.class x.value y.value (selects_at a.classes c.key d) (methods_kept a bs c d.class.overrides y.value y.first) in
      let c3 = class_in m (with_blocks d.class x.value y.value (selects_at a.classes c.key d)) in
      let own_bodies = entries_stand m base is bs holds rules s13 all facts signed i there c3 same d.class.face.entries x.value (λ name sig way k. k) x.first in
      let blocks = overrides_stand m base is bs holds rules s13 all facts signed i there c3 same d.class.overrides y.value (λ o k. k) y.first in
      subst (ClassStands all m) (same_answer y.further) (record {
        long = own_bodies.long;
        fit = own_bodies.fit;
        typed = ap (λ z. z ++ flat_map (override_typed all c3) y.value) own_bodies.typed ∙ blocks;
      })
