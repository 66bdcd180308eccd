-- There is a release or a program for which texts stand exactly where they conform.
use Rattle.std.proofs.Common.{◌≡◌, ℕ, inl, inr, List, [], ◌∷◌, length, codes, Option, Some, None, Result, Ok, refl, sym, ap, ◌∙◌, subst, arith}
use Rattle.std.specs.Prelude.{◌↔◌}
use Rattle.som_model.specs.declared.class.Body.{Body}
use Rattle.som_model.specs.declared.class.Body.TheVariants as bodies
use Rattle.som_model.specs.declared.class.ClassDecl.{ClassDecl}
use Rattle.som_model.specs.declared.class.Entry.{Entry}
use Rattle.som_model.specs.declared.class.Entry.TheVariants as entries
use Rattle.som_model.specs.declared.class.Override.{Override}
use Rattle.som_model.specs.declared.class.Sig.{Sig}
use Rattle.som_model.specs.declared.class.Way.{Way}
use Rattle.som_model.specs.declared.key.Module.{Module}
use Rattle.som_model.specs.declared.key.Module.TheVariants as modules
use Rattle.som_model.specs.declared.program.ClientProgram.{ClientProgram}
use Rattle.som_model.specs.declared.program.Interface.{Interface}
use Rattle.som_model.specs.declared.program.Release.{Release}
use Rattle.som_model.specs.declared.syntax.Block.{Block}
use Rattle.som_model.specs.Class.{Class, class_in}
use Rattle.som_model.specs.Classes.{interface_classes}
use Rattle.som_model.specs.Lists.{Mem}
use Rattle.som_model.specs.Owner.{owner, sig_of}
use Rattle.som_model.specs.Rules.{RuleBreach}
use Rattle.som_model.specs.Steps.{◌>>=◌}
use Rattle.som_model.specs.Typing.{in_main}
use Rattle.som_model.proofs.StepLaws.{went}
use Rattle.som_model_laws.proofs.Laws.{among_mem}
use Rattle.som_ast.specs.declared.interface.IdlInterface.{IdlInterface}
use Rattle.som_ast.specs.declared.body.BlockText.{BlockText}
use Rattle.som_ast.specs.declared.body.BodyText.{BodyText}
use Rattle.som_verify_classes.specs.Faces.{faces_breach}
use Rattle.som_verify_classes.proofs.PlainLists.{map_mem}
use Rattle.som_sema.specs.Building.{most_classes, texts_breach}
use Rattle.som_sema_drafts.specs.Drafts.{InterfaceDraft}
use Rattle.som_sema_decls.specs.Finished.{selects_at}
use Rattle.som_elab_body.specs.Expressions.{Among}
use Rattle.som_elab_body.specs.MethodBody.{elaborated_body}
use Rattle.som_elab_body.specs.Statements.{Told, elaborated_block}
use Rattle.som_elab_methods.specs.Accessors.{body_of}
use Rattle.som_elab_methods.specs.Bodies.{bodies_breach, operations, texts_for}
use Rattle.som_elab.specs.Elaboration.{classes_over, drafts_over, among_over, classes_passed, elaborated_classes, elaborated_program, elaborated_release, nothing_before}
use Rattle.som_elab.specs.Blocks.{Refusal, elaborated_class, elaborated_each, elaborated_main, entry_bodies, entry_body, keeping, obeying, override_block, override_blocks, refused_at, text_block, with_blocks}
use Rattle.som_elab_methods.specs.Limits.{Passed, limit_passed}
use Rattle.som_elab.proofs.Apart.{kept, obeyed}
use Rattle.som_elab.proofs.BodiesOfClasses.{refused_ok}
use Rattle.som_elab.proofs.Conforms.{declarations_hold}
use Rattle.som_elab.proofs.Declared.{drafts_are, operation_there, own}
use Rattle.som_elab_methods.proofs.LimitLaws.{is_at_most, limits_law, says_at_most}
use Rattle.som_elab_laws.specs.Conforming.{BodiesStand, ClientConforms, LibraryConforms, ModuleConforms, by_operation, by_override}
use Rattle.som_elab_laws.proofs.KeepingLaws.{keeping_law}
use Rattle.som_elab_laws.proofs.OneBody.{counted_mem, mem_counted, one_counted}
use Rattle.som_elab_laws.proofs.StandingLaws.{bodies_law}

-- ---- steps that go well

kept_so : {A : Type 0} (o : Option Passed) (further : Result A Refusal) (r : A) → o ≡ None → further ≡ Ok r → keeping o further ≡ Ok r
kept_so o further r e f = ap (λ z. keeping z further) e ∙ f

obeyed_so : {A : Type 0} (o : Option RuleBreach) (further : Result A Refusal) (r : A) → o ≡ None → further ≡ Ok r → obeying o further ≡ Ok r
obeyed_so o further r e f = ap (λ z. obeying z further) e ∙ f

goes_on : {A B : Type 0} (x : Result A Refusal) (f : A → Result B Refusal) (a : A) → x ≡ Ok a → (x >>= f) ≡ f a
goes_on x f a e = ap (λ z. z >>= f) e

said_at : {A : Type 0} (class member : List ℕ) (x : Told A) (r : A) → x ≡ Ok r → refused_at class member x ≡ Ok r
said_at class member x r e = ap (refused_at class member) e

-- what a list of one has is that one
the_one : (b x : BodyText) (rest : List BodyText) → length (x ∷ rest) ≡ 1 → Mem b (x ∷ rest) → b ≡ x
the_one b x [] e (inl is) = is
the_one b x [] e (inr m) = absurd m
the_one b x (y ∷ rest) e m = absurd (omega (arith, e))

-- ---- the block of one text

module _ (a : Among) (bs : List BodyText) (c : Class) (name : List ℕ) (sig : Sig) where
  block_there : (ts : List BodyText) → length ts ≡ 1 → ((b : BodyText) → Mem b ts → (block : Block) × (elaborated_body a c sig b ≡ Ok block)) → (block : Block) × (text_block a c name sig ts ≡ Ok block)
  block_there [] one each = absurd (omega (arith, one))
  block_there (b ∷ rest) one each = let r = each b (inl refl) in (r.0, said_at c.decl.face.name name (elaborated_body a c sig b) r.0 r.1)

  text_there : (ts : List BodyText) → length ts ≡ 1 → (block : Block) → text_block a c name sig ts ≡ Ok block → (b : BodyText) → Mem b ts → (block : Block) × (elaborated_body a c sig b ≡ Ok block)
  text_there [] one block h b m = absurd m
  text_there (x ∷ rest) one block h b m =
      (block, ap (elaborated_body a c sig) (the_one b x rest one m) ∙ refused_ok c.decl.face.name name (elaborated_body a c sig x) block h)

-- ---- one class

module _ (a : Among) (m : Module) (bs : List BodyText) (d : InterfaceDraft) where
  abbrev c : Class
  c = class_in m d.class

  -- what is asked of the bodies of this class
  abbrev IntroducedStand : List Entry → Type 0
  IntroducedStand es = (name : List ℕ) (sig : Sig) (way : Way) (b : BodyText) → Mem (entries.Introduced name sig way) es → body_of d name ≡ None → Mem b (texts_for bs d.class.face.name name)
      → (block : Block) × (elaborated_body a c sig b ≡ Ok block)

  abbrev OverriddenStand : List Override → Type 0
  OverriddenStand os = (o : Override) (sig : Sig) (b : BodyText) → Mem o os → sig_of a.classes (owner a.classes o.method) ≡ Some sig → Mem b (texts_for bs d.class.face.name o.method.name)
      → (block : Block) × (elaborated_body a c sig b ≡ Ok block)

  abbrev IntroducedOnce : List Entry → Type 0
  IntroducedOnce es = (name : List ℕ) (sig : Sig) (way : Way) → Mem (entries.Introduced name sig way) es → body_of d name ≡ None → length (texts_for bs d.class.face.name name) ≡ 1

  abbrev OverriddenOnce : List Override → Type 0
  OverriddenOnce os = (o : Override) → Mem o os → length (texts_for bs d.class.face.name o.method.name) ≡ 1

  entry_made : (name : List ℕ) (sig : Sig) (o : Option Body) → (o ≡ None → length (texts_for bs d.class.face.name name) ≡ 1)
      → (o ≡ None → (b : BodyText) → Mem b (texts_for bs d.class.face.name name) → (block : Block) × (elaborated_body a c sig b ≡ Ok block)) → (body : Body) × (entry_body a bs c name sig o ≡ Ok body)
  entry_made name sig (Some body) once each = (body, refl)
  entry_made name sig None once each =
      let r = block_there a bs c name sig (texts_for bs d.class.face.name name) (once refl) (each refl) in
      (bodies.User r.0, goes_on (text_block a c name sig (texts_for bs d.class.face.name name)) (λ block. Ok (bodies.User block)) r.0 r.1)

  entries_made : (es : List Entry) → IntroducedOnce es → IntroducedStand es → (made : List Body) × (entry_bodies a bs d c es ≡ Ok made)
  entries_made [] once each = ([], refl)
  entries_made (entries.Moved name to ∷ es) once each = entries_made es (λ n s w k e. once n s w (inr k) e) (λ n s w b k e x. each n s w b (inr k) e x)
  entries_made (entries.Introduced name sig way ∷ es) once each =
      let x = entry_made name sig (body_of d name) (λ e. once name sig way (inl refl) e) (λ e b n. each name sig way b (inl refl) e n) in
      let y = entries_made es (λ n s w k e. once n s w (inr k) e) (λ n s w b k e x. each n s w b (inr k) e x) in (
        x.0 ∷ y.0,
        goes_on (entry_body a bs c name sig (body_of d name)) (λ body. entry_bodies a bs d c es >>= λ more. Ok (body ∷ more)) x.0 x.1
            ∙ goes_on (entry_bodies a bs d c es) (λ more. Ok (x.0 ∷ more)) y.0 y.1,
      )

  override_made : (o : Override) (s : Option Sig) → length (texts_for bs d.class.face.name o.method.name) ≡ 1
      → ((sig : Sig) → s ≡ Some sig → (b : BodyText) → Mem b (texts_for bs d.class.face.name o.method.name) → (block : Block) × (elaborated_body a c sig b ≡ Ok block)) → (p : Override) × (override_block a bs c o s ≡ Ok p)
  override_made o None once each = (o, refl)
  override_made o (Some sig) once each =
      let r = block_there a bs c o.method.name sig (texts_for bs d.class.face.name o.method.name) once (each sig refl) in
      (record { method = o.method; block = r.0 }, goes_on (text_block a c o.method.name sig (texts_for bs d.class.face.name o.method.name)) (λ block. Ok (record { method = o.method; block = block })) r.0 r.1)

  overrides_made : (os : List Override) → OverriddenOnce os → OverriddenStand os → (made : List Override) × (override_blocks a bs c os ≡ Ok made)
  overrides_made [] once each = ([], refl)
  overrides_made (o ∷ os) once each =
      let x = override_made o (sig_of a.classes (owner a.classes o.method)) (once o (inl refl)) (λ sig e b n. each o sig b (inl refl) e n) in
      let y = overrides_made os (λ p k. once p (inr k)) (λ p s b k e n. each p s b (inr k) e n) in (
        x.0 ∷ y.0,
        goes_on (override_block a bs c o (sig_of a.classes (owner a.classes o.method))) (λ p. override_blocks a bs c os >>= λ more. Ok (p ∷ more)) x.0 x.1
            ∙ goes_on (override_blocks a bs c os) (λ more. Ok (x.0 ∷ more)) y.0 y.1,
      )

  class_made : IntroducedOnce d.class.face.entries → OverriddenOnce d.class.overrides → IntroducedStand d.class.face.entries → OverriddenStand d.class.overrides → (c2 : ClassDecl) × (elaborated_class a m bs d ≡ Ok c2)
  class_made once_own once_others own_stand others_stand =
      let x = entries_made d.class.face.entries once_own own_stand in
      let y = overrides_made d.class.overrides once_others others_stand in (
        with_blocks d.class x.0 y.0 (selects_at a.classes c.key d),
        goes_on (entry_bodies a bs d c d.class.face.entries) (λ all. override_blocks a bs c d.class.overrides >>= λ others. Ok (with_blocks d.class all others (selects_at a.classes c.key d))) x.0 x.1
            ∙ goes_on (override_blocks a bs c d.class.overrides) (λ others. Ok (with_blocks d.class x.0 others (selects_at a.classes c.key d))) y.0 y.1,
      )

  -- ---- and back

  entry_stood : (name : List ℕ) (sig : Sig) (body : Body) → body_of d name ≡ None → entry_body a bs c name sig (body_of d name) ≡ Ok body → length (texts_for bs d.class.face.name name) ≡ 1
      → (b : BodyText) → Mem b (texts_for bs d.class.face.name name) → (block : Block) × (elaborated_body a c sig b ≡ Ok block)
  entry_stood name sig body none h one b n =
      let k : entry_body a bs c name sig None ≡ Ok body = ap (entry_body a bs c name sig) (sym none) ∙ h in
      let t = went (text_block a c name sig (texts_for bs d.class.face.name name)) (λ block. Ok (bodies.User block)) body k in
      text_there a bs c name sig (texts_for bs d.class.face.name name) one t.value t.first b n

  entries_stood : (es : List Entry) (made : List Body) → IntroducedOnce es → entry_bodies a bs d c es ≡ Ok made → IntroducedStand es
  entries_stood [] made once h n s w b k e x = absurd k
  entries_stood (entries.Moved name to ∷ es) made once h n s w b (inl e) f x = absurd (let z = e in cc)
  entries_stood (entries.Moved name to ∷ es) made once h n s w b (inr k) e x = entries_stood es made (λ n s w k e. once n s w (inr k) e) h n s w b k e x
  entries_stood (entries.Introduced name sig way ∷ es) made once h n s w b (inl is) e x =
      let p = went (entry_body a bs c name sig (body_of d name)) (λ body. entry_bodies a bs d c es >>= λ more. Ok (body ∷ more)) made h in
      let named : n ≡ name = let z = is in cc in
      let signed : s ≡ sig = let z = is in cc in
      let r = entry_stood name sig p.value (ap (body_of d) (sym named) ∙ e) p.first (once name sig way (inl refl) (ap (body_of d) (sym named) ∙ e)) b (subst (λ z. Mem b (texts_for bs d.class.face.name z)) named x) in
      (r.0, ap (λ z. elaborated_body a c z b) signed ∙ r.1)
  entries_stood (entries.Introduced name sig way ∷ es) made once h n s w b (inr k) e x =
      let p = went (entry_body a bs c name sig (body_of d name)) (λ body. entry_bodies a bs d c es >>= λ more. Ok (body ∷ more)) made h in
      let q = went (entry_bodies a bs d c es) (λ more. Ok (p.value ∷ more)) made p.further in
      entries_stood es q.value (λ n s w k e. once n s w (inr k) e) q.first n s w b k e x

  overrides_stood : (os made : List Override) → OverriddenOnce os → override_blocks a bs c os ≡ Ok made → OverriddenStand os
  overrides_stood [] made once h o sig b k e x = absurd k
  overrides_stood (p ∷ os) made once h o sig b (inl is) e x =
      let q = went (override_block a bs c p (sig_of a.classes (owner a.classes p.method))) (λ q. override_blocks a bs c os >>= λ more. Ok (q ∷ more)) made h in
      let signed : sig_of a.classes (owner a.classes p.method) ≡ Some sig = ap (λ (z : Override). sig_of a.classes (owner a.classes z.method)) (sym is) ∙ e in
      let k : override_block a bs c p (Some sig) ≡ Ok q.value = ap (override_block a bs c p) (sym signed) ∙ q.first in
      let t = went (text_block a c p.method.name sig (texts_for bs d.class.face.name p.method.name)) (λ block. Ok (record { method = p.method; block = block })) q.value k in
      text_there a bs c p.method.name sig (texts_for bs d.class.face.name p.method.name) (once p (inl refl)) t.value t.first b
      (subst (λ (z : Override). Mem b (texts_for bs d.class.face.name z.method.name)) is x)
  overrides_stood (p ∷ os) made once h o sig b (inr k) e x =
      let q = went (override_block a bs c p (sig_of a.classes (owner a.classes p.method))) (λ q. override_blocks a bs c os >>= λ more. Ok (q ∷ more)) made h in
      let r = went (override_blocks a bs c os) (λ more. Ok (q.value ∷ more)) made q.further in
      overrides_stood os r.value (λ p k. once p (inr k)) r.first o sig b k e x

-- ---- the classes of a module

module _ (a : Among) (m : Module) (bs : List BodyText) where
  each_made : (ds : List InterfaceDraft) → ((d : InterfaceDraft) → Mem d ds → (c : ClassDecl) × (elaborated_class a m bs d ≡ Ok c)) → (cs : List ClassDecl) × (elaborated_each a m bs ds ≡ Ok cs)
  each_made [] each = ([], refl)
  each_made (d ∷ ds) each =
      let x = each d (inl refl) in
      let y = each_made ds (λ e n. each e (inr n)) in (
        x.0 ∷ y.0,
        goes_on (elaborated_class a m bs d) (λ c. elaborated_each a m bs ds >>= λ cs. Ok (c ∷ cs)) x.0 x.1 ∙ goes_on (elaborated_each a m bs ds) (λ cs. Ok (x.0 ∷ cs)) y.0 y.1,
      )

  each_went : (ds : List InterfaceDraft) (cs : List ClassDecl) → elaborated_each a m bs ds ≡ Ok cs → (d : InterfaceDraft) → Mem d ds → (c : ClassDecl) × (elaborated_class a m bs d ≡ Ok c)
  each_went [] cs h d n = absurd n
  each_went (e ∷ ds) cs h d (inl is) =
      let x = went (elaborated_class a m bs e) (λ c. elaborated_each a m bs ds >>= λ cs. Ok (c ∷ cs)) cs h in
      (x.value, ap (elaborated_class a m bs) is ∙ x.first)
  each_went (e ∷ ds) cs h d (inr n) =
      let x = went (elaborated_class a m bs e) (λ c. elaborated_each a m bs ds >>= λ cs. Ok (c ∷ cs)) cs h in
      let y = went (elaborated_each a m bs ds) (λ cs. Ok (x.value ∷ cs)) cs x.further in
      each_went ds y.value y.first d n

module _ (m : Module) (base : Interface) (is : List IdlInterface) (bs : List BodyText) (conforms : faces_breach (interface_classes base) ≡ None) where
  abbrev a : Among
  a = among_over m base is

  abbrev ds : List InterfaceDraft
  ds = drafts_over m base is

  -- a method that an interface introduces and that is no accessor is one of its operations
  introduced_once : BodiesStand (classes_over m base is) ds bs → (d : InterfaceDraft) → Mem d ds → IntroducedOnce a m bs d d.class.face.entries
  introduced_once r d n name sig way k none =
      let x = map_mem (own m base is) d is (subst (λ z. Mem d z) (drafts_are m base is) n) in
      let there = operation_there m base is x.0 name sig way (subst (λ (z : InterfaceDraft). Mem (entries.Introduced name sig way) z.class.face.entries) x.2 k) (subst (λ (z : InterfaceDraft). body_of z name ≡ None) x.2 none) in
      one_counted d name bs (r.once d name (Some sig) n (by_operation way (subst (λ (z : InterfaceDraft). Mem name (operations z.text)) (sym x.2) ((among_mem name (operations x.0)).0 there)) k))

  overridden_once : BodiesStand (classes_over m base is) ds bs → (d : InterfaceDraft) → Mem d ds → OverriddenOnce a m bs d d.class.overrides
  overridden_once r d n o k = one_counted d o.method.name bs (r.once d o.method.name (sig_of (classes_over m base is) (owner (classes_over m base is) o.method)) n (by_override o k refl refl))

  pub module_stands : ModuleConforms m base is bs → (cs : List ClassDecl) × (elaborated_classes m base is bs ≡ Ok cs)
  module_stands r =
      let rules : texts_breach m base is ≡ None = (keeping_law m base is conforms).1 r.rules in
      let holds = declarations_hold m base is conforms rules in
      let x = each_made a m bs ds (λ d n. class_made a m bs d (introduced_once r.bodies d n) (overridden_once r.bodies d n)
      (λ name sig way b k e t. let q = counted_mem d name bs b t in r.blocks.introduced d name sig way b n k e q.0 q.1) (λ o sig b k e t. let q = counted_mem d o.method.name bs b t in r.blocks.overridden d o sig b n k e q.0 q.1)) in
      let made = elaborated_each a m bs ds in
      let bodies = bodies_breach (classes_over m base is) ds bs in
      let limited = keeping (limit_passed (drafts_over m base is)) made in (
        x.0,
        kept_so (classes_passed m is) (obeying (texts_breach m base is) (obeying bodies limited)) x.0 (says_at_most (codes "classes") (most_classes m) (length is) r.few_classes)
            (obeyed_so (texts_breach m base is) (obeying bodies limited) x.0 rules
            (obeyed_so bodies limited x.0 ((bodies_law m base is bs holds.classes).1 r.bodies)
            (kept_so (limit_passed (drafts_over m base is)) made x.0 ((limits_law (drafts_over m base is)).1 r.limits) x.1))),
      )

  pub module_conforms : (cs : List ClassDecl) → elaborated_classes m base is bs ≡ Ok cs → ModuleConforms m base is bs
  module_conforms cs h =
      let made = elaborated_each a m bs ds in
      let bodies = bodies_breach (classes_over m base is) ds bs in
      let limited = keeping (limit_passed (drafts_over m base is)) made in
      let p = kept (classes_passed m is) (obeying (texts_breach m base is) (obeying bodies limited)) cs h in
      let q = obeyed (texts_breach m base is) (obeying bodies limited) cs p.1 in
      let r = obeyed bodies limited cs q.1 in
      let s = kept (limit_passed (drafts_over m base is)) made cs r.1 in
      let holds = declarations_hold m base is conforms q.0 in
      let stand : BodiesStand (classes_over m base is) ds bs = (bodies_law m base is bs holds.classes).0 r.0 in
      record {
        few_classes = is_at_most (codes "classes") (most_classes m) (length is) p.0;
        rules = (keeping_law m base is conforms).0 q.0;
        bodies = stand;
        limits = (limits_law (drafts_over m base is)).0 s.0;
        blocks = record {
          introduced = λ d name sig way b n k e t is_of.
              (let c = each_went a m bs ds cs s.1 d n in
              let x = went (entry_bodies a bs d (class_in m d.class) d.class.face.entries) (λ all. override_blocks a bs (class_in m d.class) d.class.overrides >>= λ others. Ok (with_blocks d.class all others (selects_at a.classes (class_in m d.class).key d))) c.0 c.1 in
              entries_stood a m bs d d.class.face.entries x.value (introduced_once stand d n) x.first name sig way b k e (mem_counted d name bs b t is_of));
          overridden = λ d o sig b n k e t is_of.
              (let c = each_went a m bs ds cs s.1 d n in
              let x = went (entry_bodies a bs d (class_in m d.class) d.class.face.entries) (λ all. override_blocks a bs (class_in m d.class) d.class.overrides >>= λ others. Ok (with_blocks d.class all others (selects_at a.classes (class_in m d.class).key d))) c.0 c.1 in
              let y = went (override_blocks a bs (class_in m d.class) d.class.overrides) (λ others. Ok (with_blocks d.class x.value others (selects_at a.classes (class_in m d.class).key d))) c.0 x.further in
              overrides_stood a m bs d d.class.overrides y.value (overridden_once stand d n) y.first o sig b k e (mem_counted d o.method.name bs b t is_of));
        };
      }

-- ---- releases and client programs

pub library_stands : (is : List IdlInterface) (bs : List BodyText) → LibraryConforms is bs ↔ ((r : Release) × (elaborated_release is bs ≡ Ok r))
unfolding elaborated_release
library_stands is bs = (
  (λ k. (let x = module_stands modules.Library nothing_before is bs refl k in
      (record { classes = x.0 }, goes_on (elaborated_classes modules.Library nothing_before is bs) (λ cs. Ok (record { classes = cs })) x.0 x.1))),
  (λ r. (let x = went (elaborated_classes modules.Library nothing_before is bs) (λ cs. Ok (record { classes = cs })) r.0 r.1 in
      module_conforms modules.Library nothing_before is bs refl x.value x.first)),
)

pub client_stands : (base : Interface) (is : List IdlInterface) (bs : List BodyText) (main : BlockText) → faces_breach (interface_classes base) ≡ None
    → ClientConforms base is bs main ↔ ((p : ClientProgram) × (elaborated_program base is bs main ≡ Ok p))
unfolding elaborated_program
client_stands base is bs main conforms =
    let block_at = λ (cs : List ClassDecl) (block : Block). (let p : ClientProgram = record { base = base; classes = cs; main = block } in p) in
    let main_at : Result Block Refusal = elaborated_main (among_over modules.Client base is) main in (
      (λ k. (let x = module_stands modules.Client base is bs conforms k.classes in
          let y = said_at (codes "main") (codes "-") (elaborated_block (among_over modules.Client base is) in_main main []) k.main_stands.0 k.main_stands.1 in (
            block_at x.0 k.main_stands.0,
            goes_on (elaborated_classes modules.Client base is bs) (λ cs. main_at >>= λ block. Ok (block_at cs block)) x.0 x.1
                ∙ goes_on main_at (λ block. Ok (block_at x.0 block)) k.main_stands.0 y,
          ))),
      (λ r. (let x = went (elaborated_classes modules.Client base is bs) (λ cs. main_at >>= λ block. Ok (block_at cs block)) r.0 r.1 in
          let y = went main_at (λ block. Ok (block_at x.value block)) r.0 x.further in
          record {
            classes = module_conforms modules.Client base is bs conforms x.value x.first;
            main_stands = (y.value, refused_ok (codes "main") (codes "-") (elaborated_block (among_over modules.Client base is) in_main main []) y.value y.first);
          })),
    )
