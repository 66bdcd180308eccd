-- What texts that stand for a release or a program have come through, step by step.
use Rattle.std.proofs.Common.{◌≡◌, ℕ, ◌≤◌, Bool, true, false, if◌then◌else◌, nat_le, List, [], ◌∷◌, length, codes, is_some, Option, Some, None, Result, Ok, Err, refl, sym, subst, leb-true}
use Rattle.std.specs.Str.{bytes_eq}
use Rattle.som_model.specs.declared.key.Module.{Module}
use Rattle.som_model.specs.declared.key.Module.TheVariants as modules
use Rattle.som_model.specs.declared.key.ClassKey.{ClassKey}
use Rattle.som_model.specs.declared.syntax.Block.{Block}
use Rattle.som_model.specs.declared.class.Sig.{Sig}
use Rattle.som_model.specs.declared.class.Way.{Way}
use Rattle.som_model.specs.declared.class.Entry.{Entry}
use Rattle.som_model.specs.declared.class.Entry.TheVariants as entries
use Rattle.som_model.specs.declared.class.Body.{Body}
use Rattle.som_model.specs.declared.class.Body.TheVariants as bodies
use Rattle.som_model.specs.declared.class.Override.{Override}
use Rattle.som_model.specs.declared.class.ClassDecl.{ClassDecl}
use Rattle.som_model.specs.declared.program.Interface.{Interface}
use Rattle.som_model.specs.declared.program.Release.{Release}
use Rattle.som_model.specs.declared.program.ClientProgram.{ClientProgram}
use Rattle.som_model.specs.Lists.{doubles, first}
use Rattle.som_model.specs.Steps.{◌>>=◌}
use Rattle.som_model.specs.Class.{Class, class_in}
use Rattle.som_model.specs.Owner.{owner, sig_of}
use Rattle.som_model.specs.Rules.{RuleBreach}
use Rattle.som_model.specs.Typing.{in_body, in_main}
use Rattle.som_model.proofs.StepLaws.{went, same_ok}
use Rattle.som_ast.specs.declared.interface.IdlInterface.{IdlInterface}
use Rattle.som_ast.specs.declared.body.BodyText.{BodyText}
use Rattle.som_ast.specs.declared.body.BlockText.{BlockText}
use Rattle.som_sema_scope.specs.Words.{words}
use Rattle.som_sema_drafts.specs.Drafts.{InterfaceDraft}
use Rattle.som_sema_decls.specs.Finished.{selects_at}
use Rattle.som_sema.specs.Building.{most_classes, texts_breach}
use Rattle.som_elab_methods.specs.Accessors.{body_of}
use Rattle.som_elab_methods.specs.Limits.{Passed, limit_passed}
use Rattle.som_elab_body.specs.Expressions.{Among}
use Rattle.som_elab_body.specs.Statements.{Breaks, Told, elaborated_block}
use Rattle.som_elab_methods.specs.Bodies.{bodies_breach, texts_for}
use Rattle.som_elab.specs.Elaboration.{classes_over, drafts_over, among_over, classes_passed, elaborated_classes, nothing_before, elaborated_release, elaborated_program}
use Rattle.som_elab_body.specs.MethodBody.{parameters, elaborated_body}
use Rattle.som_elab.specs.Blocks.{Refusal, refused_at, obeying, keeping, text_block, entry_body, entry_bodies, override_block, override_blocks, with_blocks, elaborated_class, elaborated_each, elaborated_main}

-- ---- steps

-- no rule was broken, and it went on
pub obeyed : {A : Type 0} (o : Option RuleBreach) (further : Result A Refusal) (r : A) → obeying o further ≡ Ok r → (o ≡ None) × (further ≡ Ok r)
obeyed None further r e = (refl, e)
obeyed (Some b) further r e = absurd (let z = e in cc)

-- no limit was passed, and it went on
pub kept : {A : Type 0} (o : Option Passed) (further : Result A Refusal) (r : A) → keeping o further ≡ Ok r → (o ≡ None) × (further ≡ Ok r)
kept None further r e = (refl, e)
kept (Some p) further r e = absurd (let z = e in cc)

-- nothing was wrong with a body
pub not_refused : {A : Type 0} (class member : List ℕ) (told : Told A) (r : A) → refused_at class member told ≡ Ok r → told ≡ Ok r
not_refused class member (Ok x) r e = let z = e in cc
not_refused class member (Err b) r e = absurd (let z = e in cc)

none_more : (b : Bool) (p : Passed) → first (if b then [] else p ∷ []) ≡ None → b ≡ true
none_more true p e = refl
none_more false p e = cc

-- no more classes than there may be
pub few_classes : (m : Module) (is : List IdlInterface) → classes_passed m is ≡ None → length is ≤ most_classes m
few_classes m is e = leb-true (length is) (most_classes m) (none_more (nat_le (length is) (most_classes m)) (record { quantity = codes "classes"; number = most_classes m }) e)

-- ---- the block of a method

-- the parameters' names differ, and the statements are the block
pub record BodyApart (a : Among) (c : Class) (sig : Sig) (b : BodyText) (block : Block) : Type 0 where
  pub differ : first (doubles bytes_eq [] (words b.params)) ≡ None
  pub is : elaborated_block a (in_body c sig.result) b.block (parameters b.params sig.params) ≡ Ok block

body_by : (a : Among) (c : Class) (sig : Sig) (b : BodyText) (block : Block) (o : Option (List ℕ)) → first (doubles bytes_eq [] (words b.params)) ≡ o
    → (if is_some o then Err (Breaks 15) else elaborated_block a (in_body c sig.result) b.block (parameters b.params sig.params)) ≡ Ok block → BodyApart a c sig b block
body_by a c sig b block None is e = record { differ = is; is = e }
body_by a c sig b block (Some x) is e = absurd (let z = e in cc)

pub body_apart : (a : Among) (c : Class) (sig : Sig) (b : BodyText) (block : Block) → elaborated_body a c sig b ≡ Ok block → BodyApart a c sig b block
body_apart a c sig b block e = body_by a c sig b block (first (doubles bytes_eq [] (words b.params))) refl e

-- the block that texts have for a method: that of the first, and none without any
pub data TextApart (a : Among) (c : Class) (sig : Sig) : List BodyText → Block → Type 0 where
  no_text : TextApart a c sig [] (record { statements = [] })
  a_text : (b : BodyText) (bs : List BodyText) (block : Block) → BodyApart a c sig b block → TextApart a c sig (b ∷ bs) block

pub text_apart : (a : Among) (c : Class) (name : List ℕ) (sig : Sig) (bs : List BodyText) (block : Block) → text_block a c name sig bs ≡ Ok block → TextApart a c sig bs block
text_apart a c name sig [] block e = subst (TextApart a c sig []) (same_ok {E = Refusal} (record { statements = [] }) block e) no_text
text_apart a c name sig (b ∷ bs) block e = a_text b bs block (body_apart a c sig b block (not_refused c.decl.face.name name (elaborated_body a c sig b) block e))

-- ---- the bodies of a class

-- the body of a method that a class introduces: an accessor's own, or that of the texts
pub data EntryApart (a : Among) (bs : List BodyText) (c : Class) (name : List ℕ) (sig : Sig) : Option Body → Body → Type 0 where
  accessor : (body : Body) → EntryApart a bs c name sig (Some body) body
  of_text : (block : Block) → TextApart a c sig (texts_for bs c.decl.face.name name) block → EntryApart a bs c name sig None (bodies.User block)

pub entry_apart : (a : Among) (bs : List BodyText) (c : Class) (name : List ℕ) (sig : Sig) (o : Option Body) (body : Body) → entry_body a bs c name sig o ≡ Ok body → EntryApart a bs c name sig o body
entry_apart a bs c name sig (Some own) body e = subst (EntryApart a bs c name sig (Some own)) (same_ok {E = Refusal} own body e) (accessor own)
entry_apart a bs c name sig None body e =
    let texts = texts_for bs c.decl.face.name name in
    let w = went (text_block a c name sig texts) (λ (block : Block). Ok (bodies.User block)) body e in
    subst (EntryApart a bs c name sig None) (same_ok {E = Refusal} (bodies.User w.value) body w.further) (of_text w.value (text_apart a c name sig texts w.value w.first))

-- the bodies of entries: one for each that is introduced
pub data EntriesApart (a : Among) (bs : List BodyText) (d : InterfaceDraft) (c : Class) : List Entry → List Body → Type 0 where
  no_entry : EntriesApart a bs d c [] []
  moved : (name : List ℕ) (to : ClassKey) (es : List Entry) (more : List Body) → EntriesApart a bs d c es more → EntriesApart a bs d c (entries.Moved name to ∷ es) more
  introduced : (name : List ℕ) (sig : Sig) (way : Way) (es : List Entry) (body : Body) (more : List Body) → EntryApart a bs c name sig (body_of d name) body → EntriesApart a bs d c es more
      → EntriesApart a bs d c (entries.Introduced name sig way ∷ es) (body ∷ more)

pub entries_apart : (a : Among) (bs : List BodyText) (d : InterfaceDraft) (c : Class) (es : List Entry) (own : List Body) → entry_bodies a bs d c es ≡ Ok own → EntriesApart a bs d c es own
entries_apart a bs d c [] own e = subst (EntriesApart a bs d c []) (same_ok {E = Refusal} [] own e) no_entry
entries_apart a bs d c (entries.Moved name to ∷ es) own e = moved name to es own (entries_apart a bs d c es own e)
entries_apart a bs d c (entries.Introduced name sig way ∷ es) own e =
    let v = went (entry_body a bs c name sig (body_of d name)) (λ (body : Body). entry_bodies a bs d c es >>= λ more. Ok (body ∷ more)) own e in
    let w = went (entry_bodies a bs d c es) (λ (more : List Body). Ok (v.value ∷ more)) own v.further in
    subst (EntriesApart a bs d c (entries.Introduced name sig way ∷ es)) (same_ok {E = Refusal} (v.value ∷ w.value) own w.further)
    (introduced name sig way es v.value w.value (entry_apart a bs c name sig (body_of d name) v.value v.first) (entries_apart a bs d c es w.value w.first))

-- an override with its block, by the signature that it has
pub data OverrideApart (a : Among) (bs : List BodyText) (c : Class) (o : Override) : Option Sig → Override → Type 0 where
  without_sig : OverrideApart a bs c o None o
  with_sig : (sig : Sig) (block : Block) → TextApart a c sig (texts_for bs c.decl.face.name o.method.name) block → OverrideApart a bs c o (Some sig) (record { method = o.method; block = block })

pub override_apart : (a : Among) (bs : List BodyText) (c : Class) (o : Override) (s : Option Sig) (p : Override) → override_block a bs c o s ≡ Ok p → OverrideApart a bs c o s p
override_apart a bs c o None p e = subst (OverrideApart a bs c o None) (same_ok {E = Refusal} o p e) without_sig
override_apart a bs c o (Some sig) p e =
    let texts = texts_for bs c.decl.face.name o.method.name in
    let w = went (text_block a c o.method.name sig texts) (λ (block : Block). Ok (record { method = o.method; block = block })) p e in
    subst (OverrideApart a bs c o (Some sig)) (same_ok {E = Refusal} (record { method = o.method; block = w.value }) p w.further)
    (with_sig sig w.value (text_apart a c o.method.name sig texts w.value w.first))

-- the overrides with their blocks, one for each
pub data OverridesApart (a : Among) (bs : List BodyText) (c : Class) : List Override → List Override → Type 0 where
  no_override : OverridesApart a bs c [] []
  an_override : (o : Override) (os : List Override) (p : Override) (more : List Override) → OverrideApart a bs c o (sig_of a.classes (owner a.classes o.method)) p → OverridesApart a bs c os more
      → OverridesApart a bs c (o ∷ os) (p ∷ more)

pub overrides_apart : (a : Among) (bs : List BodyText) (c : Class) (os others : List Override) → override_blocks a bs c os ≡ Ok others → OverridesApart a bs c os others
overrides_apart a bs c [] others e = subst (OverridesApart a bs c []) (same_ok {E = Refusal} [] others e) no_override
overrides_apart a bs c (o ∷ os) others e =
    let sig = sig_of a.classes (owner a.classes o.method) in
    let v = went (override_block a bs c o sig) (λ (p : Override). override_blocks a bs c os >>= λ more. Ok (p ∷ more)) others e in
    let w = went (override_blocks a bs c os) (λ (more : List Override). Ok (v.value ∷ more)) others v.further in
    subst (OverridesApart a bs c (o ∷ os)) (same_ok {E = Refusal} (v.value ∷ w.value) others w.further)
    (an_override o os v.value w.value (override_apart a bs c o sig v.value v.first) (overrides_apart a bs c os w.value w.first))

-- ---- classes

-- a class is its declaration with the bodies of its entries and its overrides with their blocks
pub record ClassApart (a : Among) (m : Module) (bs : List BodyText) (d : InterfaceDraft) (c : ClassDecl) : Type 0 where
  pub own : List Body
  pub others : List Override
  pub is : c ≡ with_blocks d.class own others (selects_at a.classes (class_in m d.class).key d)
  pub bodies : entry_bodies a bs d (class_in m d.class) d.class.face.entries ≡ Ok own
  pub overrides : override_blocks a bs (class_in m d.class) d.class.overrides ≡ Ok others

pub class_apart : (a : Among) (m : Module) (bs : List BodyText) (d : InterfaceDraft) (c : ClassDecl) → elaborated_class a m bs d ≡ Ok c → ClassApart a m bs d c
class_apart a m bs d c e =
    let v = went (entry_bodies a bs d (class_in m d.class) d.class.face.entries) (λ (own : List Body). override_blocks a bs (class_in m d.class) d.class.overrides >>= λ others. Ok (with_blocks d.class own others (selects_at a.classes (class_in m d.class).key d))) c e in
    let w = went (override_blocks a bs (class_in m d.class) d.class.overrides) (λ (others : List Override). Ok (with_blocks d.class v.value others (selects_at a.classes (class_in m d.class).key d))) c v.further in
    record { own = v.value; others = w.value; is = sym (same_ok {E = Refusal} (with_blocks d.class v.value w.value (selects_at a.classes (class_in m d.class).key d)) c w.further); bodies = v.first; overrides = w.first }

-- the classes, one for each declaration
pub data EachApart (a : Among) (m : Module) (bs : List BodyText) : List InterfaceDraft → List ClassDecl → Type 0 where
  no_class : EachApart a m bs [] []
  a_class : (d : InterfaceDraft) (ds : List InterfaceDraft) (c : ClassDecl) (cs : List ClassDecl) → ClassApart a m bs d c → EachApart a m bs ds cs → EachApart a m bs (d ∷ ds) (c ∷ cs)

pub each_apart : (a : Among) (m : Module) (bs : List BodyText) (ds : List InterfaceDraft) (cs : List ClassDecl) → elaborated_each a m bs ds ≡ Ok cs → EachApart a m bs ds cs
each_apart a m bs [] cs e = subst (EachApart a m bs []) (same_ok {E = Refusal} [] cs e) no_class
each_apart a m bs (d ∷ ds) cs e =
    let v = went (elaborated_class a m bs d) (λ (c : ClassDecl). elaborated_each a m bs ds >>= λ more. Ok (c ∷ more)) cs e in
    let w = went (elaborated_each a m bs ds) (λ (more : List ClassDecl). Ok (v.value ∷ more)) cs v.further in
    subst (EachApart a m bs (d ∷ ds)) (same_ok {E = Refusal} (v.value ∷ w.value) cs w.further)
    (a_class d ds v.value w.value (class_apart a m bs d v.value v.first) (each_apart a m bs ds w.value w.first))

-- the classes of a module: neither a rule is broken nor a limit passed, and each has its bodies
pub record ClassesApart (m : Module) (base : Interface) (is : List IdlInterface) (bs : List BodyText) (cs : List ClassDecl) : Type 0 where
  pub few : length is ≤ most_classes m
  pub faces : texts_breach m base is ≡ None
  pub bodies : bodies_breach (classes_over m base is) (drafts_over m base is) bs ≡ None
  pub limits : limit_passed (drafts_over m base is) ≡ None
  pub each : EachApart (among_over m base is) m bs (drafts_over m base is) cs

pub classes_apart : (m : Module) (base : Interface) (is : List IdlInterface) (bs : List BodyText) (cs : List ClassDecl) → elaborated_classes m base is bs ≡ Ok cs → ClassesApart m base is bs cs
classes_apart m base is bs cs e =
    let each = elaborated_each (among_over m base is) m bs (drafts_over m base is) in
    let limits = keeping (limit_passed (drafts_over m base is)) each in
    let bodies = obeying (bodies_breach (classes_over m base is) (drafts_over m base is) bs) limits in
    let p = kept (classes_passed m is) (obeying (texts_breach m base is) bodies) cs e in
    let q = obeyed (texts_breach m base is) bodies cs p.1 in
    let r = obeyed (bodies_breach (classes_over m base is) (drafts_over m base is) bs) limits cs q.1 in
    let s = kept (limit_passed (drafts_over m base is)) each cs r.1 in
    record { few = few_classes m is p.0; faces = q.0; bodies = r.0; limits = s.0; each = each_apart (among_over m base is) m bs (drafts_over m base is) cs s.1 }

-- ---- whole texts

pub release_apart : (is : List IdlInterface) (bs : List BodyText) (r : Release) → elaborated_release is bs ≡ Ok r → ClassesApart modules.Library nothing_before is bs r.classes
unfolding elaborated_release
release_apart is bs r e =
    let w = went (elaborated_classes modules.Library nothing_before is bs) (λ (cs : List ClassDecl). Ok (record { classes = cs })) r e in
    subst (λ (r : Release). ClassesApart modules.Library nothing_before is bs r.classes) (same_ok {E = Refusal} (record { classes = w.value }) r w.further)
    (classes_apart modules.Library nothing_before is bs w.value w.first)

-- a program: its base, its classes, and its main
pub record ProgramApart (base : Interface) (is : List IdlInterface) (bs : List BodyText) (main : BlockText) (p : ClientProgram) : Type 0 where
  pub over : p.base ≡ base
  pub classes : ClassesApart modules.Client base is bs p.classes
  pub block : elaborated_block (among_over modules.Client base is) in_main main [] ≡ Ok p.main

program_by : (base : Interface) (is : List IdlInterface) (bs : List BodyText) (main : BlockText) (cs : List ClassDecl) (block : Block) → ClassesApart modules.Client base is bs cs
    → elaborated_block (among_over modules.Client base is) in_main main [] ≡ Ok block → ProgramApart base is bs main (record { base = base; classes = cs; main = block })
program_by base is bs main cs block c b = record { over = refl; classes = c; block = b }

pub program_apart : (base : Interface) (is : List IdlInterface) (bs : List BodyText) (main : BlockText) (p : ClientProgram) → elaborated_program base is bs main ≡ Ok p → ProgramApart base is bs main p
unfolding elaborated_program
program_apart base is bs main p e =
    let v = went (elaborated_classes modules.Client base is bs)
    (λ (cs : List ClassDecl). elaborated_main (among_over modules.Client base is) main >>= λ block. Ok (record { base = base; classes = cs; main = block })) p e in
    let w = went (elaborated_main (among_over modules.Client base is) main) (λ (block : Block). Ok (record { base = base; classes = v.value; main = block })) p v.further in
    subst (ProgramApart base is bs main) (same_ok {E = Refusal} (record { base = base; classes = v.value; main = w.value }) p w.further)
    (program_by base is bs main v.value w.value (classes_apart modules.Client base is bs v.value v.first)
    (not_refused (codes "main") (codes "-") (elaborated_block (among_over modules.Client base is) in_main main []) w.value w.first))
